-- Each inked chunk stands at its margin at least, and no line passes the bound.
use Rattle.std.specs.Prelude.{◌+◌, ◌<◌, ◌≡◌, ◌≤◌}
use Rattle.bpaf_doc.proofs.lemmas.Console.Words.{arith, ◌∙◌, ℕ, List, Stretch, Place}
use Rattle.bpaf_doc.proofs.lemmas.Console.Layout.State.{State, Piece, Pads, Begins, Next, raw, Grows, padded, Suits}
use Rattle.bpaf_doc.proofs.lemmas.Console.Layout.Back.{EachPlace, KeepsCut, each_grows, place_of, fits_of, Fills, column_back, column_padded, Agrees, IsStarting, begins_margin, agrees_lines, no_text_column}

-- ---- at least the margin

module _ (margin_of : ℕ → ℕ) where
  abbrev pub AtMargin : List Stretch → Place → Type 0
  AtMargin r f = margin_of f.part ≤ column_back r

  pub at_margin_cut : KeepsCut AtMargin
  at_margin_cut r f i h = h

  pub at_margin_grows : {width : ℕ} {st after : State} {next : Next} → width < 1_000_000 → EachPlace Fills st.back → IsStarting st → Agrees st → Suits margin_of st next
      → Grows width st next after → EachPlace AtMargin st.back → EachPlace AtMargin after.back
  at_margin_grows {width} {st} {after} {next} small f start agrees suits g h = each_grows AtMargin at_margin_cut core g h where
    core : (p : Piece) (base : State) (n : ℕ) → next ≡ raw p → Begins width st p base → Pads base n → AtMargin (padded n base.back) (place_of p)
    core p base n e b d =
        let in_force : base.margin ≡ margin_of p.part = (begins_margin b).0 ∙ (fits_of suits e).margin_is in
        let least : margin_of p.part ≤ n + column_back base.back = grind (arith, no_text_column, agrees_lines) in
        omega (arith, column_padded n base.back)
