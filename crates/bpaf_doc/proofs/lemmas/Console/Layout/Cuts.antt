-- What may stand on a page, and that a chunk loses its blank end only before a newline.
use Rattle.std.specs.Prelude.{if◌then◌else◌, ◌==◌, ◌∷◌, ◌≡◌, ◌⊎◌}
use Rattle.bpaf_doc.proofs.lemmas.Console.Words.{ℕ, ⊤, Bool, true, false, List, [], refl, trim_end, sym, subst, inl, inr, ◌∙◌, arith, has_some, Stretch, Gap, Placed, Passed, event_bytes}
use Rattle.bpaf_doc.proofs.lemmas.Console.Layout.State.{State, Lines, Next, Grows, padded, trimmed, wrapped}
use Rattle.bpaf_doc.proofs.lemmas.Console.Layout.Back.{EachPlace, lines_back, by_trimmed, by_padded, by_grows, Fills, inked_trim, inked_some}

-- what may stand where the text after it begins with a newline, or where nothing is known of it
abbrev pub MayEnd : Bool → List Stretch → Type 0
MayEnd line [] = ⊤
MayEnd line (Gap b ∷ r) = ((b ≡ 32) ⊎ (b ≡ 10)) × MayEnd (b == 10) r
MayEnd line (Placed e ∷ r) = ((e.shown ≡ e.bytes) ⊎ ((e.shown ≡ trim_end e.bytes) × (line ≡ true))) × MayEnd (if has_some e.shown then false else line) r
MayEnd line (Passed event ∷ r) = MayEnd (if has_some (event_bytes event) then false else line) r

-- nothing is known is less than a newline
pub may_end_line : (r : List Stretch) → MayEnd false r → MayEnd true r
may_end_line (x ∷ r) h = grind (arith, may_end_line r)
may_end_line _ h = h

may_end_trimmed : (r : List Stretch) (line : Bool) → EachPlace Fills r → MayEnd line r → MayEnd true (trimmed r)
may_end_trimmed = by_trimmed (λ r t. (line : Bool) → EachPlace Fills r → MayEnd line r → MayEnd true t) (λ line f h. h) (λ b r t ih line f h. ih (b == 10) f h.1)
    (λ e r i line f h.
    let shown : has_some e.shown ≡ true = f.0 ∙ inked_some e.bytes i in
    let rest : MayEnd false r = rw shown at h.1 in
    let trim : has_some (trim_end e.bytes) ≡ true = inked_trim e.bytes i in (inr (refl, refl), rw trim rest))
    (λ e r t i ih line f h. ih (if has_some e.shown then false else line) f.1 h.1)
    (λ event r i line f h. let rest : MayEnd false r = rw i at h in rw i rest)
    (λ event r t i ih line f h. subst (λ (b : Bool). MayEnd (if b then false else true) t) (sym i) (ih (if has_some (event_bytes event) then false else line) f h))

abbrev pub IsWhole : State → Type 0
IsWhole st = MayEnd false st.back

whole_lines : {st mid : State} → Lines st mid → IsWhole st → IsWhole mid
whole_lines l h = lines_back (MayEnd false) (λ r x. (inr refl, may_end_line r x)) l h

whole_wrapped : (mid : State) → EachPlace Fills mid.back → IsWhole mid → IsWhole (wrapped mid)
whole_wrapped mid f h = (inr refl, may_end_trimmed mid.back false f h)

pub whole_grows : {width : ℕ} {st after : State} {next : Next} → EachPlace Fills st.back → Grows width st next after → IsWhole st → IsWhole after
whole_grows {st = st} f g h = by_grows IsWhole g
    (λ p base n e b d. (inl refl, subst (λ (x : Bool). MayEnd x (padded n base.back)) (sym (grind arith)) (by_padded (MayEnd false) (λ x y. (inl refl, y)) n base.back (grind (arith, whole_lines, whole_wrapped, lines_back)))))
    (λ p mid e l w b. whole_wrapped mid (lines_back (EachPlace Fills) (λ r x. x) l f) (whole_lines l h)) (λ k chunk e. (inr refl, may_end_line st.back h))
    (λ event margin e. subst (λ (x : Bool). MayEnd x st.back) (sym (grind arith)) h)
