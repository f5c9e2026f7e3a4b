-- The rule of what asks for no newline: a line is broken between neighbouring
-- inked chunks only where the second has no room in it.
use Rattle.std.specs.Prelude.{if◌then◌else◌, ◌&&◌, ◌++◌, ◌+◌, ◌<◌, ◌∷◌, ◌≡◌, ◌≤◌, ◌⊎◌}
use Rattle.bpaf_doc.proofs.lemmas.Console.Words.{ℕ, ⊤, Bool, true, false, not, List, [], refl, list_any, list_all, sym, subst, arith, ◌∙◌, is_inked, Event, Shows, Opens, Closes, Stretch, Placed, Place, is_inked_stretch, asks_newline, room_of, shows_chunk}
use Rattle.bpaf_doc.proofs.lemmas.Console.Layout.State.{State, Pads, Piece, Begins, Next, raw, Grows, padded, Suits}
use Rattle.bpaf_doc.proofs.lemmas.Console.Layout.Back.{EachPlace, each_grows, place_of, fits_of, same_padded, by_mark, by_break, heavy, or_false_left, or_false_right}
use Rattle.bpaf_doc.proofs.lemmas.Console.Layout.Split.{events_back, events_begins, events_grows}
use Rattle.bpaf_doc.proofs.lemmas.Console.Layout.Reach.{Rule, IsSound, sum_of}

-- ---- chunks of one text have no mark between them

-- a chunk
abbrev pub is_chunk : Event → Bool
is_chunk (Shows k chunk) = true
is_chunk (Opens b) = false
is_chunk (Closes b) = false

-- of an earlier text, or up to this one
abbrev pub IsUpTo : Bool → ℕ → ℕ → Type 0
IsUpTo true j k = j < k
IsUpTo false j k = j ≤ k

-- The chunks, newest first, are of texts up to this one; of earlier ones where a
-- mark came since, or where that is said.
abbrev pub Since : Bool → ℕ → List Event → Type 0
Since strict k [] = ⊤
Since strict k (Shows j chunk ∷ es) = IsUpTo strict j k × Since strict k es
Since strict k (Opens b ∷ es) = Since true k es
Since strict k (Closes b ∷ es) = Since true k es

-- what a later text, and the next one, may be
pub record IsInOrder (st : State) (es : List Event) : Type 0 where
  pub after : (k : ℕ) → st.latest < k → Since true k es
  pub next : (k : ℕ) → st.latest ≤ k → (st.marked ≡ true → st.latest < k) → Since false k es

abbrev pub ComesInOrder : State → Type 0
ComesInOrder st = IsInOrder st (events_back st.back)

pub in_order_grows : {width : ℕ} {margin_of : ℕ → ℕ} {st after : State} {next : Next} → Suits margin_of st next → Grows width st next after
    → ComesInOrder st → ComesInOrder after
in_order_grows {st = st} {after = after} {next = next} suits g h = grind (arith, events_grows, fits_of, by_break, by_mark)

-- what stands before a chunk is of texts up to its own
abbrev pub IsAfterAll : List Stretch → Place → Type 0
IsAfterAll r f = Since false f.part (events_back r)

pub after_all_grows : {width : ℕ} {margin_of : ℕ → ℕ} {st after : State} {next : Next} → Suits margin_of st next → ComesInOrder st → Grows width st next after
    → EachPlace IsAfterAll st.back → EachPlace IsAfterAll after.back
after_all_grows {st = st} {next = next} suits h g all = each_grows IsAfterAll (λ r f i x. x) core g all where
  core : {width : ℕ} (p : Piece) (base : State) (n : ℕ) → next ≡ raw p → Begins width st p base → Pads base n → IsAfterAll (padded n base.back) (place_of p)
  core p base n e b d = subst (Since false p.part) (sym (same_padded events_back (λ x. refl) n base.back ∙ events_begins b)) (h.next p.part (fits_of suits e).order (fits_of suits e).moved)

-- a chunk after a mark is of a later text
pub part_later : (strict : Bool) (k : ℕ) (m before : List Stretch) (e : Place) → Since strict k (events_back (m ++ Placed e ∷ before))
    → (strict ≡ true) ⊎ (list_all is_chunk (events_back m) ≡ false) → e.part < k
part_later strict k [] before e h s = grind arith
part_later strict k (s ∷ m) before e h t = grind (arith, part_later strict k m before e, part_later true k m before e)

-- ---- the rule of what asks for no newline

-- no ink, and no newline asked for
abbrev pub is_idle : Event → Bool
is_idle event = not (shows_chunk is_inked event) && not (asks_newline event)

-- a mark may bring another margin with it
abbrev pub allowance : ℕ → List Event → ℕ
allowance deepest es = if list_all is_chunk es then 0 else deepest

abbrev pub idle : ℕ → Rule
idle deepest = record { begins = is_inked; follows = is_idle; has_chunks = true; takes = room_of; taken = λ es. sum_of room_of es + allowance deepest es }

pub idle_sound : (width deepest : ℕ) → width < 1_000_000 → IsSound width deepest (idle deepest)
idle_sound width deepest small = grind (arith, heavy)

-- without ink and without a newline asked for, all is idle
pub idle_all : (m : List Stretch) → list_any is_inked_stretch m ≡ false → list_any asks_newline (events_back m) ≡ false
    → list_all is_idle (events_back m) ≡ true
idle_all [] i a = refl
idle_all (x ∷ m) i a = grind (arith, idle_all m, or_false_left, or_false_right)
