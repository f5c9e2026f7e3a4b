-- A run, line by line.
use Rattle.std.specs.Prelude.{◌≡◌, ◌≢◌, ℕ, ◌-◌, ◌==◌, true, false, Option, Some, None, IfSome, List, [], ◌∷◌, ◌++◌, length, take, codes, refl}
use Rattle.std.proofs.Common.{ap, sym, ◌∙◌, subst, inl, inr, arith, append_assoc, length-append}
use Rattle.std.proofs.lemmas.Bool.{ne_eqb, cases_eq, eqb-true}
use Rattle.std.proofs.Math.Seq.{take-append_seam}
use Rattle.std.proofs.KnownBytes.{Appends-nil, Appends-trans}
use Rattle.std.specs.List.{list_any}
use Rattle.std.specs.Io.KnownBytes.{Appends}
use Rattle.std.specs.Io.BufRead.{take_through, drop_through, DropsThrough}
use Rattle.replay.specs.Replay.{AreAnswers, IsAnswered, IsOneLine, Replays, Replies, is_newline, is_passed_over}

-- a line after others
pub added : (before line ended after text : List ℕ) → AreAnswers before → line ≡ codes "= " ++ text → list_any is_newline line ≡ false → ended ≡ line ++ 10 ∷ [] → after ≡ before ++ ended → AreAnswers after
added before line ended after text are l one e a =
    AreAnswers.line before text (a ∙ ap (λ x. before ++ x) (e ∙ ap (λ x. x ++ 10 ∷ []) l)) are (subst IsOneLine l one)

-- the line that says why there is no answer
pub bad_line : (a b c d : Option (List ℕ)) (why : List ℕ) → Appends a b (codes "= BAD ") → Appends b c why → Appends c d (codes "\n") → IsOneLine why
    → (answers : List ℕ) × AreAnswers answers × (answers ≢ []) × Appends a d answers
bad_line a b c d why x y z one =
    let line = codes "= BAD " ++ why in
    (line ++ codes "\n", AreAnswers.line [] (codes "BAD " ++ why) refl (AreAnswers.none refl) one, (λ none. cc), Appends-trans a c d line (codes "\n") (Appends-trans a b c (codes "= BAD ") why x y) z)

pub answered_none : (line : List ℕ) (a : Option (List ℕ)) → is_passed_over line ≡ true → (answers : List ℕ) × IsAnswered line answers × Appends a a answers
answered_none line a passed = ([], record { lines = AreAnswers.none refl; some = rw passed refl }, Appends-nil a)

-- a read up to a newline that took one, after a text without any
with_newline : (bytes : List ℕ) → list_any is_newline (take_through 10 bytes) ≡ true → (text : List ℕ) × IsOneLine text × (take_through 10 bytes ≡ text ++ 10 ∷ []) × (bytes ≡ text ++ 10 ∷ drop_through 10 bytes)
with_newline [] some = let no : false ≡ true = some in absurd cc
with_newline (b ∷ bytes) some = elim (cases_eq b 10) [
  | inl e ↦ ([], refl, rw e refl, rw e refl)
  | inr ne ↦
      let n = ne_eqb b 10 ne in
      let r = with_newline bytes (rw (n, n) at some) in
      (b ∷ r.0, rw n r.1, rw n (ap (λ x. b ∷ x) r.2), rw n (ap (λ x. b ∷ x) r.3))
]

-- and one that took none
without_newline : (bytes : List ℕ) → list_any is_newline (take_through 10 bytes) ≡ false → (take_through 10 bytes ≡ bytes) × (drop_through 10 bytes ≡ [])
without_newline [] none = (refl, refl)
without_newline (b ∷ bytes) none = elim (cases_eq b 10) [
  | inl e ↦ let no : true ≡ false = rw e at none in absurd cc
  | inr ne ↦
      let n = ne_eqb b 10 ne in
      let r = without_newline bytes (rw (n, n) at none) in
      rw n (ap (λ x. b ∷ x) r.0, r.1)
]

-- the reply to a first line that has a newline
reply_first : (bytes popped answers others : List ℕ) → list_any is_newline (take_through 10 bytes) ≡ true → popped ≡ take (length (take_through 10 bytes) - 1) (take_through 10 bytes)
    → IsAnswered popped answers → Replies (drop_through 10 bytes) others → Replies bytes ((popped ++ 10 ∷ answers) ++ others)
reply_first bytes popped answers others some p answered replies =
    let first = with_newline bytes some in
    let n : length (first.0 ++ 10 ∷ []) - 1 ≡ length first.0 = omega (arith, length-append first.0 (10 ∷ [])) in
    let same : popped ≡ first.0 = p ∙ ap (λ x. take (length x - 1) x) first.2 ∙ ap (λ k. take k (first.0 ++ 10 ∷ [])) n ∙ take-append_seam first.0 (10 ∷ []) in
    Replies.line first.0 (drop_through 10 bytes) answers others first.3 first.1 (ap (λ x. (x ++ 10 ∷ answers) ++ others) same)
    (subst (λ x. IsAnswered x answers) same answered) replies

-- a reader with known bytes has some left, and the replies to them will complete what was written
abbrev pub GoesOn : Option (List ℕ) → Option (List ℕ) → Option (List ℕ) → Option (List ℕ) → Type 0
GoesOn left after held now =
    IfSome left (λ input. (rest output : List ℕ) × (after ≡ Some rest) × Appends held now output × ((others : List ℕ) → Replies rest others → Replies input (output ++ others)))

-- what the end of the input leaves
pub last_none : (line : List ℕ) (a : Option (List ℕ)) → (length line == 0) ≡ true → (output : List ℕ) × Replies line output × Appends a a output
last_none [] a e = ([], Replies.none refl refl, Appends-nil a)
last_none (b ∷ line) a e = let no : length (b ∷ line) ≡ 0 = eqb-true (length (b ∷ line)) 0 e in absurd (omega (arith, no))

pub last_one : (line : List ℕ) (a b : Option (List ℕ)) → (length line == 0) ≡ false → IsOneLine line → (answers : List ℕ) × IsAnswered line answers × Appends a b (line ++ 10 ∷ answers)
    → (output : List ℕ) × Replies line output × Appends a b output
last_one line a b some one reply =
    (line ++ 10 ∷ reply.0, Replies.last reply.0 (λ e. let no : true ≡ false = sym (ap (λ x. length x == 0) e) ∙ some in cc) one refl reply.1, reply.2)

-- what a read up to a newline took
abbrev Took : Option (List ℕ) → List ℕ → List ℕ → Type 0
Took after before line = IfSome after (λ bytes. line ≡ before ++ take_through 10 bytes)

took : (after : Option (List ℕ)) (before line rest : List ℕ) → after ≡ Some rest → before ≡ [] → Took after before line → line ≡ take_through 10 rest
took after before line rest known none t = subst (λ a. Took a before line) known t ∙ ap (λ x. x ++ take_through 10 rest) none

pub goes_on-line : (left after final held now next : Option (List ℕ)) (before text popped : List ℕ) → GoesOn left after held now → before ≡ [] → Took after before text → DropsThrough after final 10
    → list_any is_newline text ≡ true → popped ≡ take (length text - 1) text → (answers : List ℕ) × IsAnswered popped answers × Appends now next (popped ++ 10 ∷ answers) → GoesOn left final held next
goes_on-line None after final held now next before text popped g none t drops some p reply = tt
goes_on-line (Some input) after final held now next before text popped g none t drops some p reply =
    let rest = g.0 in
    let is : text ≡ take_through 10 rest = took after before text rest g.2 none t in
    let written = popped ++ 10 ∷ reply.0 in (
      drop_through 10 rest,
      g.1 ++ written,
      subst (λ a. DropsThrough a final 10) g.2 drops,
      Appends-trans held now next g.1 written g.3 reply.2,
      λ others r. subst (Replies input) (sym (append_assoc g.1 written others))
          (g.4 (written ++ others) (reply_first rest popped reply.0 others (subst (λ x. list_any is_newline x ≡ true) is some) (subst (λ x. popped ≡ take (length x - 1) x) is p) reply.1 r)),
    )

pub replays-end : (left after final held now next : Option (List ℕ)) (before text : List ℕ) → GoesOn left after held now → before ≡ [] → Took after before text → DropsThrough after final 10
    → list_any is_newline text ≡ false → (output : List ℕ) × Replies text output × Appends now next output → Replays left final held next
replays-end None after final held now next before text g none t drops without reply = tt
replays-end (Some input) after final held now next before text g none t drops without reply =
    let rest = g.0 in
    let is : text ≡ take_through 10 rest = took after before text rest g.2 none t in
    let all = without_newline rest (subst (λ x. list_any is_newline x ≡ false) is without) in (
      subst (λ a. DropsThrough a final 10) g.2 drops ∙ ap Some all.1,
      g.1 ++ reply.0,
      g.4 reply.0 (subst (λ x. Replies x reply.0) (is ∙ all.0) reply.1),
      Appends-trans held now next g.1 reply.0 g.3 reply.2,
    )
