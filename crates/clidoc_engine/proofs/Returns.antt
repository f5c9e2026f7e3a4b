-- What is left where each carriage return with a newline is replaced by a newline.
use Rattle.std.proofs.Common.{◌≡◌, ℕ, suc, zero, ◌+◌, ◌<◌, ◌≤◌, ◌==◌, false, List, [], ◌∷◌, ◌++◌, length, drop, take, refl, sym, ap, ◌∙◌, inl, inr, arith, if◌then◌else◌, Result, Ok, Err, IfOk, String}
use Rattle.std.specs.Prelude.{◌&&◌, string_bytes}
use Rattle.std.specs.Borrow.{Bor}
use Rattle.std.specs.Str.Pattern.{FindsText, LacksTextAt}
use Rattle.std.specs.Str.Replace.{ReplacesMatches}
use Rattle.std.proofs.lemmas.Bool.Decides.{eqb_tells}
use Rattle.clidoc_engine.specs.Newlines.{begins_with_newline, without_returns}

abbrev crlf : List ℕ
crlf = 13 ∷ 10 ∷ []

-- a byte that begins no pair stays
pair : (c : ℕ) (cs : List ℕ) → LacksTextAt crlf (c ∷ cs) 0 → (c == 13 && begins_with_newline cs) ≡ false
pair c [] h = elim (eqb_tells c 13) [ inl p ↦ ap (λ b. b && false) p.0 | inr p ↦ ap (λ b. b && false) p.0 ]
pair c (d ∷ ds) h = elim (eqb_tells c 13) [
  | inr p ↦ ap (λ b. b && (d == 10)) p.0
  | inl p ↦ elim (eqb_tells d 10) [
    | inr q ↦ ap (λ b. (c == 13) && b) q.0 ∙ ap (λ b. b && false) p.0
    | inl q ↦ absurd (h ds (ap (λ x. x ∷ d ∷ ds) p.1 ∙ ap (λ y. 13 ∷ y ∷ ds) q.1))
  ]
]

stays : (c : ℕ) (cs : List ℕ) → LacksTextAt crlf (c ∷ cs) 0 → without_returns (c ∷ cs) ≡ c ∷ without_returns cs
stays c cs h = ap (λ b. if b then without_returns cs else c ∷ without_returns cs) (pair c cs h)

none_there : (s : List ℕ) → ((i : ℕ) → i ≤ length s → LacksTextAt crlf s i) → without_returns s ≡ s
none_there [] h = refl
none_there (c ∷ cs) h = stays c cs (h 0 (omega arith)) ∙ ap (λ xs. c ∷ xs) (none_there cs (λ i below. h (suc i) (omega arith)))

first_there : (a : ℕ) (s rest : List ℕ) → ((i : ℕ) → i < a → LacksTextAt crlf s i) → drop a s ≡ 13 ∷ 10 ∷ rest → without_returns s ≡ take a s ++ 10 ∷ without_returns rest
first_there (suc a) (c ∷ cs) rest h e = stays c cs (h 0 (omega arith)) ∙ ap (λ xs. c ∷ xs) (first_there a cs rest (λ i below. h (suc i) (omega arith)) e)
first_there x y rest h e = grind arith

pub replaced : (n : ℕ) (p : Bor (List ℕ)) (s out : List ℕ) → p.now ≡ crlf → ReplacesMatches (λ p. FindsText p.now) (λ p q. q.now ≡ p.now) (10 ∷ []) n p s out → out ≡ without_returns s
replaced zero p s out e h = h.1 ∙ sym (none_there s (λ i below rest f. h.0 i below rest (f ∙ ap (λ xs. xs ++ rest) (sym e))))
replaced (suc n) p s out e (a, b, q, rest, finds, keeps, cont, made) = elim cont [
  | inl go ↦ made ∙ ap (λ xs. take a s ++ 10 ∷ xs) (replaced n q (drop b s) rest (keeps ∙ e) go.1) ∙ sym (first_there a s (drop b s) (λ i below rest f. finds.0 i below rest (f ∙ ap (λ xs. xs ++ rest) (sym e))) (finds.1.split ∙ ap (λ xs. xs ++ drop b s) e))
  | inr stop ↦ absurd (let long : b ≡ a + 2 = finds.1.ends ∙ ap (λ xs. a + length xs) e in omega arith)
]

pub all_replaced : {A E : Type 0} (p : Bor (List ℕ)) (s : List ℕ) (r : Result (String A) E) → p.now ≡ crlf → IfOk r (λ t. (n : ℕ) × ReplacesMatches (λ p. FindsText p.now) (λ p q. q.now ≡ p.now) (10 ∷ []) n p s (string_bytes t)) → IfOk r (λ t. string_bytes t ≡ without_returns s)
all_replaced p s (Ok t) e h = replaced h.0 p s (string_bytes t) e h.1
all_replaced p s (Err x) e h = tt
