-- A text in another spelling: a run that stays as it is, a character that doesn't, and the rest.
use Rattle.std.specs.Prelude.{◌++◌, ◌<◌, ◌∷◌, ◌≡◌, ◌≢◌, ◌≤◌}
use Rattle.bpaf_doc.proofs.lemmas.Html.Words.{sym, ap, ap₂, subst, ⊎_elim, inl, inr, ◌∙◌, arith, get_or, append_assoc, length-take, lit<, take-append-drop, get_or-take, ℕ, suc, Bool, true, false, not, List, [], refl, length, take, drop, flat_map, Option, Some, None, MatchOption, cases_lt, nat_tests, list_all, AllPass-from_list_all, IsCharBoundary-after_ascii, Language, spelling_of, IsPlain, IsFirstSpelled, flat_map-append}
use Rattle.std.specs.Str.{IsUtf8, IsCharBoundary}
use Rattle.memchr.specs.Find.{NoneBefore, Passes, IsFirstByte, is_byte2}
use Rattle.bpaf_doc.specs.declared.html.Language.TheVariants as language

-- bytes of which none passes the test, where those that don't stay as they are
pub plain_run : (f : ℕ → List ℕ) (test : ℕ → Bool) → ((b : ℕ) → test b ≡ false → f b ≡ b ∷ []) → (bytes : List ℕ)
    → ((k : ℕ) → k < length bytes → ¬ test (get_or bytes k 0) ≡ true) → flat_map f bytes ≡ bytes
plain_run f test same [] none = refl
plain_run f test same (b ∷ bytes) none =
    ap₂ (λ x y. x ++ y) (same b (grind (arith, (none 0 (omega arith))))) (plain_run f test same bytes (λ k l. none (suc k) (omega (arith, l))))

-- a character that is written in another way
abbrev IsSpelled : Language → ℕ → Type 0
IsSpelled language c = (c < 128) × (spelling_of language c ≢ c ∷ [])

longer : (xs ys : List ℕ) → length ys < length xs → xs ≢ ys
longer xs ys l same = omega (arith, l, ap (λ zs. length zs) same)

-- the two characters that a language writes in another way
record AreMarks (language : Language) (a b : ℕ) : Type 0 where
  plain : (c : ℕ) → is_byte2 a b c ≡ false → spelling_of language c ≡ c ∷ []
  first : IsSpelled language a
  second : IsSpelled language b

html_marks : AreMarks language.Html 60 62
html_marks = record { plain = λ c e. grind (arith, nat_tests); first = (lit< tt, longer _ _ (lit< tt)); second = (lit< tt, longer _ _ (lit< tt)) }

markdown_marks : AreMarks language.Markdown 91 93
markdown_marks = record { plain = λ c e. grind (arith, nat_tests); first = (lit< tt, longer _ _ (lit< tt)); second = (lit< tt, longer _ _ (lit< tt)) }

-- what a search for a language's two characters finds
abbrev pub FindsSpelled : Language → List ℕ → Option ℕ → Type 0
FindsSpelled language text r = MatchOption r (IsPlain language text) (λ at. IsFirstSpelled language text at)

module _ (language : Language) (a b : ℕ) (marks : AreMarks language a b) (text : List ℕ) where
  before_mark : (at : ℕ) → NoneBefore (Passes (is_byte2 a b) text) 0 (length text) at → IsPlain language (take at text)
  before_mark at first =
      plain_run (spelling_of language) (is_byte2 a b) marks.plain (take at text) (λ k l passes. first.before k (omega arith) (below k l) (subst (λ c. is_byte2 a b c ≡ true) (get_or-take at text k 0 (below k l)) passes)) where
        below : (k : ℕ) → k < length (take at text) → k < at
        below k l = omega (arith, l, length-take at text)

  mark : (c : ℕ) → is_byte2 a b c ≡ true → IsSpelled language c
  mark c e = ⊎_elim (λ is. subst (λ x. IsSpelled language x) (sym is) marks.first) (λ is. subst (λ x. IsSpelled language x) (sym is) marks.second) (grind (arith, nat_tests))

  finds : (r : Option ℕ) → IsFirstByte (is_byte2 a b) text r → FindsSpelled language text r
  finds None none = plain_run (spelling_of language) (is_byte2 a b) marks.plain text (λ k l. none k (omega arith) l)
  finds (Some at) found = let is = mark (get_or text at 0) found.1 in (found.0.high, before_mark at found.0, is.0, is.1)

pub finds_html : (text : List ℕ) (r : Option ℕ) → IsFirstByte (is_byte2 60 62) text r → FindsSpelled language.Html text r
finds_html text r first = finds language.Html 60 62 html_marks text r first

pub finds_markdown : (text : List ℕ) (r : Option ℕ) → IsFirstByte (is_byte2 91 93) text r → FindsSpelled language.Markdown text r
finds_markdown text r first = finds language.Markdown 91 93 markdown_marks text r first

-- bytes among which neither of a language's two characters is
module _ (language : Language) (a b : ℕ) (marks : AreMarks language a b) where
  has_neither : (bytes : List ℕ) → list_all (λ c. not (is_byte2 a b c)) bytes ≡ true → IsPlain language bytes
  has_neither bytes all =
      plain_run (spelling_of language) (is_byte2 a b) marks.plain bytes (λ k l passes. refuted (is_byte2 a b (get_or bytes k 0)) (AllPass-from_list_all (λ c. not (is_byte2 a b c)) bytes all k 0 l) passes) where
        refuted : (t : Bool) → not t ≡ true → ¬ t ≡ true
        refuted t f = grind arith

pub plain_html : (bytes : List ℕ) → list_all (λ c. not (is_byte2 60 62 c)) bytes ≡ true → IsPlain language.Html bytes
plain_html bytes all = has_neither language.Html 60 62 html_marks bytes all

pub plain_markdown : (bytes : List ℕ) → list_all (λ c. not (is_byte2 91 93 c)) bytes ≡ true → IsPlain language.Markdown bytes
plain_markdown bytes all = has_neither language.Markdown 91 93 markdown_marks bytes all

-- a run that stays as it is and a block after it are written, and the rest is not yet
pub block_on : (f : ℕ → List ℕ) (all text block after out longer last : List ℕ) (at : ℕ) → flat_map f (take at text) ≡ take at text → drop at text ≡ block ++ after
    → longer ≡ out ++ take at text → last ≡ longer ++ flat_map f block → out ++ flat_map f text ≡ all → last ++ flat_map f after ≡ all
block_on f all text block after out longer last at plain split l e so_far =
    ap (λ x. x ++ flat_map f after) (e ∙ ap (λ x. x ++ flat_map f block) l)
    ∙ append_assoc (out ++ take at text) (flat_map f block) (flat_map f after)
    ∙ append_assoc out (take at text) (flat_map f block ++ flat_map f after)
    ∙ ap (λ x. out ++ x) (sym whole)
    ∙ so_far where
      whole : flat_map f text ≡ take at text ++ (flat_map f block ++ flat_map f after)
      whole =
          ap (λ x. flat_map f x) (sym (take-append-drop at text))
          ∙ flat_map-append f (take at text) (drop at text)
          ∙ ap₂ (λ x y. x ++ y) plain (ap (λ x. flat_map f x) split ∙ flat_map-append f block after)

-- a block of a text that begins with an ASCII character has this one at least
pub block_begins : (text : List ℕ) (at most : ℕ) → IsUtf8 text → 0 < length text → get_or text 0 0 < 128 → 0 < most → ((i : ℕ) → at < i → i ≤ most → ¬ IsCharBoundary text i) → 0 < at
block_begins text at most utf8 some ascii room nearest = elim (cases_lt at 1) [ inl none ↦ absurd (nearest 1 none (omega (arith, room)) (IsCharBoundary-after_ascii text 0 utf8 some ascii)) | inr begun ↦ omega (arith, begun) ]
