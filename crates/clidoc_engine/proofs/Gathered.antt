-- What words give, one after another.
use Rattle.std.proofs.Common.{◌≡◌, ◌≢◌, ℕ, List, [], ◌∷◌, ◌++◌, Option, Some, None, refl, sym, ap, ◌∙◌, inl, inr, append-nil, if◌then◌else◌, drop, length, get_or, ◌<◌, ◌+◌, arith}
use Rattle.std.proofs.lemmas.Bool.Decides.{eqb_tells}
use Rattle.std.proofs.lemmas.List.{drop_more}
use Rattle.std.specs.Borrow.{Bor}
use Rattle.std.specs.Prelude.{MatchOption, bytes_eq, codes, false, option_map}
use Rattle.std.proofs.lemmas.Bool.{false≢true}
use Rattle.std.proofs.lemmas.Slice.Eq.{bytes_eq-Decides}
use Rattle.std.specs.Str.Pattern.{FindsTextPrefix, StripsPrefix}
use Rattle.clidoc_engine.specs.Chosen.{words_said}
use Rattle.clidoc_engine.specs.Reading.{before, together}
use Rattle.clidoc_engine.specs.Words.{Given, following, kind_of, only_files, other_kind}

-- where the word does not begin with the front, nothing follows it
pub following_none : (front word : List ℕ) → ((rest : List ℕ) → word ≢ front ++ rest) → following front word ≡ None
following_none [] word h = absurd (h word refl)
following_none (c ∷ cs) [] h = refl
following_none (c ∷ cs) (d ∷ ds) h = grind (arith, following_none cs ds, eqb_tells)

following_some : (front rest : List ℕ) → following front (front ++ rest) ≡ Some rest
following_some [] rest = refl
following_some (c ∷ cs) rest = elim (eqb_tells c c) [
  | inl p ↦ ap (λ b. if b then following cs (cs ++ rest) else None) p.0 ∙ following_some cs rest
  | inr p ↦ absurd (p.1 refl)
]

-- what stripping a prefix answers
pub stripped : (front word : List ℕ) (r : Option (Bor (List ℕ))) → MatchOption r (FindsTextPrefix front word None) (λ x. StripsPrefix (FindsTextPrefix front) word x.now) → option_map (λ x. x.now) r ≡ following front word
stripped front word None h = sym (following_none front word h)
stripped front word (Some x) h = ap Some h.2 ∙ sym (ap (following front) h.1.1 ∙ following_some front (drop h.0 word))

pub before_nothing : (o : Option Given) → before (only_files []) o ≡ o
before_nothing o = grind arith

pub together_nothing : (g : Given) → together g (only_files []) ≡ g
together_nothing g = grind (arith, append-nil)

pub next_word : (words : List (Bor (List ℕ))) (i : ℕ) (d : Bor (List ℕ)) → i < length words → words_said (drop i words) ≡ (get_or words i d).now ∷ words_said (drop (i + 1) words)
next_word words i d h = ap words_said (drop_more words i d h)

differs : (xs ys : List ℕ) → xs ≢ ys → bytes_eq xs ys ≡ false
differs xs ys h = grind (arith, bytes_eq-Decides xs ys, false≢true)

-- a word that is not an option by itself
pub other_word : (word : List ℕ) → word ≢ codes "--" → word ≢ codes "--deep" → word ≢ codes "--command" → word ≢ codes "--width" → word ≢ codes "--into" → word ≢ codes "--date" → word ≢ codes "--vendor" → word ≢ codes "--name" → word ≢ codes "--fragment" → word ≢ codes "--strict" → kind_of word ≡ other_kind word
other_word word dashes deep command width folder date vendor name fragment strict = grind (arith, differs word (codes "--") dashes, differs word (codes "--deep") deep, differs word (codes "--command") command, differs word (codes "--width") width, differs word (codes "--into") folder, differs word (codes "--date") date, differs word (codes "--vendor") vendor, differs word (codes "--name") name, differs word (codes "--fragment") fragment, differs word (codes "--strict") strict)
