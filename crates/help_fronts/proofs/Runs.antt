-- The words of a usage, one after another.
use Rattle.std.proofs.Common.{◌≡◌, ℕ, suc, zero, ◌+◌, ◌<◌, ◌≤◌, Bool, true, false, not, cond, List, [], ◌∷◌, ◌++◌, map, filter, length, drop, take, refl, ap, ◌∙◌, arith}
use Rattle.help_fronts.specs.declared.bytes.Class.TheVariants as class
use Rattle.help_fronts.specs.Bytes.{free_len, is_usage_mark}
use Rattle.help_fronts.specs.Words.{is_name, name}
use Rattle.help_fronts.specs.Fronts.{names}
use Rattle.help_fronts.specs.Usages.{WordSaid, last_word, onto_word, usage_words}

-- a text, cut after that many bytes
abbrev pub said : (text after : List ℕ) → WordSaid
said text after = record { text = text; after = after }

abbrev pub cut : ℕ → List ℕ → WordSaid
cut n text = said (take n text) (drop n text)

pub last_is : (line : List ℕ) (n : ℕ) → n ≡ free_len class.UsageMark line → length line ≤ n → usage_words line ≡ last_word line ∷ []
last_is [] n e h = refl
last_is (x ∷ xs) n e h = by (is_usage_mark x) n e h (last_is xs) where
  by : (t : Bool) (n : ℕ) → n ≡ cond (not t) (1 + free_len class.UsageMark xs) 0 → suc (length xs) ≤ n
      → ((m : ℕ) → m ≡ free_len class.UsageMark xs → length xs ≤ m → usage_words xs ≡ last_word xs ∷ [])
      → cond t (cut 0 (x ∷ xs) ∷ usage_words xs) (onto_word x (usage_words xs)) ≡ last_word (x ∷ xs) ∷ []
  by true n e h below = absurd (omega arith)
  by false n e h below = ap (onto_word x) (below (free_len class.UsageMark xs) refl (omega arith))

pub word_first : (line : List ℕ) (n : ℕ) → n ≡ free_len class.UsageMark line → n < length line → usage_words line ≡ cut n line ∷ usage_words (drop (n + 1) line)
word_first [] n e h = absurd (omega arith)
word_first (x ∷ xs) n e h = by (is_usage_mark x) n e h (word_first xs) where
  by : (t : Bool) (n : ℕ) → n ≡ cond (not t) (1 + free_len class.UsageMark xs) 0 → n < suc (length xs)
      → ((m : ℕ) → m ≡ free_len class.UsageMark xs → m < length xs → usage_words xs ≡ cut m xs ∷ usage_words (drop (m + 1) xs))
      → cond t (cut 0 (x ∷ xs) ∷ usage_words xs) (onto_word x (usage_words xs)) ≡ cut n (x ∷ xs) ∷ usage_words (drop (n + 1) (x ∷ xs))
  by true zero e h below = refl
  by true (suc n) e h below = absurd (omega arith)
  by false zero e h below = absurd (omega arith)
  by false (suc n) e h below = ap (onto_word x) (below n (omega arith) (omega arith)) ∙ ap (λ m. cut (suc n) (x ∷ xs) ∷ usage_words (drop m (x ∷ xs))) (let more : suc (n + 1) ≡ suc n + 1 = omega arith in more)

-- ---- names

pub names_more : (word : List ℕ) (words : List (List ℕ)) → names (word ∷ words) ≡ names (word ∷ []) ++ names words
names_more word words = by (is_name word) where
  by : (t : Bool) → map name (cond t (word ∷ filter is_name words) (filter is_name words)) ≡ map name (cond t (word ∷ []) []) ++ names words
  by true = refl
  by false = refl
