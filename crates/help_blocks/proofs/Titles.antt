-- Below the first line of a title's block are empty lines alone.
use Rattle.std.proofs.Common.{◌≡◌, ℕ, ◌+◌, ◌<◌, ◌≤◌, Bool, true, false, List, [], ◌∷◌, ◌++◌, refl, ap, ◌∙◌, arith, Option, None, Some, inl, inr, ◌⊎◌, eq-or-lt_of_le}
use Rattle.help_blocks.specs.declared.place.Kind.{Kind}
use Rattle.help_blocks.specs.declared.place.Open.{Open}
use Rattle.help_blocks.specs.declared.cut.Block.{Block}
use Rattle.help_blocks.specs.Blocks.{FollowOn}
use Rattle.help_blocks.specs.Rules.{is_title_kind}
use Rattle.help_blocks.specs.Steps.{lengthened, with_line}

-- `empty` says of each line by its number whether it is
abbrev pub Ends : (empty : ℕ → Bool) → Block → Type 0
Ends empty b = is_title_kind b.kind ≡ true → (i : ℕ) → b.first < i → i < b.end → empty i ≡ true

abbrev pub AllEnd : (empty : ℕ → Bool) → List Block → Type 0
AllEnd empty [] = Unit {0}
AllEnd empty (b ∷ bs) = Ends empty b × AllEnd empty bs

-- whether the last block is a title
abbrev pub is_last_title : List Block → Bool
is_last_title [] = false
is_last_title (b ∷ []) = is_title_kind b.kind
is_last_title (b ∷ c ∷ bs) = is_last_title (c ∷ bs)

abbrev pub is_open_title : Option Open → Bool
is_open_title None = false
is_open_title (Some o) = is_title_kind o.kind

pub last_lengthened : (bs : List Block) (e : ℕ) → is_last_title (lengthened bs e) ≡ is_last_title bs
last_lengthened [] e = refl
last_lengthened (b ∷ []) e = refl
last_lengthened (b ∷ c ∷ []) e = refl
last_lengthened (b ∷ c ∷ d ∷ bs) e = last_lengthened (c ∷ d ∷ bs) e

pub last_pushed : (bs : List Block) (b : Block) → is_last_title (bs ++ b ∷ []) ≡ is_title_kind b.kind
last_pushed [] b = refl
last_pushed (c ∷ []) b = refl
last_pushed (c ∷ d ∷ bs) b = last_pushed (d ∷ bs) b

pub no_further : (first end : ℕ) (bs : List Block) → FollowOn first bs end → first ≤ end
no_further first end [] h = omega (arith, h)
no_further first end (b ∷ bs) h = let below = no_further b.end end bs h.2 in omega (arith, h.0, h.1, below)

module _ (empty after : ℕ → Bool) (n : ℕ) (same : (i : ℕ) → i < n → after i ≡ empty i) where
  still : (b : Block) → b.end ≤ n → Ends empty b → Ends after b
  still b h ends e i low high = same i (omega (arith, high, h)) ∙ ends e i low high

  -- with a line more in the last block
  ends_lengthened : (first : ℕ) (bs : List Block) → FollowOn first bs n → (is_last_title bs ≡ true → after n ≡ true) → AllEnd empty bs → AllEnd after (lengthened bs (n + 1))
  ends_lengthened first [] h last ends = tt
  ends_lengthened first (b ∷ []) h last ends = ((λ e i low high. by e i low (eq-or-lt_of_le (omega (arith, high)))), tt) where
    by : is_title_kind b.kind ≡ true → (i : ℕ) → b.first < i → (i ≡ n) ⊎ (i < n) → after i ≡ true
    by e i low (inl is) = ap after is ∙ last e
    by e i low (inr below) = same i below ∙ ends.0 e i low (omega (arith, below, h.2))
  ends_lengthened first (b ∷ c ∷ bs) h last ends = (still b (no_further b.end n (c ∷ bs) h.2) ends.0, ends_lengthened b.end (c ∷ bs) h.2 last ends.1)

  -- with a block more
  ends_pushed : (first : ℕ) (k : Kind) (bs : List Block) → FollowOn first bs n → AllEnd empty bs → AllEnd after (with_line bs n (Some k))
  ends_pushed first k [] h ends = ((λ e i low high. absurd (omega (arith, low, high))), tt)
  ends_pushed first k (b ∷ bs) h ends = (still b (no_further b.end n bs h.2) ends.0, ends_pushed b.end k bs h.2 ends.1)

  pub ends_with_line : (bs : List Block) (k : Option Kind) → FollowOn 0 bs n → (k ≡ None → is_last_title bs ≡ true → after n ≡ true) → AllEnd empty bs → AllEnd after (with_line bs n k)
  ends_with_line bs None h last ends = ends_lengthened 0 bs h (last refl) ends
  ends_with_line bs (Some k) h last ends = ends_pushed 0 k bs h ends
