-- The block of a usage begins with the word.
use Rattle.std.proofs.Common.{◌≡◌, ℕ, ◌<◌, Bool, true, false, cond, ◌||◌, ◌&&◌, List, [], ◌∷◌, ◌++◌, refl, ap, ◌∙◌, arith, None, Some}
use Rattle.help_blocks.specs.declared.shape.Shape.{Shape}
use Rattle.help_blocks.specs.declared.place.Kind.{Kind}
use Rattle.help_blocks.specs.declared.place.Kind.TheVariants as kind
use Rattle.help_blocks.specs.declared.place.Place.{Place}
use Rattle.help_blocks.specs.declared.subject.Subject.{Subject}
use Rattle.help_blocks.specs.declared.subject.Subject.TheVariants as subject
use Rattle.help_blocks.specs.declared.cut.Block.{Block}
use Rattle.help_blocks.specs.Blocks.{FollowOn}
use Rattle.help_blocks.specs.Laws.{is_usage_kind}
use Rattle.help_blocks.specs.Rules.{begun, goes_on, is_above_option, is_below_title, is_further_command, is_in_choice, is_in_list, is_plain_title, kind_of, leads, listed_by, or_kind, plain_kind, unmarked_kind}
use Rattle.help_blocks.specs.Steps.{lengthened}
use Rattle.help_blocks.proofs.Titles.{no_further}

-- ---- one line

plain_no_usage : (title code : Bool) → is_usage_kind (cond title kind.Title (cond code kind.Code kind.Text)) ≡ false
plain_no_usage true code = refl
plain_no_usage false true = refl
plain_no_usage false false = refl

some_no_usage : (some : Bool) (k other : Kind) → is_usage_kind k ≡ false → is_usage_kind other ≡ false → is_usage_kind (or_kind (cond some (Some k) None) other) ≡ false
some_no_usage true k other h o = h
some_no_usage false k other h o = o

listed_no_usage : (s : Subject) (p : Place) (here : Shape) (other : Kind) → is_usage_kind other ≡ false → is_usage_kind (or_kind (listed_by s p here) other) ≡ false
listed_no_usage subject.Commands p here other o = some_no_usage here.is_word kind.Command other refl o
listed_no_usage subject.Values p here other o = some_no_usage (is_in_list p.block) kind.Value other refl o
listed_no_usage subject.Examples p here other o = refl
listed_no_usage subject.Options p here other o = o
listed_no_usage subject.Unsaid p here other o = o

unmarked_no_usage : (p : Place) (here next : Shape) → is_usage_kind (unmarked_kind p here next) ≡ false
unmarked_no_usage p here next = by (is_below_title p.title here) here.is_choice where
  plain : is_usage_kind (plain_kind p here next) ≡ false
  plain = plain_no_usage (is_plain_title p.is_after_blank here next) here.is_code

  by : (below choice : Bool) → is_usage_kind (or_kind (cond below (cond choice (Some kind.Value) (listed_by p.subject p here)) None) (plain_kind p here next)) ≡ false
  by false choice = plain
  by true true = refl
  by true false = listed_no_usage p.subject p here (plain_kind p here next) plain

only_usage : (empty usage option command title : Bool) (other : Kind) → is_usage_kind other ≡ false
    → is_usage_kind (cond empty kind.Text (cond usage kind.Usage (cond option kind.Option (cond command kind.Command (cond title kind.Title other))))) ≡ true → usage ≡ true
only_usage true usage option command title other o h = cc
only_usage false true option command title other o h = refl
only_usage false false true command title other o h = cc
only_usage false false false true title other o h = cc
only_usage false false false false true other o h = cc
only_usage false false false false false other o h = cc

usage_kind : (p : Place) (here next : Shape) → is_usage_kind (kind_of p here next) ≡ true → here.is_usage ≡ true
usage_kind p here next h =
    only_usage here.is_empty here.is_usage here.is_option (is_in_choice p.block here || is_further_command p.block here) (here.ends_with_colon && (p.is_after_blank || (leads here next || is_above_option here next)))
    (unmarked_kind p here next) (unmarked_no_usage p here next) h

pub usage_begun : (p : Place) (here next : Shape) (k : Kind) → begun p here next ≡ Some k → is_usage_kind k ≡ true → here.is_usage ≡ true
usage_begun p here next k e h = by (goes_on p here next) e where
  by : (goes : Bool) → cond goes None (Some (kind_of p here next)) ≡ Some k → here.is_usage ≡ true
  by true e = cc
  by false e = let same : kind_of p here next ≡ k = cc in usage_kind p here next (ap is_usage_kind same ∙ h)

-- ---- all blocks: `usage` says of each line by its number whether it begins with the word

abbrev pub AllBegin : (usage : ℕ → Bool) → List Block → Type 0
AllBegin usage [] = Unit {0}
AllBegin usage (b ∷ bs) = (is_usage_kind b.kind ≡ true → usage b.first ≡ true) × AllBegin usage bs

pub begin_lengthened : (usage : ℕ → Bool) (bs : List Block) (e : ℕ) → AllBegin usage bs → AllBegin usage (lengthened bs e)
begin_lengthened usage [] e h = tt
begin_lengthened usage (b ∷ []) e h = h
begin_lengthened usage (b ∷ c ∷ bs) e h = (h.0, begin_lengthened usage (c ∷ bs) e h.1)

module _ (usage after : ℕ → Bool) (n : ℕ) (same : (i : ℕ) → i < n → after i ≡ usage i) where
  pub begin_same : (first : ℕ) (bs : List Block) → FollowOn first bs n → AllBegin usage bs → AllBegin after bs
  begin_same first [] f h = tt
  begin_same first (b ∷ bs) f h = let below = no_further b.end n bs f.2 in ((λ e. same b.first (omega (arith, f.1, below)) ∙ h.0 e), begin_same b.end bs f.2 h.1)

pub begin_pushed : (usage : ℕ → Bool) (bs : List Block) (b : Block) → (is_usage_kind b.kind ≡ true → usage b.first ≡ true) → AllBegin usage bs → AllBegin usage (bs ++ b ∷ [])
begin_pushed usage [] b new h = (new, tt)
begin_pushed usage (c ∷ bs) b new h = (h.0, begin_pushed usage bs b new h.1)
