-- What a call for a page returns, by its content.
use Rattle.std.specs.Prelude.{◌≡◌}
use Rattle.bpaf_items.specs.Words.{ℕ, Bool, List, Part, document_of, Tree, Leaf, Head}
use Rattle.bpaf_meta.specs.Meta.Misplaced.{IsWellPlaced, IsFirstMisplaced}
use Rattle.bpaf_items.specs.Page.EnvTexts.{Texts}
use Rattle.bpaf_items.specs.Page.HelpPage.{help_page_writes}

-- a page, a misplaced item, or a failed allocation
pub data Answer (A : Type 0) : Type 0 where
  page : A → Answer A
  misplaced : Leaf → Answer A
  memory : Answer A

-- `render_help`: the check of the tree comes before any allocation
abbrev pub IsHelpPageAnswer : (path : List (List ℕ)) → Head → Tree → (help : Tree) → (include_env : Bool) → Texts
    → Answer (List Part) → Type 0
IsHelpPageAnswer path i t help include_env texts (page document) = IsWellPlaced t
    × (document ≡ document_of (help_page_writes path i t help include_env texts))
IsHelpPageAnswer path i t help include_env texts (misplaced l) = IsFirstMisplaced t l
IsHelpPageAnswer path i t help include_env texts memory = IsWellPlaced t
