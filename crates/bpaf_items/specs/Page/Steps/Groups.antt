-- Groups, and the entries outside them, taken from the front of a list.
use Rattle.std.specs.Prelude.{◌++◌, ◌+◌, ◌<◌, ◌∷◌, ◌≡◌, ◌≤◌}
use Rattle.bpaf_items.specs.Words.{ℕ, Bool, List, [], length, drop, Option, Some, None, position, Part, Write, start, end, emphasis, with_writes}
use Rattle.bpaf_doc.specs.declared.buffer.Block.TheVariants as block
use Rattle.bpaf_items.specs.Listing.ItemList.{Entry}
use Rattle.bpaf_items.specs.Listing.Falls.{is_group_end, outside_groups}
use Rattle.bpaf_items.specs.Listing.Groups.{HasPairedGroups}
use Rattle.bpaf_items.specs.Page.EnvTexts.{Texts}
use Rattle.bpaf_items.specs.Page.HelpPage.{group_members_writes}

-- a heading's title, up to where its list starts; and the end of the list and the heading
abbrev pub title_front : List ℕ → List Write
title_front title = start block.Block ∷ start block.Section2 ∷ emphasis title ∷ end block.Section2
    ∷ start block.DefinitionList ∷ []

abbrev pub heading_end : List Write
heading_end = end block.DefinitionList ∷ end block.Block ∷ []

abbrev pub len_through : Option ℕ → ℕ → ℕ
len_through None n = n
len_through (Some i) n = i + 1

-- the number of entries up to the first group end
abbrev pub group_len : List Entry → ℕ
group_len es = len_through (position is_group_end es) (length es)

-- a first group was written, or a first entry outside groups was kept: `count` entries were taken, and the rest has
-- what is left
pub record Takes (include_env : Bool) (texts : Texts) (es : List Entry) (count : ℕ) (before now : List Part)
    (outside kept : List Entry) : Type 0 where
  pub some : 0 < count
  pub within : count ≤ length es
  pub paired : HasPairedGroups (drop count es)
  pub written : with_writes now (group_members_writes include_env texts (drop count es))
      ≡ with_writes before (group_members_writes include_env texts es)
  pub others : kept ++ outside_groups (drop count es) ≡ outside ++ outside_groups es
