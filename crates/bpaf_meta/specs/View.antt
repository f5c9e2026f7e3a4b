-- What a `Meta`, an `Item` and an `Info` say.
use Rattle.std.specs.Prelude.{ℕ, List, [], ◌∷◌, map, Option}
use Rattle.std.specs.Borrow.{Bor}
use Rattle.std.specs.Option.{option_map}
use Rattle.bpaf_meta.specs.Content.{Name, short, long, both, Tree, and_of, or_of, optional, required, adjacent, item, many, subsection, suffix, skip, custom_usage, strict, Trees, no_trees, tree, Leaf, any, positional, command, flag, argument, Head, head}
use Rattle.bpaf_meta.specs.declared.item.ShortLong.{ShortLong}
use Rattle.bpaf_meta.specs.declared.item.ShortLong.TheVariants.{Short, Long, Both}
use Rattle.bpaf_meta.specs.declared.item.Item.{Item, Item-F, fold-Item}
use Rattle.bpaf_meta.specs.declared.meta.Meta.{Meta, Meta-F, fold-Meta}
use Rattle.bpaf_meta.specs.declared.meta_help.Info.{Info, Info-F, fold-Info}

abbrev pub name_of : ShortLong → Name
name_of (Short c) = short c
name_of (Long t) = long t.now
name_of (Both c t) = both c t.now

abbrev pub text_of : Option (Bor (List ℕ)) → Option (List ℕ)
text_of = option_map (λ t. t.now)

abbrev pub trees_in : List Tree → Trees
trees_in [] = no_trees
trees_in (t ∷ ts) = tree t (trees_in ts)

-- one level, where the inner ones are already seen
abbrev pub leaf_step : {A : Type 0} → Item-F A Leaf Tree Head → Leaf
leaf_step (Item-F.Any m a h) = any m a h
leaf_step (Item-F.Positional m h) = positional m.0.now h
leaf_step (Item-F.Command n s h m i) = command n.now s h m.value i.value
leaf_step (Item-F.Flag n s e h) = flag (name_of n) s.items (text_of e) h
leaf_step (Item-F.Argument n s m e h) = argument (name_of n) s.items m.0.now (text_of e) h

abbrev pub tree_step : {A : Type 0} → Meta-F A Leaf Tree Head → Tree
tree_step (Meta-F.And v) = and_of (trees_in v.items)
tree_step (Meta-F.Or v) = or_of (trees_in v.items)
tree_step (Meta-F.Optional b) = optional b.value
tree_step (Meta-F.Required b) = required b.value
tree_step (Meta-F.Adjacent b) = adjacent b.value
tree_step (Meta-F.Item b) = item b.value
tree_step (Meta-F.Many b) = many b.value
tree_step (Meta-F.Subsection b d) = subsection b.value d.value
tree_step (Meta-F.Suffix b d) = suffix b.value d.value
tree_step Meta-F.Skip = skip
tree_step (Meta-F.CustomUsage b d) = custom_usage b.value d.value
tree_step (Meta-F.Strict b) = strict b.value

abbrev pub head_step : {A : Type 0} → Info-F A Leaf Tree Head → Head
head_step i = head i.descr i.header i.footer i.usage i.help

abbrev pub leaf_of : {A : Type 0} → Item A → Leaf
leaf_of {A} = fold-Item A Leaf Tree Head leaf_step tree_step head_step

abbrev pub tree_of : {A : Type 0} → Meta A → Tree
tree_of {A} = fold-Meta A Leaf Tree Head leaf_step tree_step head_step

abbrev pub head_of : {A : Type 0} → Info A → Head
head_of {A} = fold-Info A Leaf Tree Head leaf_step tree_step head_step

abbrev pub trees_of : {A : Type 0} → List (Meta A) → Trees
trees_of ms = trees_in (map tree_of ms)
