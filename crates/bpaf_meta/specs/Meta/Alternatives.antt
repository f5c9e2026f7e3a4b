-- The alternatives of two trees.
use Rattle.bpaf_meta.specs.Content.{Tree, or_of, skip, Trees, no_trees, tree}

-- those of an Or are its parts, Skip has none, and any other tree is its own alternative
abbrev pub alternatives : Tree → Trees
alternatives (or_of ts) = ts
alternatives skip = no_trees
alternatives t = tree t no_trees

-- one list of trees after another
abbrev pub trees_then : Trees → Trees → Trees
trees_then no_trees us = us
trees_then (tree t ts) us = tree t (trees_then ts us)

-- none give Skip, one stands alone, more are an Or
abbrev pub choice_form : Trees → Tree
choice_form no_trees = skip
choice_form (tree t no_trees) = t
choice_form (tree t (tree v ts)) = or_of (tree t (tree v ts))

-- the alternatives of both
-- e.g. either_form (or_of (tree a no_trees)) b ≡ or_of (two a b)
abbrev pub either_form : Tree → Tree → Tree
either_form t v = choice_form (trees_then (alternatives t) (alternatives v))
