-- The definitions at small trees.
use Rattle.std.specs.Prelude.{◌≡◌, true, false, List, [], ◌∷◌, refl, codes, None}
use Rattle.std.specs.Str.{chars}
use Rattle.unicode.specs.Binary.{is_uppercase}
use Rattle.ucd_table.specs.Rows.{in_ranges}
use Rattle.ucd_derived.specs.UppercaseRanges.{uppercase_ranges}
use lib.Utf8.{encode}
use Rattle.bpaf_doc.specs.declared.buffer.Style.TheVariants as style
use Rattle.bpaf_doc.specs.declared.buffer.Block.TheVariants as block
use Rattle.bpaf_doc.specs.Buffer.Parts.{Part, Text, Start, End}
use Rattle.bpaf_doc.specs.Buffer.Writes.{document_of, em_doc_writes}
use Rattle.bpaf_meta.specs.Content.{short, both, Tree, and_of, or_of, optional, required, adjacent, item, many, skip, custom_usage, strict, Trees, no_trees, tree, positional, command, flag, argument, Head, head}
use Rattle.bpaf_meta.specs.Meta.Normal.{normalized}
use Rattle.bpaf_meta.specs.Meta.Alternatives.{either_form}
use Rattle.bpaf_meta.specs.Meta.Shorts.{flag_shorts, argument_shorts}
use Rattle.bpaf_meta.specs.Meta.Misplaced.{misplaced_items}
use Rattle.bpaf_meta.specs.Usage.Writes.{usage_writes}
use Rattle.std.proofs.Common.{ap, inl, inr, sym, ◌++◌, ◌∙◌}
use Rattle.std.proofs.lemmas.Bool.{false≢true}
use Rattle.bpaf_meta.specs.Meta.Shape.{HasUsageShape}
use Rattle.bpaf_meta.specs.Meta.Sequences.{Only, Repeated, Shows, ShowsSame, symbol_of, once, again}

abbrev a : Tree
a = item (flag (short 97) [] None None)

abbrev b : Tree
b = item (flag (short 98) [] None None)

abbrev c : Tree
c = item (flag (short 99) [] None None)

abbrev v : Tree
v = item (flag (short 118) [] None None)

abbrev P : Tree
P = item (positional (codes "P") None)

abbrev Q : Tree
Q = item (positional (codes "Q") None)

abbrev FILE : Tree
FILE = item (positional (codes "FILE") None)

abbrev nothing : Head
nothing = head None None None None skip

abbrev x : Tree
x = item (command (codes "x") None None skip nothing)

abbrev y : Tree
y = item (command (codes "y") None None skip nothing)

abbrev two : Tree → Tree → Trees
two t u = tree t (tree u no_trees)

abbrev usage : Tree → List Part
usage t = document_of (usage_writes true t)

-- normal forms: a choice that may be repeated or left out, and its usage line
row_1 : normalized true (optional (many (required (or_of (two a b))))) ≡ many (optional (or_of (two a b)))
    × usage (optional (many (required (or_of (two a b))))) ≡ Start block.Mono ∷ Text (codes "[") style.Text ∷ Text (codes "-a") style.Literal ∷ Text (codes " | ") style.Text ∷ Text (codes "-b") style.Literal ∷ Text (codes "]...") style.Text ∷ End block.Mono ∷ []
unfolding encode
row_1 = (refl, refl)

-- normal forms: `--` goes out of an optional part, one command stands for several,
-- and an empty usage of its own hides what is inside
row_2 : normalized true (and_of (two v (optional (strict FILE)))) ≡ and_of (two v (strict (optional FILE)))
    × normalized true (optional (and_of (tree (strict FILE) no_trees))) ≡ optional (strict FILE)
    × normalized true (or_of (two x y)) ≡ x
    × usage (custom_usage a []) ≡ Start block.Mono ∷ End block.Mono ∷ []
    × usage (and_of (two v (optional (strict FILE)))) ≡ Start block.Mono ∷ Text (codes "-v") style.Literal ∷ Text (codes " ") style.Text ∷ Text (codes "--") style.Literal ∷ Text (codes " [") style.Text ∷ Text (codes "FILE") style.Metavar ∷ Text (codes "]") style.Text ∷ End block.Mono ∷ []
unfolding is_uppercase chars in_ranges uppercase_ranges encode
row_2 = (refl, refl, refl, refl, refl)

-- normal forms: the brackets of a choice and of a sequence; an argument's name for usage and otherwise
row_3 : normalized true (or_of (two a b)) ≡ required (or_of (two a b))
    × normalized true (required (and_of (two a b))) ≡ and_of (two a b)
    × normalized true (and_of (two a (required (and_of (two b c))))) ≡ and_of (two a (required (and_of (two b c))))
    × usage (item (argument (both 115 (codes "speed")) [] (codes "file") None None)) ≡ Start block.Mono ∷ Text (codes "-s") style.Literal ∷ Text (codes "=") style.Text ∷ Text (codes "<file>") style.Metavar ∷ End block.Mono ∷ []
    × document_of (usage_writes false (item (argument (both 115 (codes "speed")) [] (codes "file") None None))) ≡ Start block.Mono ∷ Text (codes "--speed") style.Literal ∷ Text (codes "=") style.Text ∷ Text (codes "<file>") style.Metavar ∷ End block.Mono ∷ []
unfolding is_uppercase chars in_ranges uppercase_ranges encode
row_3 = (refl, refl, refl, refl, refl)

-- normal forms: two strict parts, `--` before nothing, and nested brackets
row_4 : normalized true (and_of (two (strict P) (strict Q))) ≡ and_of (two (strict P) Q)
    × normalized true (and_of (two a (strict skip))) ≡ and_of (two a (strict skip))
    × normalized true (optional (many a)) ≡ optional (many a)
    × normalized true (or_of (tree (optional a) (two x y))) ≡ required (or_of (two (optional a) x))
    × normalized true (many (optional (required (and_of (two a b))))) ≡ many (optional (and_of (two a b)))
row_4 = (refl, refl, refl, refl, refl)

-- normal forms: what comes to nothing
row_5 : normalized true (optional (many (required skip))) ≡ skip
    × normalized false (and_of no_trees) ≡ skip
    × normalized false (or_of (two (and_of no_trees) skip)) ≡ skip
row_5 = (refl, refl, refl)

-- misplaced items of sequences, choices and adjacent blocks
row_9 : misplaced_items (and_of (two FILE v)) ≡ (1, flag (short 118) [] None None) ∷ []
    × misplaced_items (and_of (two (or_of (two a P)) b)) ≡ (2, flag (short 98) [] None None) ∷ []
    × misplaced_items (and_of (two (or_of no_trees) b)) ≡ []
    × misplaced_items (and_of (two (adjacent (and_of (two x P))) b)) ≡ (2, flag (short 98) [] None None) ∷ []
    × misplaced_items (and_of (two (adjacent (and_of (two a P))) b)) ≡ []
row_9 = (refl, refl, refl, refl, refl)

-- an equal item stands first in its line and is not misplaced there
twice : misplaced_items (and_of (tree v (tree P (two b v)))) ≡ (2, flag (short 98) [] None None) ∷ (3, flag (short 118) [] None None) ∷ []
twice = refl

-- a first text as a title
title : document_of (em_doc_writes (Text (codes "Title") style.Text ∷ Text (codes "x") style.Literal ∷ [])) ≡ Start block.InlineBlock ∷ Text (codes "Title") style.Emphasis ∷ Text (codes "x") style.Literal ∷ End block.InlineBlock ∷ []
title = refl

-- nothing is reached in an Adjacent without a first item
unreached : misplaced_items (adjacent (or_of (tree (item (command (codes "x") None None (and_of (two P a)) nothing)) no_trees))) ≡ []
    × misplaced_items (optional (or_of (tree (item (command (codes "x") None None (and_of (two P a)) nothing)) no_trees))) ≡ (2, flag (short 97) [] None None) ∷ []
unreached = (refl, refl)

-- the shape of a normal form, and that a bare Or has none
shaped : HasUsageShape true (required (or_of (two a b)))
shaped = (tt, (tt, tt, (tt, (tt, tt))))

bare : ¬ HasUsageShape true (or_of (two a b))
bare h = h.0

-- one sequence of an optional part and a repeated one
sequence : Shows true (and_of (two (optional a) (many b))) (symbol_of true (flag (short 98) [] None None) ∷ symbol_of true (flag (short 98) [] None None) ∷ [])
sequence = ([], _, refl, inl refl, (_, [], refl, again (_ ∷ []) (_ ∷ []) refl refl (once refl), refl))

-- the law of sequences alone: nothing, and the first of two branches alone
nothing_refused : ShowsSame true skip a → ⊥
nothing_refused h = false≢true (sym h.hidden)

first_branch_refused : ShowsSame true a (or_of (two a P)) → ⊥
first_branch_refused h = let same : symbol_of true (positional (codes "P") None) ∷ [] ≡ symbol_of true (flag (short 97) [] None None) ∷ [] = (h.sequences refl (symbol_of true (positional (codes "P") None) ∷ [])).1 (inr (inl refl)) in cc

-- the law of sequences alone: `Optional(Many(a))` as `Many(a)`, which never shows none
many_refused : ShowsSame true (many a) (optional (many a)) → ⊥
many_refused h = none ((h.sequences refl []).1 (inl refl)) where
  none : Repeated (Only (symbol_of true (flag (short 97) [] None None) ∷ [])) [] → ⊥
  none (once empty) = cc
  none (again front back whole first rest) = let some : [] ≡ symbol_of true (flag (short 97) [] None None) ∷ back = whole ∙ ap (λ xs. xs ++ back) first in cc

-- in usage a CustomUsage takes a `--` with it; outside it stays
lost : normalized true (custom_usage (strict a) (Text (codes "own") style.Text ∷ [])) ≡ strict (custom_usage a (Text (codes "own") style.Text ∷ []))
    × normalized true (and_of (two b (custom_usage (or_of (two (strict a) c)) []))) ≡ b
    × normalized false (and_of (two b (custom_usage (or_of (two (strict a) c)) []))) ≡ and_of (two b (required (or_of (two (strict a) c))))
lost = (refl, refl, refl)

abbrev mixed : Tree
mixed = and_of (tree (item (flag (short 97) (97 ∷ []) None None)) (two (strict (item (flag (short 98) (98 ∷ []) None None))) (item (command (codes "x") None None (item (argument (short 115) (115 ∷ []) (codes "N") None None)) nothing))))

-- alternatives, and short names
row_6 : either_form skip a ≡ a
    × either_form (or_of (tree a no_trees)) b ≡ or_of (two a b)
    × either_form skip skip ≡ skip
    × flag_shorts mixed ≡ 97 ∷ []
    × argument_shorts mixed ≡ 115 ∷ []
row_6 = (refl, refl, refl, refl, refl)
