-- What holds of the documents of a tree holds of those of its normal form, and what all its writes keep a usage line
-- keeps: a well-nested document stays well nested.
use Rattle.std.proofs.Common.{ℕ, Bool, true, false, List, [], ◌∷◌, ◌++◌, sym, refl, subst, arith}
use Rattle.std.specs.Prelude.{if◌then◌else◌, flat_map, chars}
use Rattle.std.specs.List.{list_all}
use Rattle.bpaf_doc.specs.declared.buffer.Style.{Style}
use Rattle.bpaf_doc.specs.declared.buffer.Block.TheVariants.{Mono, InlineBlock}
use Rattle.bpaf_doc.specs.Buffer.Parts.{Part, IsWellNested, nothing}
use Rattle.bpaf_doc.specs.Buffer.Writes.{Write, text, plain, literal, with_writes, doc_writes, inside}
use Rattle.bpaf_doc.proofs.lemmas.Buffer.Nesting.{IsWellNested-with_text, IsWellNested-in_block, IsWellNested-inside}
use Rattle.bpaf_meta.specs.Content.{Name, Tree, and_of, or_of, optional, required, adjacent, item, many, subsection, suffix, skip, custom_usage, strict, Trees, no_trees, tree, Leaf, any, positional, command, flag, argument}
use Rattle.bpaf_meta.specs.Meta.Normal.{State, pull, without_skips, with_first_command, item_form, strict_if_asked, state_after, state_out, normal_form, and_parts, or_parts, outer_form, normalized}
use Rattle.bpaf_meta.specs.Usage.Nested.{HoldsDoc, HoldsDocs, EachHoldsDocs, HasNestedDoc, HasNestedDocs}
use Rattle.bpaf_meta.specs.Usage.Writes.{is_bare_character, metavar_writes, name_writes, item_writes, separated, tree_writes, part_writes}
use Rattle.bpaf_meta.proofs.lemmas.Normal.Parts.{first_each}
use Rattle.bpaf_meta.proofs.lemmas.Usage.Written.{with_writes-append}

-- the normal form writes no other documents
module _ (D : List Part → Type 0) where
  shown_hold : (ts : Trees) → EachHoldsDocs D ts → EachHoldsDocs D (without_skips ts)
  shown_hold no_trees h = tt
  shown_hold (tree x ts) h = grind (arith, shown_hold ts h.1)

  first_hold : (ts : Trees) → EachHoldsDocs D ts → EachHoldsDocs D (with_first_command ts)
  first_hold = first_each (HoldsDocs D) (EachHoldsDocs D) (λ t ts h. h) (λ t ts h. h)

  item_form_hold : (u : Bool) (l : Leaf) → HoldsDoc D l → HoldsDoc D (item_form u l)
  item_form_hold u l h2 = grind arith

  guarded_hold : (r g : State) (t : Tree) → HoldsDocs D t → HoldsDocs D (strict_if_asked r g t)
  guarded_hold r g t h3 = grind arith

  mutual
    normal_hold : (u : Bool) (s : State) (t : Tree) → HoldsDocs D t → HoldsDocs D (normal_form u s t)
    normal_hold u s (and_of ts) h = grind (arith, shown_hold (and_parts u s ts) (and_hold u s ts h))
    normal_hold u s (or_of ts) h = grind (arith, first_hold (without_skips (or_parts u s s ts)) (shown_hold (or_parts u s s ts) (or_hold u s s ts h)))
    normal_hold u s (optional t) h = grind (arith, normal_hold u s t h)
    normal_hold u s (required t) h = grind (arith, normal_hold u s t h)
    normal_hold u s (adjacent t) h = normal_hold u s t h
    normal_hold u s (item l) h = item_form_hold u l h
    normal_hold u s (many t) h = grind (arith, normal_hold u s t h)
    normal_hold u s (subsection t d) h = normal_hold u s t h
    normal_hold u s (suffix t d) h = normal_hold u s t h
    normal_hold u s skip h = tt
    normal_hold u s (custom_usage t d) h = grind (arith, normal_hold u s t h.1)
    normal_hold u s (strict t) h = normal_hold u s t h

    and_hold : (u : Bool) (r : State) (ts : Trees) → EachHoldsDocs D ts → EachHoldsDocs D (and_parts u r ts)
    and_hold u r no_trees h = tt
    and_hold u r (tree t ts) h = (guarded_hold r (state_out r t) (normal_form u r t) (normal_hold u r t h.0), and_hold u (state_after r (state_out r t)) ts h.1)

    or_hold : (u : Bool) (s f : State) (ts : Trees) → EachHoldsDocs D ts → EachHoldsDocs D (or_parts u s f ts)
    or_hold u s f no_trees h = tt
    or_hold u s f (tree t ts) h = (guarded_hold f (state_out s t) (normal_form u s t) (normal_hold u s t h.0), or_hold u s (state_after f (state_out s t)) ts h.1)

  last_hold : (s : State) (t : Tree) → HoldsDocs D t → HoldsDocs D (strict_if_asked pull s t)
  last_hold s t h2 = grind arith

  pub normalized_hold : (u : Bool) (t : Tree) → HoldsDocs D t → HoldsDocs D (normalized u t)
  normalized_hold u t h = last_hold (state_out pull t) (outer_form (normal_form u pull t)) (grind (arith, normal_hold u pull t h))

-- What holds of nothing, of one text, of writes one after another and of each document holds of all that a tree writes.
module _ (K : List Write → Type 0) (one : (bytes : List ℕ) (style : Style) → K (text bytes style ∷ [])) (both : (vs ws : List Write) → K vs → K ws → K (vs ++ ws)) where
  metavar_by : (b : Bool) (name : List ℕ) (style : Style) (front back : List ℕ) → K (if b then text name style ∷ [] else text front style ∷ text name style ∷ text back style ∷ [])
  metavar_by true name style front back = one name style
  metavar_by false name style front back = both (text front style ∷ []) (text name style ∷ text back style ∷ []) (one front style) (both (text name style ∷ []) (text back style ∷ []) (one name style) (one back style))

  pub metavar_holds : (name : List ℕ) → K (metavar_writes name)
  metavar_holds name = metavar_by (list_all is_bare_character (chars name)) name _ _ _

  pub name_holds : (n : Name) → K (name_writes n)
  name_holds n = grind arith

  between_holds : (front back : List ℕ) (ws : List Write) → K ws → K (plain front ∷ ws ++ plain back ∷ [])
  between_holds front back ws f = both (plain front ∷ ws) (plain back ∷ []) (both (plain front ∷ []) ws (one _ _) f) (one _ _)

  module _ (nothing : K []) where
    abbrev EachKept : List (List Write) → Type 0
    EachKept [] = Unit {0}
    EachKept (ws ∷ wss) = K ws × EachKept wss

    later_hold : (bytes : List ℕ) (wss : List (List Write)) → EachKept wss → K (flat_map (λ ws. plain bytes ∷ ws) wss)
    later_hold bytes [] f = nothing
    later_hold bytes (ws ∷ wss) f = both (plain bytes ∷ ws) (flat_map (λ ws. plain bytes ∷ ws) wss) (both (plain bytes ∷ []) ws (one _ _) f.0) (later_hold bytes wss f.1)

    separated_hold : (bytes : List ℕ) (wss : List (List Write)) → EachKept wss → K (separated bytes wss)
    separated_hold bytes [] f = nothing
    separated_hold bytes (ws ∷ wss) f = both ws (flat_map (λ ws. plain bytes ∷ ws) wss) f.0 (later_hold bytes wss f.1)

    module _ (D : List Part → Type 0) (doc : (d : List Part) → D d → K (doc_writes d)) where
      pub item_holds : (l : Leaf) → HoldsDoc D l → K (item_writes l)
      item_holds (any m a h) k = doc m k
      item_holds (positional m h) k = metavar_holds m
      item_holds (command n c h t i) k = one _ _
      item_holds (flag n s e h) k = name_holds n
      item_holds (argument n s m e h) k = both (name_writes n) (plain _ ∷ metavar_writes m) (name_holds n) (both (plain _ ∷ []) (metavar_writes m) (one _ _) (metavar_holds m))

      mutual
        pub tree_holds : (t : Tree) → HoldsDocs D t → K (tree_writes t)
        tree_holds (and_of ts) h = separated_hold _ (part_writes ts) (parts_hold ts h)
        tree_holds (or_of ts) h = separated_hold _ (part_writes ts) (parts_hold ts h)
        tree_holds (optional t) h = between_holds _ _ (tree_writes t) (tree_holds t h)
        tree_holds (required t) h = between_holds _ _ (tree_writes t) (tree_holds t h)
        tree_holds (adjacent t) h = tree_holds t h
        tree_holds (item l) h = item_holds l h
        tree_holds (many t) h = both (tree_writes t) (plain _ ∷ []) (tree_holds t h) (one _ _)
        tree_holds (subsection t d) h = tree_holds t h
        tree_holds (suffix t d) h = tree_holds t h
        tree_holds skip h = nothing
        tree_holds (custom_usage t d) h = doc d h.0
        tree_holds (strict t) h = both (literal _ ∷ plain _ ∷ []) (tree_writes t) (both (literal _ ∷ []) (plain _ ∷ []) (one _ _) (one _ _)) (tree_holds t h)

        parts_hold : (ts : Trees) → EachHoldsDocs D ts → EachKept (part_writes ts)
        parts_hold no_trees h = tt
        parts_hold (tree t ts) h = (tree_holds t h.0, parts_hold ts h.1)

-- ---- a document stays well nested

pub normalized_nested : (u : Bool) (t : Tree) → HasNestedDocs t → HasNestedDocs (normalized u t)
normalized_nested = normalized_hold IsWellNested

-- writes that keep each document well nested
abbrev KeepNested : List Write → Type 0
KeepNested ws = (ps : List Part) → IsWellNested ps → IsWellNested (with_writes ps ws)

text_keeps : (bytes : List ℕ) (style : Style) → KeepNested (text bytes style ∷ [])
text_keeps bytes style ps h = IsWellNested-with_text bytes style h

both_keep : (vs ws : List Write) → KeepNested vs → KeepNested ws → KeepNested (vs ++ ws)
both_keep vs ws f g ps h = subst IsWellNested (sym (with_writes-append ps vs ws)) (g (with_writes ps vs) (f ps h))

doc_keeps : (d : List Part) → IsWellNested d → KeepNested (doc_writes d)
doc_keeps d k ps h = IsWellNested-in_block InlineBlock ps d h k

pub metavar_keeps : (name : List ℕ) → KeepNested (metavar_writes name)
metavar_keeps = metavar_holds KeepNested text_keeps both_keep

pub name_keeps : (n : Name) → KeepNested (name_writes n)
name_keeps = name_holds KeepNested text_keeps both_keep

pub item_keeps : (l : Leaf) → HasNestedDoc l → KeepNested (item_writes l)
item_keeps = item_holds KeepNested text_keeps both_keep (λ ps h. h) IsWellNested doc_keeps

pub form_keeps : (t : Tree) → HasNestedDocs t → KeepNested (inside Mono (tree_writes t))
form_keeps t h ps k = IsWellNested-inside Mono ps (tree_writes t) k (tree_holds KeepNested text_keeps both_keep (λ ps h. h) IsWellNested doc_keeps t h [] (nothing refl))
