-- The commands of an item list are those of the tree.
use Rattle.std.proofs.Common.{◌≡◌, Bool, true, false, ℕ, List, [], ◌∷◌, ◌++◌, refl, sym, ◌∙◌, arith}
use Rattle.std.specs.Prelude.{Option, Some, None, flat_map}
use Rattle.std.proofs.lemmas.List.{append-nil}
use Rattle.std.proofs.lemmas.Grind.{flat_map-append}
use Rattle.bpaf_doc.specs.Buffer.Parts.{Part}
use Rattle.bpaf_meta.specs.Content.{Tree, and_of, or_of, optional, required, adjacent, item, many, subsection, suffix, skip, custom_usage, strict, Trees, no_trees, tree, Leaf}
use Rattle.bpaf_items.proofs.Steps.Fronts.{none_first, none_second}
use Rattle.bpaf_items.specs.declared.meta_help.entry.HiTy.{HiTy}
use Rattle.bpaf_items.specs.Listing.ItemList.{Entry, note, group_end, adjacent_stop, front_type, first_front_type, item_entries, entries_of, entries_of_parts, adjacent_start, group_start, if_typed}
use Rattle.bpaf_help.specs.Chapters.{Chapter, command_chapters, part_chapters, item_chapters, entry_chapters, ChaptersAreListed}

-- the chapters of a list with one more entry that is not a command
marked : (path : List (List ℕ)) (es : List Entry) (e : Entry) → entry_chapters path e ≡ [] → flat_map (entry_chapters path) (es ++ e ∷ []) ≡ flat_map (entry_chapters path) es
marked path es e none = grind (arith, flat_map-append, append-nil)

item_list_chapters : (path : List (List ℕ)) (l : Leaf) → flat_map (entry_chapters path) (item_entries l) ≡ item_chapters path l
item_list_chapters path l = grind (arith, append-nil)

adjacent_chapters : (path : List (List ℕ)) (o : Option HiTy) (t : Tree) (es : List Entry) (ss : List Chapter) → (o ≡ None → ss ≡ []) → flat_map (entry_chapters path) es ≡ ss → flat_map (entry_chapters path) (if_typed o (λ k. adjacent_start t k ∷ es ++ adjacent_stop k ∷ [])) ≡ ss
adjacent_chapters path None t es ss f e = sym (f refl)
adjacent_chapters path (Some k) t es ss f e = marked path es (adjacent_stop k) refl ∙ e

group_chapters : (path : List (List ℕ)) (o : Option HiTy) (d : List Part) (es : List Entry) (ss : List Chapter) → (o ≡ None → ss ≡ []) → flat_map (entry_chapters path) es ≡ ss → flat_map (entry_chapters path) (if_typed o (λ k. group_start d k ∷ es ++ group_end k ∷ [])) ≡ ss
group_chapters path None d es ss f e = sym (f refl)
group_chapters path (Some k) d es ss f e = marked path es (group_end k) refl ∙ e

noted_chapters : (path : List (List ℕ)) (o : Option HiTy) (d : List Part) (es : List Entry) (ss : List Chapter) → (o ≡ None → ss ≡ []) → flat_map (entry_chapters path) es ≡ ss → flat_map (entry_chapters path) (if_typed o (λ k. es ++ note d k ∷ [])) ≡ ss
noted_chapters path None d es ss f e = sym (f refl)
noted_chapters path (Some k) d es ss f e = marked path es (note d k) refl ∙ e

typed_chapters : (path : List (List ℕ)) (o : Option HiTy) (es : List Entry) (ss : List Chapter) → (o ≡ None → ss ≡ []) → flat_map (entry_chapters path) es ≡ ss → flat_map (entry_chapters path) (if_typed o (λ k. es)) ≡ ss
typed_chapters path o es ss h4 h5 = grind arith

block_chapters : (path : List (List ℕ)) (g : Bool) (t : Tree) (d : List Part) → (front_type t ≡ None → command_chapters path t ≡ []) → flat_map (entry_chapters path) (entries_of false t) ≡ command_chapters path t
    → flat_map (entry_chapters path) (entries_of g (subsection t d)) ≡ command_chapters path t
block_chapters path true t d f e = group_chapters path (front_type t) d (entries_of false t) (command_chapters path t) f e
block_chapters path false t d f e = typed_chapters path (front_type t) (entries_of false t) (command_chapters path t) f e

mutual
  -- and there are none where no entry is a command
  tree_chapters : (path : List (List ℕ)) (t : Tree) → (front_type t ≡ None → command_chapters path t ≡ []) × ((g : Bool) → flat_map (entry_chapters path) (entries_of g t) ≡ command_chapters path t)
  tree_chapters path (and_of ts) = parts_chapters path ts
  tree_chapters path (or_of ts) = parts_chapters path ts
  tree_chapters path (optional t) = tree_chapters path t
  tree_chapters path (required t) = tree_chapters path t
  tree_chapters path (adjacent t) =
      let h = tree_chapters path t in
      (h.0, λ g. adjacent_chapters path (front_type t) t (entries_of g t) (command_chapters path t) h.0 (h.1 g))
  tree_chapters path (item l) = (λ e. cc, λ g. item_list_chapters path l)
  tree_chapters path (many t) = tree_chapters path t
  tree_chapters path (subsection t d) =
      let h = tree_chapters path t in
      (h.0, λ g. block_chapters path g t d h.0 (h.1 false))
  tree_chapters path (suffix t d) =
      let h = tree_chapters path t in
      (h.0, λ g. noted_chapters path (front_type t) d (entries_of g t) (command_chapters path t) h.0 (h.1 g))
  tree_chapters path skip = (λ e. refl, λ g. refl)
  tree_chapters path (custom_usage t d) = tree_chapters path t
  tree_chapters path (strict t) = tree_chapters path t

  parts_chapters : (path : List (List ℕ)) (ts : Trees) → (first_front_type ts ≡ None → part_chapters path ts ≡ []) × ((g : Bool) → flat_map (entry_chapters path) (entries_of_parts g ts) ≡ part_chapters path ts)
  parts_chapters path no_trees = (λ e. refl, λ g. refl)
  parts_chapters path (tree t ts) = grind (arith, parts_chapters path ts, tree_chapters path t, none_first (front_type t) (first_front_type ts), none_second (front_type t) (first_front_type ts), flat_map-append (entry_chapters path))

pub chapters_are_listed : ChaptersAreListed
chapters_are_listed path t = (tree_chapters path t).1 true
