-- Pages of well-nested texts are well nested.
use Rattle.std.specs.Prelude.{if◌then◌else◌, ◌++◌, ◌∷◌, ◌≡◌, ◌⊎◌}
use Rattle.bpaf_items.proofs.Words.{ℕ, Bool, true, false, inl, inr, List, [], map, refl, sym, ap, ◌∙◌, subst, append_assoc, append-nil, arith, filter, flat_map, count_by, All, codes, Option, Some, None, or_parts, list_any, range_with_len, flat_map-append, common_steps, All-nil, All-cons, All-append, All-push, All-head, All-tail, Style, Part, IsWellNested, nothing, Write, text, with_write, with_writes, document_of, doc_writes, em_doc_writes, path_writes, inside, Name, both, Tree, and_of, or_of, optional, required, adjacent, item, many, subsection, suffix, skip, custom_usage, strict, Trees, no_trees, tree, Leaf, any, positional, command, flag, argument, Head, head, metavar_writes, usage_writes, with_writes-append, HiTy, Entry, listed, note, group_start, group_end, adjacent_start, adjacent_stop, front_type, item_entries, entries_of, entries_of_parts, item_list, IsItemList, Placed, placed_after, is_group_mark, is_group_start, destination, is_heading, is_shown, shown_entries, group_members, heading_members, Texts, term, help_writes, names_writes, command_writes, env_body, env_term, env_writes, flag_env_text, argument_env_text, listed_writes, entry_writes, list_writes, heading_writes, groups_writes, doc_within, usage_line_writes, help_page_writes, IsNestedText, HasNestedText, HasNestedTexts, EachHasNestedTexts, HasNestedHead, HasNestedEntry, KeepsNested, ItemListsAreNested, GroupsAreNested, HelpPagesAreNested, if_typed}
use Rattle.bpaf_doc.specs.declared.buffer.Style.TheVariants as style
use Rattle.bpaf_doc.specs.declared.buffer.Block.{Block}
use Rattle.bpaf_doc.specs.declared.buffer.Block.TheVariants as block
use Rattle.bpaf_doc.proofs.lemmas.Buffer.Nesting.{IsWellNested-with_text, IsWellNested-in_block, IsWellNested-inside, IsWellNested-em_doc, IsWellNested-path}
use Rattle.bpaf_meta.specs.Usage.Nested.{HasNestedDoc, HasNestedDocs, EachHasNestedDocs}
use Rattle.bpaf_meta.specs.Meta.Normal.{normalized}
use Rattle.bpaf_meta.proofs.lemmas.Usage.Nested.{normalized_nested, metavar_keeps, form_keeps}
use Rattle.bpaf_items.specs.declared.meta_help.entry.HiTy.TheVariants as ty
use Rattle.bpaf_items.proofs.Listing.Placing.{entry, chosen-append}
use Rattle.bpaf_items.proofs.Listing.Blocks.{item_list_blocks}
use Rattle.bpaf_items.proofs.Listing.Headings.{group_no_heading}
use Rattle.bpaf_items.proofs.Listing.PairedGroups.{blocks_paired, IsWholeGroup, group_whole, part_all, part_clear}

-- ---- what keeps a document well nested

pub record Keeps (ws : List Write) : Type 0 where
  pub nested : KeepsNested ws

pub nothing_keeps : Keeps []
nothing_keeps = record { nested = λ ps h. h }

pub text_then : (bytes : List ℕ) (style : Style) {ws : List Write} → Keeps ws → Keeps (text bytes style ∷ ws)
text_then bytes style f = record { nested = λ ps h. f.nested (with_write ps (text bytes style)) (IsWellNested-with_text bytes style h) }

pub both_keep : {vs ws : List Write} → Keeps vs → Keeps ws → Keeps (vs ++ ws)
both_keep {vs} {ws} f g = record { nested = λ ps h. subst IsWellNested (sym (with_writes-append ps vs ws)) (g.nested (with_writes ps vs) (f.nested ps h)) }

pub doc_keeps : (d : List Part) → IsWellNested d → Keeps (doc_writes d)
doc_keeps d k = record { nested = λ ps h. IsWellNested-in_block block.InlineBlock ps d h k }

em_doc_keeps : (d : List Part) → IsWellNested d → Keeps (em_doc_writes d)
em_doc_keeps d k = record { nested = λ ps h. IsWellNested-em_doc ps d h k }

pub path_keeps : (path : List (List ℕ)) → Keeps (path_writes path)
path_keeps path = record { nested = λ ps h. IsWellNested-path path ps h }

pub inside_keeps : (b : Block) {ws : List Write} → Keeps ws → Keeps (inside b ws)
inside_keeps b {ws} f = record { nested = λ ps h. IsWellNested-inside b ps ws h (f.nested [] (nothing refl)) }

pub written_keeps : {ws : List Write} → Keeps ws → IsWellNested (document_of ws)
written_keeps f = f.nested [] (nothing refl)

pub usage_keeps : (t : Tree) → HasNestedDocs t → Keeps (usage_writes true t)
usage_keeps t h = record { nested = form_keeps (normalized true t) (normalized_nested true t h) }

value_keeps : (m : List ℕ) → Keeps (metavar_writes m)
value_keeps m = record { nested = metavar_keeps m }

pub each_keeps : {X : Type 0} (P : X → Type 0) (f : X → List Write) → ((x : X) → P x → Keeps (f x)) → (xs : List X) → All P xs → Keeps (flat_map f xs)
each_keeps P f k [] h = nothing_keeps
each_keeps P f k (x ∷ xs) h = both_keep (k x (All-head P x xs h)) (each_keeps P f k xs (All-tail P x xs h))

-- ---- a tree's texts, and the entries of its list

help_nested : (l : Leaf) → HasNestedText l → HasNestedDoc l
help_nested l h1 = grind arith

mutual
  pub docs_nested : (t : Tree) → HasNestedTexts t → HasNestedDocs t
  docs_nested (and_of ts) h = each_docs_nested ts h
  docs_nested (or_of ts) h = each_docs_nested ts h
  docs_nested (optional t) h = docs_nested t h
  docs_nested (required t) h = docs_nested t h
  docs_nested (adjacent t) h = docs_nested t h
  docs_nested (item l) h = help_nested l h
  docs_nested (many t) h = docs_nested t h
  docs_nested (subsection t d) h = docs_nested t h.1
  docs_nested (suffix t d) h = docs_nested t h.1
  docs_nested skip h = tt
  docs_nested (custom_usage t d) h = (h.0, docs_nested t h.1)
  docs_nested (strict t) h = docs_nested t h

  each_docs_nested : (ts : Trees) → EachHasNestedTexts ts → EachHasNestedDocs ts
  each_docs_nested no_trees h = tt
  each_docs_nested (tree t ts) h = (docs_nested t h.0, each_docs_nested ts h.1)

abbrev Nested : List Entry → Type 0
Nested es = All HasNestedEntry es

more_nested : (es : List Entry) (e : Entry) → Nested es → HasNestedEntry e → Nested (es ++ e ∷ [])
more_nested es e h k = All-push HasNestedEntry es e h k

item_nested : (l : Leaf) → HasNestedText l → Nested (item_entries l)
item_nested l h1 = grind (arith, All-nil, All-cons)

adjacent_nested : (o : Option HiTy) (t : Tree) (es : List Entry) → HasNestedDocs t → Nested es → Nested (if_typed o (λ k. adjacent_start t k ∷ es ++ adjacent_stop k ∷ []))
adjacent_nested o t es h3 h4 = grind (arith, All-nil, All-cons, more_nested)

group_nested : (o : Option HiTy) (d : List Part) (es : List Entry) → IsWellNested d → Nested es → Nested (if_typed o (λ k. group_start d k ∷ es ++ group_end k ∷ []))
group_nested o d es h3 h4 = grind (arith, All-nil, All-cons, more_nested)

noted_nested : (o : Option HiTy) (d : List Part) (es : List Entry) → IsWellNested d → Nested es → Nested (if_typed o (λ k. es ++ note d k ∷ []))
noted_nested o d es h3 h4 = grind (arith, All-nil, more_nested)

typed_nested : (o : Option HiTy) (es : List Entry) → Nested es → Nested (if_typed o (λ k. es))
typed_nested o es h2 = grind (arith, All-nil)

mutual
  tree_nested : (g : Bool) (t : Tree) → HasNestedTexts t → Nested (entries_of g t)
  tree_nested g (and_of ts) h = parts_nested g ts h
  tree_nested g (or_of ts) h = parts_nested g ts h
  tree_nested g (optional t) h = tree_nested g t h
  tree_nested g (required t) h = tree_nested g t h
  tree_nested g (adjacent t) h = adjacent_nested (front_type t) t (entries_of g t) (docs_nested t h) (tree_nested g t h)
  tree_nested g (item l) h = item_nested l h
  tree_nested g (many t) h = tree_nested g t h
  tree_nested true (subsection t d) h = group_nested (front_type t) d (entries_of false t) h.0 (tree_nested false t h.1)
  tree_nested false (subsection t d) h = typed_nested (front_type t) (entries_of false t) (tree_nested false t h.1)
  tree_nested g (suffix t d) h = noted_nested (front_type t) d (entries_of g t) h.0 (tree_nested g t h.1)
  tree_nested g skip h = All-nil HasNestedEntry
  tree_nested g (custom_usage t d) h = tree_nested g t h.1
  tree_nested g (strict t) h = tree_nested g t h

  parts_nested : (g : Bool) (ts : Trees) → EachHasNestedTexts ts → Nested (entries_of_parts g ts)
  parts_nested g no_trees h = All-nil HasNestedEntry
  parts_nested g (tree t ts) h = All-append HasNestedEntry (entries_of g t) (entries_of_parts g ts) (tree_nested g t h.0) (parts_nested g ts h.1)

pub item_lists_are_nested : ItemListsAreNested
item_lists_are_nested t h = tree_nested true t h

-- ---- entries

help_keeps : (h : Option (List Part)) → IsNestedText h → Keeps (help_writes h)
help_keeps None k = nothing_keeps
help_keeps (Some d) k = inside_keeps block.ItemBody (doc_keeps d k)

names_keep : (n : Name) → Keeps (names_writes n)
names_keep (both c n) = text_then _ _ (text_then _ _ (text_then _ _ nothing_keeps))
names_keep n = text_then _ _ nothing_keeps

command_keeps : (n : List ℕ) (c : Option ℕ) → Keeps (command_writes n c)
command_keeps n None = text_then _ _ nothing_keeps
command_keeps n (Some c) = text_then _ _ (text_then _ _ (text_then _ _ nothing_keeps))

env_body_keeps : (included : Bool) (n s : List ℕ) → Keeps (env_body included n s)
env_body_keeps true n s = text_then _ _ nothing_keeps
env_body_keeps false n s = text_then _ _ (text_then _ _ nothing_keeps)

env_term_keeps : (h : Option (List Part)) → Keeps (env_term h)
env_term_keeps None = nothing_keeps
env_term_keeps (Some d) = inside_keeps block.ItemTerm nothing_keeps

env_keeps : (included : Bool) (f : List ℕ → List ℕ) (h : Option (List Part)) (e : Option (List ℕ)) → Keeps (env_writes included f h e)
env_keeps included f h None = nothing_keeps
env_keeps included f h (Some n) = both_keep (env_term_keeps h) (inside_keeps block.ItemBody (env_body_keeps included n (f n)))

with_help : {ws : List Write} (h : Option (List Part)) → Keeps ws → IsNestedText h → Keeps (term ws ++ help_writes h)
with_help h f k = both_keep (inside_keeps block.ItemTerm f) (help_keeps h k)

listed_keeps : (included : Bool) (texts : Texts) (l : Leaf) → HasNestedText l → Keeps (listed_writes included texts l)
listed_keeps included texts (any m a h) k = with_help h (doc_keeps m k.0) k.1
listed_keeps included texts (positional m h) k = with_help h (value_keeps m) k
listed_keeps included texts (command n c h t i) k = with_help h (command_keeps n c) k
listed_keeps included texts (flag n s e h) k = both_keep (with_help h (names_keep n) k) (env_keeps included (λ v. flag_env_text v (texts v)) h e)
listed_keeps included texts (argument n s m e h) k = both_keep (with_help h (both_keep (names_keep n) (text_then (codes "=") style.Text (value_keeps m))) k) (env_keeps included (λ v. argument_env_text v (texts v)) h e)

-- an entry that is not a group mark
entry_keeps : (included : Bool) (texts : Texts) (e : Entry) → is_group_mark e ≡ false → HasNestedEntry e → Keeps (entry_writes included texts e)
entry_keeps included texts (listed l) n k = listed_keeps included texts l k
entry_keeps included texts (note d j) n k = both_keep (inside_keeps block.ItemTerm nothing_keeps) (inside_keeps block.ItemBody (doc_keeps d k))
entry_keeps included texts (adjacent_start t j) n k = inside_keeps block.Section4 (usage_keeps t k)
entry_keeps included texts (adjacent_stop j) n k = inside_keeps block.Block nothing_keeps
entry_keeps included texts e n k = cc

entries_keep : (included : Bool) (texts : Texts) (es : List Entry) → list_any is_group_mark es ≡ false → Nested es → Keeps (flat_map (entry_writes included texts) es)
entries_keep included texts [] n h = nothing_keeps
entries_keep included texts (e ∷ es) n h =
    both_keep (entry_keeps included texts e (or_parts (is_group_mark e) (list_any is_group_mark es) n).0 (All-head HasNestedEntry e es h))
    (entries_keep included texts es (or_parts (is_group_mark e) (list_any is_group_mark es) n).1 (All-tail HasNestedEntry e es h))

list_keeps : (included : Bool) (texts : Texts) (es : List Entry) → list_any is_group_mark es ≡ false → Nested es → Keeps (list_writes included texts es)
list_keeps included texts es n h = entries_keep included texts (shown_entries es) (part_clear is_shown [] es n) (part_all HasNestedEntry is_shown [] es h)

-- ---- groups

shown_group : (d : List Part) (j k : HiTy) (inner : List Entry) → shown_entries (group_start d j ∷ (inner ++ group_end k ∷ [])) ≡ group_start d j ∷ (map entry (filter is_shown (placed_after (group_start d j ∷ []) inner)) ++ group_end k ∷ [])
shown_group d j k inner = ap (λ xs. group_start d j ∷ xs) (chosen-append is_shown (group_start d j ∷ []) inner (group_end k ∷ []))

group_writes_are : (included : Bool) (texts : Texts) (d : List Part) (j k : HiTy) (es : List Entry)
    → flat_map (entry_writes included texts) (group_start d j ∷ (es ++ group_end k ∷ []))
    ≡ inside block.Block (inside block.Section2 (em_doc_writes d) ++ inside block.DefinitionList (flat_map (entry_writes included texts) es))
group_writes_are included texts d j k es = grind (arith, flat_map-append, append_assoc)

whole_keeps : (included : Bool) (texts : Texts) (es : List Entry) → IsWholeGroup HasNestedEntry es → Keeps (list_writes included texts es)
whole_keeps included texts es w =
    let mid : List Entry = map entry (filter is_shown (placed_after (group_start w.title w.first ∷ []) w.inner)) in
    let is : list_writes included texts es ≡ inside block.Block (inside block.Section2 (em_doc_writes w.title) ++ inside block.DefinitionList (flat_map (entry_writes included texts) mid))
    = ap (list_writes included texts) w.order ∙ ap (flat_map (entry_writes included texts)) (shown_group w.title w.first w.last w.inner) ∙ group_writes_are included texts w.title w.first w.last mid in
    let held : Keeps (flat_map (entry_writes included texts) mid)
    = entries_keep included texts mid (part_clear is_shown (group_start w.title w.first ∷ []) w.inner w.clear) (part_all HasNestedEntry is_shown (group_start w.title w.first ∷ []) w.inner w.each) in
    subst Keeps (sym is) (inside_keeps block.Block (both_keep (inside_keeps block.Section2 (em_doc_keeps w.title w.begins)) (inside_keeps block.DefinitionList held)))

group_keeps : (included : Bool) (texts : Texts) (es : List Entry) → IsItemList es → Nested es → (n : ℕ) → Keeps (list_writes included texts (group_members es n))
group_keeps included texts es is h n = by (group_members es n) (group_whole HasNestedEntry (blocks_paired (item_list_blocks es is) refl) h [] n refl) where
  by : (ms : List Entry) → (ms ≡ []) ⊎ IsWholeGroup HasNestedEntry ms → Keeps (list_writes included texts ms)
  by ms (inl e) = rw e nothing_keeps
  by ms (inr w) = whole_keeps included texts ms w

-- ---- headings

mark_no_heading : (k : HiTy) (p : Placed) → is_group_mark p.1 ≡ true → is_heading k (destination p) ≡ false
mark_no_heading k p h = rw h (group_no_heading k p)

-- no group mark falls under a heading
clear_step : (k : HiTy) (b : Bool) (p : Placed) (ps : List Placed) → is_group_mark p.1 ≡ b → list_any is_group_mark (map entry ps) ≡ false → list_any is_group_mark (map entry (if is_heading k (destination p) then p ∷ ps else ps)) ≡ false
clear_step k true p ps h rest = rw (mark_no_heading k p h) rest
clear_step k false p ps h rest = grind (arith, common_steps)

heading_clear : (k : HiTy) (before es : List Entry) → list_any is_group_mark (map entry (filter (λ p. is_heading k (destination p)) (placed_after before es))) ≡ false
heading_clear k before [] = refl
heading_clear k before (e ∷ es) = clear_step k (is_group_mark e) (before, e) (filter (λ p. is_heading k (destination p)) (placed_after (before ++ e ∷ []) es)) refl (heading_clear k (before ++ e ∷ []) es)

titled_keeps : (included : Bool) (texts : Texts) (title : List ℕ) (es : List Entry) → list_any is_group_mark es ≡ false → Nested es → Keeps (heading_writes included texts title es)
titled_keeps included texts title [] n h = nothing_keeps
titled_keeps included texts title (e ∷ es) n h =
    inside_keeps block.Block (both_keep (inside_keeps block.Section2 (text_then title style.Emphasis nothing_keeps)) (inside_keeps block.DefinitionList (list_keeps included texts (e ∷ es) n h)))

heading_keeps : (included : Bool) (texts : Texts) (title : List ℕ) (es : List Entry) (k : HiTy) → Nested es → Keeps (heading_writes included texts title (heading_members es k))
heading_keeps included texts title es k h = titled_keeps included texts title (heading_members es k) (heading_clear k [] es) (part_all HasNestedEntry (λ p. is_heading k (destination p)) [] es h)

groups_keep : (included : Bool) (texts : Texts) (es : List Entry) → IsItemList es → Nested es → Keeps (groups_writes included texts es)
groups_keep included texts es is h =
    both_keep
    (each_keeps (λ n. Unit {0}) (λ n. list_writes included texts (group_members es n)) (λ n one. group_keeps included texts es is h n) (range_with_len 1 (count_by is_group_start es)) (λ i n l. tt))
    (both_keep (both_keep
    (heading_keeps included texts (codes "Available positional items:") es ty.Positional h)
    (heading_keeps included texts (codes "Available options:") es ty.Flag h))
    (heading_keeps included texts (codes "Available commands:") es ty.Command h))

pub groups_are_nested : GroupsAreNested
groups_are_nested included texts es is h = (groups_keep included texts es is h).nested

-- ---- pages

two_lists : (t help : Tree) → IsItemList (item_list t ++ item_list help)
two_lists t help = (t ∷ help ∷ [], ap (λ es. item_list t ++ es) (sym (append-nil (item_list help))))

pub two_keep : (included : Bool) (texts : Texts) (t help : Tree) → HasNestedTexts t → HasNestedTexts help → Keeps (groups_writes included texts (item_list t ++ item_list help))
two_keep included texts t help h k = grind (arith, groups_keep included texts (item_list t ++ item_list help), two_lists t help, All-append HasNestedEntry (item_list t) (item_list help), tree_nested true t h, tree_nested true help k)

pub within_keeps : (d : Option (List Part)) → IsNestedText d → Keeps (doc_within block.Block d)
within_keeps None h = nothing_keeps
within_keeps (Some d) h = inside_keeps block.Block (doc_keeps d h)

usage_line_keeps : (path : List (List ℕ)) (d : Option (List Part)) (t : Tree) → IsNestedText d → HasNestedDocs t → Keeps (usage_line_writes path d t)
usage_line_keeps path (Some d) t h k = doc_keeps d h
usage_line_keeps path None t h k = text_then (codes "Usage") style.Emphasis (text_then (codes ": ") style.Text (inside_keeps block.Mono (both_keep (path_keeps path) (usage_keeps t k))))

page_keeps : (path : List (List ℕ)) (i : Head) (t help : Tree) (included : Bool) (texts : Texts) → HasNestedHead i → HasNestedTexts t → HasNestedTexts help → Keeps (help_page_writes path i t help included texts)
page_keeps path (head descr header footer usage own) t help included texts h k l =
    both_keep (both_keep (both_keep (both_keep
    (within_keeps descr h.0)
    (inside_keeps block.Block (usage_line_keeps path usage t h.3 (docs_nested t k))))
    (within_keeps header h.1))
    (two_keep included texts t help k l))
    (within_keeps footer h.2)

pub help_pages_are_nested : HelpPagesAreNested
help_pages_are_nested path i t help included texts h k l = written_keeps (page_keeps path i t help included texts h k l)

-- and written after what a document holds
pub help_pages_keep : (path : List (List ℕ)) (i : Head) (t help : Tree) (included : Bool) (texts : Texts) → HasNestedHead i → HasNestedTexts t → HasNestedTexts help → KeepsNested (help_page_writes path i t help included texts)
help_pages_keep path i t help included texts h k l = (page_keeps path i t help included texts h k l).nested
