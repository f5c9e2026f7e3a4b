-- The pages of an application with well-nested texts are well nested.
use Rattle.std.proofs.Common.{ℕ, false, List, [], ◌∷◌, ◌++◌, arith}
use Rattle.std.specs.Prelude.{codes, Option, Some, None}
use Rattle.bpaf_doc.specs.declared.buffer.Style.TheVariants as style
use Rattle.bpaf_doc.specs.declared.buffer.Block.TheVariants as block
use Rattle.bpaf_doc.specs.Buffer.Parts.{Part}
use Rattle.bpaf_doc.specs.Buffer.Writes.{Write, document_of, path_writes, inside}
use Rattle.bpaf_meta.specs.Content.{Tree, Head, head}
use Rattle.bpaf_items.specs.Page.EnvTexts.{no_texts}
use Rattle.bpaf_items.specs.Page.HelpPage.{help_tree}
use Rattle.bpaf_items.specs.Page.NestedTexts.{IsNestedText, HasNestedTexts, HasNestedHead}
use Rattle.bpaf_items.proofs.Page.NestedPages.{Keeps, nothing_keeps, text_then, both_keep, doc_keeps, path_keeps, inside_keeps, written_keeps, usage_keeps, each_keeps, docs_nested, two_keep, within_keeps, help_pages_are_nested}
use Rattle.bpaf_help.specs.Chapters.{Chapter, chapters_of, own_page_writes, summary_line, summary_text, spaced, if_many, chapter_page, synopsis_line, manual_name, manual_chapter}
use Rattle.bpaf_help.specs.NestedPages.{HasNestedChapter, CollectedPagesAreNested, ManualPagesAreNested}

many_keep : (cs : List Chapter) {ws : List Write} → Keeps ws → Keeps (if_many cs ws)
many_keep cs h1 = grind (arith, nothing_keeps)

summary_keeps : (c : Chapter) → HasNestedChapter c → Keeps (summary_line c)
summary_keeps c h = inside_keeps block.ItemBody (text_then (summary_text c.path) style.Text nothing_keeps)

help_tree_nested : (i : Head) → HasNestedHead i → HasNestedTexts (help_tree i)
help_tree_nested (head descr header footer usage help) h = h.4

chapter_keeps : (c : Chapter) → HasNestedChapter c → Keeps (chapter_page c)
chapter_keeps c h =
    both_keep (inside_keeps block.Header (text_then (spaced c.path) style.Text nothing_keeps))
    (doc_keeps (document_of (own_page_writes c)) (help_pages_are_nested c.path c.info c.content (help_tree c.info) false no_texts h.0 h.1 (help_tree_nested c.info h.0)))

pub collected_pages_are_nested : CollectedPagesAreNested
collected_pages_are_nested app t i h =
    let chapters : List Chapter = chapters_of (app ∷ []) i t in
    written_keeps
    (both_keep
    (many_keep chapters (both_keep
    (inside_keeps block.Block (inside_keeps block.Header (text_then (codes "Command summary") style.Text nothing_keeps)))
    (each_keeps HasNestedChapter summary_line summary_keeps chapters h)))
    (each_keeps HasNestedChapter chapter_page chapter_keeps chapters h))

synopsis_keeps : (c : Chapter) → HasNestedChapter c → Keeps (synopsis_line c)
synopsis_keeps c h = both_keep (both_keep (path_keeps c.path) (usage_keeps c.content (docs_nested c.content h.1))) (text_then (10 ∷ []) style.Text nothing_keeps)

name_keeps : (app : List ℕ) (d : Option (List Part)) → IsNestedText d → Keeps (manual_name app d)
name_keeps app None h = nothing_keeps
name_keeps app (Some d) h = both_keep (inside_keeps block.Header (text_then (codes "NAME") style.Text nothing_keeps)) (text_then app style.Text (text_then (codes " - ") style.Text (doc_keeps d h)))

manual_chapter_keeps : (app : List ℕ) (path : List (List ℕ)) (t : Tree) (i : Head) → HasNestedHead i → HasNestedTexts t → Keeps (manual_chapter app path t i)
manual_chapter_keeps app path t (head descr header footer usage help) h k =
    both_keep (both_keep (both_keep (both_keep (both_keep (both_keep
    (name_keeps app descr h.0)
    (inside_keeps block.Header (text_then (codes "SYNOPSIS") style.Text nothing_keeps)))
    (path_keeps path))
    (usage_keeps t (docs_nested t k)))
    (within_keeps header h.1))
    (two_keep false no_texts t help k h.4))
    (within_keeps footer h.2)

pub manual_pages_are_nested : ManualPagesAreNested
manual_pages_are_nested app t i h =
    let chapters : List Chapter = chapters_of (app ∷ []) i t in
    written_keeps
    (both_keep
    (many_keep chapters (both_keep
    (inside_keeps block.Block (inside_keeps block.Header (text_then (codes "SYNOPSIS") style.Text nothing_keeps)))
    (inside_keeps block.Meta (each_keeps HasNestedChapter synopsis_line synopsis_keeps chapters h))))
    (each_keeps HasNestedChapter (λ c. if_many chapters (inside block.Header (path_writes c.path)) ++ manual_chapter app c.path c.content c.info)
    (λ c k. both_keep (many_keep chapters (inside_keeps block.Header (path_keeps c.path))) (manual_chapter_keeps app c.path c.content c.info k.0 k.1)) chapters h))

pub ruleset nested_pages = (collected_pages_are_nested, manual_pages_are_nested)
