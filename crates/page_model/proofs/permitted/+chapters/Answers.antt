use Rattle.std.proofs.Common.{flat_map, map, sym, ap, ◌∙◌}
use Rattle.page_model.specs.Permitted.{chapter_texts, chapters_texts, level_texts, refused_in}
use Rattle.page_model.specs.View.{chapter_of, chapters_in}
use Rattle.page_model.specs.declared.parts.Chapter.{out-Chapter}
use Rattle.page_model.proofs.Refused.{both_found, chapter_layer, chapters_seen, first_seen, more_seen, open-Chapter}
use Rattle.page_model.proofs.permitted.+chapters.Goals as goal

pub refused_in_chapter-returns : goal.refused_in_chapter-returns
refused_in_chapter-returns g t c =
    let level = out-Chapter _ c.args.chapter.now in
    let here = c.refused_in_level.ensures ∙ ap (λ said. refused_in (level_texts said)) (open-Chapter c.args.chapter.now) in
    let below = c.refused_in_chapters.ensures ∙ ap (λ list. refused_in (flat_map chapter_texts (map chapter_of list))) c.as_slice.ensures.value ∙ ap refused_in (chapters_seen (map chapter_of level.below.items)) in
    both_found c.refused_in_level.result c.refused_in_chapters.result c.first_of.result (level_texts (chapter_layer level)) (chapters_texts (chapters_in (map chapter_of level.below.items))) c.first_of.ensures here below
    ∙ ap (λ said. refused_in (chapter_texts said)) (sym (open-Chapter c.args.chapter.now))

pub refused_in_chapters-returns-then-is_some : goal.refused_in_chapters-returns-then-is_some
refused_in_chapters-returns-then-is_some g t c = first_seen chapter_texts chapter_of c.args.chapters.now c.loop-one.one-index _ c.refused_in_chapter-found.result c.loop-one-test.true c.loop-one.invariant (c.refused_in_chapter-found.ensures ∙ ap (λ one. refused_in (chapter_texts (chapter_of one))) c.one-item.is) (sym c.is_some.ensures ∙ c.if-is_some.true)

pub refused_in_chapters-loop-one-preserved : goal.refused_in_chapters-loop-one-preserved
refused_in_chapters-loop-one-preserved g t c = more_seen chapter_texts chapter_of c.args.chapters.now c.loop-one.one-index _ c.refused_in_chapter-found.result c.loop-one-test.true c.loop-one.invariant (c.refused_in_chapter-found.ensures ∙ ap (λ one. refused_in (chapter_texts (chapter_of one))) c.one-item.is) (sym c.is_some.ensures ∙ c.if-is_some.false)
