use Rattle.std.proofs.Common.{◌+◌, ◌∙◌, ap, sym, subst, map, take, drop, take_all, rules}
use Rattle.std.specs.Prelude.{flat_map}
use Rattle.std.proofs.lemmas.List.Elements.{All-push}
use Rattle.bpaf_doc.specs.Buffer.Writes.{with_writes}
use Rattle.bpaf_meta.specs.Meta.Misplaced.{IsWellPlaced}
use Rattle.bpaf_items.proofs.Page.Leaving.{map_next, pieces_next}
use Rattle.bpaf_help.specs.Chapters.{AreWellPlaced, chapter_page}
use Rattle.bpaf_help.specs.Steps.{EndsAtOne}
use Rattle.bpaf_help.specs.View.{chapter_of}
use Rattle.bpaf_help.proofs.Steps.{at_place, err_same, error_at, flat_map_map}
use Rattle.bpaf_help.proofs.pages.collected_writes.put_pages.Goals as goal

pub loop-section-preserved : goal.loop-section-preserved
loop-section-preserved g c =
    let cs = c.args.sections.now in
    let i = c.loop-section.section-index in
    let s = c.section-item.result in
    record {
      in_range = search rules;
      placed = subst AreWellPlaced (sym (map_next chapter_of cs i s (search rules) c.section-item.is)) (All-push (λ x. IsWellPlaced x.content) (map chapter_of (take i cs)) (chapter_of s) c.loop-section.invariant.placed c.in_ok-put_page.ensures.placed);
      written = pieces_next (λ x. chapter_page (chapter_of x)) cs i s c.args.doc.now c.loop-section.doc c.put_page.new.doc (search rules) c.section-item.is c.loop-section.invariant.written c.in_ok-put_page.ensures.page;
    }

pub returns-clause-placed : goal.returns-clause-placed
returns-clause-placed g c = subst AreWellPlaced (ap (map chapter_of) (take_all c.loop-section.section-index c.args.sections.now (search rules))) c.loop-section.invariant.placed

pub returns-clause-pages : goal.returns-clause-pages
returns-clause-pages g c =
    c.loop-section.invariant.written
    ∙ ap (λ xs. with_writes c.args.doc.now (flat_map (λ s. chapter_page (chapter_of s)) xs)) (take_all c.loop-section.section-index c.args.sections.now (search rules))
    ∙ ap (with_writes c.args.doc.now) (flat_map_map chapter_page chapter_of c.args.sections.now)

pub returns-in_err-put_page-clause-stops : goal.returns-in_err-put_page-clause-stops
returns-in_err-put_page-clause-stops g c =
    let cs = c.args.sections.now in
    let i = c.loop-section.section-index in
    let s = c.section-item.result in
    let place = at_place chapter_of cs i s (search rules) c.section-item.is in
    err_same (EndsAtOne (map chapter_of cs)) c.from_residual.result c.in_err-put_page.field-0.0 c.from_residual.ensures.1
    (error_at (map chapter_of (take i cs)) (map chapter_of (drop (i + 1) cs)) (map chapter_of cs) (chapter_of s) c.in_err-put_page.field-0.0 place c.loop-section.invariant.placed c.in_err-put_page.ensures.stops)
