use Rattle.std.proofs.Common.{◌∙◌, ap, take_all, rules}
use Rattle.std.specs.Prelude.{flat_map}
use Rattle.bpaf_doc.specs.Buffer.Writes.{with_writes}
use Rattle.bpaf_items.proofs.Page.Leaving.{pieces_next}
use Rattle.bpaf_help.specs.Chapters.{summary_line}
use Rattle.bpaf_help.specs.View.{chapter_of}
use Rattle.bpaf_help.proofs.Steps.{flat_map_map}
use Rattle.bpaf_help.proofs.pages.collected_writes.put_summary_lines.Goals as goal

pub loop-section-preserved : goal.loop-section-preserved
loop-section-preserved g c = record {
  in_range = search rules;
  written = pieces_next (λ x. summary_line (chapter_of x)) c.args.sections.now c.loop-section.section-index c.section-item.result c.args.doc.now c.loop-section.doc c.put_summary_line.new.doc (search rules) c.section-item.is c.loop-section.invariant.written (rw c.deref.ensures.value at c.in_ok-put_summary_line.ensures);
}

pub returns : goal.returns
returns g c =
    c.loop-section.invariant.written
    ∙ ap (λ xs. with_writes c.args.doc.now (flat_map (λ s. summary_line (chapter_of s)) xs)) (take_all c.loop-section.section-index c.args.sections.now (search rules))
    ∙ ap (with_writes c.args.doc.now) (flat_map_map summary_line chapter_of c.args.sections.now)
