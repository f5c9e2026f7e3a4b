use Rattle.std.proofs.Common.{◌∷◌, [], map}
use Rattle.std.specs.Prelude.{codes, flat_map}
use Rattle.bpaf_doc.specs.declared.buffer.Block.TheVariants as block
use Rattle.bpaf_doc.specs.Buffer.Writes.{inside, plain}
use Rattle.bpaf_help.specs.Chapters.{summary_line}
use Rattle.bpaf_help.specs.View.{chapter_of}
use Rattle.bpaf_help.proofs.Steps.{many_put}
use Rattle.bpaf_help.proofs.pages.collected_writes.put_summary.Goals as goal

pub returns : goal.returns
returns g c =
    many_put chapter_of c.args.sections.now c.put_summary_lines.result c.args.doc.now c.put_title_block.new.doc c.put_summary_lines.new.doc (inside block.Block (inside block.Header (plain (codes "Command summary") ∷ []))) (flat_map summary_line (map chapter_of c.args.sections.now)) c.if-sections-lt2.false c.in_ok-put_title_block.ensures c.put_summary_lines.ensures
