use Rattle.std.proofs.Common.{◌≡◌, ◌≤◌, length, take}
use Rattle.std.specs.Prelude.{flat_map}
use Rattle.bpaf_doc.specs.Buffer.Writes.{with_writes}
use Rattle.bpaf_help.specs.Steps.{manual_part}
use Rattle.bpaf_help.specs.View.{chapter_of}
use Rattle.bpaf_help.proofs.pages.manual_writes.put_chapters.Given as goal

abbrev pub invariant-loop-section : goal.invariant-loop-section
invariant-loop-section g l = record {
  in_range : l.section-index ≤ length l.sections;
  written : l.doc ≡ with_writes l.fn.doc (flat_map (λ s. manual_part l.app l.many (chapter_of s)) (take l.section-index l.sections));
}
