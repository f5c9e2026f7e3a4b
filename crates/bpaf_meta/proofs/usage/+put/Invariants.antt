use Rattle.std.proofs.Common.{◌≡◌, true, drop}
use Rattle.bpaf_doc.specs.Buffer.Growth.{Grows}
use Rattle.bpaf_doc.specs.Buffer.Writes.{with_writes}
use Rattle.bpaf_meta.specs.Meta.Steps.Forms.{forms_of}
use Rattle.bpaf_meta.specs.Usage.Writes.{part_writes}
use Rattle.bpaf_meta.proofs.lemmas.Usage.Written.{rest_of_line}
use Rattle.bpaf_meta.proofs.usage.+put.Given as goal

abbrev pub invariant-put_parts-loop-part : goal.invariant-put_parts-loop-part
invariant-put_parts-loop-part g l = record {
  written : with_writes l.doc (rest_of_line l.is_first l.between (part_writes (forms_of (drop l.part-index l.part-items)))) ≡ with_writes l.fn.doc (rest_of_line true l.between (part_writes (forms_of l.parts.items)));
  grows : Grows l.fn.doc l.doc;
}
