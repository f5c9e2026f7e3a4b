use Rattle.std.specs.Prelude.{◌≡◌}
use Rattle.bpaf_doc.proofs.lemmas.Manpage.Words.{after_parts, draft_on}
use Rattle.bpaf_doc.proofs.manpage.written.Given as goal

abbrev pub invariant-loop-part : goal.invariant-loop-part
invariant-loop-part g l = after_parts l.writer l.part-iterator ≡ after_parts (draft_on l.fn.page l.fn.strip_newlines) l.fn.parts
