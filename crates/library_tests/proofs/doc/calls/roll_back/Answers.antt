use Rattle.std.proofs.Common.{[], ◌∷◌, codes}
use Rattle.bpaf_doc.specs.Buffer.Writes.{plain}
use Rattle.library_tests.proofs.doc.calls.roll_back.Goals as goal

pub roll_back-requires : goal.roll_back-requires
roll_back-requires c = (_, c.checkpoint-before.ensures, (plain (codes "b") ∷ [], c.in_ok-text.ensures.ok))
