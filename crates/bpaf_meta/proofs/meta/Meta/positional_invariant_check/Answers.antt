use Rattle.std.proofs.Common.{sym}
use Rattle.bpaf_meta.specs.View.{tree_of}
use Rattle.bpaf_meta.proofs.lemmas.Misplaced.Lines.{well_placed}
use Rattle.bpaf_meta.proofs.meta.Meta.positional_invariant_check.Goals as goal

pub returns-in-Ok-clause-ok : goal.returns-in-Ok-clause-ok
returns-in-Ok-clause-ok g c = well_placed (tree_of c.args.self.now) c.in-Ok.field-0 (sym c.in-Ok.ensures)
