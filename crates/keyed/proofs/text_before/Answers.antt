use Rattle.keyed.specs.Places.{IsFront}
use Rattle.keyed.proofs.Turns.{front_by}
use Rattle.keyed.proofs.text_before.Goals as goal

pub returns-in-Some : goal.returns-in-Some
returns-in-Some c = front_by (IsFront c.args.text.now c.args.path.now) c.args.text.now c.front_of.result c.front_of.ensures (rw c.in-Some.is at c.in-Ok.ensures)
