use Rattle.std.proofs.Common.{sym}
use Rattle.json_of_descriptions.proofs.Values.{unless_same}
use Rattle.json_of_descriptions.proofs.fields.put_text_unless.Goals as goal

pub returns-then-eq : goal.returns-then-eq
returns-then-eq g c = unless_same c.args.out.now c.args.usual.now c.args.key.now c.args.text.now (sym c.if-eq.ensures)
