use Rattle.keyed.proofs.Turns.{suffix_cut}
use Rattle.keyed.proofs.before.Goals as goal

pub returns : goal.returns
returns c = suffix_cut c.args.text.now c.args.end.now c.strip_suffix.result _ c.strip_suffix.ensures.cases
