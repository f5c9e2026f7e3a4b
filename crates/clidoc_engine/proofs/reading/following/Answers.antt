use Rattle.clidoc_engine.proofs.Gathered.{stripped}
use Rattle.clidoc_engine.proofs.reading.following.Goals as goal

pub returns : goal.returns
returns c = stripped c.args.front.now c.args.word.now c.strip_prefix.result c.strip_prefix.ensures.cases
