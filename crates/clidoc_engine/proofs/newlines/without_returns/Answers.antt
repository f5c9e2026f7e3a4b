use Rattle.std.proofs.Common.{refl}
use Rattle.clidoc_engine.proofs.Returns.{all_replaced}
use Rattle.clidoc_engine.proofs.newlines.without_returns.Goals as goal

pub returns : goal.returns
returns g c = all_replaced _ c.args.text.now c.replace.result refl c.replace.ensures.ok
