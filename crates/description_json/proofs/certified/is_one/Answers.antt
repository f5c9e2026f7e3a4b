use Rattle.std.proofs.Common.{arith}
use Rattle.std.proofs.lemmas.Bool.Decides.{nat_tests}
use Rattle.description_json.proofs.Trees.{one_item}
use Rattle.description_json.proofs.certified.is_one.Goals as goal

pub returns : goal.returns
returns c holds = one_item c.args.items.now.items (grind (arith, nat_tests))
