use Rattle.std.proofs.Common.{◌≡◌, arith}
use Rattle.std.proofs.lemmas.Slice.Eq.{bytes_eq-Decides}
use Rattle.description_json.proofs.Trees.{one_member}
use Rattle.description_json.proofs.certified.is_only_key.Goals as goal

pub returns-then-len-eq1 : goal.returns-then-len-eq1
returns-then-len-eq1 c holds =
    let named : c.index.result.now.0.now ≡ c.args.key.now = grind (arith, bytes_eq-Decides c.index.result.now.0.now c.args.key.now) in
    one_member c.args.members.now.items c.index.result.now c.args.key.now (grind arith) c.index.ensures named
