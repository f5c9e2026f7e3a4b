use Rattle.std.proofs.Common.{length}
use Rattle.description_json.proofs.certified.+is_in.Given as goal

abbrev pub decreases-is_in : goal.decreases-is_in
decreases-is_in l = length l.path.now
