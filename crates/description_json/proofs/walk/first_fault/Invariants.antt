use Rattle.std.proofs.Common.{length}
use Rattle.description_json.proofs.walk.first_fault.Given as goal

abbrev pub decreases-loop-token : goal.decreases-loop-token
decreases-loop-token l = length l.reader
