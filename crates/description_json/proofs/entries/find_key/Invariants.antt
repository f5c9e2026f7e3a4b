use Rattle.std.proofs.Common.{length}
use Rattle.description_json.proofs.entries.find_key.Given as goal

abbrev pub decreases-loop-name : goal.decreases-loop-name
decreases-loop-name l = length l.reader
