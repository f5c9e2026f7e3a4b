use Rattle.std.proofs.Common.{length, ◌-◌}
use Rattle.description_json.proofs.strings.string_fault.Given as goal

abbrev pub decreases-loop-at : goal.decreases-loop-at
decreases-loop-at l = length l.text - l.at
