use Rattle.std.proofs.Common.{◌≡◌, ◌≤◌, ◌*◌, ◌-◌, length, take}
use Rattle.bpaf_roff.specs.Steps.Output.{written}
use Rattle.bpaf_roff.proofs.lemmas.Written.{front_text}
use Rattle.bpaf_roff.proofs.escape.text.fill.Given as goal

abbrev pub invariant-pairs : goal.invariant-pairs
invariant-pairs l = record {
  in_range : l.index ≤ length l.bytes;
  fits : l.end ≤ 7 * l.index;
  text : take l.end l.room ≡ front_text l.context.apostrophes l.context.label (written l.context.at_line_start) l.bytes l.index;
}

abbrev pub decreases-pairs : goal.decreases-pairs
decreases-pairs l = length l.bytes - l.index
