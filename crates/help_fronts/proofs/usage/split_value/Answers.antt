use Rattle.std.proofs.Common.{subst, sym}
use Rattle.std.specs.Str.{IsCharBoundary}
use Rattle.help_fronts.proofs.Values.{value_ends}
use Rattle.help_fronts.proofs.usage.split_value.Goals as goal

pub split_at-requires : goal.split_at-requires
split_at-requires c = subst (IsCharBoundary c.args.text.now) (sym c.len_of_value.ensures) (value_ends c.args.text.now c.utf8.text)
