use Rattle.std.proofs.Common.{ap, subst, sym, ◌∙◌}
use Rattle.std.specs.List.{prefix_len}
use Rattle.std.specs.Str.{IsCharBoundary}
use Rattle.completions.specs.Syntax.{is_of_name}
use Rattle.completions.proofs.Syntaxes.{front_ends}
use Rattle.completions.proofs.syntax.split_front.Goals as goal

pub split_at-requires : goal.split_at-requires
split_at-requires c =
    subst (IsCharBoundary c.args.word.now) (sym (c.front_len.ensures ∙ ap (prefix_len is_of_name) c.as_bytes.ensures.value)) (front_ends c.args.word.now c.utf8.word)
