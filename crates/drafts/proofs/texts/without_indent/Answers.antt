use Rattle.std.proofs.Common.{rules, subst, sym}
use Rattle.std.specs.Str.{IsCharBoundary}
use Rattle.drafts.proofs.Boundaries.{within_blanks}
use Rattle.drafts.proofs.texts.without_indent.Goals as goal

pub range_from-requires : goal.range_from-requires
range_from-requires c = λ some. subst (IsCharBoundary c.args.line.now) (sym c.min.ensures) (within_blanks c.args.line.now c.args.indent c.indent_len.result (search rules) c.utf8.line)
