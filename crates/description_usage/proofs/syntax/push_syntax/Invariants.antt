use Rattle.std.proofs.Common.{◌≡◌, ◌++◌, length}
use denote.Text.{Utf8}
use denote.Shadow.{shadow}
use Rattle.page_model.specs.View.{line_of}
use Rattle.description_usage.specs.Syntax.{is_separator, pieces_after, stretches, syntax_line}
use Rattle.description_usage.proofs.Stretches.{front_of, IsEnd}
use Rattle.description_usage.proofs.syntax.push_syntax.Given as goal

abbrev pub invariant-loop-stretch : goal.invariant-loop-stretch
invariant-loop-stretch g l = record {
  utf8 : shadow (Utf8 l.rest);
  is_end : IsEnd l.text l.rest;
  put : line_of l.line.items ++ pieces_after (front_of l.text l.rest) (stretches is_separator l.rest) ≡ line_of l.fn.line.items ++ syntax_line l.text;
}

abbrev pub decreases-loop-stretch : goal.decreases-loop-stretch
decreases-loop-stretch g l = length l.rest
