use Rattle.std.proofs.Common.{◌≡◌, ◌++◌, length}
use denote.Text.{Utf8}
use denote.Shadow.{shadow}
use Rattle.page_model.specs.View.{line_of}
use Rattle.description_usage.specs.Syntax.{word_pieces}
use Rattle.description_usage.proofs.syntax.push_words.Given as goal

abbrev pub invariant-loop-word : goal.invariant-loop-word
invariant-loop-word g l = record {
  utf8 : shadow (Utf8 l.rest);
  put : line_of l.line.items ++ word_pieces l.rest ≡ line_of l.fn.line.items ++ word_pieces l.text;
}

abbrev pub decreases-loop-word : goal.decreases-loop-word
decreases-loop-word g l = length l.rest
