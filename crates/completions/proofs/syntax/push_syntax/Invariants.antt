use Rattle.std.proofs.Common.{◌≡◌, ◌++◌, length, map, string_bytes}
use Rattle.std.specs.Prelude.{codes, flat_map}
use denote.Text.{Utf8}
use denote.Shadow.{shadow}
use Rattle.completions.specs.Syntax.{syntax_words, word_names}
use Rattle.completions.specs.Table.{lone}
use Rattle.completions.specs.Written.{data_text}
use Rattle.completions.proofs.syntax.push_syntax.Given as goal

abbrev pub invariant-loop-word : goal.invariant-loop-word
invariant-loop-word g l = record {
  utf8 : shadow (Utf8 l.rest);
  put :
      string_bytes l.out ++ data_text l.shell (map (lone (codes "name")) (flat_map word_names (syntax_words l.rest)))
      ≡ string_bytes l.fn.out ++ data_text l.shell (map (lone (codes "name")) (flat_map word_names (syntax_words l.text)));
}

abbrev pub decreases-loop-word : goal.decreases-loop-word
decreases-loop-word g l = length l.rest
