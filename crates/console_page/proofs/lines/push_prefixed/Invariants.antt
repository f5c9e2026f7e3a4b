use Rattle.std.proofs.Common.{◌≡◌, ◌++◌, length, string_bytes}
use denote.Text.{Utf8}
use denote.Shadow.{shadow}
use Rattle.console_page.specs.Lines.{prefixed}
use Rattle.console_page.proofs.lines.push_prefixed.Given as goal

abbrev pub invariant-loop-line : goal.invariant-loop-line
invariant-loop-line g l = record {
  utf8 : shadow (Utf8 l.rest);
  front : shadow (Utf8 l.front);
  written : string_bytes l.out ++ prefixed l.front l.others l.rest ≡ string_bytes l.fn.out ++ prefixed l.first l.others l.text;
}

abbrev pub decreases-loop-line : goal.decreases-loop-line
decreases-loop-line g l = length l.rest
