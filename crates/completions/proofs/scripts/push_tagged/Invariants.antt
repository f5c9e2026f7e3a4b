use Rattle.std.proofs.Common.{◌≡◌, ◌++◌, length, string_bytes}
use denote.Text.{Utf8}
use denote.Shadow.{shadow}
use Rattle.completions.specs.Scripts.{tagged}
use Rattle.completions.proofs.scripts.push_tagged.Given as goal

abbrev pub invariant-loop-piece : goal.invariant-loop-piece
invariant-loop-piece g l = record {
  utf8 : shadow (Utf8 l.rest);
  put : string_bytes l.out ++ tagged l.tag l.rest ≡ string_bytes l.fn.out ++ tagged l.tag l.text;
}

abbrev pub decreases-loop-piece : goal.decreases-loop-piece
decreases-loop-piece g l = length l.rest
