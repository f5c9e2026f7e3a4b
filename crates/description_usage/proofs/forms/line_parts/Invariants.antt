use Rattle.std.proofs.Common.{◌≡◌, ◌++◌, length, map}
use denote.Text.{Utf8}
use denote.Shadow.{shadow}
use Rattle.description_usage.specs.Forms.{line_parts}
use Rattle.description_usage.proofs.forms.line_parts.Given as goal

abbrev pub invariant-loop-part : goal.invariant-loop-part
invariant-loop-part g l = record {
  utf8 : shadow (Utf8 l.rest);
  put : map (λ part. part.now) l.parts.items ++ line_parts l.rest ≡ line_parts l.line;
}

abbrev pub decreases-loop-part : goal.decreases-loop-part
decreases-loop-part g l = length l.rest
