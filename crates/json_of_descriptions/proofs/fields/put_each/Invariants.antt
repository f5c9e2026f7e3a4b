use Rattle.std.proofs.Common.{◌≡◌, ◌++◌, length}
use denote.Text.{Utf8}
use denote.Shadow.{shadow}
use Rattle.json_of_descriptions.proofs.Values.{listed_tokens}
use Rattle.json_of_descriptions.proofs.fields.put_each.Given as goal

abbrev pub invariant-loop-value : goal.invariant-loop-value
invariant-loop-value g l = record {
  utf8 : shadow (Utf8 l.rest);
  put : l.out ++ listed_tokens l.rest ≡ l.fn.out ++ listed_tokens l.text;
}

abbrev pub decreases-loop-value : goal.decreases-loop-value
decreases-loop-value g l = length l.rest
