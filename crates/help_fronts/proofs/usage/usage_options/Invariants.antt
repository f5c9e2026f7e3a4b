use Rattle.std.proofs.Common.{◌≡◌, ◌++◌, length, map}
use denote.Text.{Utf8}
use denote.Shadow.{shadow}
use Rattle.help_fronts.specs.Usages.{options_from, usage_options, usage_words}
use Rattle.help_fronts.specs.View.{used_said}
use Rattle.help_fronts.proofs.usage.usage_options.Given as goal

abbrev pub invariant-loop-word : goal.invariant-loop-word
invariant-loop-word g l = record {
  utf8 : shadow (Utf8 l.rest);
  before_utf8 : shadow (Utf8 l.before);
  so_far : map used_said l.options.items ++ options_from l.before (usage_words l.rest) ≡ usage_options l.line;
}

abbrev pub decreases-loop-word : goal.decreases-loop-word
decreases-loop-word g l = length l.rest
