use Rattle.std.proofs.Common.{map}
use Rattle.description_hints.specs.View.{holds, warning_said}
use Rattle.description_hints.proofs.Alike.{alike_more, known_more}
use Rattle.description_hints.proofs.files.push_all_alike_hints.Goals as goal

pub loop-page-preserved : goal.loop-page-preserved
loop-page-preserved c = (
  alike_more c.args.pages.now c.loop-page.page-index _ c.loop-page-test.true (map warning_said c.loop-page.found.items) (map warning_said c.push_alike_hint.new.found.items) _ _ c.loop-page.invariant.0 c.in_ok-push_alike_hint.ensures.told (c.loop-page.invariant.1 _),
  known_more c.args.pages.now c.loop-page.page-index _ c.loop-page-test.true (holds c.loop-page.before) (holds c.push_alike_hint.new.before) c.loop-page.invariant.1 c.in_ok-push_alike_hint.ensures.kept,
)
