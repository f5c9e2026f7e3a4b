use Rattle.std.proofs.Common.{map}
use Rattle.std.proofs.lemmas.Result.{on_ok_weaker}
use Rattle.description_hints.specs.View.{path_said, site_said}
use Rattle.description_hints.proofs.Levels.{level_put}
use Rattle.description_hints.proofs.sites.+sites.Goals as goal

pub push_level-returns : goal.push_level-returns
push_level-returns g t c =
    on_ok_weaker c.push_topics.result
    (level_put (path_said c.args.path.now) c.args.level.now c.standing_of-standing.result c.standing_of-standing.ensures c.as_slice.result.now c.as_slice-2.result.now c.as_slice-3.result.now c.as_slice-4.result.now c.as_slice.ensures.value c.as_slice-2.ensures.value c.as_slice-3.ensures.value c.as_slice-4.ensures.value
    (map site_said c.args.sites.now.items) (map site_said c.push_own_texts.new.sites.items) (map site_said c.push_options.new.sites.items) (map site_said c.push_choices.new.sites.items) (map site_said c.push_groups.new.sites.items) (map site_said c.push_positionals.new.sites.items) (map site_said c.push_commands.new.sites.items) (map site_said c.push_topics.new.sites.items)
    c.in_ok-push_own_texts.ensures c.in_ok-push_options.ensures c.in_ok-push_choices.ensures c.in_ok-push_groups.ensures c.in_ok-push_positionals.ensures c.in_ok-push_commands.ensures)
    c.push_topics.ensures
