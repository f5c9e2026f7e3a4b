use Rattle.std.proofs.Common.{◌++◌, ap, map, ◌∙◌, subst, sym}
use Rattle.std.proofs.lemmas.List.{length-map}
use Rattle.help_blocks.specs.Blocks.{FollowOn}
use Rattle.help_differences.specs.Help.{names_of_blocks, names_of_starts}
use Rattle.help_differences.specs.View.{name_said}
use Rattle.help_differences.proofs.Blocks.{blocks_are}
use Rattle.help_differences.proofs.help.names_of_help.Goals as goal

pub returns : goal.returns
returns c =
    let lines = map (λ line. line.now) c.args.lines.now in
    let found = c.in_ok-found.found.items in
    c.in_ok-push_blocks.ensures ∙ ap (λ ns. map name_said ns ++ names_of_blocks lines c.deref.result.now) c.new-names.ensures.items
    ∙ ap (λ bs. names_of_blocks lines bs) c.deref.ensures.value
    ∙ blocks_are lines 0 found (subst (λ n. FollowOn 0 found n) (sym (length-map c.args.lines.now (λ line. line.now))) c.in_ok-found.ensures.whole)
    ∙ ap (λ ss. names_of_starts lines ss) c.in_ok-found.ensures.begun
