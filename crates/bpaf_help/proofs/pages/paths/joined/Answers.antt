use Rattle.std.proofs.Common.{◌∙◌, string_bytes, take_all, rules}
use Rattle.bpaf_help.proofs.Steps.{joined_names}
use Rattle.bpaf_help.proofs.pages.paths.joined.Goals as goal

pub returns : goal.returns
returns g c =
    joined_names string_bytes c.args.between c.args.path.now c.in-Some.first.now c.in-Some.others.now _ (string_bytes c.in_ok-text.text) (string_bytes c.loop-name.text) c.in-Some.ensures.cases.0
    (take_all c.loop-name.name-index c.in-Some.others.now (search rules)) (c.in_ok-text.ensures.ok ∙ c.as_str.ensures.value) c.loop-name.invariant.written
