use Rattle.std.proofs.Common.{ap, ◌∙◌, map, rules, string_bytes, take_all}
use Rattle.bpaf_help.proofs.Steps.{copied_next}
use Rattle.bpaf_help.proofs.pages.paths.copy_of.Goals as goal

pub loop-name-preserved : goal.loop-name-preserved
loop-name-preserved g c = record {
  in_range = search rules;
  copied = copied_next string_bytes string_bytes c.loop-name.copy.items c.push.new.self.items c.in_ok-from_str.field-0 c.args.path.now c.loop-name.name-index c.name-item.result
      (search rules) c.name-item.is (c.in_ok-from_str.ensures.ok ∙ c.as_str.ensures.value) c.in_ok-push.ensures.items c.loop-name.invariant.copied;
}

pub returns : goal.returns
returns g c = c.loop-name.invariant.copied ∙ ap (map string_bytes) (take_all c.loop-name.name-index c.args.path.now (search rules))
