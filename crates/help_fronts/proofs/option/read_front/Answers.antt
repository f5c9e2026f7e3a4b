use Rattle.std.proofs.Common.{◌++◌, ◌∙◌, Some, ap, map}
use Rattle.std.specs.Option.{option_map}
use Rattle.help_fronts.specs.declared.front.Kind.TheVariants as kind
use Rattle.help_fronts.specs.Pieces.{pieces}
use Rattle.help_fronts.specs.Fronts.{first_joint, first_value, from_last, front_from, names, values}
use Rattle.help_fronts.proofs.Ends.{said_is}
use Rattle.help_fronts.proofs.option.read_front.Goals as goal

pub returns-clause-exact : goal.returns-clause-exact
returns-clause-exact g c =
    let front = front_from kind.Option c.args.first.now (pieces c.args.after.now) in
    let cut = c.in_ok-cut.ensures in
    let valued = c.from_last-valued.ensures ∙ ap (λ ws. from_last (map (λ w. w.now) ws)) c.deref-2.ensures.value ∙ ap from_last cut.words in
    ap Some
    (said_is front c.args.text.now _ _ _ (map (λ n. n.now) c.push_names.new.names.items) (map (λ v. v.now) c.in_ok-values.values.items) c.first_joint.result (option_map (λ v. v.now) c.first_value-value.result) (option_map (λ v. v.now) c.word_of_value.result) c.is_value_optional.result
    (c.in_ok-push_names.ensures ∙ ap (λ xs. map (λ n. n.now) xs ++ names (map (λ w. w.now) c.deref.result.now)) c.new-names.ensures.items ∙ ap (λ ws. names (map (λ w. w.now) ws)) c.deref.ensures.value ∙ ap names cut.words)
    (c.in_ok-values.ensures ∙ ap values valued) (c.first_joint.ensures ∙ ap first_joint valued)
    (c.first_value-value.ensures ∙ ap (λ vs. first_value (map (λ v. v.now) vs)) c.deref-3.ensures.value ∙ ap first_value (c.in_ok-values.ensures ∙ ap values valued)) c.word_of_value.ensures c.is_value_optional.ensures
    cut.written cut.gap cut.help)
