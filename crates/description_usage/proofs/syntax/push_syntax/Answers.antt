use Rattle.std.proofs.Common.{ap, rules, ◌∙◌, ◌++◌}
use Rattle.page_model.specs.View.{line_of}
use Rattle.description_usage.specs.Syntax.{is_separator, stretch_pieces, stretches}
use Rattle.description_usage.proofs.Stretches.{end_more, front_more, front_of, stretch_put}
use Rattle.description_usage.proofs.syntax.push_syntax.Goals as goal

pub loop-stretch-preserved : goal.loop-stretch-preserved
loop-stretch-preserved g c =
    let text = c.args.text.now in
    let rest = c.loop-stretch.rest.now in
    let stretch = c.in-Some.stretch.now in
    let after = c.in-Some.after.now in
    let line = line_of c.loop-stretch.line.items in
    let more = front_more text rest stretch after c.loop-stretch.invariant.is_end c.in-Some.ensures.whole in
    record {
      utf8 = search rules;
      is_end = end_more text rest stretch after c.loop-stretch.invariant.is_end c.in-Some.ensures.whole;
      put =
          stretch_put line (line_of c.push_stretch.new.line.items) _ (front_of text rest) (front_of text after) stretch (stretches is_separator rest) (stretches is_separator after) c.in-Some.ensures.stretches more
          (c.in_ok-push_stretch.ensures ∙ ap (λ f. line ++ stretch_pieces f stretch) c.before-in-Some.ensures) c.loop-stretch.invariant.put;
    }
