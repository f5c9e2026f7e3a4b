use Rattle.std.proofs.Common.{◌+◌, ◌==◌, ◌&&◌, ◌||◌, ap, rules, sym, ◌∙◌}
use Rattle.std.specs.List.{count_by, slice_get}
use Rattle.description_usage.specs.Syntax.{is_closing, is_name, is_negated, is_opening, is_separator, stretches}
use Rattle.description_usage.proofs.Stretches.{count_more, end_more, front_more, front_of, name_passed}
use Rattle.description_usage.proofs.syntax.first_name.Goals as goal

pub loop-stretch-preserved : goal.loop-stretch-preserved
loop-stretch-preserved c =
    let text = c.args.text.now in
    let rest = c.loop-stretch.rest.now in
    let stretch = c.in-Some.stretch.now in
    let after = c.in-Some.after.now in
    let front = front_of text rest in
    let outside = c.loop-stretch.opened == c.loop-stretch.closed in
    let more = front_more text rest stretch after c.loop-stretch.invariant.is_end c.in-Some.ensures.whole in
    record {
      utf8 = search rules;
      is_end = end_more text rest stretch after c.loop-stretch.invariant.is_end c.in-Some.ensures.whole;
      opened =
          ap (λ n. n + c.count-opened.result) c.loop-stretch.invariant.opened ∙ ap (λ n. count_by is_opening front + n) (c.count-opened.ensures ∙ ap (count_by is_opening) c.as_bytes-in-Some.ensures.value)
          ∙ sym (count_more is_opening front stretch) ∙ ap (count_by is_opening) (sym more);
      closed =
          ap (λ n. n + c.count-closed.result) c.loop-stretch.invariant.closed ∙ ap (λ n. count_by is_closing front + n) (c.count-closed.ensures ∙ ap (count_by is_closing) c.as_bytes-in-Some-2.ensures.value)
          ∙ sym (count_more is_closing front stretch) ∙ ap (count_by is_closing) (sym more);
      same =
          ap (λ names. slice_get names 0)
          (name_passed front (front_of text after) stretch (stretches is_separator rest) (stretches is_separator after) outside c.in-Some.ensures.stretches more
          (ap (λ n. n == c.loop-stretch.closed) c.loop-stretch.invariant.opened ∙ ap (λ n. count_by is_opening front == n) c.loop-stretch.invariant.closed)
          (ap (λ f. outside && (is_name f stretch || is_negated f stretch)) (sym c.before-in-Some.ensures) ∙ ap (λ s. outside && (is_name c.before-in-Some.result.now s || is_negated c.before-in-Some.result.now s)) (sym c.as_bytes.ensures.value) ∙ sym c.is_outer_name.ensures ∙ c.if-is_outer_name.false))
          ∙ c.loop-stretch.invariant.same;
    }
