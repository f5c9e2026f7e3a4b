use Rattle.std.proofs.Common.{[], ◌+◌, ◌++◌, ◌==◌, ap, cond, rules, sym, ◌∙◌}
use Rattle.std.specs.Prelude.{flat_map}
use Rattle.std.specs.List.{count_by}
use Rattle.description_toml.specs.Described.Steps.{words_of}
use Rattle.description_toml.specs.Described.Taken.{without_dashes}
use Rattle.description_toml.specs.Syntax.{is_closing, is_opening, is_separator, stretch_names, stretches}
use Rattle.description_toml.proofs.Stretches.{count_more, end_more, front_more, front_of, names_put}
use Rattle.description_toml.proofs.syntax.put_names.Goals as goal

pub loop-stretch-preserved : goal.loop-stretch-preserved
loop-stretch-preserved g c =
    let text = c.args.text.now in
    let rest = c.loop-stretch.rest.now in
    let stretch = c.in-Some.stretch.now in
    let after = c.in-Some.after.now in
    let front = front_of text rest in
    let two = c.args.are_two in
    let old = words_of c.loop-stretch.names.items in
    let more = front_more text rest stretch after c.loop-stretch.invariant.is_end c.in-Some.ensures.whole in
    let outside = c.loop-stretch.opened == c.loop-stretch.closed in
    record {
      utf8 = search rules;
      is_end = end_more text rest stretch after c.loop-stretch.invariant.is_end c.in-Some.ensures.whole;
      opened =
          ap (λ n. n + c.count-opened.result) c.loop-stretch.invariant.opened ∙ ap (λ n. count_by is_opening front + n) (c.count-opened.ensures ∙ ap (count_by is_opening) c.as_bytes.ensures.value)
          ∙ sym (count_more is_opening front stretch) ∙ ap (count_by is_opening) (sym more);
      closed =
          ap (λ n. n + c.count-closed.result) c.loop-stretch.invariant.closed ∙ ap (λ n. count_by is_closing front + n) (c.count-closed.ensures ∙ ap (count_by is_closing) c.as_bytes-in-Some.ensures.value)
          ∙ sym (count_more is_closing front stretch) ∙ ap (count_by is_closing) (sym more);
      put =
          names_put old (words_of c.put_name.new.names.items) _ two outside front (front_of text after) stretch (stretches is_separator rest) (stretches is_separator after) c.in-Some.ensures.stretches more
          (ap (λ n. n == c.loop-stretch.closed) c.loop-stretch.invariant.opened ∙ ap (λ n. count_by is_opening front == n) c.loop-stretch.invariant.closed)
          (c.in_ok-put_name.ensures ∙ ap (λ f. old ++ flat_map (without_dashes two) (cond outside (stretch_names f stretch) [])) c.before-in-Some.ensures) c.loop-stretch.invariant.put;
    }
