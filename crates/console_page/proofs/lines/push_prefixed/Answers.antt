use Rattle.std.proofs.Common.{arith, string_bytes, rules, Some, None}
use Rattle.std.proofs.lemmas.Str.Pattern.{split_parts}
use Rattle.console_page.proofs.Prefixed.{line_step, last_step}
use Rattle.console_page.proofs.lines.push_prefixed.Goals as goal

pub loop-line-preserved : goal.loop-line-preserved
loop-line-preserved g c =
    let cut = split_parts 10 c.loop-line.rest.now (Some (c.in-Some.line, c.in-Some.below)) c.in-Some.ensures.cases (omega arith) in
    record {
      utf8 = search rules;
      front = search rules;
      written = line_step (string_bytes c.loop-line.out) (string_bytes c.push_fronted.new.out) _ c.loop-line.front.now c.args.others.now c.loop-line.rest.now c.in-Some.line.now c.in-Some.below.now _ cut.0 cut.1 c.in_ok-push_fronted.ensures c.in_ok-push_str.ensures.bytes c.loop-line.invariant.written;
    }

pub returns : goal.returns
returns g c =
    last_step c.push_fronted-2.result (string_bytes c.loop-line.out) (string_bytes c.push_fronted-2.new.out) c.loop-line.front.now c.args.others.now c.loop-line.rest.now _ (split_parts 10 c.loop-line.rest.now None c.in_default.ensures.cases (omega arith)) c.push_fronted-2.ensures c.loop-line.invariant.written
