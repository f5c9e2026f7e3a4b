use Rattle.std.proofs.Common.{rules}
use Rattle.description_texts.proofs.TextsLines.{cut_shorter, last_found, line_cut, line_found, one_line}
use Rattle.description_texts.specs.Texts.{lines}
use Rattle.description_texts.proofs.texts.lines.lines.Goals as goal

pub loop-line-preserved : goal.loop-line-preserved
loop-line-preserved c =
    let rest = c.loop-line.rest.now in
    record {
      utf8 = search rules;
      found = line_found (λ line. line.now) c.loop-line.found.items c.push.new.self.items c.in_ok-with_blank_front.field-0 c.in_ok-push.ensures.items rest c.in-Some.line.now c.in-Some.after.now (lines c.args.text.now) c.in_ok-with_blank_front.ensures (line_cut rest c.in-Some.line c.in-Some.after c.in-Some.ensures.cases) c.loop-line.invariant.found;
    }

pub loop-line-smaller : goal.loop-line-smaller
loop-line-smaller c = cut_shorter c.loop-line.rest.now c.in-Some.line c.in-Some.after c.in-Some.ensures.cases

pub returns : goal.returns
returns c =
    let rest = c.loop-line.rest.now in
    last_found (λ line. line.now) c.loop-line.found.items c.push-2.new.self.items c.in_ok-with_blank_front-2.field-0 c.in_ok-push-2.ensures.items rest (lines c.args.text.now) c.in_ok-with_blank_front-2.ensures (one_line rest c.in_default.ensures.cases) c.loop-line.invariant.found
