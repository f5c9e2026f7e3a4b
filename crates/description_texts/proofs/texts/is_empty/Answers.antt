use Rattle.std.proofs.Common.{rules, sym, ◌∙◌}
use Rattle.description_texts.specs.Texts.{is_empty}
use Rattle.description_texts.proofs.TextsEmpty.{empty_said, last_line, quiet_next, said_there}
use Rattle.description_texts.proofs.TextsLines.{cut_shorter, first_cut, one_alone}
use Rattle.description_texts.proofs.texts.is_empty.Goals as goal

pub loop-line-init : goal.loop-line-init
loop-line-init c = record { utf8 = search rules; quiet = empty_said c.args.text.now }

pub loop-line-preserved : goal.loop-line-preserved
loop-line-preserved c =
    let rest = c.loop-line.rest.now in
    record {
      utf8 = search rules;
      quiet = quiet_next c.loop-line.in_fence (is_empty c.args.text.now) rest c.in-Some.line.now c.in-Some.after.now (first_cut rest c.in-Some.line c.in-Some.after c.in-Some.ensures.cases) c.loop-line.invariant.quiet c.opens-in_fence.result (sym c.says_nothing.ensures ∙ c.if-not-says_nothing.false) c.opens-in_fence.ensures;
    }

pub loop-line-smaller : goal.loop-line-smaller
loop-line-smaller c = cut_shorter c.loop-line.rest.now c.in-Some.line c.in-Some.after c.in-Some.ensures.cases

pub returns-then-not-says_nothing : goal.returns-then-not-says_nothing
returns-then-not-says_nothing c =
    let rest = c.loop-line.rest.now in
    said_there c.loop-line.in_fence (is_empty c.args.text.now) rest c.in-Some.line.now c.in-Some.after.now (first_cut rest c.in-Some.line c.in-Some.after c.in-Some.ensures.cases) c.loop-line.invariant.quiet (sym c.says_nothing.ensures ∙ c.if-not-says_nothing.true)

pub returns : goal.returns
returns c =
    let rest = c.loop-line.rest.now in
    c.says_nothing-2.ensures ∙ last_line c.loop-line.in_fence (is_empty c.args.text.now) rest (one_alone rest c.in_default.ensures.cases) c.loop-line.invariant.quiet
