use Rattle.std.proofs.Common.{◌==◌, arith, rules, string_bytes}
use Rattle.std.specs.Prelude.{flat_map}
use Rattle.std.specs.List.{slice_split}
use Rattle.console_page.specs.Usage.{kept}
use Rattle.console_page.proofs.Items.{after_last, after_step, last_there, next_there, put_last, put_step}
use Rattle.console_page.proofs.usage.push_words.Goals as goal

pub loop-word-preserved : goal.loop-word-preserved
loop-word-preserved g c =
    let room = c.args.hang.room in
    let margin = c.args.hang.margin.now in
    let rest = c.loop-word.rest.now in
    let is = next_there 32 rest kept c.in-Some.word c.in-Some.after c.in-Some.ensures.cases (omega arith) in
    let after = flat_map kept (slice_split (λ b. b == 32) c.in-Some.after.now) in
    let all = flat_map kept (slice_split (λ b. b == 32) rest) in
    record {
      utf8 = search rules;
      written = put_step room margin c.loop-word.left c.in_ok-left.left (string_bytes c.loop-word.out) (string_bytes c.push_kept.new.out) _ all (kept c.in-Some.word.now) after is c.in_ok-left.ensures.text c.in_ok-left.ensures.left c.loop-word.invariant.written;
      left = after_step room c.loop-word.left c.in_ok-left.left _ all (kept c.in-Some.word.now) after is c.in_ok-left.ensures.left c.loop-word.invariant.left;
    }

pub returns-clause-text : goal.returns-clause-text
returns-clause-text g c =
    let room = c.args.hang.room in
    let rest = c.loop-word.rest.now in
    put_last c.push_kept-2.result room c.args.hang.margin.now c.loop-word.left (string_bytes c.loop-word.out) (string_bytes c.push_kept-2.new.out) _ (flat_map kept (slice_split (λ b. b == 32) rest)) (kept rest) (last_there 32 rest kept c.in_default.ensures.cases (omega arith)) c.push_kept-2.ensures.text c.loop-word.invariant.written

pub returns-clause-left : goal.returns-clause-left
returns-clause-left g c =
    let room = c.args.hang.room in
    let rest = c.loop-word.rest.now in
    after_last c.push_kept-2.result room c.loop-word.left _ (flat_map kept (slice_split (λ b. b == 32) rest)) (kept rest) (last_there 32 rest kept c.in_default.ensures.cases (omega arith)) c.push_kept-2.ensures.left c.loop-word.invariant.left
