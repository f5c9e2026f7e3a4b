use Rattle.std.proofs.Common.{◌==◌, arith, rules, string_bytes}
use Rattle.std.specs.Prelude.{flat_map}
use Rattle.std.specs.List.{slice_split}
use Rattle.console_page.specs.Usage.{part_pieces}
use Rattle.console_page.proofs.Items.{after_last, after_step, last_there, next_there, put_last, put_step}
use Rattle.console_page.proofs.usage.push_parts.Goals as goal

pub loop-part-preserved : goal.loop-part-preserved
loop-part-preserved g c =
    let room = c.args.hang.room in
    let margin = c.args.hang.margin.now in
    let rest = c.loop-part.rest.now in
    let is = next_there 10 rest (part_pieces room) c.in-Some.part c.in-Some.after c.in-Some.ensures.cases (omega arith) in
    let after = flat_map (part_pieces room) (slice_split (λ b. b == 10) c.in-Some.after.now) in
    let all = flat_map (part_pieces room) (slice_split (λ b. b == 10) rest) in
    record {
      utf8 = search rules;
      written = put_step room margin c.loop-part.left c.in_ok-left.left (string_bytes c.loop-part.out) (string_bytes c.push_part.new.out) _ all ((part_pieces room) c.in-Some.part.now) after is c.in_ok-left.ensures.text c.in_ok-left.ensures.left c.loop-part.invariant.written;
      left = after_step room c.loop-part.left c.in_ok-left.left _ all ((part_pieces room) c.in-Some.part.now) after is c.in_ok-left.ensures.left c.loop-part.invariant.left;
    }

pub returns-clause-text : goal.returns-clause-text
returns-clause-text g c =
    let room = c.args.hang.room in
    let rest = c.loop-part.rest.now in
    put_last c.push_part-2.result room c.args.hang.margin.now c.loop-part.left (string_bytes c.loop-part.out) (string_bytes c.push_part-2.new.out) _ (flat_map (part_pieces room) (slice_split (λ b. b == 10) rest)) ((part_pieces room) rest) (last_there 10 rest (part_pieces room) c.in_default.ensures.cases (omega arith)) c.push_part-2.ensures.text c.loop-part.invariant.written

pub returns-clause-left : goal.returns-clause-left
returns-clause-left g c =
    let room = c.args.hang.room in
    let rest = c.loop-part.rest.now in
    after_last c.push_part-2.result room c.loop-part.left _ (flat_map (part_pieces room) (slice_split (λ b. b == 10) rest)) ((part_pieces room) rest) (last_there 10 rest (part_pieces room) c.in_default.ensures.cases (omega arith)) c.push_part-2.ensures.left c.loop-part.invariant.left
