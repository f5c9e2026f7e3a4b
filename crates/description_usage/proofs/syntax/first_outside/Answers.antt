use Rattle.std.proofs.Common.{◌+◌, ◌==◌, ap, false, get_or, refl, rules, sym, take, true, ◌∙◌}
use Rattle.std.specs.Int.{from_bool}
use Rattle.std.specs.List.{count_by}
use Rattle.std.proofs.lemmas.Bool.{and_parts}
use Rattle.description_usage.specs.Syntax.{is_closing, is_opening, is_outside}
use Rattle.description_usage.proofs.Parts.{are_same, count_step, cut_here, cut_later, never_cut, where_outside}
use Rattle.description_usage.proofs.syntax.first_outside.Goals as goal

pub returns-then-is_cut : goal.returns-then-is_cut
returns-then-is_cut c =
    let bs = c.args.bytes.now in
    let i = c.loop-index.index in
    let b = get_or bs i 0 in
    let cut = where_outside bs i (b == c.args.mark) c.loop-index.opened c.loop-index.closed c.is_cut.result true c.loop-index.invariant.opened c.loop-index.invariant.closed c.is_cut.ensures c.if-is_cut.true in
    let both = and_parts (b == c.args.mark) (is_outside (take i bs)) cut in
    (c.loop-index-test.true, are_same b c.args.mark both.0, cut_here c.args.mark bs i b c.loop-index-test.true refl c.loop-index.invariant.cut c.requires both.0 both.1)

pub loop-index-preserved : goal.loop-index-preserved
loop-index-preserved c =
    let bs = c.args.bytes.now in
    let i = c.loop-index.index in
    let b = get_or bs i 0 in
    let within = c.loop-index-test.true in
    let uncut = where_outside bs i (b == c.args.mark) c.loop-index.opened c.loop-index.closed c.is_cut.result false c.loop-index.invariant.opened c.loop-index.invariant.closed c.is_cut.ensures c.if-is_cut.false in
    record {
      in_range = search rules;
      opened =
          ap (λ n. n + c.from-opened.result) c.loop-index.invariant.opened ∙ ap (λ n. count_by is_opening (take i bs) + n) (c.from-opened.ensures ∙ ap from_bool c.is_opening.ensures)
          ∙ sym (count_step is_opening bs i b within refl);
      closed =
          ap (λ n. n + c.from-closed.result) c.loop-index.invariant.closed ∙ ap (λ n. count_by is_closing (take i bs) + n) (c.from-closed.ensures ∙ ap from_bool c.is_closing.ensures)
          ∙ sym (count_step is_closing bs i b within refl);
      cut = cut_later c.args.mark bs i b within refl c.loop-index.invariant.cut uncut;
    }

pub returns : goal.returns
returns c = never_cut c.args.mark c.args.bytes.now c.loop-index.index c.loop-index-test.false c.loop-index.invariant.cut
