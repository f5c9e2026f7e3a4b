use Rattle.std.proofs.Common.{◌+◌, ◌≤◌, ◌==◌, get_or, refl, rules, subst, sym, ◌∙◌}
use Rattle.std.proofs.lemmas.Bool.{and_parts}
use Rattle.completions.specs.Syntax.{is_gap}
use Rattle.completions.proofs.Syntaxes.{CutSoFar, cut_here, cut_later, depth_small, gap_small, never_cut}
use Rattle.completions.proofs.syntax.first_gap.Goals as goal

pub returns-then-is_cut : goal.returns-then-is_cut
returns-then-is_cut c =
    let bs = c.args.bytes.now in
    let i = c.loop-index.index in
    let b = get_or bs i 0 in
    let depth = c.loop-index.depth in
    let cut = sym c.is_cut.ensures ∙ c.if-is_cut.true in
    (c.loop-index-test.true, gap_small b (and_parts (is_gap b) (depth == 0) cut).0, cut_here bs i depth b c.loop-index-test.true refl c.loop-index.invariant.cut cut)

pub loop-index-preserved : goal.loop-index-preserved
loop-index-preserved c =
    let bs = c.args.bytes.now in
    let i = c.loop-index.index in
    let b = get_or bs i 0 in
    let depth = c.loop-index.depth in
    let uncut = sym c.is_cut.ensures ∙ c.if-is_cut.false in
    record {
      in_range = search rules;
      small = subst (λ n. n ≤ i + 1) (sym c.depth_after-depth.ensures) (depth_small depth b i c.loop-index.invariant.small);
      cut = subst (CutSoFar bs (i + 1)) (sym c.depth_after-depth.ensures) (cut_later bs i depth b c.loop-index-test.true refl c.loop-index.invariant.cut uncut);
    }

pub returns : goal.returns
returns c = never_cut c.args.bytes.now c.loop-index.index c.loop-index.depth c.loop-index-test.false c.loop-index.invariant.cut
