use Rattle.std.proofs.Common.{◌≡◌, ◌==◌, false, length, rules, arith}
use Rattle.std.proofs.lemmas.Grind.{common_steps}
use Rattle.std.proofs.lemmas.Option.{IfSome_then}
use Rattle.toml_parser.specs.Lexical.{skip_blank}
use Rattle.keyed.proofs.Turns.{document_more, document_turn}
use Rattle.keyed.proofs.entries.entry_of.Goals as goal

pub lines-init : goal.lines-init
lines-init c = (search rules, omega arith, λ ms read. rw c.skip_bom-rest.ensures.rest (document_turn c.args.text.now ms read))

pub returns-then-is_some : goal.returns-then-is_some
returns-then-is_some c =
    let start_is = c.skip_blank-start.ensures.rest in
    let other : (length (skip_blank c.lines.rest.now) == 0) ≡ false = grind (arith, common_steps) in
    IfSome_then c.in_ok-found.found c.in_ok-found.ensures λ e stands ms read.
    let (x, after, is, more) = document_more c.lines.rest.now (c.lines.invariant.2 ms read) other in
    let same : c.in_ok-line.following.now ≡ after = c.in_ok-line.ensures.end (x, after) (rw start_is is) in
    stands ((x, rw (start_is, same) is), c.in_ok-line.ensures.value)

pub lines-preserved-else-is_some : goal.lines-preserved-else-is_some
lines-preserved-else-is_some c =
    let start_is = c.skip_blank-start.ensures.rest in
    let other : (length (skip_blank c.lines.rest.now) == 0) ≡ false = grind (arith, common_steps) in (
      search rules,
      c.section_of-section.ensures,
      λ ms read.
          let (x, after, is, more) = document_more c.lines.rest.now (c.lines.invariant.2 ms read) other in
          let same : c.in_ok-line.following.now ≡ after = c.in_ok-line.ensures.end (x, after) (rw start_is is) in
          rw same more,
    )

pub lines-preserved : goal.lines-preserved
lines-preserved c =
    let start_is = c.skip_blank-start.ensures.rest in
    let other : (length (skip_blank c.lines.rest.now) == 0) ≡ false = grind (arith, common_steps) in (
      search rules,
      c.section_of-section.ensures,
      λ ms read.
          let (x, after, is, more) = document_more c.lines.rest.now (c.lines.invariant.2 ms read) other in
          let same : c.in_ok-line.following.now ≡ after = c.in_ok-line.ensures.end (x, after) (rw start_is is) in
          rw same more,
    )
