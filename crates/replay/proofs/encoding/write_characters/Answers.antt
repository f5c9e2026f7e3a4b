use Rattle.std.proofs.Common.{arith, sym, subst, string_bytes}
use Rattle.std.specs.Str.{IsUtf8}
use Rattle.std.proofs.lemmas.Bool.Decides.{nat_tests}
use Rattle.std.proofs.lemmas.Str.{IsUtf8-take}
use Rattle.replay.proofs.Blocks.{block_on}
use Rattle.replay.proofs.Spelling.{printed_end}
use Rattle.replay.proofs.encoding.write_characters.Goals as goal

pub blocks-2-preserved : goal.blocks-2-preserved
blocks-2-preserved c =
    let rest = c.blocks-2.rest.now in
    let end = c.floor_char_boundary.result in
    let utf8 = subst IsUtf8 (sym c.split_at.ensures.front) (IsUtf8-take rest end c.blocks-2.invariant.0 c.floor_char_boundary.ensures.boundary) in (
      c.in_ok-rest.ensures.text,
      block_on (string_bytes c.blocks-2.out) (string_bytes c.write_block.new.out) (string_bytes c.write_first.new.out) _ rest c.split_at.result.0.now c.split_at.result.1.now c.in_ok-rest.rest.now end
          utf8 c.split_at.ensures.front c.split_at.ensures.back c.in_ok-write_block.ensures c.in_ok-rest.ensures.written c.blocks-2.invariant.1,
    )

pub returns : goal.returns
returns c = printed_end (string_bytes c.blocks-2.out) c.blocks-2.rest.now _ (grind (arith, nat_tests)) c.blocks-2.invariant.1
