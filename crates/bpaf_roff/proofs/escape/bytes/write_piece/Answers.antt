use Rattle.std.proofs.Common.{◌≡◌, ◌++◌, ◌∙◌, map, sym, ap}
use Rattle.bpaf_roff.specs.Escaping.{is_line_start, breaks, Byte, text_after}
use Rattle.bpaf_roff.specs.Steps.Output.{written}
use Rattle.bpaf_roff.proofs.lemmas.Fronts.{KeepsFront-trans}
use Rattle.bpaf_roff.proofs.lemmas.Written.{items_on, line_start_on, block_signs}
use Rattle.bpaf_roff.proofs.escape.bytes.write_piece.Goals as goal

pub loop-rest-init : goal.loop-rest-init
loop-rest-init g c =
    let a = c.args in
    let how = a.context in
    let q = how.apostrophes in
    let before = written how.at_line_start in
    let x = c.in_ok-at_line_start.at_line_start in
    let bytes = map (Byte how.label) c.as_bytes-rest.result.now in
    let whole = ap (λ t. breaks how.label ++ map (Byte how.label) t) c.as_bytes-rest.ensures.value in
    record {
      items =
          items_on q before (breaks how.label) bytes x c.in_ok-at_line_start.ensures.line_start a.out.now.items c.write_break.new.out.items _ c.in_ok-at_line_start.ensures.ok
          (ap (λ xs. a.out.now.items ++ text_after q before xs) whole);
      line_start = line_start_on q before (breaks how.label) bytes x c.in_ok-at_line_start.ensures.line_start ∙ ap (λ xs. is_line_start (before ++ text_after q before xs)) whole;
      kept = c.write_break.ensures.kept;
    }

pub loop-rest-preserved : goal.loop-rest-preserved
loop-rest-preserved g c =
    let a = c.args in
    let how = a.context in
    let q = how.apostrophes in
    let inv = c.loop-rest.invariant in
    let before = written c.loop-rest.at_line_start in
    let block = c.split_at.result.0.now in
    let after = c.split_at.result.1.now in
    let y = c.in_ok-at_line_start-2.at_line_start in
    let split : map (Byte how.label) block ++ map (Byte how.label) after ≡ map (Byte how.label) c.loop-rest.rest.now = sym (block_signs how.label c.loop-rest.rest.now block after c.split_at.ensures.by_index.0) in
    record {
      items =
          items_on q before (map (Byte how.label) block) (map (Byte how.label) after) y c.in_ok-at_line_start-2.ensures.line_start c.loop-rest.out.items c.write_block.new.out.items _ c.in_ok-at_line_start-2.ensures.ok
          (ap (λ xs. c.loop-rest.out.items ++ text_after q before xs) split ∙ inv.items);
      line_start =
          line_start_on q before (map (Byte how.label) block) (map (Byte how.label) after) y c.in_ok-at_line_start-2.ensures.line_start
          ∙ ap (λ xs. is_line_start (before ++ text_after q before xs)) split ∙ inv.line_start;
      kept = KeepsFront-trans a.out.now.items c.loop-rest.out.items c.write_block.new.out.items inv.kept c.write_block.ensures.kept;
    }
