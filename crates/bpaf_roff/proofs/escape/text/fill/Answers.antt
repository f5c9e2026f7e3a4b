-- Two more bytes are put, or the last one.
use Rattle.std.proofs.Common.{◌≡◌, ◌+◌, ◌<◌, ◌++◌, ◌∙◌, List, ℕ, ap, sym, arith, get_or, length, map, take}
use Rattle.std.proofs.Math.Seq.{take-length}
use Rattle.bpaf_roff.specs.Escaping.{Byte, byte_text, text_after}
use Rattle.bpaf_roff.specs.Steps.Output.{written}
use Rattle.bpaf_roff.specs.declared.escape.Apostrophes.{Apostrophes}
use Rattle.bpaf_roff.specs.declared.escape.Escape.{Escape}
use Rattle.bpaf_roff.proofs.lemmas.Written.{front_text, front_text_more}
use Rattle.bpaf_roff.proofs.escape.text.fill.Goals as goal

one_more : (q : Apostrophes) (label : Escape) (before bytes : List ℕ) (i : ℕ) (out more : List ℕ) → i < length bytes → out ≡ front_text q label before bytes i
    → more ≡ out ++ byte_text q (before ++ front_text q label before bytes i) label (get_or bytes i 0) → more ≡ front_text q label before bytes (i + 1)
one_more q label before bytes i out more lt o m =
    m ∙ ap (λ t. t ++ byte_text q (before ++ front_text q label before bytes i) label (get_or bytes i 0)) o ∙ sym (front_text_more q label before bytes i lt)

pub pairs-preserved : goal.pairs-preserved
pairs-preserved c =
    let how = c.args.context in
    let i = c.pairs.index in
    let before = written how.at_line_start in
    let lt : i + 1 < length c.args.bytes.now = c.pairs-test.true in
    let two : i + 1 + 1 ≡ i + 2 = omega arith in
    let first = one_more how.apostrophes how.label before c.args.bytes.now i (take c.pairs.end c.pairs.room) (take c.put_at-end.result c.put_at-end.new.room) (omega (arith, lt)) c.pairs.invariant.text
    c.put_at-end.ensures.text in
    let second = one_more how.apostrophes how.label before c.args.bytes.now (i + 1) (take c.put_at-end.result c.put_at-end.new.room)
    (take c.put_at-end-in-pairs.result c.put_at-end-in-pairs.new.room) lt first c.put_at-end-in-pairs.ensures.text in
    record {
      in_range = omega (arith, lt);
      fits = omega (arith, c.pairs.invariant.fits, c.put_at-end.ensures.next, c.put_at-end-in-pairs.ensures.next);
      text = second ∙ ap (front_text how.apostrophes how.label before c.args.bytes.now) two;
    }

pub returns-then-index-bytes-clause-text : goal.returns-then-index-bytes-clause-text
returns-then-index-bytes-clause-text c =
    let how = c.args.context in
    let i = c.pairs.index in
    let bytes = c.args.bytes.now in
    let before = written how.at_line_start in
    let last : i + 1 ≡ length bytes = omega (arith, c.pairs-test.false, c.if-index-bytes.true) in
    one_more how.apostrophes how.label before bytes i (take c.pairs.end c.pairs.room) (take c.put_at-end-then-index-bytes.result c.put_at-end-then-index-bytes.new.room) c.if-index-bytes.true c.pairs.invariant.text
    c.put_at-end-then-index-bytes.ensures.text
    ∙ ap (front_text how.apostrophes how.label before bytes) last
    ∙ ap (λ t. text_after how.apostrophes before (map (Byte how.label) t)) (take-length bytes)
