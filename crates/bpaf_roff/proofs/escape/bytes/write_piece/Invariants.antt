use Rattle.std.proofs.Common.{◌≡◌, ◌++◌, length}
use Rattle.bpaf_roff.specs.Roff.{piece}
use Rattle.bpaf_roff.specs.Escaping.{signs_of}
use Rattle.bpaf_roff.specs.Steps.Output.{KeepsFront}
use Rattle.bpaf_roff.specs.Steps.Contexts.{bytes_in, ends_in_line_start, text_in}
use Rattle.bpaf_roff.proofs.escape.bytes.write_piece.Given as goal

-- what is written, and what the rest comes to, make up the whole piece
abbrev pub invariant-loop-rest : goal.invariant-loop-rest
invariant-loop-rest g l =
    let how = l.context in
    let now = record how { at_line_start = l.at_line_start } in
    let whole = signs_of (piece how.label l.text) in
    record {
      items : l.out.items ++ text_in now (bytes_in now l.rest) ≡ l.fn.out.items ++ text_in how whole;
      line_start : ends_in_line_start now (bytes_in now l.rest) ≡ ends_in_line_start how whole;
      kept : KeepsFront l.fn.out.items l.out.items;
    }

abbrev pub decreases-loop-rest : goal.decreases-loop-rest
decreases-loop-rest g l = length l.rest
