use Rattle.std.specs.Prelude.{◌*◌, ◌≡◌, ◌≤◌}
use Rattle.bpaf_doc.proofs.lemmas.Html.Words.{take, flat_map, spelling_of}
use Rattle.bpaf_doc.proofs.html.spelling.fill.Given as goal

abbrev pub invariant-loop-byte : goal.invariant-loop-byte
invariant-loop-byte l = record {
  fits : l.end ≤ 4 * l.byte-index;
  text : take l.end l.room ≡ flat_map (spelling_of l.language) (take l.byte-index l.bytes);
}
