use Rattle.std.specs.Prelude.{◌≡◌, ◌≤◌}
use Rattle.bpaf_doc.proofs.lemmas.Splitter.Words.{take, letters}
use Rattle.bpaf_doc.proofs.splitter.count_letters.Given as goal

abbrev pub invariant-loop-byte : goal.invariant-loop-byte
invariant-loop-byte l = record {
  counted : l.count ≡ letters (take l.byte-index l.bytes);
  few : l.count ≤ l.byte-index;
}
