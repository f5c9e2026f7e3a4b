use Rattle.std.specs.Prelude.{◌≡◌}
use Rattle.bpaf_doc.proofs.lemmas.Splitter.Words.{take, list_all, is_lettered}
use Rattle.bpaf_doc.proofs.splitter.are_lettered.Given as goal

abbrev pub invariant-loop-byte : goal.invariant-loop-byte
invariant-loop-byte l = l.lettered ≡ list_all is_lettered (take l.byte-index l.bytes)
