use Rattle.std.specs.Prelude.{◌≡◌}
use Rattle.bpaf_doc.proofs.lemmas.Buffer.Words.{map, take, document_of, pair_write}
use Rattle.bpaf_doc.proofs.buffer.Doc.from_pairs.Given as goal

abbrev pub invariant-loop-text : goal.invariant-loop-text
invariant-loop-text g l = l.doc ≡ document_of (map pair_write (take l.text-index l.pairs))
