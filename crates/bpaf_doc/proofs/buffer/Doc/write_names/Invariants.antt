use Rattle.std.specs.Prelude.{◌≡◌}
use Rattle.bpaf_doc.proofs.lemmas.Buffer.Words.{map, take, string_bytes, path_writes, with_writes}
use Rattle.bpaf_doc.proofs.buffer.Doc.write_names.Given as goal

abbrev pub invariant-loop-name : goal.invariant-loop-name
invariant-loop-name g l = l.self ≡ with_writes l.fn.self (path_writes (map string_bytes (take l.name-index l.path)))
