use Rattle.std.specs.Prelude.{◌≡◌}
use Rattle.bpaf_doc.proofs.lemmas.Html.Words.{take, not, list_all}
use Rattle.memchr.specs.Find.{is_byte2}
use Rattle.bpaf_doc.proofs.html.has_neither.Given as goal

abbrev pub invariant-loop-byte : goal.invariant-loop-byte
invariant-loop-byte l = l.neither ≡ list_all (λ byte. not (is_byte2 l.one l.other byte)) (take l.byte-index l.bytes)
