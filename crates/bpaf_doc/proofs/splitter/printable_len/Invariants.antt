use Rattle.std.specs.Prelude.{◌-◌, ◌≡◌, ◌≤◌}
use Rattle.bpaf_doc.proofs.lemmas.Splitter.Words.{true, length, take, is_ascii_graphic, list_all}
use Rattle.bpaf_doc.proofs.splitter.printable_len.Given as goal

abbrev pub invariant-printable : goal.invariant-printable
invariant-printable l = (l.len ≤ length l.bytes) × (list_all is_ascii_graphic (take l.len l.bytes) ≡ true)

abbrev pub decreases-printable : goal.decreases-printable
decreases-printable l = length l.bytes - l.len
