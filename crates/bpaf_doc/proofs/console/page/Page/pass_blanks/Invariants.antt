use Rattle.std.specs.Prelude.{◌≡◌, ◌≤◌}
use Rattle.bpaf_doc.proofs.lemmas.Console.Words.{Bool, length, hides, sheet_of, text_put}
use Rattle.bpaf_doc.proofs.console.page.Page.pass_blanks.Given as goal

abbrev pub invariant-blanks : goal.invariant-blanks
invariant-blanks g l = record {
  page : (full : Bool) → text_put full l.chunks (sheet_of l.self) ≡ text_put full l.fn.chunks (sheet_of l.self);
  hides : (full : Bool) → hides full l.chunks ≡ hides full l.fn.chunks;
  left : length l.chunks ≤ length l.fn.chunks;
}

abbrev pub decreases-blanks : goal.decreases-blanks
decreases-blanks g l = length l.chunks
