use Rattle.std.specs.Prelude.{◌≡◌, ◌≤◌}
use Rattle.bpaf_doc.proofs.lemmas.Console.Words.{Bool, length, hides, IsPastLine, margin_of, sheet_of, text_put}
use Rattle.bpaf_doc.proofs.console.page.Page.put_code.Given as goal

abbrev pub invariant-lines : goal.invariant-lines
invariant-lines g l = record {
  page : (full : Bool) → text_put full l.chunks (sheet_of l.self) ≡ text_put full l.fn.chunks (sheet_of l.fn.self);
  same_hiding : (full : Bool) → hides full l.chunks ≡ hides full l.fn.chunks;
  left : length l.chunks ≤ length l.fn.chunks;
  past : IsPastLine (sheet_of l.self);
  margin : l.margin ≡ margin_of (sheet_of l.self);
}

abbrev pub decreases-lines : goal.decreases-lines
decreases-lines g l = length l.chunks
