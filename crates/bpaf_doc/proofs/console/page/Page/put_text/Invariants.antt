use Rattle.std.specs.Prelude.{◌≡◌}
use Rattle.bpaf_doc.proofs.lemmas.Console.Words.{length, chunks_of, hides, sheet_of, text_put}
use Rattle.bpaf_doc.proofs.console.page.Page.put_text.Given as goal

abbrev pub invariant-loop-chunk : goal.invariant-loop-chunk
invariant-loop-chunk g l = record {
  same_hiding : hides l.full l.chunks ≡ hides l.full (chunks_of l.text);
  same_page : text_put l.full l.chunks (sheet_of l.self) ≡ text_put l.full (chunks_of l.text) (sheet_of l.fn.self);
}

abbrev pub decreases-loop-chunk : goal.decreases-loop-chunk
decreases-loop-chunk g l = length l.chunks
