use Rattle.std.specs.Prelude.{◌∷◌, ◌≡◌}
use Rattle.bpaf_doc.proofs.lemmas.Console.Words.{[], false, length, sym, ap, subst, ◌∙◌, arith, bytes_eq, Raw, hides, IsPastLine, code_put, margin_of, on, sheet_of, text_put}
use Rattle.bpaf_doc.proofs.lemmas.Console.Code.{code_put_is, past_again}
use Rattle.bpaf_doc.proofs.console.page.Page.put_code.Goals as goal

pub lines-preserved : goal.lines-preserved
lines-preserved g c =
    let s = sheet_of c.lines.self in
    let line = c.in-Some.line.now in
    let rest = c.take_code.new.self in
    let inv = c.lines.invariant in
    let taken : c.lines.chunks ≡ Raw line 1000000 ∷ rest = c.in-Some.ensures.chunks in
    let other : bytes_eq line (32 ∷ []) ≡ false = sym c.if-eq.ensures in
    let new : sheet_of c.put_code_line.new.self ≡ on (code_put (margin_of s) line) s = c.in_ok-put_code_line.ensures.page ∙ ap (λ m. on (code_put m line) s) inv.margin in
    record {
      page = λ full. ap (text_put full rest) (new ∙ sym (code_put_is s inv.past line other)) ∙ ap (λ cs. text_put full cs s) (sym taken) ∙ inv.page full;
      same_hiding = λ full. ap (hides full) (sym taken) ∙ inv.same_hiding full;
      left = omega (arith, ap length taken, inv.left);
      past = subst IsPastLine (sym new) (past_again s inv.past line);
      margin = inv.margin ∙ sym (ap margin_of new);
    }
