use Rattle.std.specs.Prelude.{◌≡◌}
use Rattle.bpaf_doc.proofs.lemmas.Buffer.Words.{shown_fragments, blank_page, page_after_all}
use Rattle.bpaf_doc.proofs.buffer.Doc.render_html.Given as goal

-- the page so far with what is left comes to the whole
abbrev pub invariant-loop-taken : goal.invariant-loop-taken
invariant-loop-taken g l = page_after_all l.page l.taken-iterator ≡ page_after_all blank_page (shown_fragments l.full l.self)
