use Rattle.std.specs.Prelude.{◌≡◌}
use Rattle.bpaf_doc.proofs.lemmas.Buffer.Words.{length, shown_fragments}
use Rattle.bpaf_doc.specs.Markdown.Steps.{blank_text, marked_after_all}
use Rattle.bpaf_doc.proofs.buffer.Doc.render_markdown.Given as goal

-- the text so far with what is left comes to the whole
abbrev pub invariant-loop-taken : goal.invariant-loop-taken
invariant-loop-taken g l = marked_after_all l.page l.fragments ≡ marked_after_all blank_text (shown_fragments l.full l.self)

abbrev pub decreases-loop-taken : goal.decreases-loop-taken
decreases-loop-taken g l = length l.fragments
