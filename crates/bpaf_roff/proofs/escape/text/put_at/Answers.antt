use Rattle.std.proofs.Common.{◌++◌, ◌∙◌, take, ap, sym}
use Rattle.bpaf_roff.specs.Steps.Output.{written}
use Rattle.bpaf_roff.specs.Steps.Contexts.{bytes_in, text_in}
use Rattle.bpaf_roff.proofs.lemmas.Marks.{marked_text}
use Rattle.bpaf_roff.proofs.escape.text.put_at.Goals as goal

pub returns-clause-text : goal.returns-clause-text
returns-clause-text c =
    let a = c.args in
    let how = a.context in
    let q = how.apostrophes in
    let before = written how.at_line_start ++ text_in how (bytes_in how (take a.index a.bytes.now)) in
    let text = marked_text q how.label c.requires.text how.at_line_start a.bytes.now a.index a.mark c.shown.result c.requires.within c.requires.mark c.if-mark-ge-ODD.false (c.shown.ensures.text q before) c.shown.ensures.mark in
    c.put_marked.ensures.text ∙ ap (λ t. take a.at a.room.now ++ t) (sym text)
