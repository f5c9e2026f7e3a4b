use Rattle.std.proofs.Common.{◌∙◌, sym, rules}
use Rattle.bpaf_roff.specs.Steps.Output.{written}
use Rattle.bpaf_roff.proofs.lemmas.Staying.{bare_stay, plain_stay}
use Rattle.bpaf_roff.proofs.lemmas.Texts.{argument_text}
use Rattle.bpaf_roff.proofs.escape.bytes.write_bytes.Goals as goal

pub returns-in-UnescapedAtNewline-clause-ok : goal.returns-in-UnescapedAtNewline-clause-ok
returns-in-UnescapedAtNewline-clause-ok g c =
    let a = c.args in
    rw (bare_stay a.context.label c.in-UnescapedAtNewline.is a.bytes.now a.context.apostrophes (written a.context.at_line_start)) (search rules)

pub returns-in-Spaces-clause-ok : goal.returns-in-Spaces-clause-ok
returns-in-Spaces-clause-ok g c =
    let a = c.args in
    rw (c.in-Spaces.is, argument_text a.context.apostrophes a.bytes.now (written a.context.at_line_start)) c.write_argument.ensures.ok

pub returns-then-are_plain-clause-ok : goal.returns-then-are_plain-clause-ok
returns-then-are_plain-clause-ok g c =
    let a = c.args in
    rw (c.in-Special.is, plain_stay a.bytes.now (sym c.are_plain.ensures ∙ c.if-are_plain.true) a.context.apostrophes (written a.context.at_line_start)) (search rules)
