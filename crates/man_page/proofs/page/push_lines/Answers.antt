use Rattle.std.proofs.Common.{◌++◌, ◌∙◌, ap, string_bytes, true}
use Rattle.std.proofs.lemmas.Result.{on_ok_weaker}
use Rattle.page_model.specs.View.{line_of}
use Rattle.man_page.specs.declared.escape.Role.TheVariants.{Text}
use Rattle.man_page.specs.Exact.{input_line, pieces_text}
use Rattle.man_page.proofs.Parts.{lines_joined}
use Rattle.man_page.proofs.page.push_lines.Goals as goal

pub returns : goal.returns
returns g c =
    let section = c.args.section.now in
    let out = string_bytes c.args.writer.now.page in
    on_ok_weaker c.push_further_lines.result (lines_joined section out (string_bytes c.push_input_line.new.writer.page) (string_bytes c.push_further_lines.new.writer.page) c.args.lines.now (λ line. line_of line.items) c.in-Some.first.now c.in-Some.rest.now c.in-Some.ensures.cases.0 (c.in_ok-push_input_line.ensures ∙ ap (λ pieces. out ++ input_line (pieces_text Text true section (line_of pieces))) c.as_slice.ensures.value)) c.push_further_lines.ensures
