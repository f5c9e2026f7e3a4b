use Rattle.std.proofs.Common.{◌++◌, ◌∙◌, ap, map, string_bytes}
use Rattle.page_model.specs.View.{line_of}
use Rattle.markdown_page.specs.Exact.{line_text}
use Rattle.markdown_page.proofs.Parts.{lines_written}
use Rattle.markdown_page.proofs.block.push_lines.Goals as goal

pub returns : goal.returns
returns g c =
    let out = string_bytes c.args.writer.now.page in
    lines_written c.push_str.result c.args.level out (string_bytes c.args.writer.now.line.text) (string_bytes c.push_line.new.out) (string_bytes c.push_further_lines.new.writer.page) (string_bytes c.push_str.new.self) (map (λ line. line_of line.items) c.args.lines.now)
    (c.in_ok-push_line.ensures ∙ ap (λ x. out ++ line_text x) c.as_str.ensures.value) c.in_ok-push_further_lines.ensures c.push_str.ensures.bytes
