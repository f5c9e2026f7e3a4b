use Rattle.std.proofs.Common.{◌++◌, ◌∙◌, ap, append_assoc, map, string_bytes}
use Rattle.std.specs.Prelude.{codes}
use Rattle.std.proofs.lemmas.Result.{on_ok_weaker}
use Rattle.page_model.specs.View.{line_of}
use Rattle.man_page.specs.Exact.{lines_text}
use Rattle.man_page.proofs.page.push_bullet.Goals as goal

pub returns : goal.returns
returns g c =
    let lines = lines_text c.args.section.now (map (λ line. line_of line.items) c.args.item.now) in
    on_ok_weaker c.push_lines.result (λ e. e ∙ ap (λ x. x ++ lines) c.in_ok-push_str.ensures.bytes ∙ append_assoc (string_bytes c.args.writer.now.page) (codes ".IP \\(bu 2\n") lines) c.push_lines.ensures
