use Rattle.std.proofs.Common.{◌++◌, ◌-◌, ◌∙◌, ap, sym, length, take, string_bytes}
use Rattle.markdown_page.specs.Exact.{kept_blank, with_end}
use Rattle.markdown_page.specs.Reader.{ends_in_blank}
use Rattle.markdown_page.proofs.Fronted.{appended, end_some, from_front}
use Rattle.markdown_page.proofs.line.push_with_end.Goals as goal

pub returns : goal.returns
returns g c =
    let line = c.args.line.now in
    let out = string_bytes c.args.out.now in
    appended c.push_str-3.result out (take (length line - 1) line) kept_blank (string_bytes c.push_str-2.new.self) (string_bytes c.push_str-3.new.self) (with_end line)
    (c.in_ok-push_str.ensures.bytes ∙ ap (λ x. out ++ x) (c.range.ensures.value ∙ from_front (length line - 1) line)) c.push_str-3.ensures.bytes
    (end_some line (sym (c.ends_in_blank.ensures ∙ ap ends_in_blank c.as_bytes.ensures.value) ∙ c.if-not-ends_in_blank.false))
