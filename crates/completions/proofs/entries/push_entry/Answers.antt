use Rattle.std.proofs.Common.{◌++◌, ap, string_bytes, ◌∙◌}
use Rattle.std.proofs.lemmas.Result.{on_ok_weaker}
use Rattle.completions.specs.View.{entry_said}
use Rattle.completions.proofs.Writing.{entry_put, pushed}
use Rattle.completions.proofs.entries.push_entry.Goals as goal

pub returns : goal.returns
returns g c =
    on_ok_weaker c.push_str-5.result
    (λ put.
    entry_put c.args.shell (entry_said c.args.row) (string_bytes c.args.out.now) (string_bytes c.push_str.new.self) (string_bytes c.push_quoted.new.out) (string_bytes c.push_str-2.new.self) (string_bytes c.push_quoted-2.new.out)
    (string_bytes c.push_str-3.new.self) (string_bytes c.push_quoted-3.new.out) (string_bytes c.push_str-4.new.self) (string_bytes c.push_quoted-4.new.out) (string_bytes c.push_str-5.new.self)
    c.in_ok-push_str.ensures.bytes c.in_ok-push_quoted.ensures c.in_ok-push_str-2.ensures.bytes c.in_ok-push_quoted-2.ensures c.in_ok-push_str-3.ensures.bytes c.in_ok-push_quoted-3.ensures c.in_ok-push_str-4.ensures.bytes c.in_ok-push_quoted-4.ensures
    (put ∙ ap (λ end. string_bytes c.push_quoted-4.new.out ++ end) c.line_end.ensures))
    (pushed c.push_str-5.result (string_bytes c.push_str-5.new.self) (string_bytes c.push_quoted-4.new.out ++ c.line_end.result.now) (string_bytes c.push_quoted-4.new.out) c.push_str-5.ensures.bytes)
