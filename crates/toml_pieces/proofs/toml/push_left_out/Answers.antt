use Rattle.std.proofs.Common.{◌++◌, string_bytes}
use Rattle.std.specs.Prelude.{codes}
use Rattle.std.proofs.lemmas.Result.{on_ok_weaker}
use Rattle.toml_pieces.proofs.Writing.{after_this, pushed}
use Rattle.toml_pieces.proofs.toml.push_left_out.Goals as goal

pub returns : goal.returns
returns g c =
    on_ok_weaker c.push_str-3.result
    (λ put. after_this (string_bytes c.args.out.now) (string_bytes c.push_str.new.self) (string_bytes c.push_str-3.new.self) (codes "# left out: ") (c.args.line.now ++ codes "\n") c.in_ok-push_str.ensures.bytes
    (after_this (string_bytes c.push_str.new.self) (string_bytes c.push_str-2.new.self) (string_bytes c.push_str-3.new.self) c.args.line.now (codes "\n") c.in_ok-push_str-2.ensures.bytes put))
    (pushed c.push_str-3.result (string_bytes c.push_str-3.new.self) (string_bytes c.push_str-2.new.self ++ codes "\n") (string_bytes c.push_str-2.new.self) c.push_str-3.ensures.bytes)
