use Rattle.std.proofs.Common.{◌≡◌, ap, subst, sym, ◌∙◌}
use Rattle.std.specs.Str.{IsUtf8}
use Rattle.description_usage.specs.Forms.{shaped}
use Rattle.description_usage.proofs.Letters.{shaped_utf8}
use Rattle.description_usage.proofs.lone.shaped.Goals as goal

pub unreachable-requires : goal.unreachable-requires
unreachable-requires g c =
    let is : c.as_slice-2.result.now ≡ shaped c.args.line.now = c.as_slice-2.ensures.value ∙ c.in_ok-bytes.ensures ∙ ap shaped c.as_bytes-2.ensures.value in
    c.in-Err.ensures.cases.0 (subst IsUtf8 (sym is) (shaped_utf8 c.args.line.now c.utf8.line))
