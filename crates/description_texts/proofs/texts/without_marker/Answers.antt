use Rattle.std.proofs.Common.{◌≡◌, true, ap, sym, ◌∙◌}
use Rattle.std.specs.Prelude.{codes, ◌==◌}
use Rattle.std.specs.List.{starts_with}
use Rattle.description_texts.proofs.TextsBounds.{after_marker}
use Rattle.description_texts.proofs.texts.without_marker.Goals as goal

pub range_from-requires : goal.range_from-requires
range_from-requires c =
    let text = c.args.text.now in
    let is = c.as_bytes.ensures.value in
    let begins : starts_with ◌==◌ text (codes "- ") ≡ true = ap (λ bytes. starts_with ◌==◌ bytes (codes "- ")) (sym is) ∙ sym c.starts_with.ensures.value ∙ c.if-starts_with.true in
    λ _. after_marker text c.utf8.text begins
