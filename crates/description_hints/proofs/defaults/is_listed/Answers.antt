use Rattle.std.proofs.Common.{◌||◌, ◌==◌, ◌∙◌, ap, sym}
use Rattle.std.proofs.lemmas.List.Folds.{list_all-map}
use Rattle.std.specs.List.{list_all, slice_split}
use Rattle.description.specs.Values.{listed_values}
use Rattle.description_hints.specs.Names.{is_among}
use Rattle.description_hints.proofs.defaults.is_listed.Goals as goal

pub returns : goal.returns
returns c =
    let has = is_among (listed_values c.args.values.now) in
    let parts = slice_split (λ b. b == 44) c.args.default.now in
    c.are_values.ensures ∙ ap (list_all (λ part. has part.now)) c.deref.ensures.value
    ∙ sym (list_all-map has (λ part. part.now) c.in_ok-parts.parts.items) ∙ ap (list_all has) c.in_ok-parts.ensures
    ∙ ap (λ is_value. is_value || list_all has parts) (sym c.if-is_value.false ∙ c.is_value.ensures)
