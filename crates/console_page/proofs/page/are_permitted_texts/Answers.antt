use Rattle.std.proofs.Common.{◌&&◌, ◌∙◌, ap, map, sym}
use Rattle.std.specs.List.{list_all}
use Rattle.std.proofs.lemmas.List.Folds.{list_all-map}
use Rattle.page_model.specs.Permitted.{is_permitted_part}
use Rattle.page_model.specs.View.{part_of}
use Rattle.page_model.specs.Faults.{fault_unless}
use Rattle.console_page.proofs.page.are_permitted_texts.Goals as goal

pub returns-then-are_permitted : goal.returns-then-are_permitted
returns-then-are_permitted g c =
    ap fault_unless (ap (λ b. b && list_all is_permitted_part (map part_of c.args.parts.now)) (sym c.are_permitted.ensures ∙ c.if-are_permitted.true)
    ∙ list_all-map is_permitted_part part_of c.args.parts.now ∙ sym c.are_permitted_parts.ensures)
