use Rattle.std.proofs.Common.{◌∙◌, ap, sym}
use Rattle.std.proofs.lemmas.List.Folds.{list_all-map}
use Rattle.page_model.specs.Permitted.{is_permitted_form}
use Rattle.page_model.specs.View.{form_of}
use Rattle.page_model.specs.Faults.{fault_unless}
use Rattle.console_page.proofs.page.are_permitted_usages.Goals as goal

pub returns : goal.returns
returns g c = ap fault_unless (list_all-map is_permitted_form form_of c.args.forms.now ∙ sym c.are_permitted_forms.ensures)
