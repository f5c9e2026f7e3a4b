use Rattle.std.proofs.Common.{◌≡◌, ◌++◌, map, take, string_bytes}
use Rattle.std.specs.Prelude.{flat_map}
use Rattle.page_model.specs.View.{form_of}
use Rattle.man_page.specs.Exact.{form_text}
use Rattle.man_page.proofs.page.push_forms.Given as goal

abbrev pub invariant-loop-form : goal.invariant-loop-form
invariant-loop-form g l = string_bytes l.writer.page ≡ string_bytes l.initial.writer.page ++ flat_map (form_text l.section) (map form_of (take l.form-index l.forms))
