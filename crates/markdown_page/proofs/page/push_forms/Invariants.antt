use Rattle.std.proofs.Common.{◌≡◌, ◌++◌, map, take, string_bytes}
use Rattle.std.specs.Prelude.{flat_map}
use Rattle.page_model.specs.View.{form_of}
use Rattle.markdown_page.specs.Steps.{form_line}
use Rattle.markdown_page.proofs.page.push_forms.Given as goal

abbrev pub invariant-loop-form : goal.invariant-loop-form
invariant-loop-form g l = string_bytes l.writer.page ≡ string_bytes l.initial.writer.page ++ flat_map form_line (map form_of (take l.form-index l.forms))
