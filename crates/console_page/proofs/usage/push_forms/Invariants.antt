use Rattle.std.proofs.Common.{◌≡◌, ◌++◌, map, take, string_bytes}
use Rattle.std.specs.Prelude.{flat_map}
use Rattle.page_model.specs.View.{form_of}
use Rattle.console_page.specs.Usage.{form_text}
use Rattle.console_page.proofs.usage.push_forms.Given as goal

abbrev pub invariant-loop-form : goal.invariant-loop-form
invariant-loop-form g l = string_bytes l.out ≡ string_bytes l.initial.out ++ flat_map (form_text l.width l.word) (map form_of (take l.form-index l.forms))
