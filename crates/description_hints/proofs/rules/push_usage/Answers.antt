use Rattle.std.proofs.Common.{◌++◌, ◌∙◌, ap, map}
use Rattle.std.proofs.lemmas.Result.{on_ok_weaker}
use Rattle.page_model.specs.View.{form_of}
use Rattle.description_hints.specs.Hints.{about_path, forms_hints}
use Rattle.description_hints.specs.View.{holds, path_said, warning_said}
use Rattle.description_hints.proofs.rules.push_usage.Goals as goal

pub returns : goal.returns
returns c =
    on_ok_weaker c.push_forms.result
    (λ put. put ∙ (λ i. map warning_said c.args.found.now.items ++ about_path (path_said c.args.path.now) (forms_hints (λ word. c.in_ok-own.ensures word i) (holds c.args.around.now.help_words) ((ap (map form_of) c.as_slice.ensures.value ∙ c.in_ok-forms.ensures) i))))
    c.push_forms.ensures
