use Rattle.std.proofs.Common.{◌≡◌, ◌≤◌, max, drop, map}
use Rattle.page_model.specs.View.{form_of}
use Rattle.markdown_page.specs.Kept.{form_bytes}
use Rattle.markdown_page.specs.Exact.{longest_of}
use Rattle.markdown_page.proofs.page.longest_of_forms.Given as goal

abbrev pub invariant-loop-form : goal.invariant-loop-form
invariant-loop-form g l = record {
  many : 2 ≤ l.longest;
  same : longest_of (map form_bytes (map form_of l.forms)) ≡ max l.longest (longest_of (map form_bytes (map form_of (drop l.form-index l.forms))));
}
