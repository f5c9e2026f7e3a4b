use Rattle.std.proofs.Common.{map, string_bytes}
use Rattle.std.proofs.lemmas.Result.{on_ok_weaker}
use Rattle.page_model.specs.View.{form_of}
use Rattle.markdown_page.proofs.Parts.{in_fences}
use Rattle.markdown_page.proofs.page.push_usage.Goals as goal

pub returns : goal.returns
returns g c =
    on_ok_weaker c.push_fence-2.result
    (in_fences (string_bytes c.args.writer.now.page) (string_bytes c.push_str.new.self) (string_bytes c.push_fence.new.page) (string_bytes c.push_forms.new.writer.page) (string_bytes c.push_fence-2.new.page) (map form_of c.args.forms.now) c.in_ok-more.more
    c.in_ok-more.ensures c.in_ok-push_str.ensures.bytes c.in_ok-push_fence.ensures c.in_ok-push_forms.ensures)
    c.push_fence-2.ensures
