use Rattle.std.proofs.Common.{map}
use Rattle.std.proofs.lemmas.Result.{on_ok_weaker}
use Rattle.description.specs.View.{description_said}
use Rattle.description_hints.specs.View.{warning_said}
use Rattle.description_hints.proofs.Alike.{files_put}
use Rattle.description_hints.proofs.files.push_file_hints.Goals as goal

pub returns : goal.returns
returns g c =
    on_ok_weaker c.push_all_alike_hints.result
    (files_put (description_said c.args.description.now) c.as_slice.result.now c.as_slice-2.result.now c.in_ok-pages.pages.items c.as_slice.ensures.value c.as_slice-2.ensures.value c.in_ok-pages.ensures
    (map warning_said c.args.found.now.items) (map warning_said c.push_page_hints.new.found.items) (map warning_said c.push_web_hint.new.found.items) (map warning_said c.push_all_alike_hints.new.found.items)
    c.in_ok-push_page_hints.ensures c.in_ok-push_web_hint.ensures)
    c.push_all_alike_hints.ensures
