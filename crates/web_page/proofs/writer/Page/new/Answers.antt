use Rattle.std.proofs.Common.{◌≡◌, arith, length, string_bytes, sym, ◌∙◌}
use Rattle.web_page.specs.Calls.{page_fault}
use Rattle.web_page.proofs.Fronts.{new_one, no_fault}
use Rattle.web_page.proofs.writer.Page.new.Goals as goal

pub invariant_of-result : goal.invariant_of-result
invariant_of-result g c =
    let at : c.len-content_at.result ≡ length (string_bytes c.in_ok-text.text) = omega (arith, c.len-content_at.ensures, c.in_ok-text.text.bytes.ok) in
    (new_one c.args.language.now c.args.title.now c.args.style.now (string_bytes c.in_ok-text.text) c.len-content_at.result c.body.result c.new.result.items c.utf8.language c.utf8.title c.utf8.style
    (no_fault (page_fault c.args.language.now c.args.title.now c.args.style.now) (sym c.check_page.ensures ∙ c.in_ok-check_page.was)) c.in_ok-text.ensures at c.body.ensures c.new.ensures.items).ongoing

pub returns-clause-ok : goal.returns-clause-ok
returns-clause-ok g c =
    let at : c.len-content_at.result ≡ length (string_bytes c.in_ok-text.text) = omega (arith, c.len-content_at.ensures, c.in_ok-text.text.bytes.ok) in
    (new_one c.args.language.now c.args.title.now c.args.style.now (string_bytes c.in_ok-text.text) c.len-content_at.result c.body.result c.new.result.items c.utf8.language c.utf8.title c.utf8.style
    (no_fault (page_fault c.args.language.now c.args.title.now c.args.style.now) (sym c.check_page.ensures ∙ c.in_ok-check_page.was)) c.in_ok-text.ensures at c.body.ensures c.new.ensures.items).is
