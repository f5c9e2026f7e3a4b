use Rattle.std.proofs.Common.{◌≡◌, IfOk, sym, ap, subst}
use Rattle.html_page.specs.Promises.{begun_page}
use Rattle.html_page.specs.View.{frame_of}
use Rattle.html_page.proofs.Views.{open-Chapter}
use Rattle.html_page.proofs.page.begin.Goals as goal

pub returns-clause-ok : goal.returns-clause-ok
returns-clause-ok g c =
    subst (λ d. IfOk c.new.result (λ page. page ≡ d)) (sym (ap (begun_page (frame_of c.args.frame.now)) (open-Chapter c.args.top.now))) c.new.ensures.ok
