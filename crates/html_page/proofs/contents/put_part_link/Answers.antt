use Rattle.std.proofs.Common.{append-nil, subst, sym}
use Rattle.html_page.specs.Page.{heading_link}
use Rattle.html_page.specs.Steps.{Puts}
use Rattle.html_page.specs.Steps.View.{texts_of}
use Rattle.html_page.proofs.contents.put_part_link.Goals as goal

pub returns-in-Heading-clause-put : goal.returns-in-Heading-clause-put
returns-in-Heading-clause-put g c =
    rw c.in-Heading.is
    (subst (λ es. Puts c.args.page.now es c.put_heading_link.new.page c.put_heading_link.result)
    (sym (append-nil (heading_link c.args.title.now (texts_of c.args.before.now) c.in-Heading.text.now))) c.put_heading_link.ensures.put)
