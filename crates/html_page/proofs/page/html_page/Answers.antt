use Rattle.std.proofs.Common.{IfOk, string_bytes, subst}
use Rattle.page_model.specs.View.{chapter_of}
use Rattle.web_page.specs.Calls.{finish_fault}
use Rattle.html_page.specs.Page.{page_events}
use Rattle.html_page.specs.Promises.{ReadsBack, begun_page, head_fault, page_draft, page_fault}
use Rattle.html_page.specs.View.{frame_of}
use Rattle.html_page.proofs.Outcomes.{said_drafted}
use Rattle.html_page.proofs.Whole.{blamed_on, body_fails, handed_on, head_is_fine, put_on, whole_fails}
use Rattle.html_page.proofs.page.html_page.Goals as goal

pub returns-in_err-put_page-clause-fails : goal.returns-in_err-put_page-clause-fails
returns-in_err-put_page-clause-fails g c =
    let frame = frame_of c.args.frame.now in
    let top = chapter_of c.args.top.now in
    let fine = head_is_fine (head_fault frame top) c.in_ok-page.page c.in_ok-page.ensures.fails in
    let put = blamed_on c.in_ok-page.page (begun_page frame top) (page_events frame top) c.in_err-put_page.field-0.0 c.in_ok-page.ensures.ok c.in_err-put_page.ensures in
    handed_on (page_fault frame top) c.from_residual-in_err-put_page.result c.in_err-put_page.field-0.0 c.from_residual-in_err-put_page.ensures.1
    (body_fails (head_fault frame top) (finish_fault (page_draft frame top)) (begun_page frame top) (page_events frame top) c.in_err-put_page.field-0.0 fine put)

pub returns-clause-reads : goal.returns-clause-reads
returns-clause-reads g c =
    let frame = frame_of c.args.frame.now in
    let top = chapter_of c.args.top.now in
    let put = put_on c.in_ok-page.page (begun_page frame top) c.put_page.new.page (page_events frame top) c.in_ok-page.ensures.ok c.in_ok-put_page.ensures in
    subst (λ d. IfOk c.finish.result (λ text. ReadsBack c.args.extent d (string_bytes text)))
    (said_drafted (begun_page frame top) c.put_page.new.page (page_events frame top) put) c.finish.ensures.reads

pub returns-clause-fails : goal.returns-clause-fails
returns-clause-fails g c =
    let frame = frame_of c.args.frame.now in
    let top = chapter_of c.args.top.now in
    let fine = head_is_fine (head_fault frame top) c.in_ok-page.page c.in_ok-page.ensures.fails in
    let put = put_on c.in_ok-page.page (begun_page frame top) c.put_page.new.page (page_events frame top) c.in_ok-page.ensures.ok c.in_ok-put_page.ensures in
    whole_fails (head_fault frame top) (begun_page frame top) c.put_page.new.page (page_events frame top) c.finish.result fine put c.finish.ensures.fails
