-- A run that is written at once is its words written one after another.
use Rattle.std.specs.Prelude.{◌+◌, ◌<◌, ◌^◌, ◌≤◌}
use Rattle.bpaf_doc.proofs.lemmas.Console.Words.{ap₂, ◌∙◌, arith, rules, page_of, sheet_of, text_put}
use Rattle.bpaf_doc.specs.Splitter.Steps.{letters}
use Rattle.bpaf_doc.proofs.lemmas.Console.Runs.{run_put}
use Rattle.bpaf_doc.proofs.console.page.Page.put_run.Goals as goal

pub returns-in_ok-push_str-clause-page : goal.returns-in_ok-push_str-clause-page
returns-in_ok-push_str-clause-page g c = λ full.
    let run = c.in-Some.run'.now in
    let s = sheet_of c.args.self.now in
    let p = page_of c.args.self.now in
    let small : c.args.self.now.width < 2 ^ 64 = search rules in
    let is = c.is_within_line.ensures c.if-not-is_within_line.false in
    let fits : c.args.self.now.column + letters run ≤ c.args.self.now.width = omega (arith, is.room, c.in-Some.ensures.fits, c.in-Some.ensures.taken) in
    ap₂ (λ t n. text_put full c.take_fitting.new.self (record s { page = record p { text = t; column = c.args.self.now.column + n } })) c.in_ok-push_str.ensures.bytes c.in-Some.ensures.taken
    ∙ run_put s run full c.args.chunks.now c.take_fitting.new.self is (omega (arith, small)) c.in-Some.ensures.chunks c.in-Some.ensures.line c.in-Some.ensures.text c.in-Some.ensures.lettered fits
