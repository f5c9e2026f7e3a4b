-- A run stands for the first chunks of what is left of its text, and a code line is the first one.
use Rattle.bpaf_doc.proofs.lemmas.Html.Words.{rules, refl, sym, inr, ◌∙◌, Raw, code_weight}
use Rattle.bpaf_doc.proofs.lemmas.Html.Fragments.Walking.{left_of, left_more, left_run, fewer_left}
use Rattle.bpaf_doc.proofs.html.fragments.FragmentsIterator.next.Goals as goal

pub returns-in-Some-clause-steps : goal.returns-in-Some-clause-steps
returns-in-Some-clause-steps c = search (rules, left_run)

pub returns-in-Some-clause-goes : goal.returns-in-Some-clause-goes
returns-in-Some-clause-goes c =
    let f = c.self.inside in
    let now = left_run c.args.self.now f.full f.in_text f.style c.in-Some.run'.now f.chunks c.take_line.new.self f.depth f.parts c.self.view_is c.if-self.true c.in-Some.ensures.chunks c.in-Some.ensures.run.line in
    record {
      on = λ _. (tt, tt, fewer_left c.args.self.now (left_of f.full f.in_text f.style c.take_line.new.self f.depth f.parts) f.style c.in-Some.run'.now c.in-Some.ensures.run now);
      keeps = tt;
      rests = λ _. tt;
    }

pub returns-in-Some-take_code-clause-steps : goal.returns-in-Some-take_code-clause-steps
returns-in-Some-take_code-clause-steps c =
    let f = c.self.inside in (
      tt,
      left_more c.args.self.now f.full f.in_text f.style (Raw c.in-Some-take_code.line.now code_weight) f.chunks c.take_code.new.self f.depth f.parts c.self.view_is c.if-self.true
          (sym c.in_default.ensures.none ∙ c.in-Some-take_code.ensures.chunks) (inr refl),
    )
