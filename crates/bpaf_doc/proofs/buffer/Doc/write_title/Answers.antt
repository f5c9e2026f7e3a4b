use Rattle.std.specs.Prelude.{◌∷◌}
use Rattle.bpaf_doc.proofs.lemmas.Buffer.Words.{[], ◌∙◌, on_err_weaker, Section3, Grows, emphasis, plain}
use Rattle.bpaf_doc.specs.Buffer.Writes as write
use Rattle.bpaf_doc.proofs.lemmas.Buffer.Growing.{Grows-more, on_err}
use Rattle.bpaf_doc.proofs.buffer.Doc.write_title.Goals as goal

pub returns-in_err-push_empty-in-Some-clause-err : goal.returns-in_err-push_empty-in-Some-clause-err
returns-in_err-push_empty-in-Some-clause-err g c =
    on_err c.from_residual-in_err-push_empty-in-Some.result (emphasis c.in-Some.title.now ∷ [], c.in_err-push_empty-in-Some.ensures.err ∙ c.in_ok-emphasis-in-Some.ensures.ok)

pub returns-in_err-text-in-Some-clause-err : goal.returns-in_err-text-in-Some-clause-err
returns-in_err-text-in-Some-clause-err g c =
    let before = c.args.self.now in
    let title : Grows before c.emphasis-in-Some.new.self = (emphasis c.in-Some.title.now ∷ [], c.in_ok-emphasis-in-Some.ensures.ok) in
    let mark = Grows-more before c.emphasis-in-Some.new.self c.push_empty.new.self (write.start Section3 ∷ []) title c.in_ok-push_empty-in-Some.ensures.ok in
    on_err c.from_residual-in_err-text-in-Some.result (Grows-more before c.push_empty.new.self c.text.new.self [] mark c.in_err-text-in-Some.ensures.err)

pub returns-in_err-push_parts-in-Some-clause-err : goal.returns-in_err-push_parts-in-Some-clause-err
returns-in_err-push_parts-in-Some-clause-err g c =
    let before = c.args.self.now in
    let title : Grows before c.emphasis-in-Some.new.self = (emphasis c.in-Some.title.now ∷ [], c.in_ok-emphasis-in-Some.ensures.ok) in
    let mark = Grows-more before c.emphasis-in-Some.new.self c.push_empty.new.self (write.start Section3 ∷ []) title c.in_ok-push_empty-in-Some.ensures.ok in
    let rest = Grows-more before c.push_empty.new.self c.text.new.self (plain c.in-Some.rest.now ∷ []) mark c.in_ok-text-in-Some.ensures.ok in
    on_err c.from_residual-in_err-push_parts-in-Some.result (Grows-more before c.text.new.self c.push_parts-in-Some.new.self [] rest c.in_err-push_parts-in-Some.ensures.err)

pub returns-in_ok-emphasis-in-None-clause-err : goal.returns-in_ok-emphasis-in-None-clause-err
returns-in_ok-emphasis-in-None-clause-err g c =
    on_err_weaker c.push_parts.result (λ same. (emphasis c.args.text.now ∷ [], same ∙ c.in_ok-emphasis-in-None.ensures.ok)) c.push_parts.ensures.err

pub returns-in_ok-push_parts-in-Some-clause-err : goal.returns-in_ok-push_parts-in-Some-clause-err
returns-in_ok-push_parts-in-Some-clause-err g c =
    let before = c.args.self.now in
    let title : Grows before c.emphasis-in-Some.new.self = (emphasis c.in-Some.title.now ∷ [], c.in_ok-emphasis-in-Some.ensures.ok) in
    let mark = Grows-more before c.emphasis-in-Some.new.self c.push_empty.new.self (write.start Section3 ∷ []) title c.in_ok-push_empty-in-Some.ensures.ok in
    let rest = Grows-more before c.push_empty.new.self c.text.new.self (plain c.in-Some.rest.now ∷ []) mark c.in_ok-text-in-Some.ensures.ok in
    let others = Grows-more before c.text.new.self c.push_parts-in-Some.new.self (write.parts c.args.others ∷ []) rest c.in_ok-push_parts-in-Some.ensures.ok in
    on_err_weaker c.push_empty-in-Some.result (λ same. Grows-more before c.push_parts-in-Some.new.self c.push_empty-in-Some.new.self [] others same) c.push_empty-in-Some.ensures.err
