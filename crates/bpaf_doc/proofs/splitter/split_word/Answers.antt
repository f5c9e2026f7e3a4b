use Rattle.bpaf_doc.proofs.lemmas.Splitter.Words.{IsTrue, sym, subst, refl, list_all, is_word_byte, IsWordEnd}
use Rattle.bpaf_doc.proofs.lemmas.Splitter.Cuts.{is_cut, word_from_no_cut, word_end_at}
use Rattle.bpaf_doc.proofs.splitter.split_word.Goals as goal

pub returns-in-Some-clause-word : goal.returns-in-Some-clause-word
returns-in-Some-clause-word c =
    subst (λ word. IsTrue (list_all is_word_byte word)) (sym c.split_at.ensures.front)
    (word_from_no_cut _ (c.in-Some.ensures.cases.1 is_cut (λ _. refl)).0)

pub returns-in-Some-clause-end : goal.returns-in-Some-clause-end
returns-in-Some-clause-end c =
    subst (λ rest. IsWordEnd rest) (sym c.split_at.ensures.back)
    (word_end_at c.args.text.now c.in-Some.end _ (c.in-Some.ensures.cases.1 is_cut (λ _. refl)).1)

pub returns-in-None-clause-word : goal.returns-in-None-clause-word
returns-in-None-clause-word c = word_from_no_cut c.args.text.now (c.in-None.ensures.cases is_cut (λ _. refl))
