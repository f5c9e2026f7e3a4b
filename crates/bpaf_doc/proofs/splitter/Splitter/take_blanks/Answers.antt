use Rattle.std.specs.Prelude.{◌∷◌}
use Rattle.bpaf_doc.proofs.lemmas.Splitter.Words.{◌∙◌, sym, ap, codes, refl, Raw, chunks_in}
use Rattle.bpaf_doc.specs.Splitter.View.{form_of}
use Rattle.bpaf_doc.proofs.lemmas.Splitter.FirstChunk.{chunks_of-plain, stripped, blank_first}
use Rattle.bpaf_doc.proofs.splitter.Splitter.take_blanks.Goals as goal

pub returns-in-Some : goal.returns-in-Some
returns-in-Some c =
    let text = c.self.inside.rest.now in
    let rest = c.in-Some.rest.now in
    let second = sym (sym (chunks_of-plain (32 ∷ rest)) ∙ blank_first (32 ∷ rest) rest c.split.result refl c.split.ensures.value) in
    sym c.self.view_is ∙ ap (λ f. chunks_in (form_of f) text) c.in-Plain.is
    ∙ blank_first text (32 ∷ rest) (Raw (codes " ") 1 ∷ c.split.result) (stripped (codes "  ") text rest c.in-Some.ensures.cases) second
    ∙ ap (λ cs. Raw (codes " ") 1 ∷ Raw (codes " ") 1 ∷ cs) (sym c.self-in-Some.view_is)
