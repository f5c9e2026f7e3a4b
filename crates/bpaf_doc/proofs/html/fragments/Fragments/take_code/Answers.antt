-- A code line is the first chunk of what is left of its text.
use Rattle.bpaf_doc.proofs.lemmas.Html.Words.{inr, refl, Raw, code_weight}
use Rattle.std.proofs.lemmas.Option.{IfSome_then}
use Rattle.bpaf_doc.proofs.lemmas.Html.Fragments.Walking.{left_more}
use Rattle.bpaf_doc.proofs.html.fragments.Fragments.take_code.Goals as goal

pub returns-then-self-clause-code : goal.returns-then-self-clause-code
returns-then-self-clause-code c =
    let f = c.self.inside in
    IfSome_then c.take_code.result c.take_code.ensures.chunks (λ line first. (
      f.style,
      left_more c.args.self.now f.full f.in_text f.style (Raw line.now code_weight) f.chunks c.take_code.new.self f.depth f.parts c.self.view_is c.if-self.true first (inr refl),
    ))
