use Rattle.std.proofs.Common.{sym, ap, ◌∙◌, arith}
use Rattle.bpaf_meta.specs.Content.{required}
use Rattle.bpaf_meta.specs.Meta.Steps.Forms.{form_of}
use Rattle.bpaf_meta.proofs.lemmas.Views.{form-Or, form-Required}
use Rattle.bpaf_meta.proofs.lemmas.Normal.Parts.{or_several}
use Rattle.bpaf_meta.proofs.meta.normal.make_or.Goals as goal

pub returns-then-len-gt1 : goal.returns-then-len-gt1
returns-then-len-gt1 g c = form-Required c.in_ok-new.field-0 ∙ ap (λ m. required (form_of m)) c.in_ok-new.ensures.ok ∙ ap required (form-Or c.args.parts) ∙ sym (or_several c.args.parts.items (omega arith))
