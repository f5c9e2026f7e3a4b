use Rattle.std.proofs.Common.{sym, ◌∙◌, arith}
use Rattle.bpaf_meta.proofs.lemmas.Views.{form-And}
use Rattle.bpaf_meta.proofs.lemmas.Normal.Parts.{and_several}
use Rattle.bpaf_meta.proofs.meta.normal.make_and.Goals as goal

pub returns-then-len-gt1 : goal.returns-then-len-gt1
returns-then-len-gt1 g c = form-And c.args.parts ∙ sym (and_several c.args.parts.items (omega arith))
