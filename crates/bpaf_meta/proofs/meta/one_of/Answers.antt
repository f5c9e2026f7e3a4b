use Rattle.std.proofs.Common.{sym, ◌∙◌, arith}
use Rattle.bpaf_meta.proofs.lemmas.Views.{view-Or}
use Rattle.bpaf_meta.proofs.lemmas.Normal.Parts.{choice_several}
use Rattle.bpaf_meta.proofs.meta.one_of.Goals as goal

pub returns-then-len-gt1 : goal.returns-then-len-gt1
returns-then-len-gt1 g c = view-Or c.args.parts ∙ sym (choice_several c.args.parts.items (omega arith))
