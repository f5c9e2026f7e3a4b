use Rattle.bpaf_roff.proofs.lemmas.Equality.{labelled_eq_exact}
use Rattle.bpaf_roff.proofs.laws.equality_is_exact.Goals as goal

pub returns : goal.returns
returns g c = labelled_eq_exact g.T.PartialEq.eq c.requires
