use Rattle.bpaf_doc.proofs.lemmas.Splitter.Words.{sym, subst, lit<, strip_prefix_char, IsPastNewline}
use Rattle.bpaf_doc.proofs.lemmas.Splitter.Cuts.{past_newline_is}
use Rattle.bpaf_doc.proofs.splitter.past_newline.Goals as goal

pub returns : goal.returns
returns c =
    subst (λ next. IsPastNewline c.args.rest.now next.now) (sym c.unwrap_or.ensures)
    (past_newline_is c.strip_prefix.result c.args.rest c.requires (strip_prefix_char 10 c.args.rest.now c.strip_prefix.result c.strip_prefix.ensures.cases (lit< tt)))
