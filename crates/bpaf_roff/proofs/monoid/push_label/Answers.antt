use Rattle.std.proofs.Common.{◌∷◌, [], ◌++◌, ◌∙◌, ap, sym, append_assoc}
use Rattle.bpaf_roff.proofs.lemmas.Labels.{with_label-popped, followed_by-other}
use Rattle.bpaf_roff.proofs.monoid.push_label.Goals as goal

pub returns-else-joins : goal.returns-else-joins
returns-else-joins g c =
    let a = c.args in
    let others = c.pop.new.self.items in
    rw (c.push_reserved-else-joins-2.ensures.items, c.push_reserved-else-joins.ensures.items)
    (append_assoc others (c.in-Some.last ∷ []) (record { end = a.end; label = a.label } ∷ [])
    ∙ sym (with_label-popped g.T.PartialEq.eq a.squash a.label a.labels.now.items others c.pop.result c.in-Some.last a.end c.pop.ensures.items c.in-Some.is
    ∙ ap (λ x. others ++ x) (followed_by-other g.T.PartialEq.eq a.squash a.label c.in-Some.last a.end (sym c.joins.ensures ∙ c.if-joins.false))))
