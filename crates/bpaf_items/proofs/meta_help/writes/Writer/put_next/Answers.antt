use Rattle.std.proofs.Common.{refl, sym, ◌∙◌}
use Rattle.bpaf_items.proofs.meta_help.writes.Writer.put_next.Goals as goal

pub returns-then-not-branch-clause-next : goal.returns-then-not-branch-clause-next
returns-then-not-branch-clause-next g c = λ all before rest split h.
    let done = c.in_ok-shows.ensures all before rest split h in
    (rw (sym done.0 ∙ c.if-not-branch.true) refl, done.1)
