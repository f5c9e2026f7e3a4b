use Rattle.bpaf_roff.proofs.lemmas.Scripts.{script_of-with_text}
use Rattle.bpaf_roff.proofs.roff.Roff.put.Goals as goal

pub returns-clause-ok : goal.returns-clause-ok
returns-clause-ok g c =
    rw (c.in_ok-append_str.ensures.ok, ← c.self.view_is)
    (script_of-with_text _ c.self.inside.payload c.self.inside.strip_newlines c.args.label c.args.text.now c.self.invariant)
