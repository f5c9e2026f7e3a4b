use Rattle.std.proofs.Common.{drop, sym, ◌∙◌}
use Rattle.help_differences.proofs.Noted.{at, none}
use Rattle.help_differences.proofs.notes.after_opening.Goals as goal

pub returns-in-None : goal.returns-in-None
returns-in-None c = sym (none c.args.text.now c.in-None.ensures.cases)

pub returns-in-Some : goal.returns-in-Some
returns-in-Some c =
    let h = c.in-Some.ensures.cases in
    sym (at c.args.text.now h.0 (drop h.1 c.args.text.now) h.2.0 h.2.1.split ∙ sym h.4)
