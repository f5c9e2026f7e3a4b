use Rattle.std.proofs.Common.{sym}
use Rattle.std.proofs.lemmas.Result.{on_ok_weaker}
use Rattle.description_hints.specs.Steps.{first_in}
use Rattle.description_hints.specs.View.{help_said}
use Rattle.description_hints.proofs.Firsts.{kept_as_first, kept_after}
use Rattle.description_hints.proofs.helps.push_beside.Goals as goal

pub returns-in-None-clause-kept : goal.returns-in-None-clause-kept
returns-in-None-clause-kept c =
    on_ok_weaker c.keep.result (kept_as_first (first_in c.args.firsts.now) (help_said c.args.own) (first_in c.keep.new.firsts) (sym c.in-None.ensures)) c.keep.ensures

pub returns-in-Some-clause-kept : goal.returns-in-Some-clause-kept
returns-in-Some-clause-kept c =
    on_ok_weaker c.push_different.result (λ _. kept_after (first_in c.args.firsts.now) (help_said c.args.own) (help_said c.in-Some.first) (sym c.in-Some.ensures)) c.push_different.ensures
