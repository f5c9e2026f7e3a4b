use Rattle.std.proofs.Common.{sym, ◌∙◌}
use Rattle.toml.specs.Parse.{atom}
use Rattle.keyed.proofs.Turns.{atom_quoted, atom_unquoted, ends_there}
use Rattle.keyed.proofs.values.after_atom.Goals as goal

pub returns-in_ok-rest-clause-end : goal.returns-in_ok-rest-clause-end
returns-in_ok-rest-clause-end c =
    ends_there (atom c.args.s.now) _ (atom_quoted c.args.s.now _ _ (sym c.starts_string.ensures ∙ c.if-starts_string.true) c.in_ok-rest.ensures.value)

pub returns-in_ok-rest-2-clause-end : goal.returns-in_ok-rest-2-clause-end
returns-in_ok-rest-2-clause-end c =
    ends_there (atom c.args.s.now) _ (atom_unquoted c.args.s.now _ _ (sym c.starts_string.ensures ∙ c.if-starts_string.false) c.in_ok-rest-2.ensures.value)
