use Rattle.watched.proofs.Texts.{IsUtf8-of_text}
use Rattle.std.proofs.Common.{sym, ◌∙◌, rules}
use Rattle.watched.proofs.text_of.Goals as goal

pub returns-clause-succeeds : goal.returns-clause-succeeds
returns-clause-succeeds g c = (
  λ made. IsUtf8-of_text c.from_utf8.result _ (search rules) (sym c.map_err.ensures.variant ∙ made),
  λ utf8. c.map_err.ensures.variant ∙ c.from_utf8.ensures.succeeds utf8,
)
