use Rattle.std.proofs.Common.{◌∙◌, map, rules}
use Rattle.drafts.proofs.Ends.{help_cut}
use Rattle.drafts.proofs.notes.push_help.Goals as goal

pub range-requires-clause-end_boundary : goal.range-requires-clause-end_boundary
range-requires-clause-end_boundary g c =
    help_cut (map (λ line. line.now) c.args.lines.now) c.deref-then-fit.result.now c.deref.result.now c.cut_notes-cut.result.rest.now (c.deref-then-fit.ensures ∙ c.in_ok-text.ensures) (c.deref.ensures ∙ c.in_ok-flat.ensures)
    c.cut_notes-cut.ensures.front c.deref.utf8 (search rules)
