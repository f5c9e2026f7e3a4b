use Rattle.std.proofs.Common.{◌∙◌, ap, map, string_bytes}
use Rattle.help_blocks.proofs.Whole.{each_line_is_in_a_block}
use Rattle.drafts.specs.View.{passage_said, placed_said}
use Rattle.drafts.proofs.Written.{whole_draft}
use Rattle.drafts.proofs.draft.Goals as goal

pub returns-clause-whole : goal.returns-clause-whole
returns-clause-whole g c =
    whole_draft each_line_is_in_a_block c.args.printed.now c.as_str.result.now (string_bytes c.in_ok-draft_of-in-Some.field-0) c.in-Some.name.now (map (λ l. l.now) c.deref.result.now) (map passage_said c.deref-2.result.now)
    (map placed_said c.deref-in-Some-2.result.now) c.as_str.utf8 (c.as_str.ensures.value ∙ c.in_ok-shown.ensures.exact) (ap (map (λ l. l.now)) c.deref.ensures.value ∙ c.in_ok-lines.ensures)
    (ap (map passage_said) c.deref-2.ensures.value ∙ c.in_ok-passages.ensures) (ap (map placed_said) c.deref-in-Some-2.ensures.value ∙ c.in_ok-placed.ensures) c.in_ok-draft_of-in-Some.ensures
