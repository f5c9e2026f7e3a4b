use Rattle.std.proofs.Common.{ap, map, sym, ◌∙◌, codes}
use Rattle.page_model.specs.View.{line_of}
use Rattle.description_usage.specs.Entries.{note}
use Rattle.description_usage.specs.Lines.{joined}
use Rattle.description_usage.proofs.After.{aliased}
use Rattle.description_usage.proofs.entries.push_aliases.Goals as goal

pub returns : goal.returns
returns g c =
    aliased (λ line. line_of line.items) (λ alias. alias.now) c.args.notes.now.items c.push.new.self.items c.in_ok-note.field-0 c.args.word.now c.args.aliases.now (sym c.is_empty.ensures ∙ c.if-is_empty.false) c.in_ok-push.ensures.items
    (c.in_ok-note.ensures ∙ ap (λ ps. note c.args.word.now (line_of ps)) c.as_slice-2.ensures.value
    ∙ ap (note c.args.word.now) (c.in_ok-said.ensures ∙ ap (λ ls. joined (codes ", ") (map (λ line. line_of line.items) ls)) c.as_slice.ensures.value ∙ ap (joined (codes ", ")) c.in_ok-names.ensures))
