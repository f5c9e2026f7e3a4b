use Rattle.std.proofs.Common.{ap, ◌∙◌, ◌++◌}
use Rattle.page_model.specs.View.{line_of}
use Rattle.description_usage.proofs.After.{last_more, line_more}
use Rattle.description_usage.proofs.entries.push_after.Goals as goal

pub returns : goal.returns
returns g c =
    last_more (λ line. line_of line.items) (line_of c.args.notes.items) c.args.lines.now.items c.pop.new.self.items c.push-3.new.self.items c.in-Some.last c.extend_from_slice.new.self c.in-Some.ensures.items c.in_ok-push-3.ensures.items
    (line_more c.in-Some.last.items c.push-2.new.self.items c.extend_from_slice.new.self.items c.args.notes.items _ c.in_ok-push-2.ensures.items (c.in_ok-extend_from_slice.ensures.items ∙ ap (λ ps. c.push-2.new.self.items ++ ps) c.as_slice.ensures.value))
