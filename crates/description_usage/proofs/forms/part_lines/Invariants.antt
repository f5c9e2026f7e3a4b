use Rattle.std.proofs.Common.{◌≡◌, map, take}
use Rattle.page_model.specs.View.{line_of}
use Rattle.description_usage.specs.Forms.{part_line}
use Rattle.description_usage.proofs.forms.part_lines.Given as goal

abbrev pub invariant-loop-part : goal.invariant-loop-part
invariant-loop-part g l = map (λ line. line_of line.items) l.lines.items ≡ map part_line (map (λ part. part.now) (take l.part-index l.parts))
