use Rattle.std.proofs.Common.{◌≡◌, ◌∷◌, [], map, take}
use Rattle.page_model.specs.Content.{words}
use Rattle.page_model.specs.View.{line_of}
use Rattle.description_usage.proofs.entries.text_lines.Given as goal

abbrev pub invariant-loop-text : goal.invariant-loop-text
invariant-loop-text g l = map (λ line. line_of line.items) l.lines.items ≡ map (λ text. words text.now ∷ []) (take l.text-index l.texts)
