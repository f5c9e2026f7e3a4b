use Rattle.std.proofs.Common.{◌≡◌, flat_map, map, take}
use Rattle.page_model.specs.View.{form_of}
use Rattle.description_usage.specs.Forms.{line_forms}
use Rattle.description.specs.Words.{words_said}
use Rattle.description_usage.proofs.forms.text_forms.Given as goal

abbrev pub invariant-loop-line : goal.invariant-loop-line
invariant-loop-line g l = map form_of l.forms.items ≡ flat_map (line_forms (words_said l.words)) (map (λ line. line.now) (take l.line-index l.line-items))
