use Rattle.std.proofs.Common.{◌≡◌, drop, map}
use Rattle.page_model.specs.View.{line_of}
use Rattle.console_page.specs.Texts.{line_text}
use Rattle.console_page.specs.Usage.{all_fit}
use Rattle.console_page.proofs.usage.all_fit.Given as goal

abbrev pub invariant-loop-item : goal.invariant-loop-item
invariant-loop-item g l = all_fit l.room (map line_text (map (λ item. line_of item.items) (drop l.item-index l.items))) ≡ all_fit l.room (map line_text (map (λ item. line_of item.items) l.items))
