use Rattle.std.proofs.Common.{◌≡◌, ◌++◌, drop, map, string_bytes}
use Rattle.std.specs.Prelude.{flat_map}
use Rattle.page_model.specs.View.{line_of}
use Rattle.console_page.specs.Texts.{line_text}
use Rattle.console_page.specs.Usage.{items_text, pieces}
use Rattle.console_page.proofs.usage.push_items.Given as goal

-- what is written, and what the remaining items come to, make up the whole
abbrev pub invariant-loop-item : goal.invariant-loop-item
invariant-loop-item g l = string_bytes l.out ++ items_text l.hang.room l.hang.margin.now l.left (flat_map (pieces l.hang.room) (map line_text (map (λ item. line_of item.items) (drop l.item-index l.items)))) ≡ string_bytes l.initial.out ++ items_text l.hang.room l.hang.margin.now l.first_left (flat_map (pieces l.hang.room) (map line_text (map (λ item. line_of item.items) l.items)))
