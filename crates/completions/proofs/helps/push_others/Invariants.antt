use Rattle.std.proofs.Common.{◌≡◌, ◌++◌, flat_map, map, string_bytes, take}
use Rattle.page_model.specs.View.{line_of}
use Rattle.completions.specs.Texts.{after_blank}
use Rattle.completions.proofs.helps.push_others.Given as goal

abbrev pub invariant-loop-line : goal.invariant-loop-line
invariant-loop-line g l =
    string_bytes l.text ≡ string_bytes l.fn.text ++ flat_map after_blank (map (λ line. line_of line.items) (take l.line-index l.lines))
