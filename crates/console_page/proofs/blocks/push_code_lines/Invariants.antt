use Rattle.std.proofs.Common.{◌≡◌, ◌++◌, map, take, string_bytes}
use Rattle.std.specs.Prelude.{flat_map}
use Rattle.console_page.specs.Blocks.{code_line}
use Rattle.console_page.proofs.blocks.push_code_lines.Given as goal

abbrev pub invariant-loop-line : goal.invariant-loop-line
invariant-loop-line g l = string_bytes l.out ≡ string_bytes l.initial.out ++ flat_map code_line (map (λ line. line.now) (take l.line-index l.lines))
