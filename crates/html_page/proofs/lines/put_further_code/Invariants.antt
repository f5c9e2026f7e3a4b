use Rattle.std.proofs.Common.{◌≡◌, ◌++◌, ◌∷◌, [], codes, drop, flat_map, map}
use Rattle.html_page.specs.Events.{say}
use Rattle.html_page.specs.Steps.{said}
use Rattle.html_page.proofs.lines.put_further_code.Given as goal

abbrev pub invariant-loop-line : goal.invariant-loop-line
invariant-loop-line g l = said l.page (flat_map (λ line. say (codes "\n") ∷ [] ++ say line ∷ []) (map (λ line. line.now) (drop l.line-index l.lines))) ≡ said l.fn.page (flat_map (λ line. say (codes "\n") ∷ [] ++ say line ∷ []) (map (λ line. line.now) l.lines))
