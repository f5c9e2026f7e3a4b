use Rattle.std.proofs.Common.{◌≡◌, ◌++◌, [], ◌∷◌, drop, map}
use Rattle.page_model.specs.Content.{page}
use Rattle.page_model.specs.View.{line_of}
use Rattle.description_pages.proofs.references.push_references.Given as goal

abbrev pub invariant-loop-name : goal.invariant-loop-name
invariant-loop-name l =
    map (λ line. line_of line.items) l.lines.items ++ map (λ n. page n ∷ []) (map (λ name. name.now) (drop l.name-index l.names))
    ≡ map (λ n. page n ∷ []) (map (λ name. name.now) l.names)
