-- Things that are put with something between two, of which the first is put by itself.
use Rattle.std.proofs.Common.{◌≡◌, List, ◌∷◌, ◌++◌, flat_map, map, ap}
use Rattle.std.specs.List.{join_by}
use Rattle.html_page.specs.Events.{Event}

pub joined_opened : {X Y : Type 0} (f : Y → List Event) (between : List Event) (see : X → Y) (all : List X) (first : X) (others : List X) → all ≡ first ∷ others
    → join_by f between (map see all) ≡ f (see first) ++ flat_map (λ y. between ++ f y) (map see others)
joined_opened f between see all first others e = ap (λ xs. join_by f between (map see xs)) e
