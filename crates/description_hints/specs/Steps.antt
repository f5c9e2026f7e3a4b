-- What private functions say of a map: internal.
use Rattle.std.specs.Prelude.{ℕ, List, Option, option_map}
use Rattle.std.specs.Borrow.{Bor}
use Rattle.std.specs.BTreeMap.{BTreeMap, get_by}
use Rattle.std.specs.Cmp.Lexicographic.{slice_cmp}
use Rattle.std.specs.Ordering.{nat_cmp}
use Rattle.description_hints.specs.Content.{HelpSaid}
use Rattle.description_hints.specs.View.{help_said}
use Rattle.description_hints.specs.declared.helps.NamedHelp.{NamedHelp}

-- the help that a map has for a name
abbrev pub first_in : BTreeMap (Bor (List ℕ)) NamedHelp → (name : List ℕ) → Option HelpSaid
first_in firsts name = option_map help_said (get_by (λ key. slice_cmp nat_cmp name key.now) firsts)
