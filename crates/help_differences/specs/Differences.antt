-- Which names one of two lists has and the other does not have.
use Rattle.std.specs.Prelude.{ℕ, List, map}
use Rattle.std.specs.List.{Contains}
use Rattle.std.specs.Cmp.Lexicographic.{slice_cmp}
use Rattle.std.specs.Ordering.{nat_cmp, ordering_then}
use Rattle.std.specs.declared.cmp.Ordering.{Ordering}
use Rattle.help_differences.specs.declared.names.Kind.{Kind}
use Rattle.help_differences.specs.declared.names.Kind.TheVariants as kind
use Rattle.help_differences.specs.declared.compared.Side.{Side}
use Rattle.help_differences.specs.declared.compared.Side.TheVariants as side
use Rattle.help_differences.specs.Names.{Named}

pub record Alone : Type 0 where
  pub name : Named
  -- where it stands
  pub stands : Side

abbrev pub alone : Side → Named → Alone
alone s n = record { name = n; stands = s }

abbrev pub names_of : List Alone → List Named
names_of found = map (λ (a : Alone). a.name) found

-- a name that stands on this side, and not on the other
abbrev pub StandsAlone : Side → (described help : List Named) → Named → Type 0
StandsAlone side.Description described help n = Contains described n × ¬ Contains help n
StandsAlone side.Help described help n = Contains help n × ¬ Contains described n

abbrev pub IsDifference : (described help : List Named) → Alone → Type 0
IsDifference described help a = StandsAlone a.stands described help a.name

-- ---- the order: options before commands, and then by the bytes

abbrev pub rank : Kind → ℕ
rank kind.Option = 0
rank kind.Command = 1

abbrev pub name_cmp : Named → Named → Ordering
name_cmp x y = ordering_then (nat_cmp (rank x.kind) (rank y.kind)) (slice_cmp nat_cmp x.text y.text)
