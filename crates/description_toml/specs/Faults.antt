-- Why a table gives no description.
use Rattle.std.specs.Prelude.{◌≡◌, ⊤, ◌<◌, Bool, true, false, List, [], ◌∷◌, ◌++◌, length, Option, Some, None, Result, Ok, Err}
use Rattle.description_toml.specs.declared.decode.faults.DescriptionError.{DescriptionError}
use Rattle.description_toml.specs.declared.decode.faults.DescriptionError.TheVariants.{Memory, Content}
use Rattle.description_toml.specs.declared.decode.teller.Refused.{Refused}
use Rattle.description_toml.specs.declared.decode.teller.Refused.TheVariants as refused

-- an allocation failed
abbrev pub IsMemory : {A : Type 0} → DescriptionError A → Type 0
IsMemory (Memory e) = ⊤
IsMemory (Content faults) = ⊥

-- some fault is reported, unless an allocation failed
abbrev pub TellsSome : {A : Type 0} → DescriptionError A → Type 0
TellsSome (Memory e) = ⊤
TellsSome (Content faults) = 0 < length faults.told.items

abbrev pub IsRefusal : Refused → Type 0
IsRefusal refused.Memory = ⊤
IsRefusal refused.Told = ⊥

-- what was read is what stands there, and where it was refused, memory apart, nothing stands there
abbrev pub Reads : {T X : Type 0} → Option X → (T → X) → Result T Refused → Type 0
Reads there said (Ok t) = there ≡ Some (said t)
Reads there said (Err e) = ¬ IsRefusal e → there ≡ None

-- a test that was passed, or was not
abbrev pub Sees : {T : Type 0} → Bool → Result T Refused → Type 0
Sees holds (Ok t) = holds ≡ true
Sees holds (Err e) = ¬ IsRefusal e → holds ≡ false

-- an error that reports the table is passed on as one
abbrev pub Passes : {T : Type 0} → Refused → Result T Refused → Type 0
Passes e (Ok t) = ⊥
Passes e (Err f) = ¬ IsRefusal f → ¬ IsRefusal e

abbrev pub Puts : {L T : Type 0} → (L → List T) → L → T → Result L Refused → Type 0
Puts items l t (Ok longer) = items longer ≡ items l ++ t ∷ []
Puts items l t (Err e) = IsRefusal e

-- a list with one more, where there are both
abbrev pub Joins : {L T : Type 0} → (L → List T) → Result L Refused → Result T Refused → Result L Refused → Type 0
Joins items (Ok l) (Ok t) result = Puts items l t result
Joins items (Ok l) (Err e) result = Passes e result
Joins items (Err e) one result = Passes e result
