-- Why a text gives no table.
use Rattle.std.specs.Prelude.{◌≡◌, ℕ, List, ◌++◌, ⊤}
use Rattle.description_json.specs.declared.error.JsonError.{JsonError}
use Rattle.description_json.specs.declared.error.JsonError.TheVariants.{Memory, Content}
use Rattle.description_json.specs.declared.error.JsonFault.{JsonFault}

-- an allocation failed
abbrev pub IsMemory : JsonError → Type 0
IsMemory (Memory e) = ⊤
IsMemory (Content fault) = ⊥

-- the text begins like this
abbrev pub Begins : (text front : List ℕ) → Type 0
Begins text front = (following : List ℕ) × (text ≡ front ++ following)

-- the fault stands in the text
abbrev pub IsIn : (text : List ℕ) → JsonFault → Type 0
IsIn text fault = Begins text fault.before.now

abbrev pub IsOf : (text : List ℕ) → JsonError → Type 0
IsOf text (Memory e) = ⊤
IsOf text (Content fault) = IsIn text fault
