-- Members of an object that are there only where they say something.
use Rattle.std.specs.Prelude.{ℕ, List, [], ◌∷◌, Bool, true, false, Option, Some, None, bytes_eq, encode_utf8, if◌then◌else◌}
use Rattle.json.specs.Json.{Json, boolean, string, array, object, Items, no_items, item, Members, no_members, member}

abbrev pub Field : Type 0
Field = List ℕ × Json

abbrev pub items_of : List Json → Items
items_of [] = no_items
items_of (j ∷ js) = item j (items_of js)

abbrev pub members_of : List Field → Members
members_of [] = no_members
members_of (f ∷ fs) = member f.0 f.1 (members_of fs)

abbrev pub object_with : List Field → Json
object_with fs = object (members_of fs)

abbrev pub text_at : (key text : List ℕ) → List Field
text_at key text = (key, string text) ∷ []

-- a text, if there is one
abbrev pub optional_at : (key : List ℕ) → Option (List ℕ) → List Field
optional_at key None = []
optional_at key (Some text) = text_at key text

-- a text that is not the default
abbrev pub text_unless : (usual key text : List ℕ) → List Field
text_unless usual key text = if bytes_eq text usual then [] else text_at key text

abbrev pub character_at : (key : List ℕ) → Option ℕ → List Field
character_at key None = []
character_at key (Some c) = text_at key (encode_utf8 c)

-- a flag that is not the default
abbrev pub flag_unless : (usual : Bool) → (key : List ℕ) → Bool → List Field
flag_unless true key true = []
flag_unless true key false = (key, boolean false) ∷ []
flag_unless false key true = (key, boolean true) ∷ []
flag_unless false key false = []

-- an array that is not empty
abbrev pub list_at : (key : List ℕ) → List Json → List Field
list_at key [] = []
list_at key (j ∷ js) = (key, array (items_of (j ∷ js))) ∷ []

abbrev pub is_nothing : List Field → Bool
is_nothing [] = true
is_nothing (f ∷ fs) = false

-- an object that is not empty
abbrev pub object_at : (key : List ℕ) → List Field → List Field
object_at key [] = []
object_at key (f ∷ fs) = (key, object_with (f ∷ fs)) ∷ []
