-- Names that stand twice on a level. The options of its choices and groups count
-- as its own, and so do the commands of its groups.
use Rattle.std.specs.Prelude.{codes, ℕ, List, [], ◌∷◌, ◌++◌, ◌==◌, drop, length, flat_map, filter, Bool, true, false, not, ◌&&◌, Option, Some, option_and_then, option_to_list, bytes_eq, if◌then◌else◌}
use Rattle.std.specs.List.{list_any, starts_with}
use Rattle.toml.specs.Data.{Data, array, Items, no_items, item, Members, get_member, as_str, as_table}
use Rattle.description_toml.specs.Syntax.{syntax_names}

-- the tables of an array, and those of the array at a key
abbrev pub tables_in : Items → List Members
tables_in no_items = []
tables_in (item d ds) = option_to_list (as_table d) ++ tables_in ds

abbrev pub tables_of : Option Data → List Members
tables_of (Some (array ds)) = tables_in ds
tables_of _ = []

abbrev pub tables_under : (key : List ℕ) → Members → List Members
tables_under key ms = tables_of (get_member key ms)

-- the options of a level or of a group, with those of its choices
abbrev pub own_options : Members → List Members
own_options ms = tables_under (codes "option") ms ++ flat_map (tables_under (codes "option")) (tables_under (codes "choice") ms)

abbrev pub level_options : Members → List Members
level_options ms = own_options ms ++ flat_map own_options (tables_under (codes "group") ms)

abbrev pub level_commands : Members → List Members
level_commands ms = tables_under (codes "command") ms ++ flat_map (tables_under (codes "command")) (tables_under (codes "group") ms)

-- the text at a key
abbrev pub text_under : (key : List ℕ) → Members → Option (List ℕ)
text_under key ms = option_and_then as_str (get_member key ms)

-- the texts of the array at a key
abbrev pub texts_in : Items → List (List ℕ)
texts_in no_items = []
texts_in (item d ds) = option_to_list (as_str d) ++ texts_in ds

abbrev pub texts_of : Option Data → List (List ℕ)
texts_of (Some (array ds)) = texts_in ds
texts_of _ = []

abbrev pub texts_under : (key : List ℕ) → Members → List (List ℕ)
texts_under key ms = texts_of (get_member key ms)

-- each of the texts once, where it stands first
abbrev pub distinct : List (List ℕ) → List (List ℕ)
distinct [] = []
distinct (text ∷ texts) = text ∷ filter (λ other. not (bytes_eq text other)) (distinct texts)

-- the words for a command: its name, its short name and its other names
abbrev pub command_words : Members → List (List ℕ)
command_words ms = distinct (option_to_list (text_under (codes "name") ms) ++ option_to_list (text_under (codes "short") ms) ++ texts_under (codes "aliases") ms)

-- no text stands twice
abbrev pub are_distinct : List (List ℕ) → Bool
are_distinct [] = true
are_distinct (text ∷ texts) = not (list_any (bytes_eq text) texts) && are_distinct texts

-- a name without its dashes, where it begins with two of them, or where it begins with exactly one
abbrev pub after_dashes : (dashes name : List ℕ) → List (List ℕ)
after_dashes dashes name = if starts_with ◌==◌ name dashes then drop (length dashes) name ∷ [] else []

abbrev pub without_dashes : (two : Bool) → (name : List ℕ) → List (List ℕ)
without_dashes true name = after_dashes (codes "--") name
without_dashes false name = if starts_with ◌==◌ name (codes "--") then [] else after_dashes (codes "-") name

-- the names of an option that have that many dashes, without these: its short name or its long one, and those of its
-- syntax, where one may stand twice
abbrev pub own_names : (two : Bool) → Members → List (List ℕ)
own_names two ms = option_to_list (text_under (if two then codes "long" else codes "short") ms) ++ flat_map (λ text. flat_map (without_dashes two) (syntax_names text)) (option_to_list (text_under (codes "syntax") ms))

abbrev pub option_names : (two : Bool) → Members → List (List ℕ)
option_names two ms = distinct (own_names two ms)

-- no two options of a level share a name, and no two commands a word
abbrev pub has_distinct_names : Members → Bool
has_distinct_names ms = are_distinct (flat_map (option_names false) (level_options ms))
    && (are_distinct (flat_map (option_names true) (level_options ms)) && are_distinct (flat_map command_words (level_commands ms)))
