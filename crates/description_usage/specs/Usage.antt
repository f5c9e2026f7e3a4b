-- The usage of a level: items that are not to be broken, after the names that lead there.
use Rattle.std.specs.Prelude.{ℕ, List, [], ◌∷◌, ◌++◌, codes, filter, flat_map, map, Bool, true, false, not, ◌&&◌, ◌||◌, if◌then◌else◌, Option}
use Rattle.std.specs.List.{list_any}
use Rattle.page_model.specs.Content.{words, literal, value, Line}
use Rattle.description.specs.Content.{NameSaid, short, long, both, SpellingSaid, named, syntax, OptSaid, ChoiceSaid, PositionalSaid, LevelSaid, level, GroupsSaid, no_groups, groups, GroupSaid, group, CommandsSaid, no_commands, commands, CommandSaid, command}
use Rattle.description_usage.specs.Lines.{joined}
use Rattle.description_usage.specs.Names.{value_piece, short_line, long_line}
use Rattle.description_usage.specs.Syntax.{has_bar, shown_line, shown_way}
use Rattle.description.specs.Words.{WordsSaid}

-- ---- brackets

abbrev pub dots : (repeated : Bool) → List ℕ
dots true = codes "..."
dots false = []

abbrev pub in_square : (repeated : Bool) → Line → Line
in_square repeated inside = words (codes "[") ∷ inside ++ words (codes "]" ++ dots repeated) ∷ []

abbrev pub in_round : (repeated : Bool) → Line → Line
in_round repeated inside = words (codes "(") ∷ inside ++ words (codes ")" ++ dots repeated) ∷ []

-- what may be left out stands in square brackets; what may not stands in round ones where it would be split
abbrev pub enclosed : (required repeated apart : Bool) → Line → Line
enclosed false repeated apart inside = in_square repeated inside
enclosed true repeated true inside = in_round repeated inside
enclosed true repeated false inside = inside

-- ---- options

-- by its short name where it has one
abbrev pub called_name : NameSaid → (value : Option (List ℕ)) → Line
called_name (short c) word = short_line c word
called_name (long name) word = long_line name word
called_name (both c name) word = short_line c word

abbrev pub called_spelling : SpellingSaid → (value : Option (List ℕ)) → Line
called_spelling (named name) word = called_name name word
called_spelling (syntax text) word = shown_line text

abbrev pub called : OptSaid → Line
called o = called_spelling o.spelling o.value

-- whether a bar stands in what it is called
abbrev pub is_barred : SpellingSaid → Bool
is_barred (named name) = false
is_barred (syntax text) = has_bar (shown_way text)

abbrev pub option_item : (required repeated : Bool) → OptSaid → Line
option_item required repeated o = enclosed required repeated (repeated || is_barred o.spelling) (called o)

-- an option, unless it is hidden
abbrev pub option_items : OptSaid → List Line
option_items o = if o.hidden then [] else option_item o.required o.repeated o ∷ []

-- ---- choices

abbrev pub shown_options : List OptSaid → List OptSaid
shown_options = filter (λ o. not o.hidden)

-- one member is that option, and no member is nothing
abbrev pub member_items : (required : Bool) → List OptSaid → List Line
member_items required [] = []
member_items required (o ∷ []) = option_item required false o ∷ []
member_items required (o ∷ p ∷ os) = enclosed required false true (joined (codes " | ") (map called (o ∷ p ∷ os))) ∷ []

abbrev pub choice_items : ChoiceSaid → List Line
choice_items c = member_items c.required (shown_options c.options)

-- ---- positional values

abbrev pub dots_line : (repeated : Bool) → Line
dots_line true = words (codes "...") ∷ []
dots_line false = []

abbrev pub repeated_value : PositionalSaid → Line
repeated_value p = value_piece p.value ∷ dots_line p.repeated

abbrev pub strict_value : PositionalSaid → Line
strict_value p = literal (codes "--") ∷ words (codes " ") ∷ repeated_value p

-- `--` stands within the brackets, and dots there too
abbrev pub strict_item : PositionalSaid → Line
strict_item p = if p.required then strict_value p else in_square false (strict_value p)

abbrev pub plain_item : PositionalSaid → Line
plain_item p = if p.required then repeated_value p else in_square p.repeated (value_piece p.value ∷ [])

-- the first strict one has `--` before it
abbrev pub positional_item : (before : List PositionalSaid) → PositionalSaid → Line
positional_item before p = if p.strict && not (list_any (λ q. q.strict) before) then strict_item p else plain_item p

abbrev pub positionals_after : (before : List PositionalSaid) → List PositionalSaid → List Line
positionals_after before [] = []
positionals_after before (p ∷ ps) = positional_item before p ∷ positionals_after (before ++ p ∷ []) ps

abbrev pub shown_positionals : List PositionalSaid → List PositionalSaid
shown_positionals = filter (λ p. not p.hidden)

abbrev pub positional_items : List PositionalSaid → List Line
positional_items ps = positionals_after [] (shown_positionals ps)

-- ---- groups and commands

abbrev pub group_list : GroupsSaid → List GroupSaid
group_list no_groups = []
group_list (groups g gs) = g ∷ group_list gs

abbrev pub command_list : CommandsSaid → List CommandSaid
command_list no_commands = []
command_list (commands c cs) = c ∷ command_list cs

abbrev pub group_items : GroupSaid → List Line
group_items (group title os cs ps ms) = flat_map option_items os ++ flat_map choice_items cs

abbrev pub group_positionals : GroupSaid → List PositionalSaid
group_positionals (group title os cs ps ms) = ps

abbrev pub is_shown_command : CommandSaid → Bool
is_shown_command (command names help below) = not names.hidden

abbrev pub shows_command : CommandsSaid → Bool
shows_command ms = list_any is_shown_command (command_list ms)

abbrev pub group_shows_command : GroupSaid → Bool
group_shows_command (group title os cs ps ms) = shows_command ms

abbrev pub command_line : (word : List ℕ) → Line
command_line word = value word ∷ words (codes " ...") ∷ []

-- where a command is shown
abbrev pub command_items : (word : List ℕ) → (required shown : Bool) → List Line
command_items word required true = enclosed required false false (command_line word) ∷ []
command_items word required false = []

-- ---- the level

-- options and choices: its own, and those of its groups
abbrev pub named_items : LevelSaid → List Line
named_items (level texts required os cs gs ps ms) = (flat_map option_items os ++ flat_map choice_items cs) ++ flat_map group_items (group_list gs)

-- those of its groups, and its own
abbrev pub level_positionals : LevelSaid → List PositionalSaid
level_positionals (level texts required os cs gs ps ms) = flat_map group_positionals (group_list gs) ++ ps

abbrev pub level_shows_command : LevelSaid → Bool
level_shows_command (level texts required os cs gs ps ms) = shows_command ms || list_any group_shows_command (group_list gs)

abbrev pub requires_command : LevelSaid → Bool
requires_command (level texts required os cs gs ps ms) = required

abbrev pub usage_items : WordsSaid → LevelSaid → List Line
usage_items fixed l = (named_items l ++ positional_items (level_positionals l)) ++ command_items fixed.command (requires_command l) (level_shows_command l)
