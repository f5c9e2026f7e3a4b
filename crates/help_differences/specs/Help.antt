-- The names that a help text has: of options in the lines of its usages, and of each entry that is an option or a
-- command those in its first line; of a command also those that notes in its lines list.
use Rattle.std.specs.Prelude.{ℕ, ◌-◌, List, [], ◌∷◌, ◌++◌, drop, flat_map, length, map, take, Option, None, Some}
use Rattle.help_blocks.specs.declared.place.Kind.{Kind}
use Rattle.help_blocks.specs.declared.place.Kind.TheVariants as block
use Rattle.help_blocks.specs.declared.cut.Block.{Block}
use Rattle.help_blocks.specs.Blocks.{Start, lines_of, starts}
use Rattle.help_differences.specs.declared.names.Kind.TheVariants as kind
use Rattle.help_differences.specs.Names.{Named, called, options_called}
use Rattle.help_differences.specs.Notes.{texts_of_line}
use Rattle.help_fronts.specs.Fronts.{CommandSaid, command_front}
use Rattle.help_fronts.specs.Lines.{option_names}
use Rattle.help_fronts.specs.Usages.{usage_names}

abbrev pub names_of_usage_line : (line : List ℕ) → List Named
names_of_usage_line line = map (called kind.Option) (usage_names line)

abbrev pub names_of_usage : (lines : List (List ℕ)) → List Named
names_of_usage lines = flat_map names_of_usage_line lines

abbrev pub names_of_option : (line : List ℕ) → List Named
names_of_option line = options_called (option_names line)

abbrev pub command_texts : Option CommandSaid → List (List ℕ)
command_texts None = []
command_texts (Some c) = c.name ∷ c.aliases

abbrev pub names_of_command : (line : List ℕ) → List Named
names_of_command line = map (called kind.Command) (command_texts (command_front line))

-- the first line; an empty one, if there is none
abbrev pub first_line : (lines : List (List ℕ)) → List ℕ
first_line [] = []
first_line (l ∷ ls) = l

abbrev pub names_of_notes : (lines : List (List ℕ)) → List Named
names_of_notes lines = map (called kind.Command) (flat_map texts_of_line lines)

-- the names in a block of these lines
abbrev pub names_of_block : Kind → (lines : List (List ℕ)) → List Named
names_of_block block.Usage lines = names_of_usage lines
names_of_block block.Option lines = names_of_option (first_line lines)
names_of_block block.Command lines = names_of_command (first_line lines) ++ names_of_notes lines
names_of_block _ lines = []

-- a block ends where the next one starts
abbrev pub end_before : (starts : List Start) → (end : ℕ) → ℕ
end_before [] end = end
end_before (s ∷ ss) end = s.line

abbrev pub lines_from : (lines : List (List ℕ)) → (first end : ℕ) → List (List ℕ)
lines_from lines first end = take (end - first) (drop first lines)

abbrev pub names_of_starts : (lines : List (List ℕ)) → List Start → List Named
names_of_starts lines [] = []
names_of_starts lines (s ∷ ss) =
    names_of_block s.kind (lines_from lines s.line (end_before ss (length lines))) ++ names_of_starts lines ss

abbrev pub names_in : (lines : List (List ℕ)) → List Named
names_in lines = names_of_starts lines (starts (lines_of lines))

-- the same of blocks
abbrev pub names_of_blocks : (lines : List (List ℕ)) → List Block → List Named
names_of_blocks lines blocks = flat_map (λ b. names_of_block b.kind (lines_from lines b.first b.end)) blocks
