-- The entries of the lists of a level: the ways to write what each is about, and what is said of it.
use Rattle.std.specs.Prelude.{ℕ, List, [], ◌∷◌, ◌++◌, codes, encode_utf8, map, Option, Some, None}
use Rattle.page_model.specs.Content.{words, literal, Line, BlockSaid, paragraph, TargetSaid, EntrySaid}
use Rattle.description.specs.Content.{NameSaid, short, long, both, SpellingSaid, named, syntax, OptSaid, PositionalSaid, CommandNames, CommandSaid, command}
use Rattle.description_usage.specs.Lines.{joined}
use Rattle.description_usage.specs.Names.{shown_value, value_piece, short_line, long_line}
use Rattle.description_usage.specs.Syntax.{syntax_terms, syntax_word}
use Rattle.description.specs.Words.{WordsSaid}

-- ---- terms

-- each name, and the word for the value after the last
abbrev pub named_terms : NameSaid → (value : Option (List ℕ)) → List Line
named_terms (short c) value = short_line c value ∷ []
named_terms (long name) value = long_line name value ∷ []
named_terms (both c name) value = short_line c None ∷ long_line name value ∷ []

abbrev pub spelled_terms : SpellingSaid → (value : Option (List ℕ)) → List Line
spelled_terms (named name) value = named_terms name value
spelled_terms (syntax text) value = syntax_terms text

abbrev pub option_terms : OptSaid → List Line
option_terms o = spelled_terms o.spelling o.value

abbrev pub positional_terms : PositionalSaid → List Line
positional_terms p = (value_piece p.value ∷ []) ∷ []

abbrev pub initial_terms : Option ℕ → List Line
initial_terms None = []
initial_terms (Some c) = (literal (encode_utf8 c) ∷ []) ∷ []

-- its name and its short name
abbrev pub command_terms : CommandNames → List Line
command_terms names = (literal names.name ∷ []) ∷ initial_terms names.initial

-- ---- notes

abbrev pub note : (word : List ℕ) → Line → Line
note word said = words (codes "[") ∷ words word ∷ words (codes ": ") ∷ said ++ words (codes "]") ∷ []

-- where it is said
abbrev pub noted : (word : List ℕ) → Option (List ℕ) → List Line
noted word None = []
noted word (Some said) = note word (words said ∷ []) ∷ []

abbrev pub option_notes : WordsSaid → OptSaid → List Line
option_notes fixed o = (noted fixed.env o.env ++ noted fixed.default o.default) ++ noted fixed.possible_values o.values

abbrev pub positional_notes : WordsSaid → PositionalSaid → List Line
positional_notes fixed p = noted fixed.default p.default ++ noted fixed.possible_values p.values

-- where it has other names
abbrev pub alias_notes : (word : List ℕ) → (aliases : List (List ℕ)) → List Line
alias_notes word [] = []
alias_notes word (name ∷ names) = note word (joined (codes ", ") (map (λ alias. words alias ∷ []) (name ∷ names))) ∷ []

abbrev pub command_notes : WordsSaid → CommandNames → List Line
command_notes fixed names = alias_notes fixed.aliases names.aliases

-- ---- bodies

-- notes after the last line of a paragraph, with a blank before
abbrev pub after_lines : (notes : Line) → List Line → List Line
after_lines notes [] = notes ∷ []
after_lines notes (line ∷ []) = (line ++ words (codes " ") ∷ notes) ∷ []
after_lines notes (line ∷ more ∷ lines) = line ∷ after_lines notes (more ∷ lines)

-- after a help that is one paragraph; after any other help, as a paragraph of their own
abbrev pub noted_body : (notes : Line) → List BlockSaid → List BlockSaid
noted_body notes (paragraph lines ∷ []) = paragraph (after_lines notes lines) ∷ []
noted_body notes help = help ++ paragraph (notes ∷ []) ∷ []

-- the help, and the notes with a blank between two, where there are any
abbrev pub body : (notes : List Line) → (help : List BlockSaid) → List BlockSaid
body [] help = help
body (first ∷ others) help = noted_body (joined (codes " ") (first ∷ others)) help

-- ---- what entries are called

-- the long name where there is one, else the short one
abbrev pub named_word : NameSaid → List ℕ
named_word (short c) = encode_utf8 c
named_word (long name) = name
named_word (both c name) = name

-- a syntax by its first name
abbrev pub option_word : SpellingSaid → List ℕ
option_word (named name) = named_word name
option_word (syntax text) = syntax_word text

-- ---- entries, of the blocks of a help

abbrev pub option_entry : WordsSaid → OptSaid → (help : List BlockSaid) → EntrySaid
option_entry fixed o help = record { word = option_word o.spelling; target = None; terms = option_terms o; body = body (option_notes fixed o) help }

-- A positional value that has no help and no notes has no entry. An entry is called as the value is shown.
abbrev pub entry_if_said : (word : List ℕ) → (terms : List Line) → (body : List BlockSaid) → Option EntrySaid
entry_if_said word terms [] = None
entry_if_said word terms (first ∷ others) = Some (record { word = word; target = None; terms = terms; body = first ∷ others })

abbrev pub positional_entry : WordsSaid → PositionalSaid → (help : List BlockSaid) → Option EntrySaid
positional_entry fixed p help = entry_if_said (shown_value p.value) (positional_terms p) (body (positional_notes fixed p) help)

-- and where the command is shown
abbrev pub named_entry : WordsSaid → TargetSaid → CommandNames → (help : List BlockSaid) → EntrySaid
named_entry fixed target names help = record { word = names.name; target = Some target; terms = command_terms names; body = body (command_notes fixed names) help }

abbrev pub command_entry : WordsSaid → TargetSaid → CommandSaid → (help : List BlockSaid) → EntrySaid
command_entry fixed target (command names text below) help = named_entry fixed target names help
