-- Options, positional values, commands and levels, each with what a page shows of it.
use Rattle.std.specs.Prelude.{◌≡◌, [], ◌∷◌, ◌++◌, map, true, false, Some, None, codes}
use Rattle.std.specs.Option.{option_map}
use Rattle.std.proofs.Common.{refl}
use lib.Utf8.{encode}
use Rattle.std.specs.Str.{chars}
use Rattle.ucd_table.specs.Rows.{in_ranges}
use Rattle.ucd_derived.specs.UppercaseRanges.{uppercase_ranges}
use Rattle.unicode.specs.Binary.{is_uppercase}
use Rattle.page_model.specs.Content.{Piece, words, literal, value, Line, BlockSaid, paragraph, code, bullets, to_page, EntrySaid, FormSaid}
use Rattle.description.specs.Content.{short, long, both, TextsSaid, level, no_groups, groups, group, no_commands, commands, command, named, syntax}
use Rattle.description_usage.specs.Forms.{text_forms}
use Rattle.description_usage.specs.Entries.{command_entry, option_entry, positional_entry}
use Rattle.description_usage.specs.Syntax.{syntax_terms, syntax_word}
use Rattle.description_usage.specs.Usage.{usage_items}
use Rattle.description.specs.Words.{WordsSaid, english}
use Rattle.description.specs.declared.hints.ValueHint.TheVariants.{File}

-- words that are neighbours, as one
abbrev onto_pieces : Piece → Line → Line
onto_pieces (words text) (words more ∷ pieces) = words (text ++ more) ∷ pieces
onto_pieces piece pieces = piece ∷ pieces

abbrev shown_pieces : Line → Line
shown_pieces [] = []
shown_pieces (piece ∷ pieces) = onto_pieces piece (shown_pieces pieces)

abbrev shown_block : BlockSaid → BlockSaid
shown_block (paragraph lines) = paragraph (map shown_pieces lines)
shown_block (code lines) = code lines
shown_block (bullets items) = bullets (map (map shown_pieces) items)

abbrev shown_entry : EntrySaid → EntrySaid
shown_entry entry = record { word = entry.word; target = entry.target; terms = map shown_pieces entry.terms; body = map shown_block entry.body }

abbrev shown_form : FormSaid → FormSaid
shown_form form = record { name = form.name; items = map shown_pieces form.items }

abbrev aufruf : WordsSaid
aufruf = record english { usage = codes "Aufruf" }

abbrev no_texts : TextsSaid
no_texts = record { about = None; header = None; footer = None; usage = None; topics = [] }

-- the terms of a syntax
pub syntaxes :
    (map shown_pieces (syntax_terms (codes "--color[=WHEN]")) ≡ ((literal (codes "--color") ∷ words (codes "[=") ∷ value (codes "WHEN") ∷ words (codes "]") ∷ []) ∷ []))
    × (map shown_pieces (syntax_terms (codes "-n, --line, --number")) ≡ ((literal (codes "-n") ∷ []) ∷ (literal (codes "--line") ∷ []) ∷ (literal (codes "--number") ∷ []) ∷ []))
    × (map shown_pieces (syntax_terms (codes "--[no-]edit")) ≡ ((words (codes "--[no-]") ∷ literal (codes "edit") ∷ []) ∷ []))
    × (map shown_pieces (syntax_terms (codes "if=FILE")) ≡ ((words (codes "if=") ∷ value (codes "FILE") ∷ []) ∷ []))
    × (map shown_pieces (syntax_terms (codes "-s, --store=FOLDER")) ≡ ((literal (codes "-s") ∷ []) ∷ (literal (codes "--store") ∷ words (codes "=") ∷ value (codes "FOLDER") ∷ []) ∷ []))
    × (map shown_pieces (syntax_terms (codes "a-b [-c|--d] {--e,F-1} <x>")) ≡ ((words (codes "a-b [") ∷ literal (codes "-c") ∷ words (codes "|") ∷ literal (codes "--d") ∷ words (codes "] {") ∷ literal (codes "--e") ∷ words (codes ",") ∷ value (codes "F-1") ∷ words (codes "} <x>") ∷ []) ∷ []))
    × (map shown_pieces (syntax_terms (codes "--[no-]--x, -- , NAME...")) ≡ ((words (codes "--[no-]") ∷ literal (codes "--x") ∷ []) ∷ (words (codes "--") ∷ []) ∷ (value (codes "NAME") ∷ words (codes "...") ∷ []) ∷ []))
    × (map shown_pieces (syntax_terms (codes "-x N|-y")) ≡ ((literal (codes "-x") ∷ words (codes " ") ∷ value (codes "N") ∷ words (codes "|") ∷ literal (codes "-y") ∷ []) ∷ []))
    × (map shown_pieces (syntax_terms (codes "Aa A_1 a1B")) ≡ ((words (codes "Aa ") ∷ value (codes "A_1") ∷ words (codes " a1B") ∷ []) ∷ []))
    × (map shown_pieces (syntax_terms (codes "--x-[no-]y ,(-z)")) ≡ ((literal (codes "--x-") ∷ words (codes "[no-]y") ∷ []) ∷ (words (codes "(") ∷ literal (codes "-z") ∷ words (codes ")") ∷ []) ∷ []))
syntaxes = (refl, refl, refl, refl, refl, refl, refl, refl, refl, refl)

-- what an option with a syntax is called
pub syntax_words :
    (syntax_word (codes "--[no-]edit") ≡ codes "edit")
    × (syntax_word (codes "-a, --all[=N]") ≡ codes "a")
    × (syntax_word (codes "--color[=WHEN]") ≡ codes "color")
    × (syntax_word (codes "if=FILE") ≡ codes "if=FILE")
    × (syntax_word (codes "[-c|--d]") ≡ codes "[-c|--d]")
    × (syntax_word (codes "[-c] N|--d-e") ≡ codes "d-e")
    × (syntax_word (codes "-") ≡ codes "-")
    × (syntax_word (codes "--[no-]") ≡ codes "--[no-]")
    × (syntax_word (codes "a-b ---c") ≡ codes "c")
    × (syntax_word [] ≡ [])
syntax_words = (refl, refl, refl, refl, refl, refl, refl, refl, refl, refl)

-- entries of options
pub options :
    (shown_entry (option_entry english (record { spelling = named (both 115 (codes "store")); value = (Some (codes "FOLDER")); default = (Some (codes "~/.tide")); values = None; hint = File; help = None; env = (Some (codes "TIDE_STORE")); required = false; repeated = false; hidden = false }) (paragraph ((words (codes "Where snapshots are kept") ∷ []) ∷ []) ∷ [])) ≡ record { word = codes "store"; target = None; terms = ((literal (codes "-s") ∷ []) ∷ (literal (codes "--store") ∷ words (codes "=") ∷ value (codes "FOLDER") ∷ []) ∷ []); body = (paragraph ((words (codes "Where snapshots are kept [env: TIDE_STORE] [default: ~/.tide]") ∷ []) ∷ []) ∷ []) })
    × (shown_entry (option_entry english (record { spelling = named (short 110); value = (Some (codes "COUNT")); default = None; values = None; hint = File; help = None; env = None; required = false; repeated = false; hidden = false }) (paragraph ((words (codes "a") ∷ []) ∷ (words (codes "b") ∷ []) ∷ []) ∷ [])) ≡ record { word = (110 ∷ []); target = None; terms = ((literal (codes "-n") ∷ words (codes " ") ∷ value (codes "COUNT") ∷ []) ∷ []); body = (paragraph ((words (codes "a") ∷ []) ∷ (words (codes "b") ∷ []) ∷ []) ∷ []) })
    × (shown_entry (option_entry english (record { spelling = named (long (codes "who")); value = (Some (codes "a b")); default = None; values = (Some (codes "never, auto")); hint = File; help = None; env = None; required = false; repeated = false; hidden = false }) []) ≡ record { word = codes "who"; target = None; terms = ((literal (codes "--who") ∷ words (codes "=") ∷ value (codes "<a b>") ∷ []) ∷ []); body = (paragraph ((words (codes "[possible values: never, auto]") ∷ []) ∷ []) ∷ []) })
    × (shown_entry (option_entry english (record { spelling = named (short 233); value = None; default = (Some (codes "x")); values = None; hint = File; help = None; env = None; required = false; repeated = false; hidden = false }) (bullets (((words (codes "a") ∷ []) ∷ []) ∷ ((words (codes "b") ∷ []) ∷ []) ∷ []) ∷ [])) ≡ record { word = (195 ∷ 169 ∷ []); target = None; terms = ((literal ((45 ∷ 195 ∷ 169 ∷ [])) ∷ []) ∷ []); body = (bullets (((words (codes "a") ∷ []) ∷ []) ∷ ((words (codes "b") ∷ []) ∷ []) ∷ []) ∷ paragraph ((words (codes "[default: x]") ∷ []) ∷ []) ∷ []) })
    × (shown_entry (option_entry english (record { spelling = named (long (codes "x")); value = None; default = None; values = None; hint = File; help = None; env = (Some (codes "E")); required = false; repeated = false; hidden = false }) (paragraph ((words (codes "one") ∷ []) ∷ []) ∷ paragraph ((words (codes "two") ∷ []) ∷ []) ∷ [])) ≡ record { word = codes "x"; target = None; terms = ((literal (codes "--x") ∷ []) ∷ []); body = (paragraph ((words (codes "one") ∷ []) ∷ []) ∷ paragraph ((words (codes "two") ∷ []) ∷ []) ∷ paragraph ((words (codes "[env: E]") ∷ []) ∷ []) ∷ []) })
    × (shown_entry (option_entry english (record { spelling = syntax (codes "-a, --all[=N]"); value = None; default = None; values = None; hint = File; help = None; env = (Some (codes "E")); required = false; repeated = false; hidden = false }) (code (codes "code" ∷ []) ∷ [])) ≡ record { word = codes "a"; target = None; terms = ((literal (codes "-a") ∷ []) ∷ (literal (codes "--all") ∷ words (codes "[=") ∷ value (codes "N") ∷ words (codes "]") ∷ []) ∷ []); body = (code (codes "code" ∷ []) ∷ paragraph ((words (codes "[env: E]") ∷ []) ∷ []) ∷ []) })
    × (shown_entry (option_entry english (record { spelling = named (both 118 (codes "verbose")); value = None; default = None; values = None; hint = File; help = None; env = None; required = false; repeated = false; hidden = false }) []) ≡ record { word = codes "verbose"; target = None; terms = ((literal (codes "-v") ∷ []) ∷ (literal (codes "--verbose") ∷ []) ∷ []); body = [] })
unfolding is_uppercase chars in_ranges uppercase_ranges encode
options = (refl, refl, refl, refl, refl, refl, refl)

-- entries of positional values
pub positionals :
    (option_map shown_entry (positional_entry english (record { value = codes "FILE"; default = None; values = None; hint = File; help = None; required = true; repeated = false; strict = false; hidden = false }) []) ≡ None)
    × (option_map shown_entry (positional_entry english (record { value = codes "file"; default = None; values = None; hint = File; help = None; required = true; repeated = false; strict = false; hidden = false }) (paragraph ((words (codes "a") ∷ []) ∷ []) ∷ [])) ≡ Some (record { word = codes "<file>"; target = None; terms = ((value (codes "<file>") ∷ []) ∷ []); body = (paragraph ((words (codes "a") ∷ []) ∷ []) ∷ []) }))
    × (option_map shown_entry (positional_entry english (record { value = codes "N"; default = (Some (codes "1")); values = None; hint = File; help = None; required = false; repeated = false; strict = false; hidden = false }) []) ≡ Some (record { word = codes "N"; target = None; terms = ((value (codes "N") ∷ []) ∷ []); body = (paragraph ((words (codes "[default: 1]") ∷ []) ∷ []) ∷ []) }))
unfolding is_uppercase chars in_ranges uppercase_ranges encode
positionals = (refl, refl, refl)

-- entries of commands
pub command_rows :
    (shown_entry (command_entry english (to_page (codes "p")) (command (record { name = codes "list"; initial = (Some 108); aliases = (codes "ls" ∷ codes "dir" ∷ []); hidden = false }) None (level no_texts true [] [] no_groups [] no_commands)) (paragraph ((words (codes "List") ∷ []) ∷ []) ∷ [])) ≡ record { word = codes "list"; target = Some (to_page (codes "p")); terms = ((literal (codes "list") ∷ []) ∷ (literal (codes "l") ∷ []) ∷ []); body = (paragraph ((words (codes "List [aliases: ls, dir]") ∷ []) ∷ []) ∷ []) })
    × (shown_entry (command_entry english (to_page (codes "p")) (command (record { name = codes "x"; initial = None; aliases = []; hidden = false }) None (level no_texts true [] [] no_groups [] no_commands)) []) ≡ record { word = codes "x"; target = Some (to_page (codes "p")); terms = ((literal (codes "x") ∷ []) ∷ []); body = [] })
unfolding is_uppercase chars in_ranges uppercase_ranges encode
command_rows = (refl, refl)

-- the items of usages
pub usages :
    (map shown_pieces (usage_items english (level no_texts true [] [] no_groups [] no_commands)) ≡ [])
    × (map shown_pieces (usage_items english (level no_texts true ((record { spelling = named (both 115 (codes "store")); value = (Some (codes "FOLDER")); default = None; values = None; hint = File; help = None; env = None; required = false; repeated = false; hidden = false }) ∷ (record { spelling = named (both 118 (codes "verbose")); value = None; default = None; values = None; hint = File; help = None; env = None; required = false; repeated = true; hidden = false }) ∷ (record { spelling = syntax (codes "--color[=WHEN]"); value = None; default = (Some (codes "auto")); values = None; hint = File; help = None; env = None; required = false; repeated = false; hidden = false }) ∷ (record { spelling = named (long (codes "hid")); value = None; default = None; values = None; hint = File; help = None; env = None; required = false; repeated = false; hidden = true }) ∷ (record { spelling = named (short 110); value = (Some (codes "num")); default = None; values = None; hint = File; help = None; env = None; required = true; repeated = true; hidden = false }) ∷ (record { spelling = syntax (codes "-a|-b"); value = None; default = None; values = None; hint = File; help = None; env = None; required = true; repeated = false; hidden = false }) ∷ (record { spelling = named (long (codes "in")); value = (Some (codes "FILE")); default = None; values = None; hint = File; help = None; env = None; required = true; repeated = false; hidden = false }) ∷ []) [] no_groups [] (commands (command (record { name = codes "save"; initial = None; aliases = []; hidden = false }) None (level no_texts true [] [] no_groups [] no_commands)) no_commands))) ≡ ((words (codes "[") ∷ literal (codes "-s") ∷ words (codes " ") ∷ value (codes "FOLDER") ∷ words (codes "]") ∷ []) ∷ (words (codes "[") ∷ literal (codes "-v") ∷ words (codes "]...") ∷ []) ∷ (words (codes "[") ∷ literal (codes "--color") ∷ words (codes "[=") ∷ value (codes "WHEN") ∷ words (codes "]]") ∷ []) ∷ (words (codes "(") ∷ literal (codes "-n") ∷ words (codes " ") ∷ value (codes "<num>") ∷ words (codes ")...") ∷ []) ∷ (words (codes "(") ∷ literal (codes "-a") ∷ words (codes "|") ∷ literal (codes "-b") ∷ words (codes ")") ∷ []) ∷ (literal (codes "--in") ∷ words (codes "=") ∷ value (codes "FILE") ∷ []) ∷ (value (codes "COMMAND") ∷ words (codes " ...") ∷ []) ∷ []))
    × (map shown_pieces (usage_items english (level no_texts true [] ((record { options = ((record { spelling = named (long (codes "fast")); value = None; default = None; values = None; hint = File; help = None; env = None; required = false; repeated = false; hidden = false }) ∷ (record { spelling = named (long (codes "thorough")); value = None; default = None; values = None; hint = File; help = None; env = None; required = false; repeated = false; hidden = false }) ∷ []); required = false }) ∷ (record { options = ((record { spelling = named (both 113 (codes "quiet")); value = None; default = None; values = None; hint = File; help = None; env = None; required = false; repeated = false; hidden = false }) ∷ (record { spelling = named (long (codes "loud")); value = None; default = None; values = None; hint = File; help = None; env = None; required = false; repeated = false; hidden = true }) ∷ []); required = true }) ∷ (record { options = ((record { spelling = named (short 120); value = None; default = None; values = None; hint = File; help = None; env = None; required = false; repeated = false; hidden = false }) ∷ (record { spelling = named (short 121); value = (Some (codes "N")); default = None; values = None; hint = File; help = None; env = None; required = false; repeated = false; hidden = false }) ∷ []); required = true }) ∷ (record { options = ((record { spelling = named (long (codes "z")); value = None; default = None; values = None; hint = File; help = None; env = None; required = false; repeated = false; hidden = true }) ∷ []); required = false }) ∷ []) no_groups ((record { value = codes "FOLDER"; default = None; values = None; hint = File; help = None; required = true; repeated = true; strict = false; hidden = false }) ∷ (record { value = codes "hid"; default = None; values = None; hint = File; help = None; required = true; repeated = false; strict = true; hidden = true }) ∷ (record { value = codes "REST"; default = None; values = None; hint = File; help = None; required = false; repeated = true; strict = true; hidden = false }) ∷ (record { value = codes "more"; default = None; values = None; hint = File; help = None; required = true; repeated = true; strict = true; hidden = false }) ∷ []) no_commands)) ≡ ((words (codes "[") ∷ literal (codes "--fast") ∷ words (codes " | ") ∷ literal (codes "--thorough") ∷ words (codes "]") ∷ []) ∷ (literal (codes "-q") ∷ []) ∷ (words (codes "(") ∷ literal (codes "-x") ∷ words (codes " | ") ∷ literal (codes "-y") ∷ words (codes " ") ∷ value (codes "N") ∷ words (codes ")") ∷ []) ∷ (value (codes "FOLDER") ∷ words (codes "...") ∷ []) ∷ (words (codes "[") ∷ literal (codes "--") ∷ words (codes " ") ∷ value (codes "REST") ∷ words (codes "...]") ∷ []) ∷ (value (codes "<more>") ∷ words (codes "...") ∷ []) ∷ []))
    × (map shown_pieces (usage_items english (level no_texts false ((record { spelling = named (long (codes "own")); value = None; default = None; values = None; hint = File; help = None; env = None; required = false; repeated = false; hidden = false }) ∷ []) [] (groups (group (codes "A") ((record { spelling = named (short 97); value = None; default = None; values = None; hint = File; help = None; env = None; required = false; repeated = false; hidden = false }) ∷ []) [] ((record { value = codes "P"; default = None; values = None; hint = File; help = None; required = true; repeated = false; strict = true; hidden = false }) ∷ []) (commands (command (record { name = codes "c"; initial = None; aliases = []; hidden = true }) None (level no_texts true [] [] no_groups [] no_commands)) no_commands)) (groups (group (codes "B") [] ((record { options = ((record { spelling = named (short 98); value = None; default = None; values = None; hint = File; help = None; env = None; required = false; repeated = false; hidden = false }) ∷ []); required = false }) ∷ []) ((record { value = codes "Q"; default = (Some (codes "1")); values = None; hint = File; help = None; required = false; repeated = true; strict = false; hidden = false }) ∷ []) (commands (command (record { name = codes "d"; initial = None; aliases = []; hidden = false }) None (level no_texts true [] [] no_groups [] no_commands)) no_commands)) no_groups)) ((record { value = codes "OWN"; default = None; values = None; hint = File; help = None; required = false; repeated = false; strict = false; hidden = false }) ∷ []) no_commands)) ≡ ((words (codes "[") ∷ literal (codes "--own") ∷ words (codes "]") ∷ []) ∷ (words (codes "[") ∷ literal (codes "-a") ∷ words (codes "]") ∷ []) ∷ (words (codes "[") ∷ literal (codes "-b") ∷ words (codes "]") ∷ []) ∷ (literal (codes "--") ∷ words (codes " ") ∷ value (codes "P") ∷ []) ∷ (words (codes "[") ∷ value (codes "Q") ∷ words (codes "]...") ∷ []) ∷ (words (codes "[") ∷ value (codes "OWN") ∷ words (codes "]") ∷ []) ∷ (words (codes "[") ∷ value (codes "COMMAND") ∷ words (codes " ...]") ∷ []) ∷ []))
unfolding is_uppercase chars in_ranges uppercase_ranges encode
usages = (refl, refl, refl, refl)

-- the forms of texts
pub texts :
    (map shown_form (text_forms aufruf (codes "Usage: tide [-s FOLDER] NAME...\n\tUsage:  x")) ≡ (record { name = codes "tide"; items = ((words (codes "[") ∷ literal (codes "-s") ∷ words (codes " ") ∷ value (codes "FOLDER") ∷ words (codes "]") ∷ []) ∷ (value (codes "NAME") ∷ words (codes "...") ∷ []) ∷ []) } ∷ record { name = codes "x"; items = [] } ∷ []))
    × (map shown_form (text_forms aufruf (codes "a  [b c] | d\n")) ≡ (record { name = codes "a"; items = ((words (codes "[b c]") ∷ []) ∷ (words (codes "|") ∷ []) ∷ (words (codes "d") ∷ []) ∷ []) } ∷ []))
    × (map shown_form (text_forms aufruf (codes "x [a (b] c)")) ≡ (record { name = codes "x"; items = ((words (codes "[a") ∷ []) ∷ (words (codes "(b] c)") ∷ []) ∷ []) } ∷ []))
    × (map shown_form (text_forms aufruf (codes "] [ <a b> ([) --x")) ≡ (record { name = codes "]"; items = ((words (codes "[") ∷ []) ∷ (words (codes "<a b>") ∷ []) ∷ (words (codes "([)") ∷ []) ∷ (literal (codes "--x") ∷ []) ∷ []) } ∷ []))
    × (map shown_form (text_forms aufruf (codes "Aufruf: p -n COUNT\nUsage:q")) ≡ (record { name = codes "p"; items = ((literal (codes "-n") ∷ []) ∷ (value (codes "COUNT") ∷ []) ∷ []) } ∷ record { name = codes "Usage:q"; items = [] } ∷ []))
    × (map shown_form (text_forms aufruf (codes "  ")) ≡ [])
    × (map shown_form (text_forms aufruf (codes "a [b] [c")) ≡ (record { name = codes "a"; items = ((words (codes "[b]") ∷ []) ∷ (words (codes "[c") ∷ []) ∷ []) } ∷ []))
    × (map shown_form (text_forms aufruf (codes "Usage: Usage: z {a] b} --[no-]y")) ≡ (record { name = codes "Usage:"; items = ((words (codes "z") ∷ []) ∷ (words (codes "{a] b}") ∷ []) ∷ (words (codes "--[no-]") ∷ literal (codes "y") ∷ []) ∷ []) } ∷ []))
texts = (refl, refl, refl, refl, refl, refl, refl, refl)
