-- The parts of a help page, and what is shown of the environment variable of an item.
use Rattle.std.specs.Prelude.{◌++◌, ◌∷◌}
use Rattle.bpaf_items.specs.Words.{ℕ, List, [], Option, codes, Write, start, plain, emphasis, inside, Tree, Head, head}
use Rattle.bpaf_doc.specs.declared.buffer.Block.TheVariants as block
use Rattle.bpaf_items.specs.declared.meta_help.writes.Shown.{Shown}
use Rattle.bpaf_items.specs.declared.meta_help.writes.Shown.TheVariants.{IsSet, Value}
use Rattle.bpaf_items.specs.Page.EntryWrites.{argument_env_text, flag_env_text}
use Rattle.bpaf_items.specs.Page.HelpPage.{doc_within, usage_line_writes}

-- above the list
abbrev pub front_writes : (path : List (List ℕ)) → Head → Tree → List Write
front_writes path (head descr header footer usage own) t = doc_within block.Block descr
    ++ inside block.Block (usage_line_writes path usage t) ++ doc_within block.Block header

-- below it
abbrev pub footer_writes : Head → List Write
footer_writes (head descr header footer usage own) = doc_within block.Block footer

-- before the path of a usage line
abbrev pub usage_start : List Write
usage_start = emphasis (codes "Usage") ∷ plain (codes ": ") ∷ start block.Mono ∷ []

-- what is shown of a variable, by its name and its text: whether it is set, or its value
abbrev pub shown_text : Shown → List ℕ → Option (List ℕ) → List ℕ
shown_text IsSet = flag_env_text
shown_text Value = argument_env_text
