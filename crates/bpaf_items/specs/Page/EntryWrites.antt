-- What each entry of a list writes.
use Rattle.std.specs.Prelude.{◌++◌, ◌∷◌}
use Rattle.bpaf_items.specs.Words.{ℕ, Bool, true, false, List, [], Option, Some, None, codes, encode_utf8, Part, Write, start, end, plain, literal, inside, doc_writes, em_doc_writes, Name, short, long, both, Leaf, any, positional, command, flag, argument, metavar_writes, usage_writes}
use Rattle.bpaf_doc.specs.declared.buffer.Block.TheVariants as block
use Rattle.bpaf_items.specs.Listing.ItemList.{Entry, listed, note, group_start, group_end, adjacent_start, adjacent_stop}
use Rattle.bpaf_meta.specs.Names.{short_text, long_text}
use Rattle.bpaf_items.specs.Page.EnvTexts.{Texts}

-- writes between the marks of an item's term, and of its body
abbrev pub term : List Write → List Write
term = inside block.ItemTerm

abbrev pub body : List Write → List Write
body = inside block.ItemBody

-- the help as a body, where there is one
abbrev pub help_writes : Option (List Part) → List Write
help_writes None = []
help_writes (Some d) = body (doc_writes d)

-- the names of a flag or an argument; a lone long name is indented by four blanks
abbrev pub names_writes : Name → List Write
names_writes (short c) = literal (short_text c) ∷ []
names_writes (long n) = literal (codes "    " ++ long_text n) ∷ []
names_writes (both c n) = literal (short_text c) ∷ plain (codes ", ") ∷ literal (long_text n) ∷ []

abbrev pub command_writes : List ℕ → Option ℕ → List Write
command_writes n None = literal n ∷ []
command_writes n (Some c) = literal n ∷ plain (codes ", ") ∷ literal (encode_utf8 c) ∷ []

-- `[env:NAMEtext]`
abbrev pub env_text : (name text : List ℕ) → List ℕ
env_text n s = codes "[env:" ++ n ++ s ++ codes "]"

-- for a flag, whether the name is in the map; for an argument, its text there
abbrev pub flag_env_text : List ℕ → Option (List ℕ) → List ℕ
flag_env_text n None = env_text n (codes ": not set")
flag_env_text n (Some s) = env_text n (codes ": set")

abbrev pub argument_env_text : List ℕ → Option (List ℕ) → List ℕ
argument_env_text n None = env_text n (codes ": N/A")
argument_env_text n (Some s) = env_text n (codes " = " ++ s)

-- the text if environment texts are included, otherwise only the name
abbrev pub env_body : (include_env : Bool) → (name text : List ℕ) → List Write
env_body true n s = plain s ∷ []
env_body false n s = plain (codes "Uses environment variable ") ∷ literal n ∷ []

-- after a help the environment gets an empty term of its own
abbrev pub env_term : Option (List Part) → List Write
env_term None = []
env_term (Some d) = term []

-- the environment of an item, by the text for its name
abbrev pub env_writes : (include_env : Bool) → (text : List ℕ → List ℕ) → (help : Option (List Part))
    → (env : Option (List ℕ)) → List Write
env_writes include text help None = []
env_writes include text help (Some n) = env_term help ++ body (env_body include n (text n))

abbrev pub listed_writes : (include_env : Bool) → Texts → Leaf → List Write
listed_writes include texts (any m a h) = term (doc_writes m) ++ help_writes h
listed_writes include texts (positional m h) = term (metavar_writes m) ++ help_writes h
listed_writes include texts (command n c h t i) = term (command_writes n c) ++ help_writes h
listed_writes include texts (flag n s e h) = term (names_writes n) ++ help_writes h
    ++ env_writes include (λ v. flag_env_text v (texts v)) h e
listed_writes include texts (argument n s m e h) = term (names_writes n ++ plain (codes "=") ∷ metavar_writes m)
    ++ help_writes h ++ env_writes include (λ v. argument_env_text v (texts v)) h e

-- what an entry writes
abbrev pub entry_writes : (include_env : Bool) → Texts → Entry → List Write
entry_writes include texts (listed l) = listed_writes include texts l
entry_writes include texts (note d k) = term [] ++ body (doc_writes d)
entry_writes include texts (group_start d k) =
    start block.Block ∷ inside block.Section2 (em_doc_writes d) ++ start block.DefinitionList ∷ []
entry_writes include texts (group_end k) = end block.DefinitionList ∷ end block.Block ∷ []
entry_writes include texts (adjacent_start t k) = inside block.Section4 (usage_writes true t)
entry_writes include texts (adjacent_stop k) = inside block.Block []
