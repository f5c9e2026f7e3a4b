-- The entries of what has permitted texts have permitted texts alone.
use Rattle.std.proofs.Common.{ℕ, List, [], ◌∷◌, ◌++◌, map, codes, Option, Some, None, refl}
use Rattle.page_model.specs.Content.{words, Line, BlockSaid, paragraph, code, bullets, TargetSaid, to_page, to_heading, EntrySaid}
use Rattle.page_model.specs.Permitted.{is_permitted}
use Rattle.description.specs.Content.{NameSaid, short, long, both, SpellingSaid, named, syntax, OptSaid, PositionalSaid, CommandNames, CommandSaid, command, LevelSaid}
use Rattle.description.specs.Words.{WordsSaid}
use Rattle.description_usage.specs.Entries.{alias_notes, after_lines, body, command_entry, command_notes, entry_if_said, initial_terms, named_terms, named_word, note, noted, noted_body, option_entry, option_notes, option_word, positional_entry, positional_notes, positional_terms, spelled_terms}
use Rattle.description_usage.specs.Lines.{joined}
use Rattle.description_usage.specs.Names.{shown_value}
use Rattle.description_usage.specs.Syntax.{syntax_line, ways}
use Rattle.page_laws.proofs.Each.{Each, each_append, each_left, each_right}
use Rattle.page_laws.specs.Texts.{command_texts, fixed_texts, initial_text, level_texts, spelling_texts, text_of}
use Rattle.page_laws.proofs.Blocks.{BlockIs, LineIs, Permitted, PieceIs, each_changed}
use Rattle.page_laws.proofs.Usage.{GivenIs, OptIs, PositionalIs, fixed, joined_is, long_is, short_is, syntax_is, syntax_word_is, value_is, ways_are}

-- ---- the fixed words

pub record WordsAre (w : WordsSaid) : Type 0 where
  pub usage : Permitted w.usage
  pub arguments : Permitted w.arguments
  pub options : Permitted w.options
  pub commands : Permitted w.commands
  pub contents : Permitted w.contents
  pub notes : Permitted w.notes
  pub default : Permitted w.default
  pub possible_values : Permitted w.possible_values
  pub env : Permitted w.env
  pub aliases : Permitted w.aliases
  pub command : Permitted w.command
  pub name : Permitted w.name
  pub synopsis : Permitted w.synopsis
  pub description : Permitted w.description
  pub see_also : Permitted w.see_also

pub words_known : (w : WordsSaid) → Each Permitted (fixed_texts w) → WordsAre w
words_known w h =
    let contents = h.1.1.1.1 in
    let notes = contents.1 in
    let command = notes.1.1.1.1.1 in
    record {
      usage = h.0;
      arguments = h.1.0;
      options = h.1.1.0;
      commands = h.1.1.1.0;
      contents = contents.0;
      notes = notes.0;
      default = notes.1.0;
      possible_values = notes.1.1.0;
      env = notes.1.1.1.0;
      aliases = notes.1.1.1.1.0;
      command = command.0;
      name = command.1.0;
      synopsis = command.1.1.0;
      description = command.1.1.1.0;
      see_also = command.1.1.1.1.0;
    }

-- ---- commands

pub record NamedIs (called : CommandNames) (text : Option (List ℕ)) (below : LevelSaid) : Type 0 where
  pub name : Permitted called.name
  pub initial : Each Permitted (initial_text called.initial)
  pub aliases : Each Permitted called.aliases
  pub help : GivenIs text
  pub level : Each Permitted (level_texts below)

abbrev pub CommandIs : CommandSaid → Type 0
CommandIs (command called help l) = NamedIs called help l

pub command_known : (m : CommandSaid) → Each Permitted (command_texts m) → CommandIs m
command_known (command called help l) h =
    let after = each_right Permitted (initial_text called.initial) (called.aliases ++ (text_of help ++ level_texts l)) h.1 in
    let said = each_right Permitted called.aliases (text_of help ++ level_texts l) after in
    record {
      name = h.0;
      initial = each_left Permitted (initial_text called.initial) (called.aliases ++ (text_of help ++ level_texts l)) h.1;
      aliases = each_left Permitted called.aliases (text_of help ++ level_texts l) after;
      help = each_left Permitted (text_of help) (level_texts l) said;
      level = each_right Permitted (text_of help) (level_texts l) said;
    }

-- ---- terms

named_are : (name : NameSaid) (word : Option (List ℕ)) → Each Permitted (spelling_texts (named name)) → GivenIs word → Each LineIs (named_terms name word)
named_are (short c) word h k = (short_is c word h.0 k, tt)
named_are (long name) word h k = (long_is name word h.0 k, tt)
named_are (both c name) word h k = (short_is c None h.0 tt, (long_is name word h.1.0 k, tt))

spelled_are : (spelling : SpellingSaid) (word : Option (List ℕ)) → Each Permitted (spelling_texts spelling) → GivenIs word → Each LineIs (spelled_terms spelling word)
spelled_are (named name) word h k = named_are name word h k
spelled_are (syntax text) word h k = each_changed Permitted LineIs syntax_line (λ way. syntax_is is_permitted way) (ways text) (ways_are text h.0)

initial_are : (initial : Option ℕ) → Each Permitted (initial_text initial) → Each LineIs (initial_terms initial)
initial_are None h = tt
initial_are (Some c) h = ((h.0, tt), tt)

-- ---- what entries are called

named_word_is : (name : NameSaid) → Each Permitted (spelling_texts (named name)) → Permitted (named_word name)
named_word_is (short c) h = h.0
named_word_is (long name) h = h.0
named_word_is (both c name) h = h.1.0

option_word_is : (spelling : SpellingSaid) → Each Permitted (spelling_texts spelling) → Permitted (option_word spelling)
option_word_is (named name) h = named_word_is name h
option_word_is (syntax text) h = syntax_word_is text h.0

-- ---- notes

note_is : (word : List ℕ) (said : Line) → Permitted word → LineIs said → LineIs (note word said)
note_is word said h k = (fixed (codes "[") refl, (h, (fixed (codes ": ") refl, each_append PieceIs said (words (codes "]") ∷ []) k (fixed (codes "]") refl, tt))))

noted_is : (word : List ℕ) (said : Option (List ℕ)) → Permitted word → GivenIs said → Each LineIs (noted word said)
noted_is word None h k = tt
noted_is word (Some said) h k = (note_is word (words said ∷ []) h (k.0, tt), tt)

option_notes_are : (w : WordsSaid) → WordsAre w → (o : OptSaid) → OptIs o → Each LineIs (option_notes w o)
option_notes_are w h o k =
    each_append LineIs (noted w.env o.env ++ noted w.default o.default) (noted w.possible_values o.values)
    (each_append LineIs (noted w.env o.env) (noted w.default o.default) (noted_is w.env o.env h.env k.env) (noted_is w.default o.default h.default k.default)) (noted_is w.possible_values o.values h.possible_values k.values)

positional_notes_are : (w : WordsSaid) → WordsAre w → (p : PositionalSaid) → PositionalIs p → Each LineIs (positional_notes w p)
positional_notes_are w h p k = each_append LineIs (noted w.default p.default) (noted w.possible_values p.values) (noted_is w.default p.default h.default k.default) (noted_is w.possible_values p.values h.possible_values k.values)

alias_notes_are : (word : List ℕ) (aliases : List (List ℕ)) → Permitted word → Each Permitted aliases → Each LineIs (alias_notes word aliases)
alias_notes_are word [] h k = tt
alias_notes_are word (name ∷ names) h k =
    let alone = each_changed Permitted LineIs (λ alias. words alias ∷ []) (λ alias p. (p, tt)) (name ∷ names) k in
    (note_is word (joined (codes ", ") (map (λ alias. words alias ∷ []) (name ∷ names))) h (joined_is (codes ", ") (fixed (codes ", ") refl) (map (λ alias. words alias ∷ []) (name ∷ names)) alone), tt)

-- ---- bodies

after_are : (notes : Line) (lines : List Line) → LineIs notes → Each LineIs lines → Each LineIs (after_lines notes lines)
after_are notes [] h k = (h, tt)
after_are notes (line ∷ []) h k = (each_append PieceIs line (words (codes " ") ∷ notes) k.0 (fixed (codes " ") refl, h), tt)
after_are notes (line ∷ more ∷ lines) h k = (k.0, after_are notes (more ∷ lines) h k.1)

noted_body_is : (notes : Line) (help : List BlockSaid) → LineIs notes → Each BlockIs help → Each BlockIs (noted_body notes help)
noted_body_is notes [] h k = ((h, tt), tt)
noted_body_is notes (paragraph lines ∷ []) h k = (after_are notes lines h k.0, tt)
noted_body_is notes (code lines ∷ []) h k = (k.0, ((h, tt), tt))
noted_body_is notes (bullets items ∷ []) h k = (k.0, ((h, tt), tt))
noted_body_is notes (paragraph lines ∷ more ∷ help) h k = each_append BlockIs (paragraph lines ∷ more ∷ help) (paragraph (notes ∷ []) ∷ []) k ((h, tt), tt)
noted_body_is notes (code lines ∷ more ∷ help) h k = each_append BlockIs (code lines ∷ more ∷ help) (paragraph (notes ∷ []) ∷ []) k ((h, tt), tt)
noted_body_is notes (bullets items ∷ more ∷ help) h k = each_append BlockIs (bullets items ∷ more ∷ help) (paragraph (notes ∷ []) ∷ []) k ((h, tt), tt)

body_is : (notes : List Line) (help : List BlockSaid) → Each LineIs notes → Each BlockIs help → Each BlockIs (body notes help)
body_is [] help h k = k
body_is (first ∷ others) help h k = noted_body_is _ help (joined_is (codes " ") (fixed (codes " ") refl) (first ∷ others) h) k

-- ---- entries

abbrev pub TargetIs : Option TargetSaid → Type 0
TargetIs None = Unit {0}
TargetIs (Some (to_page name)) = Permitted name
TargetIs (Some (to_heading title)) = Permitted title

abbrev pub ContentIs : EntrySaid → Type 0
ContentIs e = Each LineIs e.terms × Each BlockIs e.body

pub record EntryIs (e : EntrySaid) : Type 0 where
  pub word : Permitted e.word
  pub target : TargetIs e.target
  pub content : ContentIs e

module _ (w : WordsSaid) (h : WordsAre w) where
  pub option_is : (o : OptSaid) → OptIs o → (help : List BlockSaid) → Each BlockIs help → EntryIs (option_entry w o help)
  option_is o k help b = record {
    word = option_word_is o.spelling k.spelling;
    target = tt;
    content = (spelled_are o.spelling o.value k.spelling k.value, body_is (option_notes w o) help (option_notes_are w h o k) b);
  }

  abbrev pub IfEntry : Option EntrySaid → Type 0
  IfEntry None = Unit {0}
  IfEntry (Some e) = EntryIs e

  if_said : (word : List ℕ) (terms : List Line) (said : List BlockSaid) → Permitted word → Each LineIs terms → Each BlockIs said → IfEntry (entry_if_said word terms said)
  if_said word terms [] k t b = tt
  if_said word terms (first ∷ others) k t b = record { word = k; target = tt; content = (t, b) }

  pub positional_entry_is : (p : PositionalSaid) → PositionalIs p → (help : List BlockSaid) → Each BlockIs help → IfEntry (positional_entry w p help)
  positional_entry_is p k help b =
      if_said (shown_value p.value) (positional_terms p) (body (positional_notes w p) help) (value_is p.value k.value) ((value_is p.value k.value, tt), tt) (body_is (positional_notes w p) help (positional_notes_are w h p k) b)

  pub command_content : (target : TargetSaid) (m : CommandSaid) → CommandIs m → (help : List BlockSaid) → Each BlockIs help → ContentIs (command_entry w target m help)
  command_content target (command called text l) k help b = (((k.name, tt), initial_are called.initial k.initial), body_is (command_notes w called) help (alias_notes_are w.aliases called.aliases h.aliases k.aliases) b)

  pub command_is : (target : TargetSaid) → TargetIs (Some target) → (m : CommandSaid) → CommandIs m → (help : List BlockSaid) → Each BlockIs help → EntryIs (command_entry w target m help)
  command_is target t (command called text l) k help b = record { word = k.name; target = t; content = command_content target (command called text l) k help b }
