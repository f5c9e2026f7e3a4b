-- What a page makes of permitted texts is permitted: pieces of them, and fixed words and marks.
use Rattle.std.specs.Prelude.{◌≡◌, ℕ, List, ◌∷◌, Bool, true, ◌&&◌, Option, Some, None}
use Rattle.std.specs.List.{list_all}
use Rattle.std.specs.Str.{is_utf8}
use Rattle.page_model.specs.Content.{EntrySaid, TargetSaid}
use Rattle.page_model.specs.Permitted.{are_permitted, is_permitted_block, is_permitted_entry, is_permitted_form, is_permitted_target}
use Rattle.description.specs.Content.{OptSaid, PositionalSaid, LevelSaid, CommandSaid}
use Rattle.description.specs.Words.{WordsSaid}
use Rattle.description_texts.specs.Texts.{text_blocks}
use Rattle.description_usage.specs.Entries.{command_entry, option_entry, positional_entry}
use Rattle.description_usage.specs.Forms.{usage_forms}
use Rattle.page_laws.specs.Texts.{command_texts, fixed_texts, level_texts, option_texts, positional_texts}

-- a text that a page may have: it is UTF-8, as that of every value is, and permitted
abbrev pub is_fit : List ℕ → Bool
is_fit text = is_utf8 text && are_permitted text

-- ---- blocks

abbrev pub BlocksArePermitted : Type 0
BlocksArePermitted = (text : List ℕ) → is_fit text ≡ true → list_all is_permitted_block (text_blocks text) ≡ true

-- ---- usages

-- of a level whose texts are fit, after names that are, with fixed words that are
abbrev pub UsagesArePermitted : Type 0
UsagesArePermitted = (fixed : WordsSaid) (names : List ℕ) (l : LevelSaid) → list_all is_fit (names ∷ fixed_texts fixed) ≡ true → list_all is_fit (level_texts l) ≡ true → list_all is_permitted_form (usage_forms fixed names l) ≡ true

-- ---- entries

-- there is none, or it is permitted
abbrev pub is_permitted_if : Option EntrySaid → Bool
is_permitted_if None = true
is_permitted_if (Some entry) = is_permitted_entry entry

-- of what has fit texts, with the blocks of a help that is fit, and with fixed words that
-- are; of a command where that leads to a fit name or title
pub record EntriesArePermitted : Type 0 where
  pub option : (fixed : WordsSaid) (o : OptSaid) (help : List ℕ) → list_all is_fit (help ∷ fixed_texts fixed) ≡ true → list_all is_fit (option_texts o) ≡ true → is_permitted_entry (option_entry fixed o (text_blocks help)) ≡ true
  pub positional : (fixed : WordsSaid) (p : PositionalSaid) (help : List ℕ) → list_all is_fit (help ∷ fixed_texts fixed) ≡ true → list_all is_fit (positional_texts p) ≡ true → is_permitted_if (positional_entry fixed p (text_blocks help)) ≡ true
  pub command : (fixed : WordsSaid) (target : TargetSaid) (m : CommandSaid) (help : List ℕ) → is_permitted_target target ≡ true → list_all is_fit (help ∷ fixed_texts fixed) ≡ true → list_all is_fit (command_texts m) ≡ true
      → is_permitted_entry (command_entry fixed target m (text_blocks help)) ≡ true
