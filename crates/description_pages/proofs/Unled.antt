-- Wherever the entries of commands lead, a level has the same lists.
use Rattle.std.proofs.Common.{◌≡◌, ℕ, Bool, true, false, List, [], ◌∷◌, ◌++◌, refl, sym, ap, ◌∙◌}
use Rattle.std.specs.Prelude.{flat_map, map, ◌||◌, if◌then◌else◌}
use Rattle.std.specs.List.{list_any}
use Rattle.std.proofs.lemmas.Grind.{flat_map-append}
use Rattle.std.proofs.lemmas.List.{map-append}
use Rattle.page_model.specs.Content.{EntrySaid}
use Rattle.description.specs.Content.{OptSaid, LevelSaid, level, GroupsSaid, no_groups, groups, GroupSaid, group, CommandsSaid, no_commands, commands, CommandSaid, command}
use Rattle.description.specs.Words.{WordsSaid}
use Rattle.description_pages.specs.Keys.{RowSaid, entries_once, same_key}
use Rattle.description_pages.specs.Levels.{SubjectSaid, notes_of, page_of, sections_of, texts_of}
use Rattle.description_pages.specs.Media.{list_of, lists_of, unled}
use Rattle.description_pages.specs.Once.{each_once, if_new, new_after}
use Rattle.description_pages.specs.Sections.{SectionSaid, argument_section, choice_rows, command_rows, command_rows_of, command_section, group_section, group_sections, group_title, groups_of, list_section, list_sections, option_rows, option_section, value_rows}
use Rattle.description_pages.specs.Topics.{own_sections}
use Rattle.description_pages.specs.declared.levels.Depth.{Depth}
use Rattle.description_pages.specs.declared.sections.Detail.{Detail}

abbrev unled_row : RowSaid → RowSaid
unled_row row = record { key = row.key; entry = unled row.entry }

abbrev same : RowSaid → RowSaid → Bool
same x y = same_key x.key y.key

abbrev unled_rows : List RowSaid → List RowSaid
unled_rows rows = map unled_row rows

-- ---- entries with one key

found : (row : RowSaid) (before : List RowSaid) → list_any (same row) before ≡ list_any (same (unled_row row)) (unled_rows before)
found row [] = refl
found row (x ∷ before) = ap (λ b. same row x || b) (found row before)

new_one : (b : Bool) (row : RowSaid) → unled_rows (if b then [] else row ∷ []) ≡ (if b then [] else unled_row row ∷ [])
new_one true row = refl
new_one false row = refl

after : (before rows : List RowSaid) → unled_rows (new_after same before rows) ≡ new_after same (unled_rows before) (unled_rows rows)
after before [] = refl
after before (row ∷ rows) =
    map-append unled_row (if_new same before row) (new_after same (before ++ row ∷ []) rows)
    ∙ ap (λ x. x ++ unled_rows (new_after same (before ++ row ∷ []) rows)) (new_one (list_any (same row) before) row ∙ ap (λ (b : Bool). if b then [] else unled_row row ∷ []) (found row before))
    ∙ ap (λ x. if_new same (unled_rows before) (unled_row row) ++ x) (after (before ++ row ∷ []) rows ∙ ap (λ x. new_after same x (unled_rows rows)) (map-append unled_row before (row ∷ [])))

abbrev entry_at : RowSaid → EntrySaid
entry_at row = row.entry

entries_unled : (rows : List RowSaid) → map unled (map entry_at rows) ≡ map entry_at (unled_rows rows)
entries_unled [] = refl
entries_unled (row ∷ rows) = ap (λ x. unled row.entry ∷ x) (entries_unled rows)

once_unled : (rows : List RowSaid) → map unled (entries_once rows) ≡ entries_once (unled_rows rows)
once_unled rows = entries_unled (each_once same rows) ∙ ap (map entry_at) (after [] rows)

once_same : (rows others : List RowSaid) → unled_rows rows ≡ unled_rows others → map unled (entries_once rows) ≡ map unled (entries_once others)
once_same rows others e = once_unled rows ∙ ap entries_once e ∙ sym (once_unled others)

-- ---- lists

abbrev lists : List SectionSaid → List (List EntrySaid)
lists sections = flat_map (λ (section : SectionSaid). list_of section.body) sections

listed_same : (title : List ℕ) (some others : List EntrySaid) → map unled some ≡ map unled others → lists (list_section title some) ≡ lists (list_section title others)
listed_same title [] [] e = refl
listed_same title [] (x ∷ others) e = absurd cc
listed_same title (x ∷ some) [] e = absurd cc
listed_same title (x ∷ some) (y ∷ others) e = ap (λ z. z ∷ []) e

module _ (fixed : WordsSaid) (detail : Detail) (one two : Depth) (names : List (List ℕ)) where
  hidden_same : (b : Bool) (row other : RowSaid) → unled_row row ≡ unled_row other → unled_rows (if b then [] else row ∷ []) ≡ unled_rows (if b then [] else other ∷ [])
  hidden_same true row other e = refl
  hidden_same false row other e = ap (λ x. x ∷ []) e

  command_same : (c : CommandSaid) → unled_rows (command_rows_of fixed detail one names c) ≡ unled_rows (command_rows_of fixed detail two names c)
  command_same (command called help below) = hidden_same called.hidden _ _ refl

  commands_same : (cs : CommandsSaid) → unled_rows (command_rows fixed detail one names cs) ≡ unled_rows (command_rows fixed detail two names cs)
  commands_same no_commands = refl
  commands_same (commands first others) =
      map-append unled_row (command_rows_of fixed detail one names first) (command_rows fixed detail one names others)
      ∙ ap (λ x. x ++ unled_rows (command_rows fixed detail one names others)) (command_same first)
      ∙ ap (λ x. unled_rows (command_rows_of fixed detail two names first) ++ x) (commands_same others)
      ∙ sym (map-append unled_row (command_rows_of fixed detail two names first) (command_rows fixed detail two names others))

  front_same : (front rows others : List RowSaid) → unled_rows rows ≡ unled_rows others → unled_rows (front ++ rows) ≡ unled_rows (front ++ others)
  front_same front rows others e = map-append unled_row front rows ∙ ap (λ x. unled_rows front ++ x) e ∙ sym (map-append unled_row front others)

  group_same : (g : GroupSaid) → lists (group_section fixed detail one names g) ≡ lists (group_section fixed detail two names g)
  group_same (group title options choices values below) =
      listed_same (group_title (group title options choices values below)) _ _ (once_same _ _
      (front_same (option_rows fixed detail options) _ _ (front_same (choice_rows fixed detail choices) _ _ (front_same (value_rows fixed detail values) _ _ (commands_same below)))))

  two_parts : (a b c d : List SectionSaid) → lists a ≡ lists c → lists b ≡ lists d → lists (a ++ b) ≡ lists (c ++ d)
  two_parts a b c d e f =
      flat_map-append (λ (section : SectionSaid). list_of section.body) a b
      ∙ ap (λ x. x ++ lists b) e ∙ ap (λ x. lists c ++ x) f
      ∙ sym (flat_map-append (λ (section : SectionSaid). list_of section.body) c d)

  groups_same : (gs : GroupsSaid) → lists (group_sections fixed detail one names gs) ≡ lists (group_sections fixed detail two names gs)
  groups_same no_groups = refl
  groups_same (groups first others) = two_parts (group_section fixed detail one names first) _ (group_section fixed detail two names first) _ (group_same first) (groups_same others)

  own_same : (l : LevelSaid) → lists (command_section fixed detail one names l) ≡ lists (command_section fixed detail two names l)
  own_same (level texts required options choices below values subcommands) = listed_same fixed.commands _ _ (once_same _ _ (commands_same subcommands))

  level_same : (help : List OptSaid) (l : LevelSaid) → lists (list_sections fixed detail one names help l) ≡ lists (list_sections fixed detail two names help l)
  level_same help l =
      two_parts (argument_section fixed detail l) _ (argument_section fixed detail l) _ refl
      (two_parts (group_sections fixed detail one names (groups_of l)) _ (group_sections fixed detail two names (groups_of l)) _ (groups_same (groups_of l))
      (two_parts (option_section fixed detail help l) _ (option_section fixed detail help l) _ refl (own_same l)))

  sections_same : (help : List OptSaid) (l : LevelSaid) → lists (sections_of fixed detail one names help l) ≡ lists (sections_of fixed detail two names help l)
  sections_same help l =
      let rest : List SectionSaid = own_sections fixed detail (texts_of l).topics ++ notes_of fixed detail (texts_of l) in
      two_parts (list_sections fixed detail one names help l) rest (list_sections fixed detail two names help l) rest (level_same help l) refl

-- what a level lists on any page
pub depths_same : (fixed : WordsSaid) (detail : Detail) (one two : Depth) (subject : SubjectSaid) → lists_of (page_of fixed detail one subject) ≡ lists_of (page_of fixed detail two subject)
depths_same fixed detail one two subject = sections_same fixed detail one two subject.names subject.help_options subject.level
