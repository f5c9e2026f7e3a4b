-- The lists of a page have the entries of their rows, each key once.
use Rattle.std.proofs.Common.{◌≡◌, ◌==◌, ℕ, Bool, true, false, List, [], ◌∷◌, ◌++◌, Option, Some, None, refl, sym, ap, ◌∙◌, subst, append-nil}
use Rattle.std.specs.Prelude.{flat_map, bytes_eq, not, ◌||◌, if◌then◌else◌}
use Rattle.std.specs.Cmp.Lexicographic.{bytes_decides}
use Rattle.std.specs.List.{list_all}
use Rattle.std.proofs.lemmas.Bool.{and_from, and_parts, eq-eqb, eqb-true, false≢true}
use Rattle.std.proofs.lemmas.Grind.{flat_map-append}
use Rattle.std.proofs.lemmas.List.Folds.{list_any-append}
use Rattle.page_model.specs.Content.{BlockSaid, EntrySaid}
use Rattle.description.specs.Content.{NameSaid, short, long, both, OptSaid, TopicSaid, LevelSaid, level, GroupsSaid, no_groups, groups}
use Rattle.description.specs.Words.{WordsSaid}
use Rattle.description_pages.specs.Keys.{KeySaid, by_names, by_syntax, by_word, by_command, RowSaid, entries_once, option_key, same_key, same_name, same_value}
use Rattle.description_pages.specs.Levels.{notes_of, texts_of}
use Rattle.description_pages.specs.Listed.{AreShownOnce, EachKeyIsListedOnce, HelpOptionsAreListed, are_new, entries_in, grouped_rows, has_key, level_rows, own_option_rows, same_row, unless_empty}
use Rattle.description_pages.specs.Once.{each_once, new_after}
use Rattle.description_pages.specs.Sections.{SectionSaid, argument_section, choice_rows, command_rows, command_section, group_rows, group_section, group_sections, group_title, list_section, list_sections, option_rows, option_rows_of, option_section, text_section, value_rows}
use Rattle.description_pages.specs.Topics.{own_section, own_sections}
use Rattle.description_pages.specs.declared.levels.Depth.{Depth}
use Rattle.description_pages.specs.declared.sections.Detail.{Detail}

-- ---- keys

name_told : (n m : NameSaid) → same_name n m ≡ true → n ≡ m
name_told (short c) (short d) h = ap short (eqb-true c d h)
name_told (short c) (long m) h = absurd (false≢true h)
name_told (short c) (both d m) h = absurd (false≢true h)
name_told (long n) (short d) h = absurd (false≢true h)
name_told (long n) (long m) h = ap long ((bytes_decides n m).0 h)
name_told (long n) (both d m) h = absurd (false≢true h)
name_told (both c n) (short d) h = absurd (false≢true h)
name_told (both c n) (long m) h = absurd (false≢true h)
name_told (both c n) (both d m) h = let parts = and_parts (c == d) (bytes_eq n m) h in ap (λ x. both x n) (eqb-true c d parts.0) ∙ ap (λ x. both d x) ((bytes_decides n m).0 parts.1)

value_told : (v w : Option (List ℕ)) → same_value v w ≡ true → v ≡ w
value_told None None h = refl
value_told None (Some w) h = absurd (false≢true h)
value_told (Some v) None h = absurd (false≢true h)
value_told (Some v) (Some w) h = ap Some ((bytes_decides v w).0 h)

key_told : (k l : KeySaid) → same_key k l ≡ true → k ≡ l
key_told (by_names n v) (by_names m w) h = let parts = and_parts (same_name n m) (same_value v w) h in ap (λ x. by_names x v) (name_told n m parts.0) ∙ ap (λ x. by_names m x) (value_told v w parts.1)
key_told (by_names n v) (by_syntax t) h = absurd (false≢true h)
key_told (by_names n v) (by_word t) h = absurd (false≢true h)
key_told (by_names n v) (by_command t) h = absurd (false≢true h)
key_told (by_syntax s) (by_names m w) h = absurd (false≢true h)
key_told (by_syntax s) (by_syntax t) h = ap by_syntax ((bytes_decides s t).0 h)
key_told (by_syntax s) (by_word t) h = absurd (false≢true h)
key_told (by_syntax s) (by_command t) h = absurd (false≢true h)
key_told (by_word s) (by_names m w) h = absurd (false≢true h)
key_told (by_word s) (by_syntax t) h = absurd (false≢true h)
key_told (by_word s) (by_word t) h = ap by_word ((bytes_decides s t).0 h)
key_told (by_word s) (by_command t) h = absurd (false≢true h)
key_told (by_command s) (by_names m w) h = absurd (false≢true h)
key_told (by_command s) (by_syntax t) h = absurd (false≢true h)
key_told (by_command s) (by_word t) h = absurd (false≢true h)
key_told (by_command s) (by_command t) h = ap by_command ((bytes_decides s t).0 h)

name_itself : (n : NameSaid) → same_name n n ≡ true
name_itself (short c) = eq-eqb c c refl
name_itself (long n) = (bytes_decides n n).1 refl
name_itself (both c n) = and_from (c == c) (bytes_eq n n) (eq-eqb c c refl) ((bytes_decides n n).1 refl)

value_itself : (v : Option (List ℕ)) → same_value v v ≡ true
value_itself None = refl
value_itself (Some v) = (bytes_decides v v).1 refl

key_itself : (k : KeySaid) → same_key k k ≡ true
key_itself (by_names n v) = and_from (same_name n n) (same_value v v) (name_itself n) (value_itself v)
key_itself (by_syntax t) = (bytes_decides t t).1 refl
key_itself (by_word t) = (bytes_decides t t).1 refl
key_itself (by_command t) = (bytes_decides t t).1 refl

abbrev with_key : KeySaid → RowSaid → Bool
with_key key row = same_key key row.key

-- ---- the keys of those that are shown

step_kept : (b s r n : Bool) → ((b || (s || false)) || r) ≡ ((b || (s || false)) || n) → (b || (s || r)) ≡ (b || (s || n))
step_kept true s r n e = refl
step_kept false true r n e = refl
step_kept false false r n e = e

step_left : (b s r n : Bool) → (s ≡ true → b ≡ true) → ((b || (s || false)) || r) ≡ ((b || (s || false)) || n) → (b || (s || r)) ≡ (b || n)
step_left true s r n f e = refl
step_left false true r n f e = absurd (false≢true (f refl))
step_left false false r n f e = e

spread : (key : KeySaid) (before : List RowSaid) (row : RowSaid) (r n : Bool) → (has_key key (before ++ row ∷ []) || r) ≡ (has_key key (before ++ row ∷ []) || n)
    → ((has_key key before || (same_key key row.key || false)) || r) ≡ ((has_key key before || (same_key key row.key || false)) || n)
spread key before row r n h = subst (λ (b : Bool). (b || r) ≡ (b || n)) (list_any-append (with_key key) before (row ∷ [])) h

key_one : (key : KeySaid) (before rest shown : List RowSaid) (row : RowSaid) (b : Bool) → has_key row.key before ≡ b
    → (has_key key (before ++ row ∷ []) || has_key key rest) ≡ (has_key key (before ++ row ∷ []) || has_key key shown)
    → (has_key key before || (same_key key row.key || has_key key rest)) ≡ (has_key key before || has_key key ((if b then [] else row ∷ []) ++ shown))
key_one key before rest shown row true e h =
    step_left (has_key key before) (same_key key row.key) (has_key key rest) (has_key key shown) (λ s. ap (λ k. has_key k before) (key_told key row.key s) ∙ e)
    (spread key before row (has_key key rest) (has_key key shown) h)
key_one key before rest shown row false e h =
    step_kept (has_key key before) (same_key key row.key) (has_key key rest) (has_key key shown) (spread key before row (has_key key rest) (has_key key shown) h)

keys_after : (key : KeySaid) (before rows : List RowSaid) → (has_key key before || has_key key rows) ≡ (has_key key before || has_key key (new_after same_row before rows))
keys_after key before [] = refl
keys_after key before (row ∷ rows) = key_one key before rows (new_after same_row (before ++ row ∷ []) rows) row (has_key row.key before) refl (keys_after key (before ++ row ∷ []) rows)

-- ---- no key twice

abbrev Among : (shown before : List RowSaid) → Type 0
Among shown before = (key : KeySaid) → has_key key shown ≡ true → has_key key before ≡ true

more_true : (s b r : Bool) → (s ≡ true → b ≡ true) → (s || r) ≡ true → (b || r) ≡ true
more_true true b r f h = ap (λ x. x || r) (f refl)
more_true false true r f h = refl
more_true false false r f h = h

among_left : (shown before : List RowSaid) (row : RowSaid) → Among shown before → Among shown (before ++ row ∷ [])
among_left shown before row a key h = list_any-append (with_key key) before (row ∷ []) ∙ ap (λ x. x || (same_key key row.key || false)) (a key h)

among_more : (shown before : List RowSaid) (row : RowSaid) → Among shown before → Among (shown ++ row ∷ []) (before ++ row ∷ [])
among_more shown before row a key h =
    list_any-append (with_key key) before (row ∷ [])
    ∙ more_true (has_key key shown) (has_key key before) (same_key key row.key || false) (a key) (sym (list_any-append (with_key key) shown (row ∷ [])) ∙ h)

not_there : (s b : Bool) → (s ≡ true → b ≡ true) → b ≡ false → not s ≡ true
not_there true b f e = absurd (false≢true (sym e ∙ f refl))
not_there false b f e = refl

new_one : (shown before rest : List RowSaid) (row : RowSaid) (b : Bool) → has_key row.key before ≡ b → Among shown before → are_new shown rest ≡ true → are_new (shown ++ row ∷ []) rest ≡ true
    → are_new shown ((if b then [] else row ∷ []) ++ rest) ≡ true
new_one shown before rest row true e a left taken = left
new_one shown before rest row false e a left taken =
    and_from (not (has_key row.key shown)) (are_new (shown ++ row ∷ []) rest) (not_there (has_key row.key shown) (has_key row.key before) (a row.key) e) taken

new_shown : (shown before rows : List RowSaid) → Among shown before → are_new shown (new_after same_row before rows) ≡ true
new_shown shown before [] a = refl
new_shown shown before (row ∷ rows) a =
    new_one shown before (new_after same_row (before ++ row ∷ []) rows) row (has_key row.key before) refl a
    (new_shown shown (before ++ row ∷ []) rows (among_left shown before row a)) (new_shown (shown ++ row ∷ []) (before ++ row ∷ []) rows (among_more shown before row a))

-- ---- no other rows

held_one : (test : RowSaid → Bool) (rest : List RowSaid) (row : RowSaid) (b : Bool) → test row ≡ true → list_all test rest ≡ true → list_all test ((if b then [] else row ∷ []) ++ rest) ≡ true
held_one test rest row true t h = h
held_one test rest row false t h = and_from (test row) (list_all test rest) t h

held_after : (test : RowSaid → Bool) (before rows : List RowSaid) → list_all test rows ≡ true → list_all test (new_after same_row before rows) ≡ true
held_after test before [] h = refl
held_after test before (row ∷ rows) h =
    let parts = and_parts (test row) (list_all test rows) h in
    held_one test (new_after same_row (before ++ row ∷ []) rows) row (has_key row.key before) parts.0 (held_after test (before ++ row ∷ []) rows parts.1)

shown_once : (rows : List RowSaid) → AreShownOnce rows (each_once same_row rows)
shown_once rows = record {
  distinct = new_shown [] [] rows (λ key h. h);
  keys = λ key. sym (keys_after key [] rows);
  some = λ test h. held_after test [] rows h;
}

-- ---- the lists of a page

abbrev lists : List SectionSaid → List (List EntrySaid)
lists sections = flat_map (λ (section : SectionSaid). entries_in section.body) sections

abbrev shown_lists : List (List RowSaid) → List (List EntrySaid)
shown_lists rows = flat_map (λ (list : List RowSaid). unless_empty (entries_once list)) rows

listed_there : (title : List ℕ) (list : List EntrySaid) → lists (list_section title list) ≡ unless_empty list
listed_there title [] = refl
listed_there title (entry ∷ list) = refl

no_text : (title : List ℕ) (blocks : List BlockSaid) → lists (text_section title blocks) ≡ []
no_text title [] = refl
no_text title (block ∷ blocks) = refl

no_text_if : (b : Bool) (title : List ℕ) (blocks : List BlockSaid) → lists (if b then text_section title blocks else []) ≡ []
no_text_if true title blocks = no_text title blocks
no_text_if false title blocks = refl

two : (a b : List SectionSaid) (x y : List (List EntrySaid)) → lists a ≡ x → lists b ≡ y → lists (a ++ b) ≡ x ++ y
two a b x y e f = flat_map-append (λ (section : SectionSaid). entries_in section.body) a b ∙ ap (λ z. z ++ lists b) e ∙ ap (λ z. x ++ z) f

module _ (fixed : WordsSaid) (detail : Detail) (depth : Depth) (names : List (List ℕ)) (help : List OptSaid) where
  topics_there : (topics : List TopicSaid) → lists (own_sections fixed detail topics) ≡ []
  topics_there [] = refl
  topics_there (topic ∷ topics) = two (own_section fixed detail topic) (own_sections fixed detail topics) [] [] (no_text_if _ _ _) (topics_there topics)

  groups_there : (gs : GroupsSaid) → lists (group_sections fixed detail depth names gs) ≡ shown_lists (grouped_rows fixed detail depth names gs)
  groups_there no_groups = refl
  groups_there (groups first others) =
      two (group_section fixed detail depth names first) (group_sections fixed detail depth names others)
      (unless_empty (entries_once (group_rows fixed detail depth names first))) (shown_lists (grouped_rows fixed detail depth names others))
      (listed_there (group_title first) (entries_once (group_rows fixed detail depth names first))) (groups_there others)

  level_there : (l : LevelSaid) → lists (list_sections fixed detail depth names help l) ≡ shown_lists (level_rows fixed detail depth names help l)
  level_there (level texts required options choices below values subcommands) =
      let l = level texts required options choices below values subcommands in
      let arguments = unless_empty (entries_once (value_rows fixed detail values)) in
      let own = unless_empty (entries_once (own_option_rows fixed detail help l)) in
      let last = unless_empty (entries_once (command_rows fixed detail depth names subcommands)) in
      let rest : List (List RowSaid) = own_option_rows fixed detail help l ∷ command_rows fixed detail depth names subcommands ∷ [] in
      two (argument_section fixed detail l) (group_sections fixed detail depth names below ++ (option_section fixed detail help l ++ command_section fixed detail depth names l))
      arguments (shown_lists (grouped_rows fixed detail depth names below) ++ (own ++ (last ++ [])))
      (listed_there fixed.arguments (entries_once (value_rows fixed detail values)))
      (two (group_sections fixed detail depth names below) (option_section fixed detail help l ++ command_section fixed detail depth names l)
      (shown_lists (grouped_rows fixed detail depth names below)) (own ++ (last ++ [])) (groups_there below)
      (two (option_section fixed detail help l) (command_section fixed detail depth names l) own (last ++ [])
      (listed_there fixed.options (entries_once (own_option_rows fixed detail help l)))
      (listed_there fixed.commands (entries_once (command_rows fixed detail depth names subcommands)) ∙ sym (append-nil last))))
      ∙ ap (λ z. arguments ++ z) (sym (flat_map-append (λ (list : List RowSaid). unless_empty (entries_once list)) (grouped_rows fixed detail depth names below) rest))

  page_there : (l : LevelSaid) → lists (list_sections fixed detail depth names help l ++ (own_sections fixed detail (texts_of l).topics ++ notes_of fixed detail (texts_of l))) ≡ shown_lists (level_rows fixed detail depth names help l)
  page_there l =
      two (list_sections fixed detail depth names help l) (own_sections fixed detail (texts_of l).topics ++ notes_of fixed detail (texts_of l))
      (shown_lists (level_rows fixed detail depth names help l)) [] (level_there l)
      (two (own_sections fixed detail (texts_of l).topics) (notes_of fixed detail (texts_of l)) [] [] (topics_there (texts_of l).topics) (no_text fixed.notes _))
      ∙ append-nil (shown_lists (level_rows fixed detail depth names help l))

pub each_key_is_listed_once : EachKeyIsListedOnce
each_key_is_listed_once = record {
  lists = λ fixed detail depth subject. page_there fixed detail depth subject.names subject.help_options subject.level;
  once = shown_once;
}

-- ---- options that ask for help

or_true : (b : Bool) → (b || true) ≡ true
or_true true = refl
or_true false = refl

found_before : (key : KeySaid) (front back : List RowSaid) → has_key key front ≡ true → has_key key (front ++ back) ≡ true
found_before key front back h = list_any-append (with_key key) front back ∙ ap (λ b. b || has_key key back) h

found_after : (key : KeySaid) (front back : List RowSaid) → has_key key back ≡ true → has_key key (front ++ back) ≡ true
found_after key front back h = list_any-append (with_key key) front back ∙ ap (λ b. has_key key front || b) h ∙ or_true (has_key key front)

row_there : (key : KeySaid) (entry : EntrySaid) (b : Bool) → b ≡ false → has_key key (if b then [] else record { key = key; entry = entry } ∷ []) ≡ true
row_there key entry true h = absurd (false≢true (sym h))
row_there key entry false h = ap (λ b. b || false) (key_itself key)

option_there : (fixed : WordsSaid) (detail : Detail) (before after : List OptSaid) (option : OptSaid) → option.hidden ≡ false → has_key (option_key option) (option_rows fixed detail (before ++ option ∷ after)) ≡ true
option_there fixed detail before after option h =
    ap (has_key (option_key option)) (flat_map-append (option_rows_of fixed detail) before (option ∷ after))
    ∙ found_after (option_key option) (option_rows fixed detail before) (option_rows fixed detail (option ∷ after))
    (found_before (option_key option) (option_rows_of fixed detail option) (option_rows fixed detail after) (row_there (option_key option) _ option.hidden h))

own_there : (fixed : WordsSaid) (detail : Detail) (key : KeySaid) (help : List OptSaid) (l : LevelSaid) → has_key key (option_rows fixed detail help) ≡ true → has_key key (own_option_rows fixed detail help l) ≡ true
own_there fixed detail key help (level texts required options choices below values subcommands) h =
    found_after key (option_rows fixed detail options) (choice_rows fixed detail choices ++ option_rows fixed detail help)
    (found_after key (choice_rows fixed detail choices) (option_rows fixed detail help) h)

pub help_options_are_listed : HelpOptionsAreListed
help_options_are_listed fixed detail subject before after option is h =
    (shown_once (own_option_rows fixed detail subject.help_options subject.level)).keys (option_key option)
    ∙ own_there fixed detail (option_key option) subject.help_options subject.level
    (ap (λ os. has_key (option_key option) (option_rows fixed detail os)) is ∙ option_there fixed detail before after option h)
