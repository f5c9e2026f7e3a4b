-- No two elements of the page of a level have one id.
use Rattle.std.proofs.Common.{◌≡◌, ℕ, Bool, true, false, cond, not, ◌||◌, ◌&&◌, ◌==◌, List, [], ◌∷◌, Option, Some, refl}
use Rattle.std.specs.Char.{is_whitespace}
use Rattle.std.specs.List.{find, list_all}
use Rattle.std.specs.Prelude.{chars, length, nat_le}
use Rattle.std.specs.Str.{is_utf8}
use Rattle.std.proofs.lemmas.Bool.{and_parts, false≢true}
use Rattle.std.proofs.lemmas.Str.{IsUtf8-from_is_utf8}
use Rattle.html_page.proofs.Among.{Each, each_append}
use Rattle.html_page.proofs.Apart.{each_test}
use Rattle.html_page.proofs.OwnIds as pages
use Rattle.description_toml.specs.Described.Texts.{has_name_size, is_empty_text, is_joiner, is_name_character, is_word_character}
use Rattle.description_toml.proofs.Gives.{Gives, given, gives_then}
use Rattle.description.specs.Content.{LevelSaid, level, GroupsSaid, no_groups, groups, group, CommandsSaid, no_commands, commands, CommandSaid, command}
use Rattle.description_pages.specs.Chapters.{chapter_from}
use Rattle.description_pages.specs.Levels.{SubjectSaid}
use Rattle.description_pages.specs.Subjects.{below, command_named, commands_on, grouped, is_named, led_to, listed}
use Rattle.command_pages.specs.Html.{frame_said}
use Rattle.command_pages.specs.Pages.{application, level_at}
use Rattle.description_laws.specs.HtmlPages.{HtmlIdsAreDistinct, level_names}
use Rattle.description_laws.proofs.CommandNames.{IsName, names_tell}
use Rattle.description_laws.proofs.Paths.{IsPath, longer, titles_tell}
use Rattle.description_laws.proofs.Characters.{weaker}
use Rattle.description_laws.proofs.Told.{CommandTells, CommandsTell, GroupsTell, TellsApart, level_with}
use Rattle.description_laws.proofs.Words.{HasBytes, IsWord, no_blank_in}

abbrev IsText : List ℕ → Type 0
IsText name = is_utf8 name ≡ true

no_white : (c : ℕ) → is_name_character c ≡ true → not (is_whitespace c) ≡ true
no_white c h = by (is_whitespace c) (c == 61) (not (is_joiner c) && is_word_character c) h where
  by : (white equals rest : Bool) → (not (white || equals) && rest) ≡ true → not white ≡ true
  by true equals rest k = absurd (false≢true k)
  by false equals rest k = refl

has_bytes : (name : List ℕ) → not (is_empty_text name) ≡ true → HasBytes name
has_bytes [] h = absurd (false≢true h)
has_bytes (b ∷ name) h = tt

word_of : (name : List ℕ) → IsName name → IsText name → IsWord name
word_of name h k =
    let both = and_parts (list_all is_name_character (chars name)) (has_name_size name) h in
    let size = and_parts (not (is_empty_text name)) (nat_le (length name) 200) both.1 in
    record {
      bytes = has_bytes name size.0;
      no_blank = no_blank_in is_whitespace refl name (IsUtf8-from_is_utf8 name k) (weaker is_name_character (λ c. not (is_whitespace c)) no_white (chars name) both.0);
    }

-- ---- where words lead

abbrev Tells : SubjectSaid → Type 0
Tells s = IsPath s.names × TellsApart IsWord s.level

listed_tell : (ms : CommandsSaid) → CommandsTell IsWord ms → Each (CommandTells IsWord) (listed ms)
listed_tell no_commands h = tt
listed_tell (commands m ms) h = (h.0, listed_tell ms h.1)

grouped_tell : (gs : GroupsSaid) → GroupsTell IsWord gs → Each (CommandTells IsWord) (grouped gs)
grouped_tell no_groups h = tt
grouped_tell (groups (group title os cs ps ms) gs) h = each_append (CommandTells IsWord) (listed ms) (grouped gs) (listed_tell ms h.0) (grouped_tell gs h.1)

commands_tell : (l : LevelSaid) → TellsApart IsWord l → Each (CommandTells IsWord) (commands_on l)
commands_tell (level t r os cs gs ps ms) h = each_append (CommandTells IsWord) (grouped gs) (listed ms) (grouped_tell gs h.1) (listed_tell ms h.2)

first_tells : (m : CommandSaid) (rest : Option CommandSaid) (b : Bool) → CommandTells IsWord m → Gives (CommandTells IsWord) rest → Gives (CommandTells IsWord) (cond b (Some m) rest)
first_tells m rest true h k = h
first_tells m rest false h k = k

found_tells : (p : CommandSaid → Bool) (ms : List CommandSaid) → Each (CommandTells IsWord) ms → Gives (CommandTells IsWord) (find p ms)
found_tells p [] h = tt
found_tells p (m ∷ ms) h = first_tells m (find p ms) (p m) h.0 (found_tells p ms h.1)

below_tells : (s : SubjectSaid) (m : CommandSaid) → IsPath s.names → CommandTells IsWord m → Tells (below s m)
below_tells s (command called help l) h k = (longer s.names (called.name ∷ []) h (k.0, tt), k.1)

led_tells : (words : List (List ℕ)) (s : SubjectSaid) → Tells s → Gives Tells (led_to words s)
led_tells [] s h = h
led_tells (word ∷ words) s h =
    gives_then (CommandTells IsWord) Tells (command_named word s.level) (λ m. led_to words (below s m)) (found_tells (is_named word) (commands_on s.level) (commands_tell s.level h.1))
    (λ m k. led_tells words (below s m) (below_tells s m h.0 k))

pub html_ids_are_distinct : HtmlIdsAreDistinct
html_ids_are_distinct ms d title_given words s e texts there few =
    let names = names_tell ms d e in
    let utf8 = and_parts (is_utf8 d.name) (list_all is_utf8 (level_names d.level)) texts in
    let top : Tells (application d) = ((word_of d.name names.0 utf8.0, tt), level_with IsName IsText IsWord word_of d.level names.1 (each_test is_utf8 (level_names d.level) utf8.1)) in
    let tells : Tells s = given Tells (level_at words d) s (led_tells words (application d) top) there in
    pages.ids_are_distinct (frame_said d title_given) (chapter_from d.words s) (titles_tell d.words s tells.0 tells.1) few
