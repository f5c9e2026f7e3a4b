-- What holds of whatever a TOML text gives, for any law: of the words of a title line, of fixed words, and of nested
-- groups and commands.
use Rattle.std.proofs.Common.{◌≡◌, ℕ, ◌+◌, Ordering, nat_cmp, List, [], ◌∷◌, ◌++◌, true, Option, Some, None, refl, codes, option_and_then, option_to_list, ℤ, arith}
use Rattle.std.specs.Prelude.{nat_lt, option_map}
use Rattle.std.specs.Cmp.Lexicographic.{slice_cmp}
use Rattle.std.specs.Ordering.{match_ordering}
use Rattle.toml.specs.Data.{Data, array, table, Items, no_items, item, Members, no_members, member, as_table, get_member}
use Rattle.toml_datetime.specs.Text.{date_text}
use Rattle.toml_datetime.specs.declared.datetime.Date.{Date}
use Rattle.toml_datetime.specs.declared.datetime.Time.{Time}
use Rattle.toml_datetime.specs.declared.datetime.Offset.{Offset}
use Rattle.description.specs.Words.{WordsSaid, english}
use Rattle.description.specs.Content.{GroupsSaid, no_groups, groups, GroupSaid, CommandsSaid, no_commands, commands, CommandSaid}
use Rattle.description_toml.specs.Described.{as_command, as_commands, as_group, as_groups, command_head, command_of, commands_at, each_command, each_group, fixed_at, fixed_from, fixed_in, fixed_keys, group_head, GroupHead, group_of, groups_at, section_from, title_words, with_manual_titles, with_titles, with_words_of_notes, TitleWords}
use Rattle.description_toml.specs.Described.Taken.{tables_in, tables_of, tables_under}
use Rattle.description_toml.specs.Described.Texts.{as_heading, as_title, is_heading, is_section, is_title, without_colon}
use Rattle.description_toml.specs.Described.Values.{as_date, as_section, day_text, digit_text, optional_at}
use Rattle.description_laws.specs.Plain.{each_word}
use Rattle.description_toml.proofs.Each.{Each}
use Rattle.description_toml.proofs.Gives.{found, Gives, gives_if, gives_map, gives_optional, gives_passing, gives_required, gives_text, gives_then, gives_whatever, gives_with_only}

-- ---- the words of a title line, and the title of a group

-- each text of them is one of which P holds
pub record WordsAre (P : List ℕ → Type 0) (w : TitleWords) : Type 0 where
  pub section : P w.section
  pub date : Gives P w.date
  pub vendor : Gives P w.vendor
  pub title : Gives P w.title

module _ (P : List ℕ → Type 0) where
  pub group_title : ((text : List ℕ) → is_heading text ≡ true → P text) → (ms : Members) → Gives (λ (g : GroupHead). P g.title) (group_head ms)
  unfolding group_head
  group_title heading = grind (arith, gives_with_only, gives_then, gives_required, gives_text, gives_whatever, gives_if)

  module _ (section : (text : List ℕ) → is_section text ≡ true → P text) (digit : (n : ℕ) → nat_lt n 10 ≡ true → P ((48 + n) ∷ [])) (title : (text : List ℕ) → is_title text ≡ true → P text) (day : (d : Date) → P (date_text d)) where
    digit_there : (z : ℤ) → Gives P (digit_text z)
    digit_there z = grind arith

    section_in : (d : Data) → Gives P (as_section d)
    section_in d = grind (arith, gives_passing, digit_there)

    day_there : (d : Option Date) (t : Option Time) (o : Option Offset) → Gives P (day_text d t o)
    day_there d t o = grind arith

    date_in : (d : Data) → Gives P (as_date d)
    date_in d = grind (arith, gives_passing, day_there)

    section_named : (o : Option (List ℕ)) → Gives P o → P (section_from o)
    section_named None h = digit 1 refl
    section_named (Some text) h = h

    title_there : (key : List ℕ) (ms : Members) → Gives (Gives P) (optional_at as_title key ms)
    title_there = gives_optional P as_title (gives_text P is_title title)

    pub words_there : (ms : Members) → Gives (WordsAre P) (title_words ms)
    unfolding title_words
    words_there ms =
        gives_then (Gives P) (WordsAre P) (optional_at as_section (codes "section") ms) _ (gives_optional P as_section section_in (codes "section") ms) (λ section s.
        gives_then (Gives P) (WordsAre P) (optional_at as_date (codes "date") ms) _ (gives_optional P as_date date_in (codes "date") ms) (λ date d.
        gives_then (Gives P) (WordsAre P) (optional_at as_title (codes "vendor") ms) _ (title_there (codes "vendor") ms) (λ vendor v.
        gives_then (Gives P) (WordsAre P) (optional_at as_title (codes "title") ms) _ (title_there (codes "title") ms) (λ title t.
        record { section = section_named section s; date = d; vendor = v; title = t }))))

-- ---- fixed words

abbrev Headed : List ℕ → Type 0
Headed text = is_heading text ≡ true

module _ (P : List ℕ → Type 0) where
  abbrev pub FixedAre : WordsSaid → Type 0
  FixedAre w = Each P (each_word w)

  module _ (english_are : FixedAre english) (heading : (text : List ℕ) → is_heading text ≡ true → P (without_colon text)) where
    -- a heading without its colon
    bare : (d : Data) → Gives P (option_map without_colon (as_heading d))
    bare d = gives_map Headed P (as_heading d) without_colon (gives_text Headed is_heading (λ text h. h) d) heading

    fixed_there : (word key : List ℕ) (ms : Members) → P word → Gives P (fixed_at word key ms)
    fixed_there word key ms h = found P (Some word) (λ d. option_map without_colon (as_heading d)) (get_member key ms) h bare

    titles_there : (w : WordsSaid) (ms : Members) → FixedAre w → Gives FixedAre (with_titles w ms)
    unfolding with_titles
    titles_there w ms h =
        gives_then P FixedAre (fixed_at w.usage (codes "usage") ms) _ (fixed_there w.usage (codes "usage") ms h.0) (λ usage a.
        gives_then P FixedAre (fixed_at w.arguments (codes "arguments") ms) _ (fixed_there w.arguments (codes "arguments") ms h.1.0) (λ arguments b.
        gives_then P FixedAre (fixed_at w.options (codes "options") ms) _ (fixed_there w.options (codes "options") ms h.1.1.0) (λ options c.
        gives_then P FixedAre (fixed_at w.commands (codes "commands") ms) _ (fixed_there w.commands (codes "commands") ms h.1.1.1.0) (λ commands d.
        gives_then P FixedAre (fixed_at w.contents (codes "contents") ms) _ (fixed_there w.contents (codes "contents") ms h.1.1.1.1.0) (λ contents e.
        gives_then P FixedAre (fixed_at w.notes (codes "notes") ms) _ (fixed_there w.notes (codes "notes") ms h.1.1.1.1.1.0) (λ notes f.
        (a, (b, (c, (d, (e, (f, h.1.1.1.1.1.1))))))))))))

    notes_there : (w : WordsSaid) (ms : Members) → FixedAre w → Gives FixedAre (with_words_of_notes w ms)
    unfolding with_words_of_notes
    notes_there w ms h =
        gives_then P FixedAre (fixed_at w.default (codes "default") ms) _ (fixed_there w.default (codes "default") ms h.1.1.1.1.1.1.0) (λ default a.
        gives_then P FixedAre (fixed_at w.possible_values (codes "possible_values") ms) _ (fixed_there w.possible_values (codes "possible_values") ms h.1.1.1.1.1.1.1.0) (λ values b.
        gives_then P FixedAre (fixed_at w.env (codes "env") ms) _ (fixed_there w.env (codes "env") ms h.1.1.1.1.1.1.1.1.0) (λ env c.
        gives_then P FixedAre (fixed_at w.aliases (codes "aliases") ms) _ (fixed_there w.aliases (codes "aliases") ms h.1.1.1.1.1.1.1.1.1.0) (λ aliases d.
        gives_then P FixedAre (fixed_at w.command (codes "command") ms) _ (fixed_there w.command (codes "command") ms h.1.1.1.1.1.1.1.1.1.1.0) (λ command e.
        (h.0, (h.1.0, (h.1.1.0, (h.1.1.1.0, (h.1.1.1.1.0, (h.1.1.1.1.1.0, (a, (b, (c, (d, (e, h.1.1.1.1.1.1.1.1.1.1.1))))))))))))))))

    manual_there : (w : WordsSaid) (ms : Members) → FixedAre w → Gives FixedAre (with_manual_titles w ms)
    unfolding with_manual_titles
    manual_there w ms h =
        let manual = h.1.1.1.1.1.1.1.1.1.1.1 in
        gives_then P FixedAre (fixed_at w.name (codes "name") ms) _ (fixed_there w.name (codes "name") ms manual.0) (λ name a.
        gives_then P FixedAre (fixed_at w.synopsis (codes "synopsis") ms) _ (fixed_there w.synopsis (codes "synopsis") ms manual.1.0) (λ synopsis b.
        gives_then P FixedAre (fixed_at w.description (codes "description") ms) _ (fixed_there w.description (codes "description") ms manual.1.1.0) (λ description c.
        gives_then P FixedAre (fixed_at w.see_also (codes "see_also") ms) _ (fixed_there w.see_also (codes "see_also") ms manual.1.1.1.0) (λ references d.
        (h.0, (h.1.0, (h.1.1.0, (h.1.1.1.0, (h.1.1.1.1.0, (h.1.1.1.1.1.0, (h.1.1.1.1.1.1.0, (h.1.1.1.1.1.1.1.0, (h.1.1.1.1.1.1.1.1.0, (h.1.1.1.1.1.1.1.1.1.0, (h.1.1.1.1.1.1.1.1.1.1.0, (a, (b, (c, (d, tt)))))))))))))))))))

    words_from : (ms : Members) → Gives FixedAre (fixed_from ms)
    unfolding fixed_from
    words_from = gives_with_only FixedAre fixed_keys _ (λ ms.
        gives_then FixedAre FixedAre (with_titles english ms) _ (titles_there english ms english_are) (λ w p.
        gives_then FixedAre FixedAre (with_words_of_notes w ms) _ (notes_there w ms p) (λ v q. manual_there v ms q)))

    pub fixed_hold : (o : Option Members) → Gives FixedAre (fixed_in o)
    fixed_hold None = english_are
    fixed_hold (Some ms) = words_from ms

-- ---- nested groups and commands

by_order : {X : Type 0} (P : List Members → X → Type 0) (o : Ordering) (there : Option Data) (d : Data) (here rest : Option X) → Gives (P (tables_of (Some d))) here → Gives (P (tables_of there)) rest
    → Gives (P (tables_of (match_ordering o there (Some d) there))) (match_ordering o rest here rest)
by_order P o there d here rest h6 h7 = grind arith

-- What holds of commands and of groups, said of the tables that they are read from: of none, of one more, and of one by
-- what holds of those in it.
pub record Holding (Commands : List Members → CommandsSaid → Type 0) (Groups : List Members → GroupsSaid → Type 0) (Command : List Members → CommandSaid → Type 0) (Group : List Members → GroupSaid → Type 0) : Type 0 where
  pub no_commands : Commands [] no_commands
  pub no_groups : Groups [] no_groups
  pub more_commands : (ts us : List Members) (c : CommandSaid) (cs : CommandsSaid) → Command ts c → Commands us cs → Commands (ts ++ us) (commands c cs)
  pub more_groups : (ts us : List Members) (g : GroupSaid) (gs : GroupsSaid) → Group ts g → Groups us gs → Groups (ts ++ us) (groups g gs)
  pub command : (ms : Members) (gs : Option GroupsSaid) (cs : Option CommandsSaid) → Gives (Groups (tables_under (codes "group") ms)) gs → Gives (Commands (tables_under (codes "command") ms)) cs
      → Gives (Command (ms ∷ [])) (option_and_then (command_of gs cs) (command_head ms))
  pub group : (ms : Members) (cs : Option CommandsSaid) → Gives (Commands (tables_under (codes "command") ms)) cs → Gives (Group (ms ∷ [])) (option_and_then (group_of cs) (group_head ms))

module _ {Commands : List Members → CommandsSaid → Type 0} {Groups : List Members → GroupsSaid → Type 0} {Command : List Members → CommandSaid → Type 0} {Group : List Members → GroupSaid → Type 0} (holds : Holding Commands Groups Command Group) where
  mutual
    pub commands_hold : (key : List ℕ) (ms : Members) → Gives (Commands (tables_under key ms)) (commands_at key ms)
    commands_hold key no_members = holds.no_commands
    commands_hold key (member k d ms) = by_order Commands (slice_cmp nat_cmp key k) (get_member key ms) d (as_commands d) (commands_at key ms) (commands_in d) (commands_hold key ms)

    commands_in : (d : Data) → Gives (Commands (tables_of (Some d))) (as_commands d)
    commands_in (array ds) = each_command_holds ds
    commands_in _ = tt

    each_command_holds : (ds : Items) → Gives (Commands (tables_in ds)) (each_command ds)
    each_command_holds no_items = holds.no_commands
    each_command_holds (item d ds) =
        gives_then (Command (option_to_list (as_table d))) (Commands (tables_in (item d ds))) (as_command d) _ (command_in d) (λ c h.
        gives_map (Commands (tables_in ds)) (Commands (tables_in (item d ds))) (each_command ds) (commands c) (each_command_holds ds) (λ cs k. holds.more_commands (option_to_list (as_table d)) (tables_in ds) c cs h k))

    command_in : (d : Data) → Gives (Command (option_to_list (as_table d))) (as_command d)
    command_in (table ms) = holds.command ms (groups_at (codes "group") ms) (commands_at (codes "command") ms) (groups_hold (codes "group") ms) (commands_hold (codes "command") ms)
    command_in _ = tt

    pub groups_hold : (key : List ℕ) (ms : Members) → Gives (Groups (tables_under key ms)) (groups_at key ms)
    groups_hold key no_members = holds.no_groups
    groups_hold key (member k d ms) = by_order Groups (slice_cmp nat_cmp key k) (get_member key ms) d (as_groups d) (groups_at key ms) (groups_in d) (groups_hold key ms)

    groups_in : (d : Data) → Gives (Groups (tables_of (Some d))) (as_groups d)
    groups_in (array ds) = each_group_holds ds
    groups_in _ = tt

    each_group_holds : (ds : Items) → Gives (Groups (tables_in ds)) (each_group ds)
    each_group_holds no_items = holds.no_groups
    each_group_holds (item d ds) =
        gives_then (Group (option_to_list (as_table d))) (Groups (tables_in (item d ds))) (as_group d) _ (group_in d) (λ g h.
        gives_map (Groups (tables_in ds)) (Groups (tables_in (item d ds))) (each_group ds) (groups g) (each_group_holds ds) (λ gs k. holds.more_groups (option_to_list (as_table d)) (tables_in ds) g gs h k))

    group_in : (d : Data) → Gives (Group (option_to_list (as_table d))) (as_group d)
    group_in (table ms) = holds.group ms (commands_at (codes "command") ms) (commands_hold (codes "command") ms)
    group_in _ = tt
