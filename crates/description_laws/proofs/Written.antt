-- No medium refuses a text of a page of a description that a TOML text gives.
use Rattle.std.proofs.Common.{◌≡◌, ℕ, true, List, [], ◌∷◌, ◌++◌, codes, flat_map, Option, Some, None, refl, sym, ap, ◌∙◌, subst, arith, encode_utf8, append-nil, ◌&&◌}
use Rattle.std.specs.Prelude.{◌≢◌, unwrap_or}
use Rattle.std.specs.List.{list_all, list_any}
use Rattle.std.specs.Option.{option_or}
use Rattle.std.specs.Str.{IsUtf8, chars, is_utf8}
use Rattle.std.proofs.lemmas.Bool.{and_from, and_parts}
use Rattle.std.proofs.lemmas.Bool.Decides.{nat_tests}
use Rattle.std.proofs.lemmas.List.Folds.{list_all-append}
use Rattle.std.proofs.lemmas.Str.{IsUtf8-from_is_utf8, cons_from_encodes, encodes-chars, encodes_same}
use Rattle.web_page.specs.Models.{is_ink}
use Rattle.web_page.specs.declared.errors.PageError.TheVariants as errors
use Rattle.page_model.specs.Content.{PartSaid}
use Rattle.page_model.specs.Faults.{fault_unless}
use Rattle.page_model.specs.Permitted.{are_permitted, is_permitted, is_permitted_form, is_permitted_part}
use Rattle.man_page.specs.Kept.{title_words}
use Rattle.description.specs.Content.{NameSaid, short, long, both, SpellingSaid, named, syntax, OptSaid, ChoiceSaid, PositionalSaid, TopicSaid, TextsSaid, LevelSaid, level, GroupsSaid, no_groups, groups, GroupSaid, group, CommandsSaid, no_commands, commands, CommandSaid, command, DescriptionSaid}
use Rattle.description_toml.specs.Described.Texts.{is_text_character}
use Rattle.description_pages.specs.Chapters.{chapter_from}
use Rattle.description_pages.specs.Consoles.{console_of, usage_of}
use Rattle.description_pages.specs.Levels.{SubjectSaid}
use Rattle.description_pages.specs.Manuals.{manual_below, manual_of}
use Rattle.description_pages.specs.Markdowns.{markdown_below, markdown_of}
use Rattle.description_pages.specs.Subjects.{subjects_after}
use Rattle.description_pages.specs.declared.levels.Depth.{Depth}
use Rattle.description_pages.specs.declared.levels.Depth.TheVariants.{Alone, Deep}
use Rattle.description_pages.specs.declared.sections.Detail.TheVariants as Detail
use Rattle.command_pages.specs.Html.{foot_of, frame_said, html_page_fault, inked}
use Rattle.command_pages.specs.Pages.{TitleGiven, application, console_page_fault, manual_page_fault, manual_parts, markdown_page_fault, markdown_parts, title_line, title_of}
use Rattle.command_pages.specs.declared.given.ConsoleForm.{ConsoleForm}
use Rattle.command_pages.specs.declared.given.ConsoleForm.TheVariants.{Brief, Full, Usage}
use Rattle.page_laws.specs.Laws.{is_fit}
use Rattle.page_laws.specs.Texts.{choice_texts, command_texts, commands_texts, fixed_texts, group_texts, groups_texts, initial_text, level_texts, name_texts, option_texts, own_texts, positional_texts, spelling_texts, text_of, topic_texts}
use Rattle.page_laws.proofs.Blocks.{Permitted}
use Rattle.page_laws.proofs.Chapters.{chapter_is}
use Rattle.page_laws.proofs.Clean.{clean_nil}
use Rattle.page_laws.proofs.Each.{Each, each_append, each_if, each_left, each_right, each_weaker}
use Rattle.page_laws.proofs.Entries.{WordsAre, words_known}
use Rattle.page_laws.proofs.PageLaws.{parts_pass, subject_known}
use Rattle.page_laws.proofs.Pages.{IfSubject, PartIs, SubjectIs, all_after, console_is, led_is, manual_below_is, manual_is, markdown_below_is, markdown_is, names_joined, page_named, title_is, usage_of_is}
use Rattle.page_laws.proofs.Tests.{all_pass, form_passes, text_known, text_passes, texts_known}
use Rattle.page_laws.proofs.Usage.{FormIs, GivenIs, each_flat, fixed}
use Rattle.description_laws.specs.Plain.{characters_of, choice_characters, command_characters, commands_characters, description_characters, group_characters, groups_characters, initial_characters, level_characters, name_characters, option_characters, positional_characters, spelling_characters, texts_characters, topic_characters}
use Rattle.description_laws.specs.Written.{PagesAreWritten, all_texts, given_texts}
use Rattle.description_laws.proofs.Characters.{Plain, weaker}
use Rattle.description_laws.proofs.HtmlTexts.{page_fine}
use Rattle.description_laws.proofs.Plain.{texts_are_plain}

-- ---- each text, by its bytes and its characters

abbrev Fit : List ℕ → Type 0
Fit text = is_fit text ≡ true

abbrev Spelled : List ℕ → Type 0
Spelled text = is_utf8 text ≡ true

-- texts of these characters
abbrev Both : List (List ℕ) → List ℕ → Type 0
Both texts cs = Each Spelled texts → Plain cs → Each Fit texts

character_passes : (c : ℕ) → is_text_character c ≡ true → is_permitted c ≡ true
character_passes c h = grind (arith, nat_tests)

plain_parts : (xs ys : List ℕ) → Plain (xs ++ ys) → Plain xs × Plain ys
plain_parts xs ys h = and_parts (list_all is_text_character xs) (list_all is_text_character ys) (sym (list_all-append is_text_character xs ys) ∙ h)

text_fit : (text : List ℕ) → Spelled text → Plain (chars text) → Fit text
text_fit text u h =
    let known : Permitted text = record { utf8 = IsUtf8-from_is_utf8 text u; characters = weaker is_text_character is_permitted character_passes (chars text) h } in
    and_from (is_utf8 text) (are_permitted text) u (text_passes text known)

initial_spelled : (c : ℕ) → IsUtf8 (encode_utf8 c) → chars (encode_utf8 c) ≡ c ∷ []
initial_spelled c u =
    let parts = cons_from_encodes (chars (encode_utf8 c)) [] c (encodes-chars (encode_utf8 c) u ∙ sym (append-nil (encode_utf8 c))) in
    parts.1 ∙ ap (λ cs. c ∷ cs) (encodes_same parts.0 [] parts.2)

initial_fit : (c : ℕ) → Spelled (encode_utf8 c) → is_text_character c ≡ true → Fit (encode_utf8 c)
initial_fit c u h = text_fit (encode_utf8 c) u (ap (list_all is_text_character) (initial_spelled c (IsUtf8-from_is_utf8 (encode_utf8 c) u)) ∙ and_from (is_text_character c) true h refl)

both_none : Both [] []
both_none u h = tt

both_append : (xs ys : List (List ℕ)) (cs ds : List ℕ) → Both xs cs → Both ys ds → Both (xs ++ ys) (cs ++ ds)
both_append xs ys cs ds a b u h = let parts = plain_parts cs ds h in each_append Fit xs ys (a (each_left Spelled xs ys u) parts.0) (b (each_right Spelled xs ys u) parts.1)

both_text : (text : List ℕ) (ys : List (List ℕ)) (ds : List ℕ) → Both ys ds → Both (text ∷ ys) (chars text ++ ds)
both_text text ys ds b u h = let parts = plain_parts (chars text) ds h in (text_fit text u.0 parts.0, b u.1 parts.1)

both_initial : (c : ℕ) (ys : List (List ℕ)) (ds : List ℕ) → Both ys ds → Both (encode_utf8 c ∷ ys) (c ∷ ds)
both_initial c ys ds b u h = let parts = and_parts (is_text_character c) (list_all is_text_character ds) h in (initial_fit c u.0 parts.0, b u.1 parts.1)

both_alone : (text : List ℕ) → Both (text ∷ []) (chars text)
both_alone text u h = (text_fit text u.0 h, tt)

both_given : (o : Option (List ℕ)) → Both (text_of o) (characters_of o)
both_given None = both_none
both_given (Some text) = both_alone text

both_each : {X : Type 0} (f : X → List (List ℕ)) (g : X → List ℕ) → ((x : X) → Both (f x) (g x)) → (xs : List X) → Both (flat_map f xs) (flat_map g xs)
both_each f g k [] = both_none
both_each f g k (x ∷ xs) = both_append (f x) (flat_map f xs) (g x) (flat_map g xs) (k x) (both_each f g k xs)

both_texts : (texts : List (List ℕ)) → Both texts (flat_map chars texts)
both_texts [] = both_none
both_texts (text ∷ texts) = both_text text texts (flat_map chars texts) (both_texts texts)

both_name : (name : NameSaid) → Both (name_texts name) (name_characters name)
both_name (short c) = both_initial c [] [] both_none
both_name (long text) = both_alone text
both_name (both c text) = both_initial c (text ∷ []) (chars text) (both_alone text)

both_spelling : (s : SpellingSaid) → Both (spelling_texts s) (spelling_characters s)
both_spelling (named name) = both_name name
both_spelling (syntax text) = both_alone text

both_option : (o : OptSaid) → Both (option_texts o) (option_characters o)
both_option o =
    both_append (spelling_texts o.spelling) _ (spelling_characters o.spelling) _ (both_spelling o.spelling)
    (both_append (text_of o.value) _ (characters_of o.value) _ (both_given o.value)
    (both_append (text_of o.default) _ (characters_of o.default) _ (both_given o.default)
    (both_append (text_of o.values) _ (characters_of o.values) _ (both_given o.values)
    (both_append (text_of o.help) (text_of o.env) (characters_of o.help) (characters_of o.env) (both_given o.help) (both_given o.env)))))

both_positional : (p : PositionalSaid) → Both (positional_texts p) (positional_characters p)
both_positional p =
    both_text p.value _ _ (both_append (text_of p.default) _ (characters_of p.default) _ (both_given p.default)
    (both_append (text_of p.values) (text_of p.help) (characters_of p.values) (characters_of p.help) (both_given p.values) (both_given p.help)))

both_topic : (t : TopicSaid) → Both (topic_texts t) (topic_characters t)
both_topic t = both_text t.title (t.text ∷ []) (chars t.text) (both_alone t.text)

both_own : (t : TextsSaid) → Both (own_texts t) (texts_characters t)
both_own t =
    both_append (text_of t.about) _ (characters_of t.about) _ (both_given t.about)
    (both_append (text_of t.header) _ (characters_of t.header) _ (both_given t.header)
    (both_append (text_of t.footer) _ (characters_of t.footer) _ (both_given t.footer)
    (both_append (text_of t.usage) _ (characters_of t.usage) _ (both_given t.usage) (both_each topic_texts topic_characters both_topic t.topics))))

both_options : (os : List OptSaid) → Both (flat_map option_texts os) (flat_map option_characters os)
both_options = both_each option_texts option_characters both_option

both_choices : (cs : List ChoiceSaid) → Both (flat_map choice_texts cs) (flat_map choice_characters cs)
both_choices = both_each choice_texts choice_characters (λ c. both_options c.options)

both_called : (initial : Option ℕ) → Both (initial_text initial) (initial_characters initial)
both_called None = both_none
both_called (Some c) = both_initial c [] [] both_none

mutual
  both_level : (l : LevelSaid) → Both (level_texts l) (level_characters l)
  both_level (level t r os cs gs ps ms) =
      both_append (own_texts t) _ (texts_characters t) _ (both_own t)
      (both_append (flat_map option_texts os) _ (flat_map option_characters os) _ (both_options os)
      (both_append (flat_map choice_texts cs) _ (flat_map choice_characters cs) _ (both_choices cs)
      (both_append (groups_texts gs) _ (groups_characters gs) _ (both_groups gs)
      (both_append (flat_map positional_texts ps) (commands_texts ms) (flat_map positional_characters ps) (commands_characters ms) (both_each positional_texts positional_characters both_positional ps) (both_commands ms)))))

  both_groups : (gs : GroupsSaid) → Both (groups_texts gs) (groups_characters gs)
  both_groups no_groups = both_none
  both_groups (groups g gs) = both_append (group_texts g) (groups_texts gs) (group_characters g) (groups_characters gs) (both_group g) (both_groups gs)

  both_group : (g : GroupSaid) → Both (group_texts g) (group_characters g)
  both_group (group title os cs ps ms) =
      both_text title _ _ (both_append (flat_map option_texts os) _ (flat_map option_characters os) _ (both_options os)
      (both_append (flat_map choice_texts cs) _ (flat_map choice_characters cs) _ (both_choices cs)
      (both_append (flat_map positional_texts ps) (commands_texts ms) (flat_map positional_characters ps) (commands_characters ms) (both_each positional_texts positional_characters both_positional ps) (both_commands ms))))

  both_commands : (ms : CommandsSaid) → Both (commands_texts ms) (commands_characters ms)
  both_commands no_commands = both_none
  both_commands (commands m ms) = both_append (command_texts m) (commands_texts ms) (command_characters m) (commands_characters ms) (both_command m) (both_commands ms)

  both_command : (m : CommandSaid) → Both (command_texts m) (command_characters m)
  both_command (command called help l) =
      both_text called.name _ _ (both_append (initial_text called.initial) _ (initial_characters called.initial) _ (both_called called.initial)
      (both_append called.aliases _ (flat_map chars called.aliases) _ (both_texts called.aliases)
      (both_append (text_of help) (level_texts l) (characters_of help) (level_characters l) (both_given help) (both_level l))))

-- ---- the whole

-- what follows the language, and what follows the section
abbrev shown_texts : DescriptionSaid → List (List ℕ)
shown_texts d = fixed_texts d.words ++ (flat_map option_texts d.help_options ++ level_texts d.level)

abbrev shown_characters : DescriptionSaid → List ℕ
shown_characters d = flat_map chars (fixed_texts d.words) ++ (flat_map option_characters d.help_options ++ level_characters d.level)

abbrev after_texts : DescriptionSaid → List (List ℕ)
after_texts d = text_of d.date ++ (text_of d.vendor ++ (text_of d.title ++ (d.language ∷ shown_texts d)))

abbrev after_characters : DescriptionSaid → List ℕ
after_characters d = characters_of d.date ++ (characters_of d.vendor ++ (characters_of d.title ++ (chars d.language ++ shown_characters d)))

both_shown : (d : DescriptionSaid) → Both (shown_texts d) (shown_characters d)
both_shown d =
    both_append (fixed_texts d.words) (flat_map option_texts d.help_options ++ level_texts d.level) (flat_map chars (fixed_texts d.words)) (flat_map option_characters d.help_options ++ level_characters d.level) (both_texts (fixed_texts d.words))
    (both_append (flat_map option_texts d.help_options) (level_texts d.level) (flat_map option_characters d.help_options) (level_characters d.level) (both_options d.help_options) (both_level d.level))

both_after : (d : DescriptionSaid) → Both (after_texts d) (after_characters d)
both_after d =
    both_append (text_of d.date) _ (characters_of d.date) _ (both_given d.date)
    (both_append (text_of d.vendor) _ (characters_of d.vendor) _ (both_given d.vendor)
    (both_append (text_of d.title) (d.language ∷ shown_texts d) (characters_of d.title) (chars d.language ++ shown_characters d) (both_given d.title) (both_text d.language (shown_texts d) (shown_characters d) (both_shown d))))

both_description : (d : DescriptionSaid) → Both (all_texts d) (description_characters d)
both_description d = both_text d.name (d.section ∷ after_texts d) (chars d.section ++ after_characters d) (both_text d.section (after_texts d) (after_characters d) (both_after d))

each_spelled : (texts : List (List ℕ)) → list_all is_utf8 texts ≡ true → Each Spelled texts
each_spelled [] h = tt
each_spelled (text ∷ texts) h = let parts = and_parts (is_utf8 text) (list_all is_utf8 texts) h in (parts.0, each_spelled texts parts.1)

record TextsAre (d : DescriptionSaid) : Type 0 where
  section : Permitted d.section
  date : GivenIs d.date
  vendor : GivenIs d.vendor
  title : GivenIs d.title
  words : Each Permitted (fixed_texts d.words)
  top : SubjectIs (application d)

texts_are : (d : DescriptionSaid) → Each Permitted (all_texts d) → TextsAre d
texts_are d h =
    let own : List (List ℕ) = flat_map option_texts d.help_options ++ level_texts d.level in
    let after_title : List (List ℕ) = d.language ∷ shown_texts d in
    let vendor = each_right Permitted (text_of d.date) (text_of d.vendor ++ (text_of d.title ++ after_title)) h.1.1 in
    let title = each_right Permitted (text_of d.vendor) (text_of d.title ++ after_title) vendor in
    let language = each_right Permitted (text_of d.title) after_title title in
    record {
      section = h.1.0;
      date = each_left Permitted (text_of d.date) (text_of d.vendor ++ (text_of d.title ++ after_title)) h.1.1;
      vendor = each_left Permitted (text_of d.vendor) (text_of d.title ++ after_title) vendor;
      title = each_left Permitted (text_of d.title) after_title title;
      words = each_left Permitted (fixed_texts d.words) own language.1;
      top = subject_known (application d) (h.0, each_right Permitted (fixed_texts d.words) own language.1);
    }

-- ---- what is given in the place of a text

or_empty : (text : Option (List ℕ)) → GivenIs text → Permitted (unwrap_or text [])
or_empty None h = clean_nil is_permitted
or_empty (Some text) h = h.0

taken : (given own : Option (List ℕ)) → GivenIs given → GivenIs own → Permitted (unwrap_or (option_or given own) [])
taken (Some text) own h k = h.0
taken None own h k = or_empty own k

inked_is : (text : List ℕ) → Permitted text → Each Permitted (inked text)
inked_is text h = each_if Permitted (list_any is_ink text) (text ∷ []) (h, tt)

-- ---- the pages of a level

page_passes : (word : List ℕ) (parts : List PartSaid) → Permitted word → Each PartIs parts → (are_permitted word && list_all is_permitted_part parts) ≡ true
page_passes word parts h k = and_from (are_permitted word) (list_all is_permitted_part parts) (text_passes word h) (parts_pass parts k)

module _ (d : DescriptionSaid) (t : TextsAre d) (s : SubjectSaid) (h : SubjectIs s) where
  words_are : WordsAre d.words
  words_are = words_known d.words t.words

  on_console : (form : ConsoleForm) → console_page_fault form d.words s ≡ None
  on_console Usage = ap fault_unless (all_pass FormIs is_permitted_form form_passes (usage_of d.words s) (usage_of_is d.words words_are s h))
  on_console Full = ap fault_unless (page_passes d.words.usage (console_of d.words Detail.Full s) words_are.usage (console_is d.words words_are s h Detail.Full))
  on_console Brief = ap fault_unless (page_passes d.words.usage (console_of d.words Detail.Brief s) words_are.usage (console_is d.words words_are s h Detail.Brief))

  marked_parts : (depth : Depth) → Each PartIs (markdown_parts depth d.words s)
  marked_parts Alone = markdown_is d.words words_are s h Alone
  marked_parts Deep =
      each_append PartIs (markdown_of d.words Deep s) (flat_map (markdown_below d.words) (subjects_after s)) (markdown_is d.words words_are s h Deep)
      (each_flat SubjectIs PartIs (markdown_below d.words) (markdown_below_is d.words words_are) (subjects_after s) (all_after s h))

  in_markdown : (depth : Depth) → markdown_page_fault depth d.words s ≡ None
  in_markdown depth = ap fault_unless (page_passes (title_of s) (markdown_parts depth d.words s) (title_is s.names h.names) (marked_parts depth))

  manual_parts_are : (depth : Depth) → Each PartIs (manual_parts depth d.words s)
  manual_parts_are Alone = manual_is d.words words_are s h
  manual_parts_are Deep =
      each_append PartIs (manual_of d.words s) (flat_map (manual_below d.words) (subjects_after s)) (manual_is d.words words_are s h)
      (each_flat SubjectIs PartIs (manual_below d.words) (manual_below_is d.words words_are) (subjects_after s) (all_after s h))

  module _ (given : TitleGiven) (date : GivenIs given.date) (vendor : GivenIs given.vendor) where
    title_passes : list_all are_permitted (title_words (title_line d given s)) ≡ true
    title_passes =
        all_pass Permitted are_permitted text_passes (title_words (title_line d given s))
        (page_named s.names h.names, (t.section, (taken given.date d.date date t.date, (taken given.vendor d.vendor vendor t.vendor, (or_empty d.title t.title, tt)))))

    as_manual : (depth : Depth) → manual_page_fault d depth given s ≡ None
    as_manual depth =
        let parts : List PartSaid = manual_parts depth d.words s in
        ap fault_unless (and_from (list_all are_permitted (title_words (title_line d given s))) (list_all is_permitted_part parts) title_passes (parts_pass parts (manual_parts_are depth)))

    foot_is : Permitted (foot_of d given)
    foot_is =
        let first : List (List ℕ) = inked (unwrap_or (option_or given.vendor d.vendor) []) in
        let second : List (List ℕ) = inked (unwrap_or (option_or given.date d.date) []) in
        names_joined (codes ", ") (fixed (codes ", ") refl) (first ++ second)
        (each_append Permitted first second (inked_is _ (taken given.vendor d.vendor vendor t.vendor)) (inked_is _ (taken given.date d.date date t.date)))

    in_html : html_page_fault d given s ≢ Some errors.Character
    in_html = page_fine (frame_said d given) (chapter_from d.words s) words_are.contents words_are.usage foot_is (chapter_is d.words words_are s h)

-- the date and the vendor that are given
given_date : (given : TitleGiven) → list_all is_fit (given_texts given) ≡ true → GivenIs given.date
given_date given f = each_left Permitted (text_of given.date) (text_of given.vendor) (texts_known (given_texts given) f)

given_vendor : (given : TitleGiven) → list_all is_fit (given_texts given) ≡ true → GivenIs given.vendor
given_vendor given f = each_right Permitted (text_of given.date) (text_of given.vendor) (texts_known (given_texts given) f)

pub pages_are_written : PagesAreWritten
pages_are_written ms d path s e u l =
    let all = both_description d (each_spelled (all_texts d) u) (texts_are_plain ms d e) in
    let t = texts_are d (each_weaker Fit Permitted text_known (all_texts d) all) in
    let h : SubjectIs s = subst IfSubject l (led_is path (application d) t.top) in
    record {
      console = on_console d t s h;
      manual = λ depth given f. as_manual d t s h given (given_date given f) (given_vendor given f) depth;
      markdown = in_markdown d t s h;
      html = λ given f. in_html d t s h given (given_date given f) (given_vendor given f);
    }
