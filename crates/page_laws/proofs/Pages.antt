-- The page of a level of a description with permitted texts has permitted texts alone, in each medium.
use Rattle.std.proofs.Common.{◌≡◌, ℕ, ◌-◌, ◌<◌, Bool, true, false, List, [], ◌∷◌, ◌++◌, length, take, map, codes, flat_map, Option, Some, None, refl, arith, nat_lt}
use Rattle.std.specs.Prelude.{if◌then◌else◌, ◌==◌, fold, option_and_then, unwrap_or}
use Rattle.std.specs.List.{ends_with, find}
use Rattle.std.proofs.lemmas.Bool.Decides.{nat_tests}
use Rattle.page_model.specs.Content.{words, literal, value, link, page, Line, BlockSaid, paragraph, code, bullets, EntrySaid, FormSaid, PartSaid, heading, usage, block, entries}
use Rattle.page_model.specs.Permitted.{is_permitted}
use Rattle.page_model.specs.declared.parts.Rank.{Rank}
use Rattle.page_model.specs.declared.parts.Rank.TheVariants.{Section, Subsection}
use Rattle.description.specs.Content.{OptSaid, ChoiceSaid, PositionalSaid, TopicSaid, LevelSaid, level, GroupsSaid, no_groups, groups, GroupSaid, group, CommandsSaid, no_commands, commands, CommandSaid, command}
use Rattle.description.specs.Words.{WordsSaid}
use Rattle.description_texts.specs.Texts.{first_paragraph, text_blocks}
use Rattle.description_texts.specs.TextsInside.{gathered, some_words}
use Rattle.description_usage.specs.Entries.{positional_entry}
use Rattle.description_usage.specs.Lines.{joined}
use Rattle.description_usage.specs.Usage.{group_list}
use Rattle.description_pages.specs.Arranged.{body_parts, in_order, section_parts, title_in, titled, titled_parts, usage_parts}
use Rattle.description_pages.specs.Consoles.{console_of, usage_of}
use Rattle.description_pages.specs.Keys.{KeySaid, RowSaid, entries_once, positional_key, same_key}
use Rattle.description_pages.specs.Levels.{PageSaid, SubjectSaid, grouped_below, neighbours, notes_of, page_above, page_below, page_of, pages_below, sections_of, texts_of}
use Rattle.description_pages.specs.Manuals.{manual_below, manual_of, manual_order, name_line, without_summary}
use Rattle.description_pages.specs.Markdowns.{markdown_below, markdown_of}
use Rattle.description_pages.specs.Once.{if_new, new_after}
use Rattle.description_pages.specs.References.{reference_blocks, with_references}
use Rattle.description_pages.specs.Sections.{BodySaid, listed, told, SectionSaid, argument_section, choice_rows, command_rows, command_rows_of, command_target, given_blocks, group_rows, group_section, group_sections, joined_names, list_section, list_sections, option_rows, option_rows_of, option_section, page_name, row_if, shown_blocks, text_section, value_rows, value_rows_of, without_colon, without_last}
use Rattle.description_pages.specs.Subjects.{below, below_commands, below_group, below_groups, below_level, commands_on, from_command, grouped, is_named, is_shown, led_to, listed as commands_listed, in_short, name_only, subjects_after, subjects_below}
use Rattle.description_pages.specs.Summaries.{is_summary, summary, summary_of, without_full_stop, without_stop}
use Rattle.description_pages.specs.Topics.{and_block, is_place, merged, own_section, own_sections, place_of, placed_blocks, placed_of, together, topic_blocks}
use Rattle.description_pages.specs.declared.arranged.Case.{Case}
use Rattle.description_pages.specs.declared.arranged.Case.TheVariants.{AsSaid, Capitals}
use Rattle.description_pages.specs.declared.levels.Depth.{Depth}
use Rattle.description_pages.specs.declared.levels.Depth.TheVariants.{Alone, Deep}
use Rattle.description_pages.specs.declared.sections.Detail.{Detail}
use Rattle.description_pages.specs.declared.sections.Detail.TheVariants.{Brief, Full}
use Rattle.description_pages.specs.declared.topics.Place.{Place}
use Rattle.description_pages.specs.declared.topics.Place.TheVariants.{Notes, Own, References}
use Rattle.page_laws.proofs.Each.{Each, each_append, each_left, each_mapped, each_right}
use Rattle.page_laws.specs.Texts.{command_texts, commands_texts, level_texts}
use Rattle.page_laws.proofs.Capitals.{capitals_permitted}
use Rattle.page_laws.proofs.Clean.{back_again, clean_append, clean_if, clean_trimmed, cut_out, next}
use Rattle.page_laws.proofs.Clean as clean
use Rattle.page_laws.proofs.Entries.{CommandIs, EntryIs, IfEntry, TargetIs, WordsAre, command_is, command_known, option_is, positional_entry_is}
use Rattle.page_laws.proofs.Blocks.{BlockIs, LineIs, Permitted, blocks_permitted, each_changed, each_take, gathered_again, paragraph_permitted}
use Rattle.page_laws.proofs.Usage.{ChoiceIs, FormIs, GivenIs, GroupIs, LevelIs, OptIs, OwnIs, PositionalIs, TopicIs, each_flat, fixed, forms_are, joined_is, level_known}
use Rattle.page_laws.proofs.Each.{each_if, each_unless}

-- ---- texts

blocks_are : (detail : Detail) (blocks : List BlockSaid) → Each BlockIs blocks → Each BlockIs (shown_blocks detail blocks)
blocks_are Full blocks h = h
blocks_are Brief [] h = tt
blocks_are Brief (first ∷ blocks) h = (h.0, tt)

given_is : (detail : Detail) (text : Option (List ℕ)) → GivenIs text → Each BlockIs (given_blocks detail text)
given_is detail None h = tt
given_is detail (Some text) h = blocks_are detail (text_blocks text) (blocks_permitted text h.0)

last_by : (t : Bool) (p : List ℕ) (b last : ℕ) → b == last ≡ t → last < 128 → Permitted (p ++ b ∷ []) → Permitted (p ++ (if t then [] else b ∷ []))
last_by true p b last e small h = clean.as_whole is_permitted p (cut_out is_permitted p b [] (same e) h).front where
  same : (b == last) ≡ true → b < 128
  same e = grind (arith, nat_tests)
last_by false p b last e small h = h

last_after : (last : ℕ) → last < 128 → (p text : List ℕ) → Permitted (p ++ text) → Permitted (p ++ without_last last text)
last_after last small p [] h = h
last_after last small p (b ∷ []) h = last_by (b == last) p b last refl small h
last_after last small p (b ∷ c ∷ text) h = back_again is_permitted p b (without_last last (c ∷ text)) (last_after last small (p ++ b ∷ []) (c ∷ text) (next is_permitted p b (c ∷ text) h))

colon_left : (title : List ℕ) → Permitted title → Permitted (without_colon title)
colon_left title h = clean_trimmed is_permitted (without_last 58 title) (last_after 58 (omega arith) [] title h)

names_after : (between : List ℕ) → Permitted between → (names : List (List ℕ)) → Each Permitted names → Permitted (flat_map (λ name. between ++ name) names)
names_after between b [] h = clean.clean_nil is_permitted
names_after between b (name ∷ names) h = clean_append is_permitted (between ++ name) (flat_map (λ name. between ++ name) names) (clean_append is_permitted between name b h.0) (names_after between b names h.1)

pub names_joined : (between : List ℕ) → Permitted between → (names : List (List ℕ)) → Each Permitted names → Permitted (joined_names between names)
names_joined between b [] h = clean.clean_nil is_permitted
names_joined between b (name ∷ names) h = clean_append is_permitted name (flat_map (λ name. between ++ name) names) h.0 (names_after between b names h.1)

pub title_is : (names : List (List ℕ)) → Each Permitted names → Permitted (joined_names (codes " ") names)
title_is = names_joined (codes " ") (fixed (codes " ") refl)

pub page_named : (names : List (List ℕ)) → Each Permitted names → Permitted (page_name names)
page_named = names_joined (codes "-") (fixed (codes "-") refl)

-- ---- what leads from a level to those below it

pub commands_known : (ms : CommandsSaid) → Each Permitted (commands_texts ms) → Each CommandIs (commands_listed ms)
commands_known no_commands h = tt
commands_known (commands m ms) h = (command_known m (each_left Permitted (command_texts m) (commands_texts ms) h), commands_known ms (each_right Permitted (command_texts m) (commands_texts ms) h))

pub record SubjectIs (s : SubjectSaid) : Type 0 where
  pub names : Each Permitted s.names
  pub help : GivenIs s.help
  pub help_options : Each OptIs s.help_options
  pub level : Each Permitted (level_texts s.level)

pub below_is : (s : SubjectSaid) (m : CommandSaid) → SubjectIs s → CommandIs m → SubjectIs (below s m)
below_is s (command called help l) h k = record { names = each_append Permitted s.names (called.name ∷ []) h.names (k.name, tt); help = k.help; help_options = h.help_options; level = k.level }

grouped_known : (gs : GroupsSaid) → Each GroupIs (group_list gs) → Each CommandIs (grouped gs)
grouped_known no_groups h = tt
grouped_known (groups (group title os cs ps ms) gs) h = each_append CommandIs (commands_listed ms) (grouped gs) (commands_known ms h.0.1.commands) (grouped_known gs h.1)

on_level : (l : LevelSaid) → LevelIs l → Each CommandIs (commands_on l)
on_level (level t r os cs gs ps ms) h = each_append CommandIs (grouped gs) (commands_listed ms) (grouped_known gs h.2) (commands_known ms h.1.commands)

-- ---- entries

each_new : {X : Type 0} (Q : X → Type 0) (same : X → X → Bool) (before xs : List X) → Each Q xs → Each Q (new_after same before xs)
each_new Q same before [] h = tt
each_new Q same before (x ∷ xs) h = each_append Q (if_new same before x) (new_after same (before ++ x ∷ []) xs) (each_unless Q _ (x ∷ []) (λ e. (h.0, tt))) (each_new Q same (before ++ x ∷ []) xs h.1)

module _ (w : WordsSaid) (k : WordsAre w) (detail : Detail) where
  abbrev RowIs : RowSaid → Type 0
  RowIs row = EntryIs row.entry

  option_row : (o : OptSaid) → OptIs o → Each RowIs (option_rows_of w detail o)
  option_row o h = each_unless RowIs o.hidden _ (λ e. (option_is w k o h (given_blocks detail o.help) (given_is detail o.help h.help), tt))

  options_are : (os : List OptSaid) → Each OptIs os → Each RowIs (option_rows w detail os)
  options_are os h = each_flat OptIs RowIs (option_rows_of w detail) option_row os h

  choices_are : (cs : List ChoiceSaid) → Each ChoiceIs cs → Each RowIs (choice_rows w detail cs)
  choices_are cs h = each_flat ChoiceIs RowIs (λ c. option_rows w detail c.options) (λ c. options_are c.options) cs h

  row_of : (key : KeySaid) (e : Option EntrySaid) → IfEntry w k e → Each RowIs (row_if key e)
  row_of key None h = tt
  row_of key (Some e) h = (h, tt)

  value_row : (p : PositionalSaid) → PositionalIs p → Each RowIs (value_rows_of w detail p)
  value_row p h = each_unless RowIs p.hidden _ (λ e. row_of (positional_key p) (positional_entry w p (given_blocks detail p.help)) (positional_entry_is w k p h (given_blocks detail p.help) (given_is detail p.help h.help)))

  values_are : (ps : List PositionalSaid) → Each PositionalIs ps → Each RowIs (value_rows w detail ps)
  values_are ps h = each_flat PositionalIs RowIs (value_rows_of w detail) value_row ps h

  target_is : (depth : Depth) (names : List (List ℕ)) → Each Permitted names → TargetIs (Some (command_target depth names))
  target_is Alone names h = page_named names h
  target_is Deep names h = title_is names h

  module _ (depth : Depth) (names : List (List ℕ)) (known : Each Permitted names) where
    command_row : (m : CommandSaid) → CommandIs m → Each RowIs (command_rows_of w detail depth names m)
    command_row (command called help l) h =
        let target = target_is depth (names ++ called.name ∷ []) (each_append Permitted names (called.name ∷ []) known (h.name, tt)) in
        each_unless RowIs called.hidden _ (λ e. (command_is w k (command_target depth (names ++ called.name ∷ [])) target (command called help l) h (given_blocks detail help) (given_is detail help h.help), tt))

    command_rows_are : (ms : CommandsSaid) → Each Permitted (commands_texts ms) → Each RowIs (command_rows w detail depth names ms)
    command_rows_are no_commands h = tt
    command_rows_are (commands m ms) h =
        each_append RowIs (command_rows_of w detail depth names m) (command_rows w detail depth names ms) (command_row m (command_known m (each_left Permitted (command_texts m) (commands_texts ms) h)))
        (command_rows_are ms (each_right Permitted (command_texts m) (commands_texts ms) h))

    once : (rows : List RowSaid) → Each RowIs rows → Each EntryIs (entries_once rows)
    once rows h = each_mapped EntryIs (λ row. row.entry) (new_after (λ (x y : RowSaid). same_key x.key y.key) [] rows) (each_new RowIs (λ (x y : RowSaid). same_key x.key y.key) [] rows h)

    -- ---- sections

    abbrev pub BodyIs : BodySaid → Type 0
    BodyIs (listed es) = Each EntryIs es
    BodyIs (told blocks) = Each BlockIs blocks

    abbrev pub SectionIs : SectionSaid → Type 0
    SectionIs s = Permitted s.title × BodyIs s.body

    list_is : (title : List ℕ) (es : List EntrySaid) → Permitted title → Each EntryIs es → Each SectionIs (list_section title es)
    list_is title [] t h = tt
    list_is title (e ∷ es) t h = ((t, h), tt)

    text_is : (title : List ℕ) (blocks : List BlockSaid) → Permitted title → Each BlockIs blocks → Each SectionIs (text_section title blocks)
    text_is title [] t h = tt
    text_is title (b ∷ blocks) t h = ((t, h), tt)

    group_section_is : (g : GroupSaid) → GroupIs g → Each SectionIs (group_section w detail depth names g)
    group_section_is (group title os cs ps ms) h =
        let rows : List RowSaid = group_rows w detail depth names (group title os cs ps ms) in
        list_is (without_colon title) (entries_once rows) (colon_left title h.0)
        (once rows (each_append RowIs (option_rows w detail os) _ (options_are os h.1.options) (each_append RowIs (choice_rows w detail cs) _ (choices_are cs h.1.choices)
        (each_append RowIs (value_rows w detail ps) _ (values_are ps h.1.positionals) (command_rows_are ms h.1.commands)))))

    group_sections_are : (gs : GroupsSaid) → Each GroupIs (group_list gs) → Each SectionIs (group_sections w detail depth names gs)
    group_sections_are no_groups h = tt
    group_sections_are (groups g gs) h = each_append SectionIs (group_section w detail depth names g) (group_sections w detail depth names gs) (group_section_is g h.0) (group_sections_are gs h.1)

    lists_are : (helps : List OptSaid) → Each OptIs helps → (l : LevelSaid) → LevelIs l → Each SectionIs (list_sections w detail depth names helps l)
    lists_are helps o (level t r os cs gs ps ms) h =
        each_append SectionIs (argument_section w detail (level t r os cs gs ps ms)) _ (list_is w.arguments _ k.arguments (once (value_rows w detail ps) (values_are ps h.1.positionals)))
        (each_append SectionIs (group_sections w detail depth names gs) _ (group_sections_are gs h.2)
        (each_append SectionIs (option_section w detail helps (level t r os cs gs ps ms)) _
        (list_is w.options _ k.options (once (option_rows w detail os ++ (choice_rows w detail cs ++ option_rows w detail helps))
        (each_append RowIs (option_rows w detail os) _ (options_are os h.1.options) (each_append RowIs (choice_rows w detail cs) _ (choices_are cs h.1.choices) (options_are helps o)))))
        (list_is w.commands _ k.commands (once (command_rows w detail depth names ms) (command_rows_are ms h.1.commands)))))

    -- ---- topics

    together_is : (last b : BlockSaid) → BlockIs last → BlockIs b → Each BlockIs (together last b)
    together_is (bullets items) (bullets more) h j = (each_append (Each LineIs) items more h j, tt)
    together_is (bullets items) (paragraph lines) h j = (h, (j, tt))
    together_is (bullets items) (code lines) h j = (h, (j, tt))
    together_is (paragraph lines) b h j = (h, (j, tt))
    together_is (code lines) b h j = (h, (j, tt))

    and_is : (blocks : List BlockSaid) (b : BlockSaid) → Each BlockIs blocks → BlockIs b → Each BlockIs (and_block blocks b)
    and_is [] b h j = (j, tt)
    and_is (last ∷ []) b h j = together_is last b h.0 j
    and_is (first ∷ second ∷ blocks) b h j = (h.0, and_is (second ∷ blocks) b h.1 j)

    merged_from : (before blocks : List BlockSaid) → Each BlockIs before → Each BlockIs blocks → Each BlockIs (fold and_block before blocks)
    merged_from before [] h j = h
    merged_from before (b ∷ blocks) h j = merged_from (and_block before b) blocks (and_is before b h j.0) j.1

    merged_is : (blocks : List BlockSaid) → Each BlockIs blocks → Each BlockIs (merged blocks)
    merged_is blocks h = merged_from [] blocks tt h

    topic_is : (topic : TopicSaid) → TopicIs topic → Each BlockIs (topic_blocks detail topic)
    topic_is topic h = blocks_are detail (text_blocks topic.text) (blocks_permitted topic.text h.1)

    own_is : (topic : TopicSaid) → TopicIs topic → Each SectionIs (own_section w detail topic)
    own_is topic h = each_if SectionIs (is_place Own (place_of w topic)) _ (text_is (without_colon topic.title) (topic_blocks detail topic) (colon_left topic.title h.0) (topic_is topic h))

    placed_is : (place : Place) (topic : TopicSaid) → TopicIs topic → Each BlockIs (placed_of w detail place topic)
    placed_is place topic h = each_if BlockIs (is_place place (place_of w topic)) _ (topic_is topic h)

    placed_are : (place : Place) (topics : List TopicSaid) → Each TopicIs topics → Each BlockIs (placed_blocks w detail place topics)
    placed_are place topics h = each_flat TopicIs BlockIs (placed_of w detail place) (placed_is place) topics h

    sections_are : (helps : List OptSaid) → Each OptIs helps → (l : LevelSaid) → LevelIs l → Each SectionIs (sections_of w detail depth names helps l)
    sections_are helps o (level t r os cs gs ps ms) h =
        each_append SectionIs (list_sections w detail depth names helps (level t r os cs gs ps ms)) _ (lists_are helps o (level t r os cs gs ps ms) h)
        (each_append SectionIs (own_sections w detail t.topics) (notes_of w detail t) (each_flat TopicIs SectionIs (own_section w detail) own_is t.topics h.0.topics)
        (text_is w.notes _ k.notes (merged_is (placed_blocks w detail Notes t.topics ++ given_blocks detail t.footer)
        (each_append BlockIs (placed_blocks w detail Notes t.topics) (given_blocks detail t.footer) (placed_are Notes t.topics h.0.topics) (given_is detail t.footer h.0.footer)))))

    -- ---- the names of the pages above and below

    above_by : (t : Bool) → Each Permitted (if t then page_name (take (length names - 1) names) ∷ [] else [])
    above_by true = (page_named (take (length names - 1) names) (each_take Permitted (length names - 1) names known), tt)
    above_by false = tt

    page_below_is : (m : CommandSaid) → CommandIs m → Each Permitted (page_below names m)
    page_below_is (command called help l) h = each_unless Permitted called.hidden _ (λ e. (page_named (names ++ called.name ∷ []) (each_append Permitted names (called.name ∷ []) known (h.name, tt)), tt))

    pages_below_are : (ms : CommandsSaid) → Each Permitted (commands_texts ms) → Each Permitted (pages_below names ms)
    pages_below_are no_commands h = tt
    pages_below_are (commands m ms) h =
        each_append Permitted (page_below names m) (pages_below names ms) (page_below_is m (command_known m (each_left Permitted (command_texts m) (commands_texts ms) h))) (pages_below_are ms (each_right Permitted (command_texts m) (commands_texts ms) h))

    grouped_below_are : (gs : GroupsSaid) → Each GroupIs (group_list gs) → Each Permitted (grouped_below names gs)
    grouped_below_are no_groups h = tt
    grouped_below_are (groups (group title os cs ps ms) gs) h = each_append Permitted (pages_below names ms) (grouped_below names gs) (pages_below_are ms h.0.1.commands) (grouped_below_are gs h.1)

    neighbours_are : (at : Depth) (l : LevelSaid) → LevelIs l → Each Permitted (neighbours at names l)
    neighbours_are Deep l h = above_by (nat_lt 1 (length names))
    neighbours_are Alone (level t r os cs gs ps ms) h =
        each_append Permitted (page_above names) _ (above_by (nat_lt 1 (length names))) (each_append Permitted (grouped_below names gs) (pages_below names ms) (grouped_below_are gs h.2) (pages_below_are ms h.1.commands))

-- ---- the page of a level

pub record PageIs (w : WordsSaid) (k : WordsAre w) (detail : Detail) (depth : Depth) (names : List (List ℕ)) (known : Each Permitted names) (said : PageSaid) : Type 0 where
  pub title : Permitted said.title
  pub about : Each BlockIs said.about
  pub usage : Each FormIs said.usage
  pub header : Each BlockIs said.header
  pub sections : Each (SectionIs w k detail depth names known) said.sections
  pub see_also : Each BlockIs said.see_also
  pub references : Each Permitted said.references

own_of : (l : LevelSaid) → LevelIs l → OwnIs (texts_of l)
own_of (level t r os cs gs ps ms) h = h.0

abbrev pub PageOf : (w : WordsSaid) → WordsAre w → Detail → Depth → (s : SubjectSaid) → SubjectIs s → PageSaid → Type 0
PageOf w k detail depth s h said = PageIs w k detail depth s.names h.names said

pub page_is : (w : WordsSaid) (k : WordsAre w) (detail : Detail) (depth : Depth) (s : SubjectSaid) (h : SubjectIs s) → PageOf w k detail depth s h (page_of w detail depth s)
page_is w k detail depth s h =
    let known = level_known s.level h.level in
    let own = own_of s.level known in
    let topics = placed_are w k detail depth s.names h.names References (texts_of s.level).topics own.topics in
    record {
      title = title_is s.names h.names;
      about = given_is detail (texts_of s.level).about own.about;
      usage = forms_are w k.usage k.command (joined_names (codes " ") s.names) (title_is s.names h.names) s.level known;
      header = given_is detail (texts_of s.level).header own.header;
      sections = sections_are w k detail depth s.names h.names s.help_options h.help_options s.level known;
      see_also = merged_is w k detail depth s.names h.names (placed_blocks w detail References (texts_of s.level).topics) topics;
      references = neighbours_are w k detail depth s.names h.names depth s.level known;
    }

-- ---- parts

abbrev pub PartIs : PartSaid → Type 0
PartIs (heading rank title) = Permitted title
PartIs (usage forms) = Each FormIs forms
PartIs (block shown) = BlockIs shown
PartIs (entries list) = Each EntryIs list

title_in_is : (letters : Case) (title : List ℕ) → Permitted title → Permitted (title_in letters title)
title_in_is Capitals title h = capitals_permitted title h
title_in_is AsSaid title h = h

titled_is : (letters : Case) (rank : Rank) (title : List ℕ) (parts : List PartSaid) → Permitted title → Each PartIs parts → Each PartIs (titled letters rank title parts)
titled_is letters rank title [] h j = tt
titled_is letters rank title (part ∷ parts) h j = (title_in_is letters title h, j)

usage_is : (forms : List FormSaid) → Each FormIs forms → Each PartIs (usage_parts forms)
usage_is [] h = tt
usage_is (form ∷ forms) h = (h, tt)

parts_of_blocks : (blocks : List BlockSaid) → Each BlockIs blocks → Each PartIs (map block blocks)
parts_of_blocks blocks h = each_mapped PartIs block blocks h

module _ (w : WordsSaid) (k : WordsAre w) (detail : Detail) (depth : Depth) (names : List (List ℕ)) (known : Each Permitted names) where
  abbrev Section_ : SectionSaid → Type 0
  Section_ = SectionIs w k detail depth names known

  abbrev Said : PageSaid → Type 0
  Said = PageIs w k detail depth names known

  body_is : (b : BodySaid) → BodyIs w k detail depth names known b → Each PartIs (body_parts b)
  body_is (listed es) h = (h, tt)
  body_is (told blocks) h = parts_of_blocks blocks h

  section_is : (letters : Case) (rank : Rank) (s : SectionSaid) → Section_ s → Each PartIs (section_parts letters rank s)
  section_is letters rank s h = (title_in_is letters s.title h.0, body_is s.body h.1)

  titled_parts_are : (letters : Case) (rank : Rank) (sections : List SectionSaid) (see_also : List BlockSaid) → Each Section_ sections → Each BlockIs see_also → Each PartIs (titled_parts letters rank w sections see_also)
  titled_parts_are letters rank sections see_also h j =
      each_append PartIs (flat_map (section_parts letters rank) sections) _ (each_flat Section_ PartIs (section_parts letters rank) (section_is letters rank) sections h)
      (titled_is letters rank w.see_also (map block see_also) k.see_also (parts_of_blocks see_also j))

  pub in_order_is : (rank : Rank) (said : PageSaid) → Said said → Each PartIs (in_order rank w said)
  in_order_is rank said h =
      each_append PartIs (map block said.about) _ (parts_of_blocks said.about h.about)
      (each_append PartIs (usage_parts said.usage) _ (usage_is said.usage h.usage)
      (each_append PartIs (map block said.header) _ (parts_of_blocks said.header h.header) (titled_parts_are AsSaid rank said.sections said.see_also h.sections h.see_also)))

  -- ---- with references

  references_are : (names : List (List ℕ)) → Each Permitted names → Each BlockIs (reference_blocks names)
  references_are [] h = tt
  references_are (name ∷ others) h =
      ((joined_is (codes ", ") (fixed (codes ", ") refl) (map (λ n. page n ∷ []) (name ∷ others)) (each_changed Permitted LineIs (λ n. page n ∷ []) (λ n p. (p, tt)) (name ∷ others) h), tt), tt)

  pub referred : (said : PageSaid) → Said said → Said (with_references said)
  referred said h = record {
    title = h.title;
    about = h.about;
    usage = h.usage;
    header = h.header;
    sections = h.sections;
    see_also = each_append BlockIs said.see_also (reference_blocks said.references) h.see_also (references_are said.references h.references);
    references = h.references;
  }

  -- ---- manual pages

  pub manual_order_is : (rank : Rank) (said : PageSaid) → Said said → Each PartIs (manual_order rank w said)
  manual_order_is rank said h =
      let told = merged_is w k detail depth names known (said.about ++ said.header) (each_append BlockIs said.about said.header h.about h.header) in
      each_append PartIs (titled Capitals rank w.synopsis (usage_parts said.usage)) _ (titled_is Capitals rank w.synopsis (usage_parts said.usage) k.synopsis (usage_is said.usage h.usage))
      (each_append PartIs (titled Capitals rank w.description (map block (merged (said.about ++ said.header)))) _
      (titled_is Capitals rank w.description (map block (merged (said.about ++ said.header))) k.description (parts_of_blocks (merged (said.about ++ said.header)) told))
      (titled_parts_are Capitals rank said.sections said.see_also h.sections h.see_also))

  pub about_left : (said : PageSaid) → Said said → Said (record said { about = [] })
  about_left said h = record {
    title = h.title;
    about = tt;
    usage = h.usage;
    header = h.header;
    sections = h.sections;
    see_also = h.see_also;
    references = h.references;
  }

  about_by : (t : Bool) (about : List BlockSaid) → Each BlockIs about → Each BlockIs (if t then [] else about)
  about_by true about h = tt
  about_by false about h = h

  pub summary_left : (line : Line) (said : PageSaid) → Said said → Said (without_summary line said)
  summary_left line said h = record {
    title = h.title;
    about = about_by (is_summary line said.about) said.about h.about;
    usage = h.usage;
    header = h.header;
    sections = h.sections;
    see_also = h.see_also;
    references = h.references;
  }

-- ---- the summary

some_is : (text : List ℕ) → Permitted text → LineIs (some_words text)
some_is [] h = tt
some_is (b ∷ text) h = (h, tt)

full_stop_left : (text : List ℕ) → Permitted text → Permitted (without_full_stop text)
full_stop_left text h =
    let bare = last_after 32 (omega arith) [] (without_last 46 text) (last_after 46 (omega arith) [] text h) in
    clean_if is_permitted (ends_with ◌==◌ text (codes "..")) text (without_last 32 (without_last 46 text)) h bare

stop_left : (line : Line) → LineIs line → LineIs (without_stop line)
stop_left [] h = tt
stop_left (words text ∷ []) h = some_is (without_full_stop text) (full_stop_left text h.0)
stop_left (literal text ∷ []) h = h
stop_left (value text ∷ []) h = h
stop_left (link text ∷ []) h = h
stop_left (page name ∷ []) h = h
stop_left (piece ∷ next ∷ line) h = (h.0, stop_left (next ∷ line) h.1)

summary_is : (help about : List BlockSaid) → Each BlockIs help → Each BlockIs about → LineIs (summary help about)
summary_is help about h j =
    let lines : List Line = unwrap_or (first_paragraph (help ++ about)) [] in
    stop_left (gathered (joined (codes " ") lines)) (gathered_again (joined (codes " ") lines) (joined_is (codes " ") (fixed (codes " ") refl) lines (paragraph_permitted (help ++ about) (each_append BlockIs help about h j))))

subject_summary : (s : SubjectSaid) → SubjectIs s → LineIs (summary_of s)
subject_summary s h =
    let own = own_of s.level (level_known s.level h.level) in
    summary_is (given_blocks Full s.help) (given_blocks Full (texts_of s.level).about) (given_is Full s.help h.help) (given_is Full (texts_of s.level).about own.about)

name_line_is : (name : List ℕ) (line : Line) → Permitted name → LineIs line → LineIs (name_line name line)
name_line_is name [] h j = (h, tt)
name_line_is name (piece ∷ line) h j = (h, (fixed (codes " - ") refl, j))

-- ---- in each medium

module _ (w : WordsSaid) (k : WordsAre w) (s : SubjectSaid) (h : SubjectIs s) where
  pub console_is : (detail : Detail) → Each PartIs (console_of w detail s)
  console_is detail = in_order_is w k detail Alone s.names h.names Section (page_of w detail Alone s) (page_is w k detail Alone s h)

  pub usage_of_is : Each FormIs (usage_of w s)
  usage_of_is = (page_is w k Full Alone s h).usage

  pub markdown_is : (depth : Depth) → Each PartIs (markdown_of w depth s)
  markdown_is depth =
      in_order_is w k Full depth s.names h.names Section (with_references (page_of w Full depth s)) (referred w k Full depth s.names h.names (page_of w Full depth s) (page_is w k Full depth s h))

  pub markdown_below_is : Each PartIs (markdown_below w s)
  markdown_below_is = let said = page_is w k Full Deep s h in (said.title, in_order_is w k Full Deep s.names h.names Subsection (page_of w Full Deep s) said)

  pub manual_is : Each PartIs (manual_of w s)
  manual_is =
      let said = summary_left w k Full Alone s.names h.names (summary_of s) (with_references (page_of w Full Alone s)) (referred w k Full Alone s.names h.names (page_of w Full Alone s) (page_is w k Full Alone s h)) in
      let line = name_line_is (page_name s.names) (summary_of s) (page_named s.names h.names) (subject_summary s h) in
      (title_in_is Capitals w.name k.name, ((line, tt), manual_order_is w k Full Alone s.names h.names Section (without_summary (summary_of s) (with_references (page_of w Full Alone s))) said))

  pub manual_below_is : Each PartIs (manual_below w s)
  manual_below_is = let said = page_is w k Full Alone s h in (said.title, manual_order_is w k Full Alone s.names h.names Subsection (page_of w Full Alone s) said)

-- ---- levels

-- where words lead
named_by : (P : Option CommandSaid → Type 0) (m : CommandSaid) (t : Bool) (found : Option CommandSaid) → P (Some m) → P found → P (if t then Some m else found)
named_by P m true found h k = h
named_by P m false found h k = k

named_there : (word : List ℕ) (ms : List CommandSaid) → Each CommandIs ms → (P : Option CommandSaid → Type 0) → P None → ((m : CommandSaid) → CommandIs m → P (Some m)) → P (find (is_named word) ms)
named_there word [] h P none some = none
named_there word (m ∷ ms) h P none some = named_by P m (is_named word m) (find (is_named word) ms) (some m h.0) (named_there word ms h.1 P none some)

abbrev pub IfSubject : Option SubjectSaid → Type 0
IfSubject None = Unit {0}
IfSubject (Some s) = SubjectIs s

pub led_is : (path : List (List ℕ)) (s : SubjectSaid) → SubjectIs s → IfSubject (led_to path s)
led_is [] s h = h
led_is (word ∷ path) s h =
    named_there word (commands_on s.level) (on_level s.level (level_known s.level h.level)) (λ o. IfSubject (option_and_then (λ c. led_to path (below s c)) o)) tt (λ c k. led_is path (below s c) (below_is s c h k))

-- those below
mutual
  levels_below : (s : SubjectSaid) → SubjectIs s → (l : LevelSaid) → Each Permitted (level_texts l) → Each SubjectIs (below_level s l)
  levels_below s h (level t r os cs gs ps ms) k =
      let known = level_known (level t r os cs gs ps ms) k in
      each_append SubjectIs (below_groups s gs) (below_commands s ms) (below_in_groups s h gs known.2) (below_of_commands s h ms known.1.commands)

  below_in_groups : (s : SubjectSaid) → SubjectIs s → (gs : GroupsSaid) → Each GroupIs (group_list gs) → Each SubjectIs (below_groups s gs)
  below_in_groups s h no_groups k = tt
  below_in_groups s h (groups g gs) k = each_append SubjectIs (below_group s g) (below_groups s gs) (below_in_group s h g k.0) (below_in_groups s h gs k.1)

  below_in_group : (s : SubjectSaid) → SubjectIs s → (g : GroupSaid) → GroupIs g → Each SubjectIs (below_group s g)
  below_in_group s h (group title os cs ps ms) k = below_of_commands s h ms k.1.commands

  below_of_commands : (s : SubjectSaid) → SubjectIs s → (ms : CommandsSaid) → Each Permitted (commands_texts ms) → Each SubjectIs (below_commands s ms)
  below_of_commands s h no_commands k = tt
  below_of_commands s h (commands m ms) k =
      each_append SubjectIs (from_command s m) (below_commands s ms) (below_one s h m (command_known m (each_left Permitted (command_texts m) (commands_texts ms) k))) (below_of_commands s h ms (each_right Permitted (command_texts m) (commands_texts ms) k))

  below_one : (s : SubjectSaid) → SubjectIs s → (m : CommandSaid) → CommandIs m → Each SubjectIs (from_command s m)
  below_one s h (command called help l) k =
      let inner = below_is s (command called help l) h k in
      each_if SubjectIs (is_shown (command called help l)) _ (inner, levels_below (below s (command called help l)) inner l k.level)

pub all_below : (s : SubjectSaid) → SubjectIs s → Each SubjectIs (subjects_below s)
all_below s h = levels_below s h s.level h.level

-- those after it on its page
names_are : (os : List OptSaid) → Each OptIs os → Each OptIs (map name_only os)
names_are [] h = tt
names_are (o ∷ os) h = (record { spelling = h.0.spelling; value = h.0.value; default = tt; values = tt; help = tt; env = tt }, names_are os h.1)

pub short_is : (s : SubjectSaid) → SubjectIs s → SubjectIs (in_short s)
short_is s h = record { names = h.names; help = h.help; help_options = names_are s.help_options h.help_options; level = h.level }

pub all_after : (s : SubjectSaid) → SubjectIs s → Each SubjectIs (subjects_after s)
all_after s h = all_below (in_short s) (short_is s h)
