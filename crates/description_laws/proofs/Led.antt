-- The titles to which the entries of a level lead are those of levels directly below it.
use Rattle.std.proofs.Common.{◌≡◌, ℕ, Bool, true, false, List, [], ◌∷◌, ◌++◌, codes, flat_map, map, not, inl, refl}
use Rattle.std.specs.Prelude.{if◌then◌else◌}
use Rattle.page_model.specs.Content.{Line, BlockSaid, EntrySaid, FormSaid, PartSaid, block, to_heading}
use Rattle.page_model.specs.declared.parts.Rank.TheVariants.{Section}
use Rattle.html_page.specs.Laws.{led_to, target_titles}
use Rattle.html_page.proofs.Among.{Among, Each, among_left, among_right, each_append, each_mapped}
use Rattle.description.specs.Content.{OptSaid, ChoiceSaid, PositionalSaid, TopicSaid, LevelSaid, level, GroupsSaid, no_groups, groups, GroupSaid, group, CommandsSaid, no_commands, commands, CommandSaid, command}
use Rattle.description.specs.Words.{WordsSaid}
use Rattle.description_pages.specs.Arranged.{body_parts, section_parts, titled, usage_parts}
use Rattle.description_usage.specs.Entries.{body, command_entry, entry_if_said, positional_notes, positional_terms}
use Rattle.description_pages.specs.Keys.{KeySaid, RowSaid, command_key, entries_once, same_key}
use Rattle.description_pages.specs.Levels.{PageSaid, SubjectSaid, page_of, sections_of, texts_of}
use Rattle.description_usage.specs.Names.{shown_value}
use Rattle.description_pages.specs.Once.{if_new, new_after}
use Rattle.description_pages.specs.Sections.{BodySaid, listed, told, SectionSaid, argument_section, choice_rows, command_rows, command_rows_of, given_blocks, group_rows, group_section, group_sections, joined_names, list_section, list_sections, option_rows, option_rows_of, option_section, row_if, text_section, value_rows, value_rows_of}
use Rattle.description_pages.specs.Subjects.{below, below_commands, below_group, below_groups, below_level, from_command}
use Rattle.description_pages.specs.Topics.{is_place, own_section, own_sections, place_of, topic_blocks}
use Rattle.description_pages.specs.declared.arranged.Case.TheVariants.{AsSaid}
use Rattle.description_pages.specs.declared.levels.Depth.TheVariants.{Deep}
use Rattle.description_pages.specs.declared.sections.Detail.TheVariants.{Full}
use Rattle.description_pages.specs.declared.topics.Place.TheVariants.{Own}
use Rattle.description_laws.proofs.PageTitles.{led_from, title}

-- ---- of each

each_flat : {X Y : Type 0} (Q : Y → Type 0) (f : X → List Y) → ((x : X) → Each Q (f x)) → (xs : List X) → Each Q (flat_map f xs)
each_flat Q f h [] = tt
each_flat Q f h (x ∷ xs) = each_append Q (f x) (flat_map f xs) (h x) (each_flat Q f h xs)

pub each_of_flat : {X Y : Type 0} (Q : Y → Type 0) (f : X → List Y) (xs : List X) → Each (λ x. Each Q (f x)) xs → Each Q (flat_map f xs)
each_of_flat Q f [] h = tt
each_of_flat Q f (x ∷ xs) h = each_append Q (f x) (flat_map f xs) h.0 (each_of_flat Q f xs h.1)

each_if : {Y : Type 0} (Q : Y → Type 0) (b : Bool) (ys : List Y) → Each Q ys → Each Q (if b then ys else [])
each_if Q true ys h = h
each_if Q false ys h = tt

each_unless : {Y : Type 0} (Q : Y → Type 0) (b : Bool) (ys : List Y) → (b ≡ false → Each Q ys) → Each Q (if b then [] else ys)
each_unless Q true ys h = tt
each_unless Q false ys h = h refl

each_new : {X : Type 0} (Q : X → Type 0) (same : X → X → Bool) (before xs : List X) → Each Q xs → Each Q (new_after same before xs)
each_new Q same before [] h = tt
each_new Q same before (x ∷ xs) h = each_append Q (if_new same before x) (new_after same (before ++ x ∷ []) xs) (each_unless Q _ (x ∷ []) (λ e. (h.0, tt))) (each_new Q same (before ++ x ∷ []) xs h.1)

module _ (P : List ℕ → Type 0) (fixed : WordsSaid) where
  -- ---- entries

  abbrev Leads : EntrySaid → Type 0
  Leads e = Each P (target_titles e.target)

  abbrev RowLeads : RowSaid → Type 0
  RowLeads row = Leads row.entry

  option_leads : (o : OptSaid) → Each RowLeads (option_rows_of fixed Full o)
  option_leads o = each_unless RowLeads o.hidden _ (λ e. (tt, tt))

  options_lead : (os : List OptSaid) → Each RowLeads (option_rows fixed Full os)
  options_lead os = each_flat RowLeads (option_rows_of fixed Full) option_leads os

  choices_lead : (cs : List ChoiceSaid) → Each RowLeads (choice_rows fixed Full cs)
  choices_lead cs = each_flat RowLeads (λ c. option_rows fixed Full c.options) (λ c. options_lead c.options) cs

  said_leads : (key : KeySaid) (word : List ℕ) (terms : List Line) (said : List BlockSaid) → Each RowLeads (row_if key (entry_if_said word terms said))
  said_leads key word terms [] = tt
  said_leads key word terms (first ∷ others) = (tt, tt)

  value_leads : (p : PositionalSaid) → Each RowLeads (value_rows_of fixed Full p)
  value_leads p = each_unless RowLeads p.hidden _ (λ e. said_leads _ (shown_value p.value) (positional_terms p) (body (positional_notes fixed p) (given_blocks Full p.help)))

  values_lead : (ps : List PositionalSaid) → Each RowLeads (value_rows fixed Full ps)
  values_lead ps = each_flat RowLeads (value_rows_of fixed Full) value_leads ps

  once : (rows : List RowSaid) → Each RowLeads rows → Each Leads (entries_once rows)
  once rows h = each_mapped Leads (λ row. row.entry) (new_after (λ (x y : RowSaid). same_key x.key y.key) [] rows) (each_new RowLeads (λ (x y : RowSaid). same_key x.key y.key) [] rows h)

  -- ---- sections

  abbrev BodyLeads : BodySaid → Type 0
  BodyLeads (listed es) = Each Leads es
  BodyLeads (told blocks) = Unit {0}

  abbrev SectionLeads : SectionSaid → Type 0
  SectionLeads section = BodyLeads section.body

  list_leads : (t : List ℕ) (es : List EntrySaid) → Each Leads es → Each SectionLeads (list_section t es)
  list_leads t [] h = tt
  list_leads t (e ∷ es) h = (h, tt)

  text_leads : (t : List ℕ) (blocks : List BlockSaid) → Each SectionLeads (text_section t blocks)
  text_leads t [] = tt
  text_leads t (b ∷ blocks) = (tt, tt)

  topic_leads : (topic : TopicSaid) → Each SectionLeads (own_section fixed Full topic)
  topic_leads topic = each_if SectionLeads (is_place Own (place_of fixed topic)) _ (text_leads _ (topic_blocks Full topic))

  topics_lead : (topics : List TopicSaid) → Each SectionLeads (own_sections fixed Full topics)
  topics_lead topics = each_flat SectionLeads (own_section fixed Full) topic_leads topics

  -- ---- commands, where P holds of the title of each that is shown

  module _ (s : SubjectSaid) where
    command_leads : (m : CommandSaid) → ((u : SubjectSaid) → Among (from_command s m) u → P (title u)) → Each RowLeads (command_rows_of fixed Full Deep s.names m)
    command_leads (command called help l) h = by called.hidden h where
      by : (hidden : Bool) → ((u : SubjectSaid) → Among (if (not hidden) then below s (command called help l) ∷ below_level (below s (command called help l)) l else []) u → P (title u))
          → Each RowLeads (if hidden then [] else record { key = command_key (command called help l); entry = command_entry fixed (to_heading (joined_names (codes " ") (s.names ++ called.name ∷ []))) (command called help l) (given_blocks Full help) } ∷ [])
      by true k = tt
      by false k = ((k (below s (command called help l)) (inl refl), tt), tt)

    commands_lead : (ms : CommandsSaid) → ((u : SubjectSaid) → Among (below_commands s ms) u → P (title u)) → Each RowLeads (command_rows fixed Full Deep s.names ms)
    commands_lead no_commands h = tt
    commands_lead (commands m ms) h =
        each_append RowLeads (command_rows_of fixed Full Deep s.names m) (command_rows fixed Full Deep s.names ms) (command_leads m (λ u a. h u (among_left (from_command s m) (below_commands s ms) u a)))
        (commands_lead ms (λ u a. h u (among_right (from_command s m) (below_commands s ms) u a)))

    group_leads : (g : GroupSaid) → ((u : SubjectSaid) → Among (below_group s g) u → P (title u)) → Each SectionLeads (group_section fixed Full Deep s.names g)
    group_leads (group t os cs ps ms) h = list_leads _ _ (once (group_rows fixed Full Deep s.names (group t os cs ps ms))
        (each_append RowLeads (option_rows fixed Full os) _ (options_lead os) (each_append RowLeads (choice_rows fixed Full cs) _ (choices_lead cs)
        (each_append RowLeads (value_rows fixed Full ps) _ (values_lead ps) (commands_lead ms h)))))

    groups_lead : (gs : GroupsSaid) → ((u : SubjectSaid) → Among (below_groups s gs) u → P (title u)) → Each SectionLeads (group_sections fixed Full Deep s.names gs)
    groups_lead no_groups h = tt
    groups_lead (groups g gs) h =
        each_append SectionLeads (group_section fixed Full Deep s.names g) (group_sections fixed Full Deep s.names gs) (group_leads g (λ u a. h u (among_left (below_group s g) (below_groups s gs) u a)))
        (groups_lead gs (λ u a. h u (among_right (below_group s g) (below_groups s gs) u a)))

    lists_lead : (l : LevelSaid) → ((u : SubjectSaid) → Among (below_level s l) u → P (title u)) → Each SectionLeads (list_sections fixed Full Deep s.names s.help_options l)
    lists_lead (level t r os cs gs ps ms) h =
        each_append SectionLeads (argument_section fixed Full (level t r os cs gs ps ms)) _ (list_leads _ _ (once (value_rows fixed Full ps) (values_lead ps)))
        (each_append SectionLeads (group_sections fixed Full Deep s.names gs) _ (groups_lead gs (λ u a. h u (among_left (below_groups s gs) (below_commands s ms) u a)))
        (each_append SectionLeads (option_section fixed Full s.help_options (level t r os cs gs ps ms)) _
        (list_leads _ _ (once (option_rows fixed Full os ++ (choice_rows fixed Full cs ++ option_rows fixed Full s.help_options)) (each_append RowLeads (option_rows fixed Full os) _ (options_lead os) (each_append RowLeads (choice_rows fixed Full cs) _ (choices_lead cs) (options_lead s.help_options)))))
        (list_leads _ _ (once (command_rows fixed Full Deep s.names ms) (commands_lead ms (λ u a. h u (among_right (below_groups s gs) (below_commands s ms) u a)))))))

    sections_lead : ((u : SubjectSaid) → Among (below_level s s.level) u → P (title u)) → Each SectionLeads (sections_of fixed Full Deep s.names s.help_options s.level)
    sections_lead h =
        each_append SectionLeads (list_sections fixed Full Deep s.names s.help_options s.level) _ (lists_lead s.level h)
        (each_append SectionLeads (own_sections fixed Full (texts_of s.level).topics) _ (topics_lead (texts_of s.level).topics) (text_leads _ _))

  -- ---- parts

  abbrev PartLeads : PartSaid → Type 0
  PartLeads part = Each P (led_to part)

  blocks_lead : (blocks : List BlockSaid) → Each PartLeads (map block blocks)
  blocks_lead [] = tt
  blocks_lead (b ∷ blocks) = (tt, blocks_lead blocks)

  usage_leads : (forms : List FormSaid) → Each PartLeads (usage_parts forms)
  usage_leads [] = tt
  usage_leads (form ∷ forms) = (tt, tt)

  body_leads : (b : BodySaid) → BodyLeads b → Each PartLeads (body_parts b)
  body_leads (listed es) h = (each_of_flat P (λ (e : EntrySaid). target_titles e.target) es h, tt)
  body_leads (told blocks) h = blocks_lead blocks

  section_leads : (sections : List SectionSaid) → Each SectionLeads sections → Each PartLeads (flat_map (section_parts AsSaid Section) sections)
  section_leads [] h = tt
  section_leads (section ∷ sections) h = each_append PartLeads (section_parts AsSaid Section section) (flat_map (section_parts AsSaid Section) sections) (tt, body_leads section.body h.0) (section_leads sections h.1)

  titled_leads : (t : List ℕ) (blocks : List BlockSaid) → Each PartLeads (titled AsSaid Section t (map block blocks))
  titled_leads t [] = tt
  titled_leads t (b ∷ blocks) = (tt, (tt, blocks_lead blocks))

  -- what holds of the title of each level below one holds of each to which it leads
  pub level_leads : (s : SubjectSaid) → ((u : SubjectSaid) → Among (below_level s s.level) u → P (title u)) → Each P (led_from fixed s)
  level_leads s h =
      let said : PageSaid = page_of fixed Full Deep s in
      each_of_flat P led_to _ (each_append PartLeads (usage_parts said.usage) _ (usage_leads said.usage) (each_append PartLeads (map block said.header) _ (blocks_lead said.header)
      (each_append PartLeads (flat_map (section_parts AsSaid Section) said.sections) _ (section_leads said.sections (sections_lead s h)) (titled_leads fixed.see_also said.see_also))))
