-- What the parts of a page give to it: the ids of elements, and the targets of
-- links. Each part ends the elements that it starts.
use Rattle.std.proofs.Common.{◌≡◌, ℕ, Bool, true, false, List, [], ◌∷◌, ◌++◌, codes, flat_map, fold, if◌then◌else◌, Option, Some, None, refl, sym, ap, subst, ◌∙◌, append-nil}
use Rattle.std.specs.List.{join_by, list_any}
use Rattle.std.proofs.lemmas.Grind.{flat_map-append, fold-append}
use Rattle.web_page.specs.declared.elements.Element.{Element}
use Rattle.web_page.specs.declared.elements.Element.TheVariants as elements
use Rattle.web_page.specs.declared.elements.Element.TheVariants.{Code, Dd, Dl, Dt, Footer, Header, Heading, Li, Main, Nav, Pre, Section, Strong, Ul, Var}
use Rattle.web_page.specs.declared.elements.Tag.{Tag}
use Rattle.web_page.specs.declared.elements.Tag.TheVariants.{A, Of}
use Rattle.web_page.specs.declared.elements.Level.TheVariants.{One, Two, Three}
use Rattle.web_page.specs.Models.{is_ink}
use Rattle.page_model.specs.Content.{Piece, words, literal, value, link, page, Line, BlockSaid, paragraph, code, bullets, TargetSaid, to_page, to_heading, EntrySaid, FormSaid, PartSaid, heading, usage, block, entries, ChapterSaid, chapter, ChaptersSaid, no_chapters, chapters}
use Rattle.html_page.specs.Events as events
use Rattle.html_page.specs.Events.{Event, break_line, inside, inside_with_id, link_to, say, text_in}
use Rattle.html_page.specs.Ids.{chapter_id}
use Rattle.html_page.specs.Laws.{addresses_below, addresses_in, all_led_to, block_addresses, entry_addresses, led_to, led_to_below, line_addresses, part_addresses, piece_addresses, target_titles}
use Rattle.html_page.specs.Page.{Before, counted, block_events, blocks_events, chapter_links, chapter_sections, chapters_links, chapters_sections, code_events, entries_events, entry_events, entry_words, footer_events, form_events, has_links, header_events, heading_after, heading_link, heading_links, headings_of, id_after, item_events, line_events, lines_events, listed_links, lone_section, lower_section, main_events, nav_events, nothing_before, own_section, own_term, page_events, part_events, parts_events, piece_events, term_events, terms_events, top_section, usage_events, usage_item, usage_piece}
use Rattle.html_page.specs.View.{FrameSaid}
use Rattle.html_page.proofs.Among.{Each, each_append, each_left, each_right}
use Rattle.html_page.proofs.Attributes.{AreBalanced, event_values, given_in, opened, outer}

-- the target of a link to an id
abbrev pub place : List ℕ → List ℕ
place id = codes "#" ++ id

-- these ids, and links each of whose targets is as it has to be
pub record Carries (P : List ℕ → Type 0) (own : List (List ℕ)) (es : List Event) : Type 0 where
  pub balanced : AreBalanced es
  pub ids : given_in (codes "id") es ≡ own
  pub targets : Each P (given_in (codes "href") es)

abbrev pub Quiet : (List ℕ → Type 0) → List Event → Type 0
Quiet P = Carries P []

-- ---- the ids of parts

abbrev pub term_ids : (title : List ℕ) → (before : List (List ℕ)) → (word : List ℕ) → Option TargetSaid → List (List ℕ)
term_ids title before word None = id_after title before word ∷ []
term_ids title before word (Some (to_page name)) = id_after title before word ∷ []
term_ids title before word (Some (to_heading other)) = []

abbrev pub entry_ids : (title : List ℕ) → (before : List (List ℕ)) → EntrySaid → List (List ℕ)
entry_ids title before e = term_ids title before e.word e.target

abbrev pub entries_ids : (title : List ℕ) → (before : List (List ℕ)) → List EntrySaid → List (List ℕ)
entries_ids title before [] = []
entries_ids title before (e ∷ es) = entry_ids title before e ++ entries_ids title (before ++ entry_words e) es

abbrev pub part_ids : (title : List ℕ) → Before → PartSaid → List (List ℕ)
part_ids title before (heading rank text) = heading_after title before.headings text ∷ []
part_ids title before (usage forms) = []
part_ids title before (block shown) = []
part_ids title before (entries listed) = entries_ids title before.words listed

abbrev pub parts_ids : (title : List ℕ) → Before → List PartSaid → List (List ℕ)
parts_ids title before [] = []
parts_ids title before (part ∷ parts) = part_ids title before part ++ parts_ids title (counted before part) parts

abbrev pub headings_ids : (title : List ℕ) → (before texts : List (List ℕ)) → List (List ℕ)
headings_ids title before [] = []
headings_ids title before (text ∷ texts) = heading_after title before text ∷ headings_ids title (before ++ text ∷ []) texts

abbrev pub section_ids : (title : List ℕ) → List PartSaid → List (List ℕ)
section_ids title parts = chapter_id title ∷ parts_ids title nothing_before parts

abbrev mutual
  pub chapter_ids : ChapterSaid → List (List ℕ)
  chapter_ids (chapter title name about parts below) = section_ids title parts ++ chapters_ids below

  pub chapters_ids : ChaptersSaid → List (List ℕ)
  chapters_ids no_chapters = []
  chapters_ids (chapters first others) = chapter_ids first ++ chapters_ids others

module _ (P : List ℕ → Type 0) where
  pub nothing : Quiet P []
  nothing = record { balanced = λ tags. refl; ids = refl; targets = tt }

  pub two : {i j : List (List ℕ)} (es fs : List Event) → Carries P i es → Carries P j fs → Carries P (i ++ j) (es ++ fs)
  two {i} {j} es fs p q = record {
    balanced = λ tags. fold-append opened tags es fs ∙ ap (λ ts. fold opened ts fs) (p.balanced tags) ∙ q.balanced tags;
    ids = flat_map-append (event_values (codes "id")) es fs ∙ ap (λ vs. vs ++ given_in (codes "id") fs) p.ids ∙ ap (λ vs. i ++ vs) q.ids;
    targets = subst (Each P) (sym (flat_map-append (event_values (codes "href")) es fs)) (each_append P (given_in (codes "href") es) (given_in (codes "href") fs) p.targets q.targets);
  }

  pub same : {i j : List (List ℕ)} {es : List Event} → i ≡ j → Carries P i es → Carries P j es
  same {es = es} e p = record { balanced = p.balanced; ids = p.ids ∙ e; targets = p.targets }

  pub one_say : (bytes : List ℕ) → Quiet P (say bytes ∷ [])
  one_say bytes = record { balanced = λ tags. refl; ids = refl; targets = tt }

  pub one_break : Quiet P (break_line ∷ [])
  one_break = record { balanced = λ tags. refl; ids = refl; targets = tt }

  -- ---- elements

  ended : Quiet P [] → (es : List Event) (i : List (List ℕ)) → Carries P i es → given_in (codes "id") (es ++ events.end ∷ []) ≡ i
  ended none es i p = flat_map-append (event_values (codes "id")) es (events.end ∷ []) ∙ append-nil (given_in (codes "id") es) ∙ p.ids

  ended_targets : (es : List Event) (i : List (List ℕ)) → Carries P i es → Each P (given_in (codes "href") (es ++ events.end ∷ []))
  ended_targets es i p = subst (Each P) (sym (flat_map-append (event_values (codes "href")) es (events.end ∷ []) ∙ append-nil (given_in (codes "href") es))) p.targets

  closed : (es : List Event) (i : List (List ℕ)) → Carries P i es → (tag : Tag) (tags : List Tag) → fold opened (tag ∷ tags) (es ++ events.end ∷ []) ≡ tags
  closed es i p tag tags = fold-append opened (tag ∷ tags) es (events.end ∷ []) ∙ ap outer (p.balanced (tag ∷ tags))

  pub in_element : {i : List (List ℕ)} (e : Element) (content : List Event) → Carries P i content → Carries P i (inside e content)
  in_element {i} e content p = record {
    balanced = closed content i p (Of e);
    ids = ended nothing content i p;
    targets = ended_targets content i p;
  }

  pub with_id : {i : List (List ℕ)} (e : Element) (id : List ℕ) (content : List Event) → Carries P i content → Carries P (id ∷ i) (inside_with_id e id content)
  with_id {i} e id content p = record {
    balanced = closed content i p (Of e);
    ids = ap (λ vs. id ∷ vs) (ended nothing content i p);
    targets = ended_targets content i p;
  }

  pub linked : {i : List (List ℕ)} (target : List ℕ) (content : List Event) → P target → Carries P i content → Carries P i (events.link target content)
  linked {i} target content fine p = record {
    balanced = closed content i p A;
    ids = ended nothing content i p;
    targets = (fine, ended_targets content i p);
  }

  pub one_text : (e : Element) (bytes : List ℕ) → Quiet P (text_in e bytes)
  one_text e bytes = in_element e (say bytes ∷ []) (one_say bytes)

  -- ---- one after another

  module _ {X : Type 0} (f : X → List Event) (a : X → List (List ℕ)) (gives : (x : X) → Each P (a x) → Quiet P (f x)) where
    pub flat_gives : (xs : List X) → Each P (flat_map a xs) → Quiet P (flat_map f xs)
    flat_gives [] h = nothing
    flat_gives (x ∷ xs) h = two (f x) (flat_map f xs) (gives x (each_left P (a x) (flat_map a xs) h)) (flat_gives xs (each_right P (a x) (flat_map a xs) h))

  module _ {X : Type 0} (f : X → List Event) (a : X → List (List ℕ)) (gives : (x : X) → Each P (a x) → Quiet P (f x)) (between : List Event) (quiet : Quiet P between) where
    pub joined_gives : (xs : List X) → Each P (flat_map a xs) → Quiet P (join_by f between xs)
    joined_gives [] h = nothing
    joined_gives (x ∷ xs) h =
        two (f x) (flat_map (λ y. between ++ f y) xs) (gives x (each_left P (a x) (flat_map a xs) h))
        (flat_gives (λ y. between ++ f y) a (λ y k. two between (f y) quiet (gives y k)) xs (each_right P (a x) (flat_map a xs) h))

  no_addresses : {X : Type 0} (xs : List X) → Each P (flat_map (λ x. []) xs)
  no_addresses [] = tt
  no_addresses (x ∷ xs) = no_addresses xs

  -- ---- blocks

  piece_gives : (p : Piece) → Each P (piece_addresses p) → Quiet P (piece_events p)
  piece_gives (words bytes) h = one_say bytes
  piece_gives (literal bytes) h = one_text Code bytes
  piece_gives (value bytes) h = one_text Var bytes
  piece_gives (link address) h = linked address (say address ∷ []) h.0 (one_say address)
  piece_gives (page name) h = one_say name

  line_gives : (line : Line) → Each P (line_addresses line) → Quiet P (line_events line)
  line_gives = flat_gives piece_events piece_addresses piece_gives

  lines_give : (lines : List Line) → Each P (flat_map line_addresses lines) → Quiet P (lines_events lines)
  lines_give = joined_gives line_events line_addresses line_gives (break_line ∷ []) one_break

  code_gives : (lines : List (List ℕ)) → Quiet P (code_events lines)
  code_gives lines = joined_gives (λ line. say line ∷ []) (λ line. []) (λ line h. one_say line) (say (codes "\n") ∷ []) (one_say (codes "\n")) lines (no_addresses lines)

  item_gives : (item : List Line) → Each P (flat_map line_addresses item) → Quiet P (item_events item)
  item_gives item h = in_element Li (lines_events item) (lines_give item h)

  block_gives : (b : BlockSaid) → Each P (block_addresses b) → Quiet P (block_events b)
  block_gives (paragraph lines) h = in_element elements.P (lines_events lines) (lines_give lines h)
  block_gives (code lines) h = in_element Pre (inside Code (code_events lines)) (in_element Code (code_events lines) (code_gives lines))
  block_gives (bullets items) h = in_element Ul (flat_map item_events items) (flat_gives item_events (flat_map line_addresses) item_gives items h)

  blocks_give : (bs : List BlockSaid) → Each P (flat_map block_addresses bs) → Quiet P (blocks_events bs)
  blocks_give = flat_gives block_events block_addresses block_gives

  -- ---- a usage

  usage_piece_gives : (p : Piece) → Quiet P (usage_piece p)
  usage_piece_gives (words bytes) = one_say bytes
  usage_piece_gives (literal bytes) = one_text Strong bytes
  usage_piece_gives (value bytes) = one_text Var bytes
  usage_piece_gives (link address) = one_say address
  usage_piece_gives (page name) = one_say name

  usage_item_gives : (item : Line) → Quiet P (usage_item item)
  usage_item_gives item =
      two (say (codes " ") ∷ []) (inside Code (flat_map usage_piece item)) (one_say (codes " "))
      (in_element Code (flat_map usage_piece item) (flat_gives usage_piece (λ p. []) (λ p h. usage_piece_gives p) item (no_addresses item)))

  form_gives : (form : FormSaid) → Quiet P (form_events form)
  form_gives form =
      two (inside Code (text_in Strong form.name)) (flat_map usage_item form.items) (in_element Code (text_in Strong form.name) (one_text Strong form.name))
      (flat_gives usage_item (λ item. []) (λ item h. usage_item_gives item) form.items (no_addresses form.items))

  usage_gives : (title : List ℕ) (forms : List FormSaid) → Quiet P (usage_events title forms)
  usage_gives title forms =
      let shown : List Event = join_by form_events (say (codes "\n") ∷ []) forms in
      two (text_in (Heading Three) title) (inside Pre shown) (one_text (Heading Three) title)
      (in_element Pre shown (joined_gives form_events (λ form. []) (λ form h. form_gives form) (say (codes "\n") ∷ []) (one_say (codes "\n")) forms (no_addresses forms)))

  -- ---- entries

  terms_give : (terms : List Line) → Each P (flat_map line_addresses terms) → Quiet P (terms_events terms)
  terms_give = joined_gives line_events line_addresses line_gives (say (codes ", ") ∷ []) (one_say (codes ", "))

  own_term_gives : (id : List ℕ) (terms : List Line) → P (place id) → Each P (flat_map line_addresses terms) → Carries P (id ∷ []) (own_term id terms)
  own_term_gives id terms fine h = with_id Dt id (link_to id (terms_events terms)) (linked (place id) (terms_events terms) fine (terms_give terms h))

  term_gives : (title : List ℕ) (before : List (List ℕ)) (word : List ℕ) (target : Option TargetSaid) (terms : List Line) → Each P (flat_map line_addresses terms) → Each (λ id. P (place id)) (term_ids title before word target)
      → Each (λ t. P (place (chapter_id t))) (target_titles target) → Carries P (term_ids title before word target) (term_events title before word target terms)
  term_gives title before word None terms h own led = own_term_gives (id_after title before word) terms own.0 h
  term_gives title before word (Some (to_page name)) terms h own led = own_term_gives (id_after title before word) terms own.0 h
  term_gives title before word (Some (to_heading other)) terms h own led =
      in_element Dt (link_to (chapter_id other) (terms_events terms)) (linked (place (chapter_id other)) (terms_events terms) led.0 (terms_give terms h))

  entry_gives : (title : List ℕ) (before : List (List ℕ)) (e : EntrySaid) → Each P (entry_addresses e) → Each (λ id. P (place id)) (entry_ids title before e) → Each (λ t. P (place (chapter_id t))) (target_titles e.target)
      → Carries P (entry_ids title before e) (entry_events title before e)
  entry_gives title before e h own led =
      let terms : List (List ℕ) = flat_map line_addresses e.terms in
      let body : List (List ℕ) = flat_map block_addresses e.body in
      same (append-nil (entry_ids title before e))
      (two (term_events title before e.word e.target e.terms) (inside Dd (blocks_events e.body))
      (term_gives title before e.word e.target e.terms (each_left P terms body h) own led)
      (in_element Dd (blocks_events e.body) (blocks_give e.body (each_right P terms body h))))

  entries_give : (title : List ℕ) (before : List (List ℕ)) (es : List EntrySaid) → Each P (flat_map entry_addresses es) → Each (λ id. P (place id)) (entries_ids title before es)
      → Each (λ t. P (place (chapter_id t))) (flat_map (λ (e : EntrySaid). target_titles e.target) es) → Carries P (entries_ids title before es) (entries_events title before es)
  entries_give title before [] h own led = nothing
  entries_give title before (e ∷ es) h own led =
      let rest : List (List ℕ) = before ++ entry_words e in
      let titles : List (List ℕ) = flat_map (λ (e : EntrySaid). target_titles e.target) es in
      two (entry_events title before e) (entries_events title rest es)
      (entry_gives title before e (each_left P (entry_addresses e) (flat_map entry_addresses es) h) (each_left (λ id. P (place id)) (entry_ids title before e) (entries_ids title rest es) own)
      (each_left (λ t. P (place (chapter_id t))) (target_titles e.target) titles led))
      (entries_give title rest es (each_right P (entry_addresses e) (flat_map entry_addresses es) h) (each_right (λ id. P (place id)) (entry_ids title before e) (entries_ids title rest es) own)
      (each_right (λ t. P (place (chapter_id t))) (target_titles e.target) titles led))

  -- ---- parts

  part_gives : (frame : FrameSaid) (title : List ℕ) (before : Before) (part : PartSaid) → Each P (part_addresses part) → Each (λ id. P (place id)) (part_ids title before part) → Each (λ t. P (place (chapter_id t))) (led_to part)
      → Carries P (part_ids title before part) (part_events frame title before part)
  part_gives frame title before (heading rank text) h own led = with_id (Heading Three) (heading_after title before.headings text) (say text ∷ []) (one_say text)
  part_gives frame title before (usage forms) h own led = usage_gives frame.usage forms
  part_gives frame title before (block shown) h own led = block_gives shown h
  part_gives frame title before (entries listed) h own led = in_element Dl (entries_events title before.words listed) (entries_give title before.words listed h own led)

  parts_give : (frame : FrameSaid) (title : List ℕ) (before : Before) (parts : List PartSaid) → Each P (flat_map part_addresses parts) → Each (λ id. P (place id)) (parts_ids title before parts) → Each (λ t. P (place (chapter_id t))) (flat_map led_to parts)
      → Carries P (parts_ids title before parts) (parts_events frame title before parts)
  parts_give frame title before [] h own led = nothing
  parts_give frame title before (part ∷ parts) h own led =
      let rest : Before = counted before part in
      two (part_events frame title before part) (parts_events frame title rest parts)
      (part_gives frame title before part (each_left P (part_addresses part) (flat_map part_addresses parts) h) (each_left (λ id. P (place id)) (part_ids title before part) (parts_ids title rest parts) own)
      (each_left (λ t. P (place (chapter_id t))) (led_to part) (flat_map led_to parts) led))
      (parts_give frame title rest parts (each_right P (part_addresses part) (flat_map part_addresses parts) h) (each_right (λ id. P (place id)) (part_ids title before part) (parts_ids title rest parts) own)
      (each_right (λ t. P (place (chapter_id t))) (led_to part) (flat_map led_to parts) led))

  -- ---- sections

  lone_gives : (frame : FrameSaid) (title : List ℕ) (parts : List PartSaid) → Carries P (parts_ids title nothing_before parts) (parts_events frame title nothing_before parts) → Carries P (section_ids title parts) (lone_section frame title parts)
  lone_gives frame title parts p = with_id Section (chapter_id title) (parts_events frame title nothing_before parts) p

  own_gives : (frame : FrameSaid) (title : List ℕ) (parts : List PartSaid) → Carries P (parts_ids title nothing_before parts) (parts_events frame title nothing_before parts) → Carries P (section_ids title parts) (own_section frame title parts)
  own_gives frame title parts p =
      let shown : List Event = parts_events frame title nothing_before parts in
      with_id Section (chapter_id title) (text_in (Heading Two) title ++ shown) (two (text_in (Heading Two) title) shown (one_text (Heading Two) title) p)

  top_gives : (frame : FrameSaid) (title : List ℕ) (parts : List PartSaid) (below : ChaptersSaid) → Carries P (parts_ids title nothing_before parts) (parts_events frame title nothing_before parts) → Carries P (section_ids title parts) (top_section frame title parts below)
  top_gives frame title parts no_chapters p = lone_gives frame title parts p
  top_gives frame title parts (chapters first others) p = own_gives frame title parts p

  lower_gives : (frame : FrameSaid) (title : List ℕ) (about : List BlockSaid) (parts : List PartSaid) → Quiet P (blocks_events about) → Carries P (parts_ids title nothing_before parts) (parts_events frame title nothing_before parts)
      → Carries P (section_ids title parts) (lower_section frame title about parts)
  lower_gives frame title about parts q p =
      let shown : List Event = parts_events frame title nothing_before parts in
      with_id Section (chapter_id title) (text_in (Heading Two) title ++ (blocks_events about ++ shown))
      (two (text_in (Heading Two) title) (blocks_events about ++ shown) (one_text (Heading Two) title) (two (blocks_events about) shown q p))

  mutual
    chapter_gives : (frame : FrameSaid) (c : ChapterSaid) → Each P (addresses_in c) → Each (λ id. P (place id)) (chapter_ids c) → Each (λ t. P (place (chapter_id t))) (all_led_to c) → Carries P (chapter_ids c) (chapter_sections frame c)
    chapter_gives frame (chapter title name about parts below) h own led =
        let abouts : List (List ℕ) = flat_map block_addresses about in
        let partly : List (List ℕ) = flat_map part_addresses parts in
        let after : Each P (partly ++ addresses_below below) = each_right P abouts (partly ++ addresses_below below) h in
        two (lower_section frame title about parts) (chapters_sections frame below)
        (lower_gives frame title about parts (blocks_give about (each_left P abouts (partly ++ addresses_below below) h))
        (parts_give frame title nothing_before parts (each_left P partly (addresses_below below) after) (each_left (λ id. P (place id)) (section_ids title parts) (chapters_ids below) own).1
        (each_left (λ t. P (place (chapter_id t))) (flat_map led_to parts) (led_to_below below) led)))
        (chapters_give frame below (each_right P partly (addresses_below below) after) (each_right (λ id. P (place id)) (section_ids title parts) (chapters_ids below) own)
        (each_right (λ t. P (place (chapter_id t))) (flat_map led_to parts) (led_to_below below) led))

    chapters_give : (frame : FrameSaid) (cs : ChaptersSaid) → Each P (addresses_below cs) → Each (λ id. P (place id)) (chapters_ids cs) → Each (λ t. P (place (chapter_id t))) (led_to_below cs) → Carries P (chapters_ids cs) (chapters_sections frame cs)
    chapters_give frame no_chapters h own led = nothing
    chapters_give frame (chapters first others) h own led =
        two (chapter_sections frame first) (chapters_sections frame others)
        (chapter_gives frame first (each_left P (addresses_in first) (addresses_below others) h) (each_left (λ id. P (place id)) (chapter_ids first) (chapters_ids others) own)
        (each_left (λ t. P (place (chapter_id t))) (all_led_to first) (led_to_below others) led))
        (chapters_give frame others (each_right P (addresses_in first) (addresses_below others) h) (each_right (λ id. P (place id)) (chapter_ids first) (chapters_ids others) own)
        (each_right (λ t. P (place (chapter_id t))) (all_led_to first) (led_to_below others) led))

  -- ---- links to sections

  heading_links_give : (title : List ℕ) (before : List (List ℕ)) (texts : List (List ℕ)) → Each (λ id. P (place id)) (headings_ids title before texts) → Quiet P (heading_links title before texts)
  heading_links_give title before [] own = nothing
  heading_links_give title before (text ∷ texts) own =
      let id : List ℕ = heading_after title before text in
      two (heading_link title before text) (heading_links title (before ++ text ∷ []) texts) (in_element Li (link_to id (say text ∷ [])) (linked (place id) (say text ∷ []) own.0 (one_say text)))
      (heading_links_give title (before ++ text ∷ []) texts own.1)

  -- the ids of headings are among those of parts
  headings_there : (title : List ℕ) (before : Before) (parts : List PartSaid) → Each (λ id. P (place id)) (parts_ids title before parts) → Each (λ id. P (place id)) (headings_ids title before.headings (flat_map headings_of parts))
  headings_there title before [] own = tt
  headings_there title before (heading rank text ∷ parts) own = (own.0, headings_there title (counted before (heading rank text)) parts own.1)
  headings_there title before (usage forms ∷ parts) own = headings_there title before parts own
  headings_there title before (block shown ∷ parts) own = headings_there title before parts own
  headings_there title before (entries listed ∷ parts) own =
      headings_there title (counted before (entries listed)) parts (each_right (λ id. P (place id)) (entries_ids title before.words listed) (parts_ids title (counted before (entries listed)) parts) own)

  listed_give : (b : Bool) (es : List Event) → Quiet P es → Quiet P (listed_links b es)
  listed_give true es p = in_element Ul es p
  listed_give false es p = nothing

  mutual
    links_give : (c : ChapterSaid) → Each (λ id. P (place id)) (chapter_ids c) → Quiet P (chapter_links c)
    links_give (chapter title name about parts below) own =
        let first : List Event = link_to (chapter_id title) (say name ∷ []) in
        let items : List Event = heading_links title [] (flat_map headings_of parts) ++ chapters_links below in
        let mine : Each (λ id. P (place id)) (section_ids title parts) = each_left (λ id. P (place id)) (section_ids title parts) (chapters_ids below) own in
        in_element Li (first ++ listed_links (has_links parts below) items)
        (two first (listed_links (has_links parts below) items) (linked (place (chapter_id title)) (say name ∷ []) mine.0 (one_say name))
        (listed_give (has_links parts below) items
        (two (heading_links title [] (flat_map headings_of parts)) (chapters_links below) (heading_links_give title [] (flat_map headings_of parts) (headings_there title nothing_before parts mine.1))
        (all_links_give below (each_right (λ id. P (place id)) (section_ids title parts) (chapters_ids below) own)))))

    all_links_give : (cs : ChaptersSaid) → Each (λ id. P (place id)) (chapters_ids cs) → Quiet P (chapters_links cs)
    all_links_give no_chapters own = nothing
    all_links_give (chapters first others) own =
        two (chapter_links first) (chapters_links others) (links_give first (each_left (λ id. P (place id)) (chapter_ids first) (chapters_ids others) own))
        (all_links_give others (each_right (λ id. P (place id)) (chapter_ids first) (chapters_ids others) own))

  -- ---- the page

  nav_gives : (frame : FrameSaid) (top : ChapterSaid) → Each (λ id. P (place id)) (chapter_ids top) → Quiet P (nav_events frame top)
  nav_gives frame (chapter title name about parts below) own = by (has_links parts below) where
    by : (b : Bool) → Quiet P (if b then inside Nav (text_in (Heading Two) frame.contents ++ inside Ul (chapter_links (chapter title name about parts below))) else [])
    by true =
        let links : List Event = chapter_links (chapter title name about parts below) in
        in_element Nav (text_in (Heading Two) frame.contents ++ inside Ul links)
        (two (text_in (Heading Two) frame.contents) (inside Ul links) (one_text (Heading Two) frame.contents) (in_element Ul links (links_give (chapter title name about parts below) own)))
    by false = nothing

  footer_gives : (foot : List ℕ) → Quiet P (footer_events foot)
  footer_gives foot = by (list_any is_ink foot) where
    by : (b : Bool) → Quiet P (if b then inside Footer (text_in elements.P foot) else [])
    by true = in_element Footer (text_in elements.P foot) (one_text elements.P foot)
    by false = nothing

  pub page_gives : (frame : FrameSaid) (top : ChapterSaid) → Each P (addresses_in top) → Each (λ id. P (place id)) (chapter_ids top) → Each (λ t. P (place (chapter_id t))) (all_led_to top) → Carries P (chapter_ids top) (page_events frame top)
  page_gives frame (chapter title name about parts below) h own led =
      let top : ChapterSaid = chapter title name about parts below in
      let abouts : List (List ℕ) = flat_map block_addresses about in
      let partly : List (List ℕ) = flat_map part_addresses parts in
      let after : Each P (partly ++ addresses_below below) = each_right P abouts (partly ++ addresses_below below) h in
      let header : Quiet P (header_events top) =
      in_element Header (text_in (Heading One) title ++ blocks_events about) (two (text_in (Heading One) title) (blocks_events about) (one_text (Heading One) title) (blocks_give about (each_left P abouts (partly ++ addresses_below below) h))) in
      let main : Carries P (chapter_ids top) (main_events frame top) =
      in_element Main (top_section frame title parts below ++ chapters_sections frame below)
      (two (top_section frame title parts below) (chapters_sections frame below)
      (top_gives frame title parts below
      (parts_give frame title nothing_before parts (each_left P partly (addresses_below below) after) (each_left (λ id. P (place id)) (section_ids title parts) (chapters_ids below) own).1
      (each_left (λ t. P (place (chapter_id t))) (flat_map led_to parts) (led_to_below below) led)))
      (chapters_give frame below (each_right P partly (addresses_below below) after) (each_right (λ id. P (place id)) (section_ids title parts) (chapters_ids below) own)
      (each_right (λ t. P (place (chapter_id t))) (flat_map led_to parts) (led_to_below below) led))) in
      same (append-nil (chapter_ids top))
      (two (header_events top) (nav_events frame top ++ (main_events frame top ++ footer_events frame.foot)) header
      (two (nav_events frame top) (main_events frame top ++ footer_events frame.foot) (nav_gives frame top own)
      (two (main_events frame top) (footer_events frame.foot) main (footer_gives frame.foot))))
