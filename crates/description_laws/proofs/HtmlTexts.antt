-- No text of a page in HTML is refused where those of its frame and of its levels are
-- permitted: neither what is said, nor where links lead, nor an id.
use Rattle.std.proofs.Common.{◌≡◌, ℕ, ◌+◌, ◌/◌, ◌%◌, ◌<◌, ◌≤◌, ◌==◌, Bool, true, false, ◌&&◌, List, [], ◌∷◌, ◌++◌, codes, decimal, encode_utf8, flat_map, nat_lt, Option, Some, None, refl, sym, ap, ◌∙◌, subst, arith}
use Rattle.std.specs.Prelude.{if◌then◌else◌, not}
use Rattle.std.specs.Char.{digit_char}
use Rattle.std.specs.List.{join_by, list_all, list_any}
use Rattle.std.specs.Str.{chars, encode_utf8_all}
use Rattle.std.proofs.Math.Utf8.{encode, scalar, scalars}
use Rattle.std.proofs.lemmas.Bool.{and_from, and_parts, false≢true}
use Rattle.std.proofs.lemmas.Bool.Decides.{nat_tests}
use Rattle.std.proofs.lemmas.List.Folds.{list_all-append}
use Rattle.std.proofs.lemmas.Str.{encodes-chars, scalars-chars}
use Rattle.web_page.specs.Calls as calls
use Rattle.web_page.specs.Calls.{are_written, attribute, child_fault, finish_fault, has_end_sign, has_ink_in, is_inside_body, is_written, may_end_in, may_stand, unless}
use Rattle.web_page.specs.Models.{fits_attributes, is_ink, is_language}
use Rattle.web_page.specs.Reader.{Draft}
use Rattle.web_page.specs.declared.elements.Child.{Child}
use Rattle.web_page.specs.declared.elements.Child.TheVariants.{Inner, Words}
use Rattle.web_page.specs.declared.elements.Element.{Element}
use Rattle.web_page.specs.declared.elements.Element.TheVariants.{Code, Dd, Dl, Dt, Footer, Header, Heading, Li, Main, Nav, Pre, Section, Strong, Ul, Var}
use Rattle.web_page.specs.declared.elements.Element.TheVariants as elements
use Rattle.web_page.specs.declared.elements.Level.TheVariants.{One, Two, Three}
use Rattle.web_page.specs.declared.elements.Tag.TheVariants.{A, Br, Of}
use Rattle.web_page.specs.declared.errors.PageError.{PageError}
use Rattle.web_page.specs.declared.errors.PageError.TheVariants as errors
use Rattle.page_model.specs.Content.{Piece, words, literal, value, link, page, Line, BlockSaid, paragraph, code, bullets, TargetSaid, to_page, to_heading, EntrySaid, FormSaid, PartSaid, heading, usage, block, entries, ChapterSaid, chapter, ChaptersSaid, no_chapters, chapters}
use Rattle.page_model.specs.Permitted.{is_permitted}
use Rattle.html_page.specs.Events as events
use Rattle.html_page.specs.Events.{Event, break_line, end, event_fault, events_fault, first_fault, inside, inside_with_id, link_to, say, start, start_link, start_with_id, text_in, with_event}
use Rattle.html_page.specs.Ids.{chapter_id, entry_id, heading_id, id_byte, id_text, is_id_byte, numbered, times, title_byte}
use Rattle.html_page.specs.Page.{Before, counted, block_events, blocks_events, chapter_links, chapter_sections, chapters_links, chapters_sections, code_events, entries_events, entry_events, entry_words, footer_events, form_events, has_links, header_events, heading_after, heading_link, heading_links, headings_of, id_after, item_events, line_events, lines_events, listed_links, main_events, nav_events, nothing_before, own_term, page_events, part_events, parts_events, piece_events, term_events, terms_events, top_section, usage_events, usage_item, usage_piece}
use Rattle.html_page.specs.Promises.{begun_page, head_fault, page_draft, page_fault}
use Rattle.html_page.specs.Style.{style_sheet}
use Rattle.html_page.specs.View.{FrameSaid}
use Rattle.page_laws.proofs.Blocks.{BlockIs, LineIs, Permitted, PieceIs}
use Rattle.page_laws.proofs.Chapters.{ChapterIs, ChaptersIs}
use Rattle.page_laws.proofs.Clean.{clean_low, is_low, weaker}
use Rattle.page_laws.proofs.Each.{Each, each_append, each_if}
use Rattle.page_laws.proofs.Entries.{EntryIs, TargetIs}
use Rattle.page_laws.proofs.Pages.{PartIs}
use Rattle.page_laws.proofs.Usage.{FormIs, each_flat}
use Rattle.description_laws.proofs.Characters.{is_date_byte, number_dates}

-- ---- texts that are written

abbrev Written : List ℕ → Type 0
Written bytes = are_written bytes ≡ true

character_passes : (c : ℕ) → is_permitted c ≡ true → is_written c ≡ true
character_passes c h = grind (arith, nat_tests)

written : (text : List ℕ) → Permitted text → Written text
written text h = weaker is_permitted is_written character_passes (chars text) h.characters

-- of ASCII without control characters
abbrev Low : List ℕ → Type 0
Low bytes = list_all (is_low is_written) bytes ≡ true

low : (b : ℕ) → 32 ≤ b → b < 127 → is_low is_written b ≡ true
low b h k = grind (arith, nat_tests)

low_cons : (b : ℕ) (bytes : List ℕ) → is_low is_written b ≡ true → Low bytes → Low (b ∷ bytes)
low_cons b bytes h k = and_from (is_low is_written b) (list_all (is_low is_written) bytes) h k

low_append : (xs ys : List ℕ) → Low xs → Low ys → Low (xs ++ ys)
low_append xs ys h k = list_all-append (is_low is_written) xs ys ∙ and_from (list_all (is_low is_written) xs) (list_all (is_low is_written) ys) h k

low_written : (bytes : List ℕ) → Low bytes → Written bytes
low_written bytes h = (clean_low is_written bytes h).characters

-- ---- the bytes of a text

abbrev is_byte : ℕ → Bool
is_byte b = nat_lt b 256

abbrev Bytes : List ℕ → Type 0
Bytes bytes = list_all is_byte bytes ≡ true

bytes_by : (t : Bool) (xs ys : List ℕ) → (t ≡ true → Bytes xs) → (t ≡ false → Bytes ys) → Bytes (if t then xs else ys)
bytes_by true xs ys h k = h refl
bytes_by false xs ys h k = k refl

is_small : (b : ℕ) → b < 256 → is_byte b ≡ true
is_small b h = grind (arith, nat_tests)

below : (c n : ℕ) → nat_lt c n ≡ true → c < n
below c n h = grind (arith, nat_tests)

scalar_below : (c : ℕ) → scalar c ≡ true → c < 0x11_0000
scalar_below c h = grind (arith, nat_tests)

byte_cons : (b : ℕ) (bytes : List ℕ) → b < 256 → Bytes bytes → Bytes (b ∷ bytes)
byte_cons b bytes h k = and_from (is_byte b) (list_all is_byte bytes) (is_small b h) k

character_bytes : (c : ℕ) → scalar c ≡ true → Bytes (encode c)
unfolding encode
character_bytes c h =
    let last : ℕ = 128 + c % 64 in
    let third : ℕ = 128 + c / 64 % 64 in
    let second : ℕ = 128 + c / 4096 % 64 in
    let ends : Bytes (last ∷ []) = byte_cons last [] (omega arith) refl in
    let goes_on : Bytes (third ∷ last ∷ []) = byte_cons third (last ∷ []) (omega arith) ends in
    let two : List ℕ = (192 + c / 64) ∷ last ∷ [] in
    let three : List ℕ = (224 + c / 4096) ∷ third ∷ last ∷ [] in
    let four : List ℕ = (240 + c / 262144) ∷ second ∷ third ∷ last ∷ [] in
    let longer : List ℕ = if nat_lt c 65536 then three else four in
    bytes_by (nat_lt c 128) (c ∷ []) (if nat_lt c 2048 then two else longer) (λ e. let l = below c 128 e in byte_cons c [] (omega arith) refl)
    (λ _. bytes_by (nat_lt c 2048) two longer (λ e. let l = below c 2048 e in byte_cons (192 + c / 64) (last ∷ []) (omega arith) ends)
    (λ _. bytes_by (nat_lt c 65536) three four (λ e. let l = below c 65536 e in byte_cons (224 + c / 4096) (third ∷ last ∷ []) (omega arith) goes_on)
    (λ _. let l = scalar_below c h in byte_cons (240 + c / 262144) (second ∷ third ∷ last ∷ []) (omega arith) (byte_cons second (third ∷ last ∷ []) (omega arith) goes_on))))

characters_bytes : (cs : List ℕ) → scalars cs ≡ true → Bytes (encode_utf8_all cs)
characters_bytes [] h = refl
characters_bytes (c ∷ cs) h =
    let both = and_parts (scalar c) (scalars cs) h in
    list_all-append is_byte (encode_utf8 c) (encode_utf8_all cs) ∙ and_from (list_all is_byte (encode_utf8 c)) (list_all is_byte (encode_utf8_all cs)) (character_bytes c both.0) (characters_bytes cs both.1)

text_bytes : (text : List ℕ) → Permitted text → Bytes text
text_bytes text h = subst Bytes (encodes-chars text h.utf8) (characters_bytes (chars text) (scalars-chars text h.utf8))

-- ---- ids

digit_low : (d : ℕ) → d < 16 → is_low is_written (digit_char d) ≡ true
digit_low d h = low (digit_char d) (grind (arith, nat_tests)) (grind (arith, nat_tests))

own_low : (b : ℕ) → is_id_byte b ≡ true → is_low is_written b ≡ true
own_low b h = low b (grind (arith, nat_tests)) (grind (arith, nat_tests))

byte_small : (b : ℕ) → is_byte b ≡ true → b < 256
byte_small b h = below b 256 h

byte_by : (t : Bool) (b : ℕ) → is_id_byte b ≡ t → b < 256 → Low (if t then b ∷ [] else 46 ∷ digit_char (b / 16) ∷ digit_char (b % 16) ∷ [])
byte_by true b e h = low_cons b [] (own_low b e) refl
byte_by false b e h =
    low_cons 46 (digit_char (b / 16) ∷ digit_char (b % 16) ∷ []) refl
    (low_cons (digit_char (b / 16)) (digit_char (b % 16) ∷ []) (digit_low (b / 16) (omega arith)) (low_cons (digit_char (b % 16)) [] (digit_low (b % 16) (omega arith)) refl))

byte_is : (b : ℕ) → is_byte b ≡ true → Low (id_byte b)
byte_is b h = byte_by (is_id_byte b) b refl (byte_small b h)

id_is : (text : List ℕ) → Bytes text → Low (id_text text)
id_is [] h = refl
id_is (b ∷ text) h = let both = and_parts (is_byte b) (list_all is_byte text) h in low_append (id_byte b) (id_text text) (byte_is b both.0) (id_is text both.1)

title_by : (t : Bool) (bytes : List ℕ) → Low bytes → Low (if t then 58 ∷ [] else bytes)
title_by true bytes h = refl
title_by false bytes h = h

title_is : (title : List ℕ) → Bytes title → Low (chapter_id title)
title_is [] h = refl
title_is (b ∷ title) h =
    let both = and_parts (is_byte b) (list_all is_byte title) h in
    low_append (title_byte b) (chapter_id title) (title_by (b == 32) (id_byte b) (byte_is b both.0)) (title_is title both.1)

entry_id_is : (title word : List ℕ) → Bytes title → Bytes word → Low (entry_id title word)
entry_id_is title word h k = low_append (chapter_id title) (codes "::" ++ id_text word) (title_is title h) (low_append (codes "::") (id_text word) refl (id_is word k))

heading_id_is : (title text : List ℕ) → Bytes title → Bytes text → Low (heading_id title text)
heading_id_is title text h k = low_append (chapter_id title) (codes ":::" ++ id_text text) (title_is title h) (low_append (codes ":::") (id_text text) refl (id_is text k))

date_low : (b : ℕ) → is_date_byte b ≡ true → is_low is_written b ≡ true
date_low b h = low b (grind (arith, nat_tests)) (grind (arith, nat_tests))

number_low : (n : ℕ) → Low (decimal n)
number_low n = weaker is_date_byte (is_low is_written) date_low (decimal n) (number_dates n)

numbered_by : (t : Bool) (id : List ℕ) (n : ℕ) → Low id → Low (if t then id else id ++ (codes "::" ++ decimal (n + 1)))
numbered_by true id n h = h
numbered_by false id n h = low_append id (codes "::" ++ decimal (n + 1)) h (low_append (codes "::") (decimal (n + 1)) refl (number_low (n + 1)))

numbered_is : (id : List ℕ) (n : ℕ) → Low id → Low (numbered id n)
numbered_is id n h = numbered_by (n == 0) id n h

-- ---- what is said of a page

abbrev EventIs : Event → Type 0
EventIs (start e) = Unit {0}
EventIs (start_with_id e id) = Written id
EventIs (start_link target) = Written target
EventIs (say bytes) = Written bytes
EventIs break_line = Unit {0}
EventIs end = Unit {0}

abbrev EventsAre : List Event → Type 0
EventsAre = Each EventIs

two : (es fs : List Event) → EventsAre es → EventsAre fs → EventsAre (es ++ fs)
two = each_append EventIs

in_element : (e : Element) (content : List Event) → EventsAre content → EventsAre (inside e content)
in_element e content h = (tt, two content (end ∷ []) h (tt, tt))

with_id : (e : Element) (id : List ℕ) (content : List Event) → Low id → EventsAre content → EventsAre (inside_with_id e id content)
with_id e id content own h = (low_written id own, two content (end ∷ []) h (tt, tt))

linked : (target : List ℕ) (content : List Event) → Written target → EventsAre content → EventsAre (events.link target content)
linked target content own h = (own, two content (end ∷ []) h (tt, tt))

linked_to : (id : List ℕ) (content : List Event) → Low id → EventsAre content → EventsAre (link_to id content)
linked_to id content own h = linked (codes "#" ++ id) content (low_written (codes "#" ++ id) (low_append (codes "#") id refl own)) h

one_text : (e : Element) (bytes : List ℕ) → Written bytes → EventsAre (text_in e bytes)
one_text e bytes h = in_element e (say bytes ∷ []) (h, tt)

flat : {X : Type 0} (P : X → Type 0) (f : X → List Event) → ((x : X) → P x → EventsAre (f x)) → (xs : List X) → Each P xs → EventsAre (flat_map f xs)
flat P f k xs h = each_flat P EventIs f k xs h

joined : {X : Type 0} (P : X → Type 0) (f : X → List Event) (between : List Event) → EventsAre between → ((x : X) → P x → EventsAre (f x)) → (xs : List X) → Each P xs → EventsAre (join_by f between xs)
joined P f between b k [] h = tt
joined P f between b k (x ∷ xs) h = two (f x) (flat_map (λ y. between ++ f y) xs) (k x h.0) (flat P (λ y. between ++ f y) (λ y p. two between (f y) b (k y p)) xs h.1)

fixed : (text : List ℕ) → Low text → EventsAre (say text ∷ [])
fixed text h = (low_written text h, tt)

-- ---- lines and blocks

piece_is : (piece : Piece) → PieceIs piece → EventsAre (piece_events piece)
piece_is (words text) h = (written text h, tt)
piece_is (literal text) h = one_text Code text (written text h)
piece_is (value text) h = one_text Var text (written text h)
piece_is (link address) h = linked address (say address ∷ []) (written address h) (written address h, tt)
piece_is (page name) h = (written name h, tt)

line_is : (line : Line) → LineIs line → EventsAre (line_events line)
line_is = flat PieceIs piece_events piece_is

lines_are : (lines : List Line) → Each LineIs lines → EventsAre (lines_events lines)
lines_are = joined LineIs line_events (break_line ∷ []) (tt, tt) line_is

item_is : (item : List Line) → Each LineIs item → EventsAre (item_events item)
item_is item h = in_element Li (lines_events item) (lines_are item h)

block_is : (b : BlockSaid) → BlockIs b → EventsAre (block_events b)
block_is (paragraph lines) h = in_element elements.P (lines_events lines) (lines_are lines h)
block_is (code lines) h =
    in_element Pre (inside Code (code_events lines)) (in_element Code (code_events lines) (joined Permitted (λ line. say line ∷ []) (say (codes "\n") ∷ []) (fixed (codes "\n") refl) (λ line p. (written line p, tt)) lines h))
block_is (bullets items) h = in_element Ul (flat_map item_events items) (flat (Each LineIs) item_events item_is items h)

blocks_are : (bs : List BlockSaid) → Each BlockIs bs → EventsAre (blocks_events bs)
blocks_are = flat BlockIs block_events block_is

-- ---- a usage

shown_piece_is : (piece : Piece) → PieceIs piece → EventsAre (usage_piece piece)
shown_piece_is (words text) h = (written text h, tt)
shown_piece_is (literal text) h = one_text Strong text (written text h)
shown_piece_is (value text) h = one_text Var text (written text h)
shown_piece_is (link address) h = (written address h, tt)
shown_piece_is (page name) h = (written name h, tt)

shown_item_is : (item : Line) → LineIs item → EventsAre (usage_item item)
shown_item_is item h = (low_written (codes " ") refl, in_element Code (flat_map usage_piece item) (flat PieceIs usage_piece shown_piece_is item h))

form_is : (form : FormSaid) → FormIs form → EventsAre (form_events form)
form_is form h =
    two (inside Code (text_in Strong form.name)) (flat_map usage_item form.items) (in_element Code (text_in Strong form.name) (one_text Strong form.name (written form.name h.0))) (flat LineIs usage_item shown_item_is form.items h.1)

usage_is : (title : List ℕ) (forms : List FormSaid) → Permitted title → Each FormIs forms → EventsAre (usage_events title forms)
usage_is title forms t h =
    two (text_in (Heading Three) title) (inside Pre (join_by form_events (say (codes "\n") ∷ []) forms)) (one_text (Heading Three) title (written title t))
    (in_element Pre (join_by form_events (say (codes "\n") ∷ []) forms) (joined FormIs form_events (say (codes "\n") ∷ []) (fixed (codes "\n") refl) form_is forms h))

-- ---- entries

terms_are : (terms : List Line) → Each LineIs terms → EventsAre (terms_events terms)
terms_are = joined LineIs line_events (say (codes ", ") ∷ []) (fixed (codes ", ") refl) line_is

own_is : (id : List ℕ) (terms : List Line) → Low id → Each LineIs terms → EventsAre (own_term id terms)
own_is id terms own h = with_id Dt id (link_to id (terms_events terms)) own (linked_to id (terms_events terms) own (terms_are terms h))

module _ (title : List ℕ) (t : Bytes title) where
  id_after_is : (before : List (List ℕ)) (word : List ℕ) → Permitted word → Low (id_after title before word)
  id_after_is before word h = numbered_is (entry_id title word) (times word before) (entry_id_is title word t (text_bytes word h))

  term_is : (before : List (List ℕ)) (word : List ℕ) → Permitted word → (target : Option TargetSaid) → TargetIs target → (terms : List Line) → Each LineIs terms → EventsAre (term_events title before word target terms)
  term_is before word own None g terms h = own_is (id_after title before word) terms (id_after_is before word own) h
  term_is before word own (Some (to_page name)) g terms h = own_is (id_after title before word) terms (id_after_is before word own) h
  term_is before word own (Some (to_heading other)) g terms h =
      in_element Dt (link_to (chapter_id other) (terms_events terms)) (linked_to (chapter_id other) (terms_events terms) (title_is other (text_bytes other g)) (terms_are terms h))

  entry_is : (before : List (List ℕ)) (e : EntrySaid) → EntryIs e → EventsAre (entry_events title before e)
  entry_is before e h =
      two (term_events title before e.word e.target e.terms) (inside Dd (blocks_events e.body)) (term_is before e.word h.word e.target h.target e.terms h.content.0) (in_element Dd (blocks_events e.body) (blocks_are e.body h.content.1))

  entries_are : (before : List (List ℕ)) (es : List EntrySaid) → Each EntryIs es → EventsAre (entries_events title before es)
  entries_are before [] h = tt
  entries_are before (e ∷ es) h = two (entry_events title before e) (entries_events title (before ++ entry_words e) es) (entry_is before e h.0) (entries_are (before ++ entry_words e) es h.1)

  heading_after_is : (before : List (List ℕ)) (text : List ℕ) → Permitted text → Low (heading_after title before text)
  heading_after_is before text h = numbered_is (heading_id title text) (times text before) (heading_id_is title text t (text_bytes text h))

  heading_links_are : (before texts : List (List ℕ)) → Each Permitted texts → EventsAre (heading_links title before texts)
  heading_links_are before [] h = tt
  heading_links_are before (text ∷ texts) h =
      let id : List ℕ = heading_after title before text in
      two (heading_link title before text) (heading_links title (before ++ text ∷ []) texts)
      (in_element Li (link_to id (say text ∷ [])) (linked_to id (say text ∷ []) (heading_after_is before text h.0) (written text h.0, tt)))
      (heading_links_are (before ++ text ∷ []) texts h.1)

headings_are : (part : PartSaid) → PartIs part → Each Permitted (headings_of part)
headings_are (heading rank text) h = (h, tt)
headings_are (usage forms) h = tt
headings_are (block shown) h = tt
headings_are (entries list) h = tt

-- ---- levels

record FrameIs (frame : FrameSaid) : Type 0 where
  contents : Permitted frame.contents
  usage : Permitted frame.usage
  foot : Permitted frame.foot

module _ (frame : FrameSaid) (f : FrameIs frame) where
  part_is : (title : List ℕ) → Bytes title → (before : Before) (part : PartSaid) → PartIs part → EventsAre (part_events frame title before part)
  part_is title t before (heading rank text) h = with_id (Heading Three) (heading_after title before.headings text) (say text ∷ []) (heading_after_is title t before.headings text h) (written text h, tt)
  part_is title t before (usage forms) h = usage_is frame.usage forms f.usage h
  part_is title t before (block shown) h = block_is shown h
  part_is title t before (entries list) h = in_element Dl (entries_events title before.words list) (entries_are title t before.words list h)

  parts_are : (title : List ℕ) → Bytes title → (before : Before) (parts : List PartSaid) → Each PartIs parts → EventsAre (parts_events frame title before parts)
  parts_are title t before [] h = tt
  parts_are title t before (part ∷ parts) h =
      two (part_events frame title before part) (parts_events frame title (counted before part) parts) (part_is title t before part h.0) (parts_are title t (counted before part) parts h.1)

  top_is : (title : List ℕ) → Permitted title → (parts : List PartSaid) → Each PartIs parts → (lower : ChaptersSaid) → EventsAre (top_section frame title parts lower)
  top_is title p parts h no_chapters = let t = text_bytes title p in with_id Section (chapter_id title) (parts_events frame title nothing_before parts) (title_is title t) (parts_are title t nothing_before parts h)
  top_is title p parts h (chapters first others) =
      let t = text_bytes title p in
      let shown : List Event = parts_events frame title nothing_before parts in
      with_id Section (chapter_id title) (text_in (Heading Two) title ++ shown) (title_is title t) (two (text_in (Heading Two) title) shown (one_text (Heading Two) title (written title p)) (parts_are title t nothing_before parts h))

  mutual
    section_is : (c : ChapterSaid) → ChapterIs c → EventsAre (chapter_sections frame c)
    section_is (chapter title name about parts lower) h =
        let t = text_bytes title h.0 in
        let shown : List Event = parts_events frame title nothing_before parts in
        let own : List Event = text_in (Heading Two) title ++ (blocks_events about ++ shown) in
        two (inside_with_id Section (chapter_id title) own) (chapters_sections frame lower)
        (with_id Section (chapter_id title) own (title_is title t)
        (two (text_in (Heading Two) title) (blocks_events about ++ shown) (one_text (Heading Two) title (written title h.0)) (two (blocks_events about) shown (blocks_are about h.2) (parts_are title t nothing_before parts h.3))))
        (sections_are lower h.4)

    sections_are : (cs : ChaptersSaid) → ChaptersIs cs → EventsAre (chapters_sections frame cs)
    sections_are no_chapters h = tt
    sections_are (chapters first others) h = two (chapter_sections frame first) (chapters_sections frame others) (section_is first h.0) (sections_are others h.1)

  listed_is : (t : Bool) (es : List Event) → EventsAre es → EventsAre (listed_links t es)
  listed_is true es h = in_element Ul es h
  listed_is false es h = tt

  mutual
    links_are : (c : ChapterSaid) → ChapterIs c → EventsAre (chapter_links c)
    links_are (chapter title name about parts lower) h =
        let t = text_bytes title h.0 in
        let first : List Event = link_to (chapter_id title) (say name ∷ []) in
        let headings : List Event = heading_links title [] (flat_map headings_of parts) in
        let items : List Event = headings ++ chapters_links lower in
        in_element Li (first ++ listed_links (has_links parts lower) items)
        (two first (listed_links (has_links parts lower) items) (linked_to (chapter_id title) (say name ∷ []) (title_is title t) (written name h.1, tt))
        (listed_is (has_links parts lower) items
        (two headings (chapters_links lower) (heading_links_are title t [] (flat_map headings_of parts) (each_flat PartIs Permitted headings_of headings_are parts h.3)) (all_links_are lower h.4))))

    all_links_are : (cs : ChaptersSaid) → ChaptersIs cs → EventsAre (chapters_links cs)
    all_links_are no_chapters h = tt
    all_links_are (chapters first others) h = two (chapter_links first) (chapters_links others) (links_are first h.0) (all_links_are others h.1)

  nav_is : (top : ChapterSaid) → ChapterIs top → EventsAre (nav_events frame top)
  nav_is (chapter title name about parts lower) h =
      let links : List Event = inside Ul (chapter_links (chapter title name about parts lower)) in
      let own : List Event = text_in (Heading Two) frame.contents ++ links in
      each_if EventIs (has_links parts lower) (inside Nav own)
      (in_element Nav own (two (text_in (Heading Two) frame.contents) links (one_text (Heading Two) frame.contents (written frame.contents f.contents))
      (in_element Ul (chapter_links (chapter title name about parts lower)) (links_are (chapter title name about parts lower) h))))

  header_is : (top : ChapterSaid) → ChapterIs top → EventsAre (header_events top)
  header_is (chapter title name about parts lower) h =
      in_element Header (text_in (Heading One) title ++ blocks_events about) (two (text_in (Heading One) title) (blocks_events about) (one_text (Heading One) title (written title h.0)) (blocks_are about h.2))

  main_is : (top : ChapterSaid) → ChapterIs top → EventsAre (main_events frame top)
  main_is (chapter title name about parts lower) h =
      in_element Main (top_section frame title parts lower ++ chapters_sections frame lower) (two (top_section frame title parts lower) (chapters_sections frame lower) (top_is title h.0 parts h.3 lower) (sections_are lower h.4))

  footer_is : EventsAre (footer_events frame.foot)
  footer_is = each_if EventIs (list_any is_ink frame.foot) (inside Footer (text_in elements.P frame.foot)) (in_element Footer (text_in elements.P frame.foot) (one_text elements.P frame.foot (written frame.foot f.foot)))

  page_is : (top : ChapterSaid) → ChapterIs top → EventsAre (page_events frame top)
  page_is top h =
      two (header_events top) (nav_events frame top ++ (main_events frame top ++ footer_events frame.foot)) (header_is top h)
      (two (nav_events frame top) (main_events frame top ++ footer_events frame.foot) (nav_is top h) (two (main_events frame top) (footer_events frame.foot) (main_is top h) footer_is))

-- ---- faults

-- whether a text is at fault
abbrev blames_text : Option PageError → Bool
blames_text None = false
blames_text (Some (errors.Refused refused)) = false
blames_text (Some errors.Language) = false
blames_text (Some errors.Title) = false
blames_text (Some errors.Style) = false
blames_text (Some errors.Character) = true
blames_text (Some errors.Id) = false
blames_text (Some errors.Misplaced) = false
blames_text (Some errors.NoInk) = false

abbrev Blameless : Option PageError → Type 0
Blameless fault = blames_text fault ≡ false

unless_other : (t : Bool) (error : PageError) (next : Option PageError) → Blameless (Some error) → Blameless next → Blameless (unless t error next)
unless_other true error next h k = k
unless_other false error next h k = h

unless_written : (t : Bool) (next : Option PageError) → t ≡ true → Blameless next → Blameless (unless t errors.Character next)
unless_written true next h k = k
unless_written false next h k = absurd (false≢true h)

child_fine : (draft : Draft) (child : Child) → Blameless (child_fault draft child)
child_fine draft child = unless_other (may_stand draft child) errors.Misplaced None refl refl

event_fine : (draft : Draft) (event : Event) → EventIs event → Blameless (event_fault draft event)
event_fine draft (start e) h = child_fine draft (Inner (Of e))
event_fine draft (start_with_id e id) h =
    unless_other (fits_attributes (Of e) (attribute (codes "id") id)) errors.Id _ refl (unless_written (are_written id) (child_fault draft (Inner (Of e))) h (child_fine draft (Inner (Of e))))
event_fine draft (start_link target) h = unless_written (are_written target) (child_fault draft (Inner A)) h (child_fine draft (Inner A))
event_fine draft (say bytes) h = unless_written (are_written bytes) (child_fault draft Words) h (child_fine draft Words)
event_fine draft break_line h = child_fine draft (Inner Br)
event_fine draft end h =
    unless_other (is_inside_body draft.open_elements && may_end_in draft.open_elements draft.nodes) errors.Misplaced _ refl (unless_other (has_ink_in draft.open_elements draft.nodes) errors.NoInk None refl refl)

first_fine : (fault next : Option PageError) → Blameless fault → Blameless next → Blameless (first_fault fault next)
first_fine None next h k = k
first_fine (Some error) next h k = h

events_fine : (draft : Draft) (es : List Event) → EventsAre es → Blameless (events_fault draft es)
events_fine draft [] h = refl
events_fine draft (event ∷ es) h = first_fine (event_fault draft event) (events_fault (with_event draft event) es) (event_fine draft event h.0) (events_fine (with_event draft event) es h.1)

head_fine : (language title : List ℕ) → Permitted title → Blameless (calls.page_fault language title style_sheet)
head_fine language title h =
    unless_other (is_language language) errors.Language _ refl
    (unless_other (list_any is_ink title) errors.Title _ refl
    (unless_other (not (has_end_sign style_sheet)) errors.Style _ refl
    (unless_written (are_written title && are_written style_sheet) None (and_from (are_written title) (are_written style_sheet) (written title h) (low_written style_sheet refl)) refl)))

top_fine : (frame : FrameSaid) (top : ChapterSaid) → ChapterIs top → Blameless (head_fault frame top)
top_fine frame (chapter title name about parts lower) h = head_fine frame.language title h.0

finish_fine : (draft : Draft) → Blameless (finish_fault draft)
finish_fine draft = unless_other (not (is_inside_body draft.open_elements) && may_end_in draft.open_elements draft.nodes) errors.Misplaced None refl refl

pub page_fine : (frame : FrameSaid) (top : ChapterSaid) → Permitted frame.contents → Permitted frame.usage → Permitted frame.foot → ChapterIs top → page_fault frame top ≡ Some errors.Character → ⊥
page_fine frame top c u f h e = false≢true (sym (fine c u f) ∙ ap blames_text e) where
  fine : Permitted frame.contents → Permitted frame.usage → Permitted frame.foot → Blameless (page_fault frame top)
  fine c u f =
      first_fine (head_fault frame top) (first_fault (events_fault (begun_page frame top) (page_events frame top)) (finish_fault (page_draft frame top))) (top_fine frame top h)
      (first_fine (events_fault (begun_page frame top) (page_events frame top)) (finish_fault (page_draft frame top))
      (events_fine (begun_page frame top) (page_events frame top) (page_is frame (record { contents = c; usage = u; foot = f }) top h)) (finish_fine (page_draft frame top)))
