-- The attributes in the tree of a page: those that its events give, in order.
use Rattle.std.proofs.Common.{◌≡◌, ℕ, List, [], ◌∷◌, ◌++◌, codes, flat_map, fold, map, refl, sym, ap, ap₂, ◌∙◌, append_assoc, append-nil, arith}
use Rattle.web_page.specs.Tree.{Nodes, none, text, element}
use Rattle.web_page.specs.Reader.{Draft, Frame, joined, with_byte}
use Rattle.web_page.specs.Calls.{attribute, new_page, whole_page, with_end, with_end_in, with_words}
use Rattle.web_page.specs.declared.elements.Tag.{Tag}
use Rattle.web_page.specs.declared.elements.Tag.TheVariants.{A, Body, Html, Of}
use Rattle.page_model.specs.Content.{ChapterSaid}
use Rattle.html_page.specs.Events.{Event, start, start_with_id, start_link, say, break_line, end, with_event, with_events}
use Rattle.html_page.specs.Laws.{values_in, values_named}
use Rattle.html_page.specs.Page.{page_events, title_of}
use Rattle.html_page.specs.Promises.{page_tree}
use Rattle.html_page.specs.Style.{style_sheet}
use Rattle.html_page.specs.View.{FrameSaid}

-- ---- what events give

abbrev pub event_values : (name : List ℕ) → Event → List (List ℕ)
event_values name (start e) = []
event_values name (start_with_id e id) = values_named name (attribute (codes "id") id)
event_values name (start_link target) = values_named name (attribute (codes "href") target)
event_values name (say bytes) = []
event_values name break_line = []
event_values name end = []

abbrev pub given_in : (name : List ℕ) → List Event → List (List ℕ)
given_in name = flat_map (event_values name)

-- the elements that are open after an event, the innermost first
abbrev pub outer : List Tag → List Tag
outer [] = []
outer (tag ∷ tags) = tags

abbrev pub opened : List Tag → Event → List Tag
opened tags (start e) = Of e ∷ tags
opened tags (start_with_id e id) = Of e ∷ tags
opened tags (start_link target) = A ∷ tags
opened tags (say bytes) = tags
opened tags break_line = tags
opened tags end = outer tags

-- ---- nodes

module _ (name : List ℕ) where
  values_joined : (a b : Nodes) → values_in name (joined a b) ≡ values_in name a ++ values_in name b
  values_joined none b = refl
  values_joined (text bytes rest) b = values_joined rest b
  values_joined (element tag given content rest) b = grind (arith, values_joined rest b, append_assoc)

  after_text : (bytes : List ℕ) (rest : Nodes) (b : ℕ) → values_in name (with_byte rest b) ≡ values_in name rest → values_in name (with_byte (text bytes rest) b) ≡ values_in name rest
  after_text bytes rest b h3 = grind arith

  values_byte : (nodes : Nodes) (b : ℕ) → values_in name (with_byte nodes b) ≡ values_in name nodes
  values_byte none b = refl
  values_byte (text bytes rest) b = after_text bytes rest b (values_byte rest b)
  values_byte (element tag given content rest) b = ap (λ vs. values_named name given ++ (values_in name content ++ vs)) (values_byte rest b)

  values_words : (bytes : List ℕ) (nodes : Nodes) → values_in name (with_words nodes bytes) ≡ values_in name nodes
  values_words [] nodes = refl
  values_words (b ∷ bytes) nodes = values_words bytes (with_byte nodes b) ∙ values_byte nodes b

  -- ---- drafts

  -- of the open elements, with what stands before them
  abbrev open_values : List Frame → List (List ℕ)
  open_values [] = []
  open_values (frame ∷ frames) = open_values frames ++ (values_in name frame.before ++ values_named name frame.attributes)

  abbrev draft_values : Draft → List (List ℕ)
  draft_values draft = open_values draft.open_elements ++ values_in name draft.nodes

  ended : (frames : List Frame) (nodes : Nodes) → draft_values (with_end_in frames nodes) ≡ open_values frames ++ values_in name nodes
  ended frames nodes = grind (arith, values_joined, append-nil, append_assoc)

  one_event : (draft : Draft) (e : Event) → draft_values (with_event draft e) ≡ draft_values draft ++ event_values name e
  one_event draft (start e) = grind (arith, append-nil, append_assoc)
  one_event draft (start_with_id e id) = grind (arith, append-nil, append_assoc)
  one_event draft (start_link target) = grind (arith, append-nil, append_assoc)
  one_event draft (say bytes) = ap (λ vs. open_values draft.open_elements ++ vs) (values_words bytes draft.nodes) ∙ sym (append-nil (draft_values draft))
  one_event draft break_line = grind (arith, values_joined, append-nil)
  one_event draft end = ended draft.open_elements draft.nodes ∙ sym (append-nil (draft_values draft))

  all_events : (es : List Event) (draft : Draft) → draft_values (with_events draft es) ≡ draft_values draft ++ given_in name es
  all_events [] draft = sym (append-nil (draft_values draft))
  all_events (e ∷ es) draft = grind (arith, all_events es (with_event draft e), one_event draft e, append_assoc (draft_values draft) (event_values name e) (given_in name es))

  -- two elements are open, and end
  both_end : (frames : List Frame) (nodes : Nodes) (first second : Tag) → map (λ (f : Frame). f.tag) frames ≡ first ∷ second ∷ [] → values_in name (with_end (with_end_in frames nodes)).nodes ≡ open_values frames ++ values_in name nodes
  both_end (f ∷ g ∷ []) nodes first second e = ended (g ∷ []) (with_end_in (f ∷ g ∷ []) nodes).nodes ∙ ended (f ∷ g ∷ []) nodes
  both_end x nodes first second e = cc

-- ---- open elements

abbrev tags_of : List Frame → List Tag
tags_of = map (λ (f : Frame). f.tag)

ended_tags : (frames : List Frame) (nodes : Nodes) → tags_of (with_end_in frames nodes).open_elements ≡ outer (tags_of frames)
ended_tags frames nodes = grind arith

one_opened : (draft : Draft) (e : Event) → tags_of (with_event draft e).open_elements ≡ opened (tags_of draft.open_elements) e
one_opened draft e = grind (arith, ended_tags)

all_opened : (es : List Event) (draft : Draft) → tags_of (with_events draft es).open_elements ≡ fold opened (tags_of draft.open_elements) es
all_opened [] draft = refl
all_opened (e ∷ es) draft = all_opened es (with_event draft e) ∙ ap (λ tags. fold opened tags es) (one_opened draft e)

-- ---- the page

-- each element that events start they end
abbrev pub AreBalanced : List Event → Type 0
AreBalanced es = (tags : List Tag) → fold opened tags es ≡ tags

module _ (name : List ℕ) (language title style : List ℕ) (es : List Event) (balanced : AreBalanced es) where
  page_values : draft_values name (new_page language title style) ≡ [] → values_in name (whole_page (with_events (new_page language title style) es)) ≡ given_in name es
  page_values front =
      let new : Draft = new_page language title style in
      let page : Draft = with_events new es in
      both_end name page.open_elements page.nodes Body Html (all_opened es new ∙ balanced (Body ∷ Html ∷ []))
      ∙ all_events name es new ∙ ap (λ vs. vs ++ given_in name es) front

front_values : (name title style : List ℕ) → ((values_in name (with_words none title) ++ (values_in name (with_words none style) ++ [])) ++ []) ++ [] ≡ []
front_values name title style = ap₂ (λ vs ws. ((vs ++ (ws ++ [])) ++ []) ++ []) (values_words name title none) (values_words name style none)

module _ (frame : FrameSaid) (top : ChapterSaid) (balanced : AreBalanced (page_events frame top)) where
  pub page_ids : values_in (codes "id") (page_tree frame top) ≡ given_in (codes "id") (page_events frame top)
  page_ids = page_values (codes "id") frame.language (title_of top) style_sheet (page_events frame top) balanced (append-nil _ ∙ front_values (codes "id") (title_of top) style_sheet)

  pub page_targets : values_in (codes "href") (page_tree frame top) ≡ given_in (codes "href") (page_events frame top)
  page_targets = page_values (codes "href") frame.language (title_of top) style_sheet (page_events frame top) balanced (append-nil _ ∙ front_values (codes "href") (title_of top) style_sheet)
