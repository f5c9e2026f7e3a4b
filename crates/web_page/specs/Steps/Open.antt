-- What the code keeps of a page: of each open element its tag, the node that is last in it, whether it has ink, and
-- whether it is in a link.
use Rattle.std.specs.Prelude.{◌≡◌, ℕ, length, fold, Bool, true, false, not, ◌||◌, List, [], ◌∷◌, ◌++◌, Option, Some, None, Result, Ok, Err, unwrap_or, ◌&&◌, codes}
use Rattle.std.specs.List.{list_any, list_all}
use Rattle.std.specs.Str.{IsUtf8, chars}
use Rattle.web_page.specs.Tree.{Attribute, Nodes, is_tag, none}
use Rattle.web_page.specs.Reader.{Frame, Draft, Content, are_kept, is_permitted, joined, next, no_draft, reading, reading_of}
use Rattle.web_page.specs.Models.{are_fit, are_in_order, empty_body, fits_attributes, has_ink, is_ink, is_language, last_child, may_end, wants_ink}
use Rattle.web_page.specs.Calls.{are_written, attribute, is_in_link, may_stand_in, new_page}
use Rattle.web_page.specs.declared.elements.Child.TheVariants.{Words, Inner}
use Rattle.web_page.specs.declared.elements.Tag.{Tag}
use Rattle.web_page.specs.declared.elements.Tag.TheVariants.{A, Of}
use Rattle.web_page.specs.declared.errors.PageError.{PageError}
use Rattle.web_page.specs.declared.output.Key.{Key}
use Rattle.web_page.specs.declared.output.Key.TheVariants.{Nothing, Id, Target, Place}
use Rattle.web_page.specs.declared.writer.Open.{Open}

-- what is kept of the innermost open element, the frames around it, and the nodes so far in it
pub record Describes (here : Open) (frame : Frame) (frames : List Frame) (nodes : Nodes) : Type 0 where
  pub tag : here.tag ≡ frame.tag
  pub before : here.before ≡ last_child None nodes
  pub ink : here.has_ink ≡ has_ink nodes
  pub in_link : here.in_link ≡ is_in_link (frame ∷ frames)
  pub ordered : are_in_order frame.tag None nodes ≡ true
  pub fit : are_fit (is_in_link (frame ∷ frames)) nodes ≡ true
  pub kept : are_kept nodes ≡ true
  pub attributes : fits_attributes frame.tag frame.attributes ≡ true

-- the outermost is the body of a page that has a language and a title
pub record IsBody (frame : Frame) (frames : List Frame) : Type 0 where
  pub language : List ℕ
  pub title : List ℕ
  pub style : List ℕ
  pub is : frame ∷ frames ≡ (new_page language title style).open_elements
  pub is_language : is_language language ≡ true
  pub has_title : list_any is_ink title ≡ true

-- the same of each open element, the innermost first; each one around another may hold that one
abbrev pub AreOpen : Open → List Open → List Frame → Nodes → Type 0
AreOpen here outers [] nodes = ⊥
AreOpen here [] (frame ∷ frames) nodes = Describes here frame frames nodes × IsBody frame frames
AreOpen here (outer ∷ outers) (frame ∷ frames) nodes =
    Describes here frame frames nodes
    × (may_stand_in frames frame.before (Inner frame.tag) ≡ true)
    × AreOpen outer outers frames frame.before

-- open elements in this body, after these nodes, in place of the outermost two
abbrev pub moved : Nodes → List Frame → List Frame → List Frame
moved before body (frame ∷ outer ∷ outermost ∷ []) = record frame { before = joined before frame.before } ∷ body
moved before body (frame ∷ outer ∷ outermost ∷ around ∷ frames) = frame ∷ moved before body (outer ∷ outermost ∷ around ∷ frames)
moved before body frames = body

-- the nodes in the innermost of them
abbrev pub moved_nodes : Nodes → List Frame → Nodes → Nodes
moved_nodes before (frame ∷ outer ∷ outermost ∷ frames) nodes = nodes
moved_nodes before frames nodes = joined before nodes

-- what is in the body so far, after these nodes in the body of a page with another head
abbrev pub in_page : List ℕ → Nodes → Nodes → Draft → Draft
in_page language head before draft = record {
  open_elements = moved before (empty_body language head).open_elements draft.open_elements;
  nodes = moved_nodes before draft.open_elements draft.nodes;
}

-- what follows that many bytes of a text reads so in the body of each page
pub record IsContent (bytes : List ℕ) (at : ℕ) (draft : Draft) : Type 0 where
  pub front : List ℕ
  pub content : List ℕ
  pub split : bytes ≡ front ++ content
  pub begins : length front ≡ at
  pub utf8 : IsUtf8 content
  pub permitted : list_all is_permitted (chars content) ≡ true
  pub reads : (language : List ℕ) (head before : Nodes)
      → fold next (reading Content (Some (record (empty_body language head) { nodes = joined before none }))) content
      ≡ reading Content (Some (in_page language head before draft))

-- a text that reads as an open page, whose body's content begins after that many bytes
pub record IsOngoing (bytes : List ℕ) (at : ℕ) (here : Open) (outers : List Open) : Type 0 where
  pub draft : Draft
  pub reads : reading_of bytes ≡ reading Content (Some draft)
  pub permitted : list_all is_permitted (chars bytes) ≡ true
  pub are_open : AreOpen here outers draft.open_elements draft.nodes
  pub content : IsContent bytes at draft

-- the page that a text reads as so far
abbrev pub draft_of : List ℕ → Draft
draft_of bytes = unwrap_or (reading_of bytes).draft no_draft

-- an element that was just started
abbrev pub opened : Open → Tag → Open
opened outer tag = record { tag = tag; before = None; has_ink = false; in_link = is_tag A tag || outer.in_link }

-- after an element with ink or without it
abbrev pub after_child : Open → Tag → Bool → Open
after_child here tag ink = record here { before = Some (Inner tag); has_ink = here.has_ink || ink }

-- after a text
abbrev pub after_text : Open → List ℕ → Open
after_text here [] = here
after_text here (b ∷ bytes) = record here { before = Some Words; has_ink = here.has_ink || list_any is_ink (b ∷ bytes) }

-- the code's answer whether the innermost element may end
abbrev pub ends : Open → Bool
ends here = may_end here.tag here.before

abbrev pub inked : Open → Bool
inked here = not (wants_ink here.tag) || here.has_ink

-- an attribute, if there is one
abbrev pub attributes_of : Key → List ℕ → List Attribute
attributes_of Nothing value = []
attributes_of Id value = attribute (codes "id") value
attributes_of Target value = attribute (codes "href") value
attributes_of Place value = attribute (codes "href") (codes "#" ++ value)

-- an element that calls start
abbrev pub is_inner : Tag → Bool
is_inner A = true
is_inner (Of e) = true
is_inner _ = false

-- whether a start tag may be written with this
abbrev pub may_give : Tag → Key → List ℕ → Bool
may_give tag Nothing value = is_inner tag && fits_attributes tag []
may_give tag Id value = is_inner tag && fits_attributes tag (attribute (codes "id") value) && are_written value
may_give tag Target value = is_inner tag && fits_attributes tag (attribute (codes "href") value) && are_written value
may_give tag Place value = is_inner tag && fits_attributes tag (attribute (codes "href") (codes "#" ++ value)) && are_written value

-- no fault is Ok
abbrev pub checked : Option PageError → Result (Unit {0}) PageError
checked None = Ok tt
checked (Some fault) = Err fault
