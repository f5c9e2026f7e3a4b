-- What each element may hold, and with which attributes.
use Rattle.std.specs.Prelude.{◌≡◌, ℕ, Bool, true, false, not, ◌&&◌, ◌||◌, ◌==◌, nat_le, List, [], ◌∷◌, ◌++◌, Option, Some, None, is_none, length, codes}
use Rattle.std.specs.List.{list_any, list_all}
use Rattle.std.specs.Str.{bytes_eq}
use Rattle.web_page.specs.Tree.{Attribute, Nodes, none, text, element, is_tag}
use Rattle.web_page.specs.declared.elements.Tag.{Tag}
use Rattle.web_page.specs.declared.elements.Tag.TheVariants.{Html, Head, Meta, Title, Style, Body, Br, A, Of}
use Rattle.web_page.specs.Reader.{Draft, Content, is_text, is_white, is_whole, read, reading, reading_of}
use Rattle.web_page.specs.declared.elements.Element.{Element}
use Rattle.web_page.specs.declared.elements.Child.{Child}
use Rattle.web_page.specs.declared.elements.Child.TheVariants.{Words, Inner}
use Rattle.web_page.specs.declared.elements.Level.TheVariants.{One}
use Rattle.web_page.specs.declared.elements.Element.TheVariants.{Header, Nav, Main, Footer, Section, Heading, P, Pre, Ul, Li, Dl, Dt, Dd, Code, Strong, Em, Var}

-- ---- what may follow what

-- whether a child is an element of one of these kinds
abbrev pub is_child : List Tag → Child → Bool
is_child tags Words = false
is_child tags (Inner tag) = list_any (is_tag tag) tags

abbrev pub is_words : Child → Bool
is_words Words = true
is_words (Inner tag) = false

-- a child within a line
abbrev pub is_phrasing : Child → Bool
is_phrasing child = is_words child || is_child (Of Code ∷ Of Strong ∷ Of Em ∷ Of Var ∷ A ∷ Br ∷ []) child

-- a heading of any level, or an element that stands by itself
abbrev pub is_flow : Child → Bool
is_flow child = is_child (Of (Heading One) ∷ Of P ∷ Of Pre ∷ Of Ul ∷ Of Dl ∷ []) child

-- whether the child before, if there is one, is such a child
abbrev pub is_after : (Child → Bool) → Option Child → Bool
is_after test None = false
is_after test (Some before) = test before

-- whether a child may stand in an element of the body, after this child or, at None, as the first one
abbrev pub element_may_hold : Element → Option Child → Child → Bool
-- headings, paragraphs, preformatted text, lists
element_may_hold Header before child = is_flow child
element_may_hold Nav before child = is_flow child
element_may_hold Main before child = is_flow child || is_child (Of Section ∷ []) child
element_may_hold Footer before child = is_flow child
element_may_hold Section before child = is_flow child || is_child (Of Section ∷ []) child
element_may_hold (Heading level) before child = is_phrasing child
element_may_hold P before child = is_phrasing child
element_may_hold Pre before child = is_phrasing child
-- items
element_may_hold Ul before child = is_child (Of Li ∷ []) child
-- what stands within a line, and after it at most one list
element_may_hold Li before child =
    not (is_after (is_child (Of Ul ∷ [])) before) && (is_phrasing child || is_child (Of Ul ∷ []) child)
-- a term first, and then terms and descriptions
element_may_hold Dl before child = is_child (Of Dt ∷ []) child || (is_child (Of Dd ∷ []) child && not (is_none before))
element_may_hold Dt before child = is_phrasing child
-- what stands within a line, or elements that stand by themselves, never both
element_may_hold Dd before child =
    (is_phrasing child && (is_none before || is_after is_phrasing before))
    || (is_child (Of P ∷ Of Pre ∷ Of Ul ∷ Of Dl ∷ []) child && not (is_after is_phrasing before))
element_may_hold Code before child = is_phrasing child
element_may_hold Strong before child = is_phrasing child
element_may_hold Em before child = is_phrasing child
element_may_hold Var before child = is_phrasing child

-- the same for any element
abbrev pub may_hold : Tag → Option Child → Child → Bool
-- the head and then the body
may_hold Html before child =
    (is_child (Head ∷ []) child && is_none before)
    || (is_child (Body ∷ []) child && is_after (is_child (Head ∷ [])) before)
-- meta elements, the title, the style
may_hold Head before child =
    (is_child (Meta ∷ []) child && (is_none before || is_after (is_child (Meta ∷ [])) before))
    || (is_child (Title ∷ []) child && is_after (is_child (Meta ∷ [])) before)
    || (is_child (Style ∷ []) child && is_after (is_child (Title ∷ [])) before)
may_hold Meta before child = false
may_hold Title before child = is_words child
may_hold Style before child = is_words child
-- at most one header, then at most one nav, then one main, then at most one footer
may_hold Body before child =
    (is_child (Of Header ∷ []) child && is_none before)
    || (is_child (Of Nav ∷ []) child && (is_none before || is_after (is_child (Of Header ∷ [])) before))
    || (is_child (Of Main ∷ []) child && (is_none before || is_after (is_child (Of Header ∷ Of Nav ∷ [])) before))
    || (is_child (Of Footer ∷ []) child && is_after (is_child (Of Main ∷ [])) before)
may_hold Br before child = false
may_hold A before child = is_phrasing child
may_hold (Of e) before child = element_may_hold e before child

-- whether an element may end after this child
abbrev pub may_end : Tag → Option Child → Bool
may_end Html last = is_after (is_child (Body ∷ [])) last
may_end Head last = is_after (is_child (Style ∷ [])) last
may_end Body last = is_after (is_child (Of Main ∷ Of Footer ∷ [])) last
may_end (Of Dl) last = is_after (is_child (Of Dd ∷ [])) last
may_end _ last = true

-- the last of some nodes, otherwise the child before them
abbrev pub last_child : Option Child → Nodes → Option Child
last_child before none = before
last_child before (text bytes rest) = last_child (Some Words) rest
last_child before (element tag attributes content rest) = last_child (Some (Inner tag)) rest

-- whether each node may follow the one before it
abbrev pub are_in_order : Tag → Option Child → Nodes → Bool
are_in_order tag before none = true
are_in_order tag before (text bytes rest) = may_hold tag before Words && are_in_order tag (Some Words) rest
are_in_order tag before (element inner attributes content rest) =
    may_hold tag before (Inner inner) && are_in_order tag (Some (Inner inner)) rest

-- ---- ink

-- a byte that is not white space
abbrev pub is_ink : ℕ → Bool
is_ink b = not (is_white b)

-- whether one is in the nodes, at any depth
abbrev pub has_ink : Nodes → Bool
has_ink none = false
has_ink (text bytes rest) = list_any is_ink bytes || has_ink rest
has_ink (element tag attributes content rest) = has_ink content || has_ink rest

-- headings, paragraphs, lists and the title have ink
abbrev pub wants_ink : Tag → Bool
wants_ink tag = list_any (is_tag tag) (Title ∷ Of (Heading One) ∷ Of P ∷ Of Ul ∷ Of Dl ∷ [])

-- ---- attributes

-- ASCII letters, digits and `-`, not empty
abbrev pub is_language_byte : ℕ → Bool
is_language_byte b =
    (nat_le 97 b && nat_le b 122)
    || (nat_le 65 b && nat_le b 90)
    || (nat_le 48 b && nat_le b 57) || b == 45

abbrev pub is_language : List ℕ → Bool
is_language bytes = not (length bytes == 0) && list_all is_language_byte bytes

-- not empty, and without white space
abbrev pub is_id : List ℕ → Bool
is_id bytes = not (length bytes == 0) && list_all is_ink bytes

-- one attribute, of this name and with such a value
abbrev pub is_lone : List ℕ → (List ℕ → Bool) → List Attribute → Bool
is_lone name test [] = false
is_lone name test (attribute ∷ []) = bytes_eq attribute.name name && test attribute.value
is_lone name test (attribute ∷ _) = false

abbrev pub is_empty_list : List Attribute → Bool
is_empty_list [] = true
is_empty_list (attribute ∷ attributes) = false

-- the encoding
abbrev pub is_charset : List Attribute → Bool
is_charset (attribute ∷ []) = bytes_eq attribute.name (codes "charset") && bytes_eq attribute.value (codes "utf-8")
is_charset _ = false

-- the encoding, or that a line is as wide as the screen
abbrev pub is_meta : List Attribute → Bool
is_meta (attribute ∷ []) = is_charset (attribute ∷ [])
is_meta (first ∷ second ∷ []) =
    bytes_eq first.name (codes "name") && bytes_eq first.value (codes "viewport")
    && bytes_eq second.name (codes "content") && bytes_eq second.value (codes "width=device-width")
is_meta _ = false

-- an html element has its language, a link its target; a section, a heading or a term may have an id
abbrev pub fits_attributes : Tag → List Attribute → Bool
fits_attributes Html attributes = is_lone (codes "lang") is_language attributes
fits_attributes Meta attributes = is_meta attributes
fits_attributes A attributes = is_lone (codes "href") (λ _. true) attributes
fits_attributes (Of Section) attributes = is_empty_list attributes || is_lone (codes "id") is_id attributes
fits_attributes (Of (Heading level)) attributes = is_empty_list attributes || is_lone (codes "id") is_id attributes
fits_attributes (Of Dt) attributes = is_empty_list attributes || is_lone (codes "id") is_id attributes
fits_attributes _ attributes = is_empty_list attributes

-- ---- the page

-- whether an element is as its model has it
abbrev pub fits_model : Tag → List Attribute → Nodes → Bool
fits_model tag attributes content =
    fits_attributes tag attributes && are_in_order tag None content && may_end tag (last_child None content)
    && (not (wants_ink tag) || has_ink content)

-- whether each of the nodes is, at any depth, with no link in a link
abbrev pub are_fit : Bool → Nodes → Bool
are_fit in_link none = true
are_fit in_link (text bytes rest) = are_fit in_link rest
are_fit in_link (element tag attributes content rest) =
    fits_model tag attributes content && not (in_link && is_tag A tag) && are_fit (is_tag A tag || in_link) content
    && are_fit in_link rest

-- the content of the first element
abbrev pub first_content : Nodes → Nodes
first_content none = none
first_content (text bytes rest) = none
first_content (element tag attributes content rest) = content

-- whether no element among the nodes says the encoding
abbrev pub lacks_encoding : Nodes → Bool
lacks_encoding none = true
lacks_encoding (text bytes rest) = lacks_encoding rest
lacks_encoding (element tag attributes content rest) = not (is_tag Meta tag && is_charset attributes) && lacks_encoding rest

-- whether the first one does, and no other
abbrev pub begins_with_encoding : Nodes → Bool
begins_with_encoding none = false
begins_with_encoding (text bytes rest) = false
begins_with_encoding (element tag attributes content rest) = is_tag Meta tag && is_charset attributes && lacks_encoding rest

-- a page: an html element whose head says the encoding first, with all that is in it as its model has it
pub record IsPage (nodes : Nodes) : Type 0 where
  pub whole : is_whole nodes ≡ true
  pub fit : are_fit false nodes ≡ true
  pub encoded : begins_with_encoding (first_content (first_content nodes)) ≡ true

-- a text that reads as this page
pub record ReadsAs (bytes : List ℕ) (nodes : Nodes) : Type 0 where
  pub reads : read bytes ≡ Some nodes
  pub page : IsPage nodes

-- ---- the content of a body

-- a page in this language, with this in its head and this in its body
abbrev pub page_of : List ℕ → Nodes → Nodes → Nodes
page_of language head content =
    element Html (record { name = codes "lang"; value = language } ∷ [])
    (element Head [] head (element Body [] content none)) none

-- such a page whose body is open, and empty so far
abbrev pub empty_body : List ℕ → Nodes → Draft
empty_body language head = record {
  open_elements =
      record { tag = Body; attributes = []; before = element Head [] head none }
      ∷ record { tag = Html; attributes = record { name = codes "lang"; value = language } ∷ []; before = none }
      ∷ [];
  nodes = none;
}

-- a text that is the front of a page, up to the content of the body: it is read as such a page so far
pub record IsFront (front language : List ℕ) (head : Nodes) : Type 0 where
  pub is_text : is_text front ≡ true
  pub reads : reading_of front ≡ reading Content (Some (empty_body language head))
  pub is_language : is_language language ≡ true
  pub fit : are_fit false (element Head [] head none) ≡ true
  pub encoded : begins_with_encoding head ≡ true

-- A text that is the content of a body. After the front of a page, whatever its language and head are and however it is
-- written, and before the end tags of the body and of html it reads as that page, with these nodes
-- in its body; there may be white space before and after it.
abbrev pub ReadsInBody : List ℕ → Nodes → Type 0
ReadsInBody bytes nodes =
    (front language : List ℕ) (head : Nodes) → IsFront front language head
    → (before after : List ℕ) → list_all is_white before ≡ true → list_all is_white after ≡ true
    → ReadsAs (front ++ (before ++ (bytes ++ (after ++ codes "</body></html>")))) (page_of language head nodes)
