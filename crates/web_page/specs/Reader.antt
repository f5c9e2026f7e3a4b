-- A reader of HTML text, for the part of the language that a page is written in. It goes over the bytes once: the
-- tokenizer is in a mode, and each token that it finds is put into the tree at once. What is not of this part is
-- refused. Where each element holds only what its model has, HTML's own reader builds the same tree, except for the
-- white space between elements, which it keeps as texts.
use Rattle.std.specs.Prelude.{ℕ, ◌%◌, Bool, true, false, not, ◌&&◌, ◌||◌, ◌==◌, nat_lt, nat_le, List, [], ◌∷◌, ◌++◌, Option, Some, None, fold, codes, if◌then◌else◌}
use Rattle.std.specs.List.{list_any, list_all}
use Rattle.std.specs.Str.{chars, bytes_eq, is_utf8}
use Rattle.web_page.specs.Tree.{Attribute, Nodes, none, text, element, name_of, tag_of, is_tag}
use Rattle.web_page.specs.declared.elements.Tag.{Tag}
use Rattle.web_page.specs.declared.elements.Tag.TheVariants.{Html, Head, Meta, Title, Style, Body, Br, Of}
use Rattle.web_page.specs.declared.elements.Element.TheVariants.{Header, Nav, Main, Footer, Section, P, Pre, Ul, Dl, Dd}

-- ---- characters

-- white space: tab, newline, form feed, carriage return, blank
abbrev pub is_white : ℕ → Bool
is_white c = c == 9 || c == 10 || c == 12 || c == 13 || c == 32

-- a control character
abbrev pub is_control : ℕ → Bool
is_control c = nat_lt c 32 || (nat_le 127 c && nat_le c 159)

-- a noncharacter: U+FDD0 to U+FDEF, and the last two of each plane
abbrev pub is_noncharacter : ℕ → Bool
is_noncharacter c = (nat_le 0xFDD0 c && nat_le c 0xFDEF) || nat_le 0xFFFE (c % 0x1_0000)

-- a character that may stand in a page: no noncharacter, and no control character but white space
abbrev pub is_permitted : ℕ → Bool
is_permitted c = not (is_noncharacter c) && (is_white c || not (is_control c))

-- UTF-8 of such characters
abbrev pub is_text : List ℕ → Bool
is_text bytes = is_utf8 bytes && list_all is_permitted (chars bytes)

-- a byte that can be given back: no carriage return, which readers take for a newline
abbrev pub is_kept : ℕ → Bool
is_kept b = not (b == 13)

-- a small letter
abbrev pub is_letter : ℕ → Bool
is_letter b = nat_le 97 b && nat_le b 122

-- a small letter or a digit
abbrev pub is_name_byte : ℕ → Bool
is_name_byte b = is_letter b || (nat_le 48 b && nat_le b 57)

-- what a reference stands for
abbrev pub referent : List ℕ → Option ℕ
referent name =
    if bytes_eq name (codes "amp") then Some 38
    else if bytes_eq name (codes "lt") then Some 60
    else if bytes_eq name (codes "gt") then Some 62
    else if bytes_eq name (codes "quot") then Some 34
    else None

-- ---- the tree so far

-- an open element, with the nodes before it in what holds it
pub record Frame : Type 0 where
  pub tag : Tag
  pub attributes : List Attribute
  pub before : Nodes

-- the open elements, the innermost first, and the nodes so far in the innermost
pub record Draft : Type 0 where
  pub open_elements : List Frame
  pub nodes : Nodes

-- nothing yet
abbrev pub no_draft : Draft
no_draft = record { open_elements = []; nodes = none }

-- nodes after nodes
abbrev pub joined : Nodes → Nodes → Nodes
joined none more = more
joined (text bytes rest) more = text bytes (joined rest more)
joined (element tag attributes content rest) more = element tag attributes content (joined rest more)

-- a byte of text after nodes: it goes into a text that is last
abbrev pub with_byte : Nodes → ℕ → Nodes
with_byte none b = text (b ∷ []) none
with_byte (text bytes none) b = text (bytes ++ b ∷ []) none
with_byte (text bytes rest) b = text bytes (with_byte rest b)
with_byte (element tag attributes content rest) b = element tag attributes content (with_byte rest b)

-- a start of an element
abbrev pub with_start : Draft → Tag → List Attribute → Draft
with_start draft tag attributes = record {
  open_elements = record { tag = tag; attributes = attributes; before = draft.nodes } ∷ draft.open_elements;
  nodes = none;
}

-- an element with this content
abbrev pub with_element : Draft → Tag → List Attribute → Nodes → Draft
with_element draft tag attributes content = record draft { nodes = joined draft.nodes (element tag attributes content none) }

-- ---- white space between elements

-- an element that stands by itself in a dd
abbrev pub is_block : Tag → Bool
is_block tag = is_tag (Of P) tag || is_tag (Of Pre) tag || is_tag (Of Ul) tag || is_tag (Of Dl) tag

-- whether such an element is among the nodes
abbrev pub has_block : Nodes → Bool
has_block none = false
has_block (text bytes rest) = has_block rest
has_block (element tag attributes content rest) = is_block tag || has_block rest

-- whether white space directly in an element with this content is nothing
abbrev pub is_loose : Tag → Nodes → Bool
is_loose tag content =
    list_any (is_tag tag) (Html ∷ Head ∷ Body ∷ Of Header ∷ Of Nav ∷ Of Main ∷ Of Footer ∷ Of Section ∷ Of Ul ∷ Of Dl ∷ [])
    || (is_tag (Of Dd) tag && has_block content)

-- the elements alone, where each text is white space
abbrev pub elements_of : Nodes → Option Nodes
elements_of none = Some none
elements_of (text bytes rest) = if list_all is_white bytes then elements_of rest else None
elements_of (element tag attributes content rest) =
    elim (elements_of rest) as (λ _. Option Nodes) [
      | None ↦ None
      | Some others ↦ Some (element tag attributes content others)
    ]

-- whether each text can be given back
abbrev pub are_kept : Nodes → Bool
are_kept none = true
are_kept (text bytes rest) = list_all is_kept bytes && are_kept rest
are_kept (element tag attributes content rest) = are_kept rest

-- what the content of an element comes to at its end
abbrev pub settled : Tag → Nodes → Option Nodes
settled tag content =
    if is_loose tag content then elements_of content
    else if are_kept content then Some content
    else None

-- ---- the tree builder

pub data Token : Type 0 where
  Start : List ℕ → List Attribute → Token
  End : List ℕ → Token
  Character : ℕ → Token

-- elements that have no end tag
abbrev pub is_void : Tag → Bool
is_void tag = is_tag Br tag || is_tag Meta tag

-- whether no attribute has this name
abbrev pub lacks : List ℕ → List Attribute → Bool
lacks name attributes = list_all (λ (attribute : Attribute). not (bytes_eq attribute.name name)) attributes

-- whether no name comes twice, and each value can be given back
abbrev pub are_attributes : List Attribute → Bool
are_attributes [] = true
are_attributes (attribute ∷ others) =
    lacks attribute.name others && list_all is_kept attribute.value && are_attributes others

-- whether the innermost element takes elements: not in a title or a style
abbrev pub takes_elements : List Frame → Bool
takes_elements [] = true
takes_elements (frame ∷ frames) = not (is_tag Title frame.tag || is_tag Style frame.tag)

-- a start tag: an element without an end tag is whole at once
abbrev pub started : Draft → List Attribute → Option Tag → Option Draft
started draft attributes None = None
started draft attributes (Some tag) =
    if takes_elements draft.open_elements && are_attributes attributes then Some (if is_void tag then with_element draft tag attributes none
    else with_start draft tag attributes)
    else None

-- an end of the innermost element, whose content comes to this
abbrev pub closed : Frame → List Frame → Option Nodes → Option Draft
closed frame frames None = None
closed frame frames (Some content) =
    Some (with_element (record { open_elements = frames; nodes = frame.before }) frame.tag frame.attributes content)

-- an end tag, which has to be that of the innermost element
abbrev pub ended : List Frame → Nodes → List ℕ → Option Draft
ended [] content name = None
ended (frame ∷ frames) content name =
    if bytes_eq (name_of frame.tag) name then closed frame frames (settled frame.tag content)
    else None

abbrev pub built : Option Draft → Token → Option Draft
built None token = None
built (Some draft) (Start name attributes) = started draft attributes (tag_of name)
built (Some draft) (End name) = ended draft.open_elements draft.nodes name
built (Some draft) (Character b) = Some (record draft { nodes = with_byte draft.nodes b })

-- ---- the tokenizer

-- a start tag so far
pub record Opening : Type 0 where
  pub name : List ℕ
  pub attributes : List Attribute

pub data Mode : Type 0 where
  -- in the document type, with these bytes of it left
  Doctype : List ℕ → Mode
  -- in content: texts, tags and references
  Content : Mode
  -- directly after the start tag of a pre
  AfterPre : Mode
  -- in a style, which has no references; and there after a `<`
  Raw : Mode
  RawSign : Mode
  -- after an `&` and these bytes
  Reference : List ℕ → Mode
  -- after a `<`
  Sign : Mode
  -- after `</` and these bytes
  EndName : List ℕ → Mode
  -- in the name of a start tag
  StartName : List ℕ → Mode
  -- in a start tag after white space
  Inside : Opening → Mode
  -- in the name of an attribute
  Name : Opening → List ℕ → Mode
  -- after the `=` of an attribute of this name
  Equals : Opening → List ℕ → Mode
  -- in its value; and there after an `&` and these bytes
  Value : Opening → Attribute → Mode
  ValueReference : Opening → Attribute → List ℕ → Mode
  -- after its value
  AfterValue : Opening → Mode

-- where the tokenizer is, and the tree so far, unless the text is refused
pub record Reading : Type 0 where
  pub mode : Mode
  pub draft : Option Draft

abbrev pub reading : Mode → Option Draft → Reading
reading mode draft = record { mode = mode; draft = draft }

abbrev pub refused : Reading
refused = reading Content None

-- how the text goes on after a start tag of this name
abbrev pub after_start : List ℕ → Mode
after_start name =
    if bytes_eq name (codes "pre") then AfterPre
    else if bytes_eq name (codes "style") then Raw
    else Content

-- a start tag is whole
abbrev pub with_tag : Option Draft → Opening → Reading
with_tag draft opening = reading (after_start opening.name) (built draft (Start opening.name opening.attributes))

-- a byte of text
abbrev pub with_character : Mode → Option Draft → ℕ → Reading
with_character mode draft b = reading mode (built draft (Character b))

-- a reference in a text is whole
abbrev pub with_reference : Option Draft → Option ℕ → Reading
with_reference draft None = refused
with_reference draft (Some b) = with_character Content draft b

-- a byte of an attribute's value
abbrev pub with_value : Opening → Attribute → Option Draft → ℕ → Reading
with_value opening attribute draft b = reading (Value opening (record attribute { value = attribute.value ++ b ∷ [] })) draft

-- a reference in it is whole
abbrev pub with_value_reference : Opening → Attribute → Option Draft → Option ℕ → Reading
with_value_reference opening attribute draft None = refused
with_value_reference opening attribute draft (Some b) = with_value opening attribute draft b

-- an attribute is whole
abbrev pub with_attribute : Opening → Attribute → Opening
with_attribute opening attribute = record opening { attributes = opening.attributes ++ attribute ∷ [] }

-- after a byte of the document type
abbrev pub after_doctype : List ℕ → Mode
after_doctype [] = Content
after_doctype (b ∷ bytes) = Doctype (b ∷ bytes)

-- the next byte in content: `<`, `&` or text
abbrev pub content_byte : Option Draft → ℕ → Reading
content_byte draft b =
    if b == 60 then reading Sign draft
    else if b == 38 then reading (Reference []) draft
    else with_character Content draft b

-- the next byte in a mode
abbrev pub next_byte : Mode → Option Draft → ℕ → Reading
next_byte (Doctype []) draft b = refused
next_byte (Doctype (due ∷ rest)) draft b = if b == due then reading (after_doctype rest) draft else refused
next_byte Content draft b = content_byte draft b
next_byte AfterPre draft b = if b == 10 then reading Content draft else content_byte draft b
next_byte Raw draft b = if b == 60 then reading RawSign draft else with_character Raw draft b
next_byte RawSign draft b =
    if b == 47 then reading (EndName []) draft
    else if b == 60 then with_character RawSign draft 60
    else with_character Raw (built draft (Character 60)) b
next_byte (Reference name) draft b =
    if b == 59 then with_reference draft (referent name)
    else reading (Reference (name ++ b ∷ [])) draft
next_byte Sign draft b =
    if b == 47 then reading (EndName []) draft
    else if is_letter b then reading (StartName (b ∷ [])) draft
    else refused
next_byte (EndName name) draft b =
    if b == 62 then reading Content (built draft (End name))
    else if is_name_byte b then reading (EndName (name ++ b ∷ [])) draft
    else refused
next_byte (StartName name) draft b =
    if b == 62 then with_tag draft (record { name = name; attributes = [] })
    else if is_white b then reading (Inside (record { name = name; attributes = [] })) draft
    else if is_name_byte b then reading (StartName (name ++ b ∷ [])) draft
    else refused
next_byte (Inside opening) draft b =
    if b == 62 then with_tag draft opening
    else if is_white b then reading (Inside opening) draft
    else if is_letter b then reading (Name opening (b ∷ [])) draft
    else refused
next_byte (Name opening name) draft b =
    if b == 61 then reading (Equals opening name) draft
    else if is_name_byte b then reading (Name opening (name ++ b ∷ [])) draft
    else refused
next_byte (Equals opening name) draft b =
    if b == 34 then reading (Value opening (record { name = name; value = [] })) draft
    else refused
next_byte (Value opening attribute) draft b =
    if b == 34 then reading (AfterValue (with_attribute opening attribute)) draft
    else if b == 38 then reading (ValueReference opening attribute []) draft
    else with_value opening attribute draft b
next_byte (ValueReference opening attribute name) draft b =
    if b == 59 then with_value_reference opening attribute draft (referent name)
    else reading (ValueReference opening attribute (name ++ b ∷ [])) draft
next_byte (AfterValue opening) draft b =
    if b == 62 then with_tag draft opening
    else if is_white b then reading (Inside opening) draft
    else refused

abbrev pub next : Reading → ℕ → Reading
next r b = next_byte r.mode r.draft b

-- before the first byte
abbrev pub begin : Reading
begin = reading (Doctype (codes "<!DOCTYPE html>")) (Some no_draft)

-- what is read of the bytes so far
unfoldable pub reading_of : List ℕ → Reading
reading_of bytes = fold next begin bytes

-- ---- the whole

-- an html element and nothing else
abbrev pub is_whole : Nodes → Bool
is_whole none = false
is_whole (text bytes rest) = false
is_whole (element Html attributes content none) = true
is_whole (element _ attributes content rest) = false

-- around it there may be white space, which is dropped
abbrev pub whole_of : Option Nodes → Option Nodes
whole_of None = None
whole_of (Some nodes) = if is_whole nodes then Some nodes else None

-- the tree when the text ends, where no element is open
abbrev pub tree_of : Mode → Option Draft → Option Nodes
tree_of Content (Some draft) =
    elim (draft.open_elements) as (λ _. Option Nodes) [
      | [] ↦ whole_of (elements_of draft.nodes)
      | frame ∷ frames ↦ None
    ]
tree_of _ _ = None

-- The tree of a text, which is UTF-8. Where the tree is a page (Models), it is the one that HTML's own rules give:
-- these move an element that stands where it may not.
unfoldable pub read : List ℕ → Option Nodes
read bytes =
    if is_text bytes then tree_of (reading_of bytes).mode (reading_of bytes).draft
    else None
