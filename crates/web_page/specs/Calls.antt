-- What each call of a page adds to it, and why it may fail.
use Rattle.std.specs.Prelude.{◌≡◌, ℕ, Bool, true, false, not, ◌&&◌, ◌||◌, ◌==◌, List, [], ◌∷◌, Option, Some, None, Result, Err, IfErr, fold, codes, alloc_error}
use Rattle.std.specs.List.{list_any, list_all}
use Rattle.std.specs.Str.{chars}
use Rattle.std.specs.Result.{IsOk}
use Rattle.web_page.specs.Tree.{Attribute, Nodes, none, element, is_tag}
use Rattle.web_page.specs.Reader.{Frame, Draft, is_control, is_noncharacter, with_byte, with_element}
use Rattle.web_page.specs.Models.{fits_attributes, has_ink, is_ink, is_language, last_child, may_end, may_hold, wants_ink}
use Rattle.web_page.specs.declared.elements.Child.{Child}
use Rattle.web_page.specs.declared.elements.Child.TheVariants.{Words, Inner}
use Rattle.web_page.specs.declared.elements.Element.{Element}
use Rattle.web_page.specs.declared.elements.Tag.{Tag}
use Rattle.web_page.specs.declared.elements.Tag.TheVariants.{Html, Head, Meta, Title, Style, Body, A, Of}
use Rattle.web_page.specs.declared.errors.PageError.{PageError}
use Rattle.web_page.specs.declared.errors.PageError.TheVariants as errors

-- ---- what is added

-- bytes of text after nodes: they go into a text that is last, and where there are none nothing changes
abbrev pub with_words : Nodes → List ℕ → Nodes
with_words nodes bytes = fold with_byte nodes bytes

-- text in the innermost element
abbrev pub with_text : Draft → List ℕ → Draft
with_text draft bytes = record draft { nodes = with_words draft.nodes bytes }

-- the end of the innermost element
abbrev pub with_end_in : List Frame → Nodes → Draft
with_end_in [] nodes = record { open_elements = []; nodes = nodes }
with_end_in (frame ∷ frames) nodes =
    with_element (record { open_elements = frames; nodes = frame.before }) frame.tag frame.attributes nodes

abbrev pub with_end : Draft → Draft
with_end draft = with_end_in draft.open_elements draft.nodes

-- an attribute alone
abbrev pub attribute : List ℕ → List ℕ → List Attribute
attribute name value = record { name = name; value = value } ∷ []

-- an element that holds a text
abbrev pub text_element : Tag → List ℕ → Nodes → Nodes
text_element tag bytes rest = element tag [] (with_words none bytes) rest

-- the encoding, the width, the title and the style
abbrev pub head_content : List ℕ → List ℕ → Nodes
head_content title style =
    element Meta (attribute (codes "charset") (codes "utf-8")) none
    (element Meta (record { name = codes "name"; value = codes "viewport" } ∷ attribute (codes "content") (codes "width=device-width")) none
    (text_element Title title (text_element Style style none)))

-- a page with its head, whose body is open and empty
abbrev pub new_page : List ℕ → List ℕ → List ℕ → Draft
new_page language title style = record {
  open_elements =
      record { tag = Body; attributes = []; before = element Head [] (head_content title style) none }
      ∷ record { tag = Html; attributes = attribute (codes "lang") language; before = none }
      ∷ [];
  nodes = none;
}

-- the tree of a page whose body is ended
abbrev pub whole_page : Draft → Nodes
whole_page draft = (with_end (with_end draft)).nodes

-- ---- why a call fails

-- a character that can be given back: no noncharacter, and no control character other than newline and tab
abbrev pub is_written : ℕ → Bool
is_written c = not (is_noncharacter c) && (c == 9 || c == 10 || not (is_control c))

abbrev pub are_written : List ℕ → Bool
are_written bytes = list_all is_written (chars bytes)

-- whether a style has the beginning of an end tag
abbrev pub has_end_sign : List ℕ → Bool
has_end_sign [] = false
has_end_sign (b ∷ []) = false
has_end_sign (b ∷ c ∷ bytes) = (b == 60 && c == 47) || has_end_sign (c ∷ bytes)

-- whether one of the open elements is a link
abbrev pub is_in_link : List Frame → Bool
is_in_link frames = list_any (λ (frame : Frame). is_tag A frame.tag) frames

abbrev pub is_link : Child → Bool
is_link Words = false
is_link (Inner tag) = is_tag A tag

-- whether a child may stand next in the innermost element
abbrev pub may_stand_in : List Frame → Nodes → Child → Bool
may_stand_in [] nodes child = false
may_stand_in (frame ∷ frames) nodes child =
    may_hold frame.tag (last_child None nodes) child && not (is_in_link (frame ∷ frames) && is_link child)

abbrev pub may_stand : Draft → Child → Bool
may_stand draft child = may_stand_in draft.open_elements draft.nodes child

-- this fault unless the test holds, and then the next one, if there is one
abbrev pub unless : Bool → PageError → Option PageError → Option PageError
unless true fault next = next
unless false fault next = Some fault

abbrev pub page_fault : List ℕ → List ℕ → List ℕ → Option PageError
page_fault language title style =
    unless (is_language language) errors.Language
    (unless (list_any is_ink title) errors.Title
    (unless (not (has_end_sign style)) errors.Style
    (unless (are_written title && are_written style) errors.Character None)))

abbrev pub child_fault : Draft → Child → Option PageError
child_fault draft child = unless (may_stand draft child) errors.Misplaced None

abbrev pub id_fault : Draft → Element → List ℕ → Option PageError
id_fault draft inner id =
    unless (fits_attributes (Of inner) (attribute (codes "id") id)) errors.Id
    (unless (are_written id) errors.Character (child_fault draft (Inner (Of inner))))

abbrev pub link_fault : Draft → List ℕ → Option PageError
link_fault draft target = unless (are_written target) errors.Character (child_fault draft (Inner A))

abbrev pub text_fault : Draft → List ℕ → Option PageError
text_fault draft bytes = unless (are_written bytes) errors.Character (child_fault draft Words)

-- whether an element is open in the body
abbrev pub is_inside_body : List Frame → Bool
is_inside_body [] = false
is_inside_body (frame ∷ []) = false
is_inside_body (frame ∷ outer ∷ []) = false
is_inside_body (frame ∷ outer ∷ outermost ∷ frames) = true

-- whether the innermost element may end after what is in it
abbrev pub may_end_in : List Frame → Nodes → Bool
may_end_in [] nodes = false
may_end_in (frame ∷ frames) nodes = may_end frame.tag (last_child None nodes)

-- whether it has ink, where it has to
abbrev pub has_ink_in : List Frame → Nodes → Bool
has_ink_in [] nodes = false
has_ink_in (frame ∷ frames) nodes = not (wants_ink frame.tag) || has_ink nodes

abbrev pub end_fault : Draft → Option PageError
end_fault draft =
    unless (is_inside_body draft.open_elements && may_end_in draft.open_elements draft.nodes) errors.Misplaced
    (unless (has_ink_in draft.open_elements draft.nodes) errors.NoInk None)

abbrev pub finish_fault : Draft → Option PageError
finish_fault draft =
    unless (not (is_inside_body draft.open_elements) && may_end_in draft.open_elements draft.nodes) errors.Misplaced None

-- a call fails with its fault where it has one, and otherwise only where memory is refused
abbrev pub FailsOnlyBy : {T : Type 0} → Option PageError → Result T PageError → Type 0
FailsOnlyBy (Some fault) result = result ≡ Err fault
FailsOnlyBy None result = IfErr result (λ error. error ≡ errors.Refused alloc_error)

-- one that takes no memory fails with its fault where it has one, and otherwise does not fail
abbrev pub FailsJustBy : {T : Type 0} → Option PageError → Result T PageError → Type 0
FailsJustBy (Some fault) result = result ≡ Err fault
FailsJustBy None result = IsOk result
