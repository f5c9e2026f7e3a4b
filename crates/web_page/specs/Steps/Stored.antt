-- How a page so far is kept as a tree of numbers, and got back from it. No promise rests on this: it lets a page be
-- seen as its open elements.
use Rattle.std.specs.Prelude.{◌≡◌, refl, ℕ, List, [], ◌∷◌, Some, unwrap_or}
use Rattle.std.proofs.Common.{ap, ◌∙◌, sym}
use Rattle.std.specs.Coded.{Coded}
use base.Stored.{Gv, gnil, gnum, gcons}
use Rattle.web_page.specs.Tree.{Attribute, Nodes, none, text, element, name_of, tag_of}
use Rattle.web_page.specs.Reader.{Frame, Draft}
use Rattle.web_page.specs.declared.elements.Level.TheVariants.{One, Two, Three, Four, Five, Six}
use Rattle.web_page.specs.declared.elements.Element.TheVariants.{Header, Nav, Main, Footer, Section, Heading, P, Pre, Ul, Li, Dl, Dt, Dd, Code, Strong, Em, Var}
use Rattle.web_page.specs.declared.elements.Tag.{Tag}
use Rattle.web_page.specs.declared.elements.Tag.TheVariants.{Html, Head, Meta, Title, Style, Body, Br, A, Of}

-- an element is the one of its name
pub named : (tag : Tag) → tag_of (name_of tag) ≡ Some tag
named Html = refl
named Head = refl
named Meta = refl
named Title = refl
named Style = refl
named Body = refl
named Br = refl
named A = refl
named (Of Header) = refl
named (Of Nav) = refl
named (Of Main) = refl
named (Of Footer) = refl
named (Of Section) = refl
named (Of (Heading One)) = refl
named (Of (Heading Two)) = refl
named (Of (Heading Three)) = refl
named (Of (Heading Four)) = refl
named (Of (Heading Five)) = refl
named (Of (Heading Six)) = refl
named (Of P) = refl
named (Of Pre) = refl
named (Of Ul) = refl
named (Of Li) = refl
named (Of Dl) = refl
named (Of Dt) = refl
named (Of Dd) = refl
named (Of Code) = refl
named (Of Strong) = refl
named (Of Em) = refl
named (Of Var) = refl

abbrev keep_bytes : List ℕ → Gv
keep_bytes [] = gnil
keep_bytes (b ∷ bytes) = gcons (gnum b) (keep_bytes bytes)

abbrev read_number : Gv → ℕ
read_number (gnum n) = n
read_number g = 0

abbrev read_bytes : Gv → List ℕ
read_bytes (gcons g h) = read_number g ∷ read_bytes h
read_bytes g = []

bytes_back : (bytes : List ℕ) → read_bytes (keep_bytes bytes) ≡ bytes
bytes_back [] = refl
bytes_back (b ∷ bytes) = ap (λ xs. b ∷ xs) (bytes_back bytes)

abbrev read_tag : Gv → Tag
read_tag g = unwrap_or (tag_of (read_bytes g)) Html

tag_back : (tag : Tag) → read_tag (keep_bytes (name_of tag)) ≡ tag
tag_back tag = ap (λ name. unwrap_or (tag_of name) Html) (bytes_back (name_of tag)) ∙ ap (λ found. unwrap_or found Html) (named tag)

abbrev keep_attributes : List Attribute → Gv
keep_attributes [] = gnil
keep_attributes (a ∷ given) = gcons (gcons (keep_bytes a.name) (keep_bytes a.value)) (keep_attributes given)

abbrev read_attribute : Gv → Attribute
read_attribute (gcons g h) = record { name = read_bytes g; value = read_bytes h }
read_attribute g = record { name = []; value = [] }

abbrev read_attributes : Gv → List Attribute
read_attributes (gcons g h) = read_attribute g ∷ read_attributes h
read_attributes g = []

attributes_back : (given : List Attribute) → read_attributes (keep_attributes given) ≡ given
attributes_back [] = refl
attributes_back (a ∷ given) = λ i. record { name = bytes_back a.name i; value = bytes_back a.value i } ∷ attributes_back given i

abbrev keep_nodes : Nodes → Gv
keep_nodes none = gnil
keep_nodes (text bytes rest) = gcons (gcons gnil (keep_bytes bytes)) (keep_nodes rest)
keep_nodes (element tag given content rest) = gcons (gcons (gcons (keep_bytes (name_of tag)) (keep_attributes given)) (keep_nodes content)) (keep_nodes rest)

abbrev read_nodes : Gv → Nodes
read_nodes (gcons (gcons (gcons t a) c) r) = element (read_tag t) (read_attributes a) (read_nodes c) (read_nodes r)
read_nodes (gcons (gcons g b) r) = text (read_bytes b) (read_nodes r)
read_nodes g = none

nodes_back : (nodes : Nodes) → read_nodes (keep_nodes nodes) ≡ nodes
nodes_back none = refl
nodes_back (text bytes rest) = λ i. text (bytes_back bytes i) (nodes_back rest i)
nodes_back (element tag given content rest) = λ i. element (tag_back tag i) (attributes_back given i) (nodes_back content i) (nodes_back rest i)

abbrev keep_frames : List Frame → Gv
keep_frames [] = gnil
keep_frames (f ∷ fs) = gcons (gcons (gcons (keep_bytes (name_of f.tag)) (keep_attributes f.attributes)) (keep_nodes f.before)) (keep_frames fs)

abbrev read_frame : Gv → Frame
read_frame (gcons (gcons t a) b) = record { tag = read_tag t; attributes = read_attributes a; before = read_nodes b }
read_frame g = record { tag = Html; attributes = []; before = none }

abbrev read_frames : Gv → List Frame
read_frames (gcons g h) = read_frame g ∷ read_frames h
read_frames g = []

frames_back : (fs : List Frame) → read_frames (keep_frames fs) ≡ fs
frames_back [] = refl
frames_back (f ∷ fs) = λ i. record { tag = tag_back f.tag i; attributes = attributes_back f.attributes i; before = nodes_back f.before i } ∷ frames_back fs i

abbrev keep_draft : Draft → Gv
keep_draft d = gcons (keep_frames d.open_elements) (keep_nodes d.nodes)

abbrev read_draft : Gv → Draft
read_draft (gcons g h) = record { open_elements = read_frames g; nodes = read_nodes h }
read_draft g = record { open_elements = []; nodes = none }

draft_back : (d : Draft) → read_draft (keep_draft d) ≡ d
draft_back d = λ i. record { open_elements = frames_back d.open_elements i; nodes = nodes_back d.nodes i }

pub draft_code : Coded Draft
draft_code = record { code = keep_draft; inj = λ x y p. sym (draft_back x) ∙ ap read_draft p ∙ draft_back y }
