-- The tree of a page.
use Rattle.std.specs.Prelude.{ℕ, Bool, List, [], ◌∷◌, ◌==◌, Option, find, codes}
use Rattle.std.specs.Str.{bytes_eq}
use Rattle.web_page.specs.declared.elements.Level.{Level}
use Rattle.web_page.specs.declared.elements.Level.TheVariants.{One, Two, Three, Four, Five, Six}
use Rattle.web_page.specs.declared.elements.Element.{Element}
use Rattle.web_page.specs.declared.elements.Tag.{Tag}
use Rattle.web_page.specs.declared.elements.Tag.TheVariants.{Html, Head, Meta, Title, Style, Body, Br, A, Of}
use Rattle.web_page.specs.declared.elements.Element.TheVariants.{Header, Nav, Main, Footer, Section, Heading, P, Pre, Ul, Li, Dl, Dt, Dd, Code, Strong, Em, Var}

pub record Attribute : Type 0 where
  pub name : List ℕ
  pub value : List ℕ

-- Nodes that are neighbours, in order: none; a text by its bytes, and the nodes after it; or an element with its
-- attributes and the nodes in it, and the nodes after it.
pub data Nodes : Type 0 where
  none : Nodes
  text : List ℕ → Nodes → Nodes
  element : Tag → List Attribute → Nodes → Nodes → Nodes

-- the name of a heading of this level
abbrev pub heading_name : Level → List ℕ
heading_name One = codes "h1"
heading_name Two = codes "h2"
heading_name Three = codes "h3"
heading_name Four = codes "h4"
heading_name Five = codes "h5"
heading_name Six = codes "h6"

-- the name of an element of the body
abbrev pub element_name : Element → List ℕ
element_name Header = codes "header"
element_name Nav = codes "nav"
element_name Main = codes "main"
element_name Footer = codes "footer"
element_name Section = codes "section"
element_name (Heading level) = heading_name level
element_name P = codes "p"
element_name Pre = codes "pre"
element_name Ul = codes "ul"
element_name Li = codes "li"
element_name Dl = codes "dl"
element_name Dt = codes "dt"
element_name Dd = codes "dd"
element_name Code = codes "code"
element_name Strong = codes "strong"
element_name Em = codes "em"
element_name Var = codes "var"

-- the name of an element
abbrev pub name_of : Tag → List ℕ
name_of Html = codes "html"
name_of Head = codes "head"
name_of Meta = codes "meta"
name_of Title = codes "title"
name_of Style = codes "style"
name_of Body = codes "body"
name_of Br = codes "br"
name_of A = codes "a"
name_of (Of e) = element_name e

-- every element
abbrev pub tags : List Tag
tags =
    Html ∷ Head ∷ Meta ∷ Title ∷ Style ∷ Body ∷ Br ∷ A
    ∷ Of Header ∷ Of Nav ∷ Of Main ∷ Of Footer ∷ Of Section
    ∷ Of (Heading One) ∷ Of (Heading Two) ∷ Of (Heading Three) ∷ Of (Heading Four) ∷ Of (Heading Five) ∷ Of (Heading Six)
    ∷ Of P ∷ Of Pre ∷ Of Ul ∷ Of Li ∷ Of Dl ∷ Of Dt ∷ Of Dd
    ∷ Of Code ∷ Of Strong ∷ Of Em ∷ Of Var ∷ []

-- the element of a name
abbrev pub tag_of : List ℕ → Option Tag
tag_of name = find (λ tag. bytes_eq (name_of tag) name) tags

-- which kind of element it is, as a number: headings of all levels are one
abbrev pub element_kind : Element → ℕ
element_kind Header = 8
element_kind Nav = 9
element_kind Main = 10
element_kind Footer = 11
element_kind Section = 12
element_kind (Heading level) = 13
element_kind P = 14
element_kind Pre = 15
element_kind Ul = 16
element_kind Li = 17
element_kind Dl = 18
element_kind Dt = 19
element_kind Dd = 20
element_kind Code = 21
element_kind Strong = 22
element_kind Em = 23
element_kind Var = 24

abbrev pub kind : Tag → ℕ
kind Html = 0
kind Head = 1
kind Meta = 2
kind Title = 3
kind Style = 4
kind Body = 5
kind Br = 6
kind A = 7
kind (Of e) = element_kind e

-- whether two elements are of one kind
abbrev pub is_tag : Tag → Tag → Bool
is_tag tag other = kind tag == kind other
