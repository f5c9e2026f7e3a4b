-- White space between elements: where an element holds what it may hold, its content comes to itself.
use Rattle.std.proofs.Common.{◌≡◌, Bool, true, false, not, ◌&&◌, ◌||◌, [], ◌∷◌, refl, arith}
use Rattle.std.specs.Prelude.{Option, Some, None, if◌then◌else◌}
use Rattle.std.proofs.lemmas.Bool.{and_parts}
use Rattle.web_page.specs.Tree.{Nodes, none, text, element}
use Rattle.web_page.specs.Reader.{are_kept, elements_of, has_block, is_block, settled}
use Rattle.web_page.specs.Models.{are_in_order, is_child, is_phrasing, may_hold}
use Rattle.web_page.proofs.Readings.{each_tag}
use Rattle.web_page.specs.declared.elements.Child.{Child}
use Rattle.web_page.specs.declared.elements.Child.TheVariants.{Words, Inner}
use Rattle.web_page.specs.declared.elements.Element.TheVariants.{Header, Nav, Main, Footer, Section, P, Pre, Ul, Dl, Dd}
use Rattle.web_page.specs.declared.elements.Tag.{Tag}
use Rattle.web_page.specs.declared.elements.Tag.TheVariants.{Html, Head, Body, Of}

-- no text may stand in such an element
abbrev HoldsNoWords : Tag → Type 0
HoldsNoWords tag = (before : Option Child) → may_hold tag before Words ≡ false

loose : (tag : Tag) → HoldsNoWords tag → (before : Option Child) (nodes : Nodes) → are_in_order tag before nodes ≡ true → elements_of nodes ≡ Some nodes
loose tag h before (element inner given content rest) o = grind (arith, loose tag h (Some (Inner inner)) rest, and_parts)
loose tag h before x o = grind (arith, and_parts)

tight : (nodes : Nodes) → are_kept nodes ≡ true → (if are_kept nodes then Some nodes else None) ≡ Some nodes
tight nodes k = rw k refl

-- ---- descriptions

abbrev dd : Tag
dd = Of Dd

abbrev is_description_block : Tag → Bool
is_description_block tag = is_child (Of P ∷ Of Pre ∷ Of Ul ∷ Of Dl ∷ []) (Inner tag)

or_not : (a b : Bool) → (not a || not b) ≡ true → a ≡ true → b ≡ false
or_not a b h2 h3 = grind arith

-- no element is both
apart : (tag : Tag) → is_phrasing (Inner tag) ≡ true → is_block tag ≡ false
apart tag = or_not (is_phrasing (Inner tag)) (is_block tag) (each_tag (λ other. not (is_phrasing (Inner other)) || not (is_block other)) refl tag)

apart_too : (tag : Tag) → is_description_block tag ≡ true → is_phrasing (Inner tag) ≡ false
apart_too tag = or_not (is_description_block tag) (is_phrasing (Inner tag)) (each_tag (λ other. not (is_description_block other) || not (is_phrasing (Inner other))) refl tag)

or_so : (a b : Bool) → (not a || b) ≡ true → a ≡ true → b ≡ true
or_so a b h2 h3 = grind arith

is_a_block : (tag : Tag) → is_description_block tag ≡ true → is_block tag ≡ true
is_a_block tag = or_so (is_description_block tag) (is_block tag) (each_tag (λ other. not (is_description_block other) || is_block other) refl tag)

-- what may_hold comes to, where the child before is a phrase or not
after_phrase : (a b c d : Bool) → (a && (b || true) || (d && not true)) ≡ true → a ≡ true
after_phrase a b c d h4 = grind arith

after_block : (a d : Bool) → (a && (false || false) || (d && not false)) ≡ true → d ≡ true
after_block a d h2 = grind arith

or_first : (a : Bool) → a ≡ false → (a || false) ≡ false
or_first a e = rw e refl

phrases : (before : Child) (nodes : Nodes) → is_phrasing before ≡ true → are_in_order dd (Some before) nodes ≡ true → has_block nodes ≡ false
phrases before none p o = refl
phrases before (text bytes rest) p o = phrases Words rest refl (and_parts (may_hold dd (Some before) Words) (are_in_order dd (Some Words) rest) o).1
phrases before (element inner given content rest) p o = grind (arith, phrases (Inner inner) rest, and_parts, after_phrase, apart)

blocks : (before : Child) (nodes : Nodes) → is_phrasing before ≡ false → are_in_order dd (Some before) nodes ≡ true → elements_of nodes ≡ Some nodes
blocks before (element inner given content rest) p o = grind (arith, blocks (Inner inner) rest, and_parts, after_block, apart_too)
blocks before x p o = grind (arith, and_parts)

without_blocks : (nodes : Nodes) → has_block nodes ≡ false → are_kept nodes ≡ true → settled dd nodes ≡ Some nodes
without_blocks nodes h k = rw (h, k) refl

with_blocks : (nodes : Nodes) → has_block nodes ≡ true → elements_of nodes ≡ Some nodes → settled dd nodes ≡ Some nodes
with_blocks nodes h e = rw h e

description : (nodes : Nodes) → are_in_order dd None nodes ≡ true → are_kept nodes ≡ true → settled dd nodes ≡ Some nodes
description none o k = refl
description (text bytes rest) o k = without_blocks (text bytes rest) (phrases Words rest refl (and_parts (may_hold dd None Words) (are_in_order dd (Some Words) rest) o).1) k
description (element inner given content rest) o k = grind (arith, and_parts, without_blocks, phrases, apart, blocks, with_blocks, is_a_block)

-- ---- any element

pub settles : (tag : Tag) (content : Nodes) → are_in_order tag None content ≡ true → are_kept content ≡ true → settled tag content ≡ Some content
settles Html content o k = loose Html (λ before. refl) None content o
settles Head content o k = loose Head (λ before. refl) None content o
settles Body content o k = loose Body (λ before. refl) None content o
settles (Of Header) content o k = loose (Of Header) (λ before. refl) None content o
settles (Of Nav) content o k = loose (Of Nav) (λ before. refl) None content o
settles (Of Main) content o k = loose (Of Main) (λ before. refl) None content o
settles (Of Footer) content o k = loose (Of Footer) (λ before. refl) None content o
settles (Of Section) content o k = loose (Of Section) (λ before. refl) None content o
settles (Of Ul) content o k = loose (Of Ul) (λ before. refl) None content o
settles (Of Dl) content o k = loose (Of Dl) (λ before. refl) None content o
settles (Of Dd) content o k = description content o k
settles x content o k = tight content k
