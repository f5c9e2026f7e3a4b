-- How what is written is read.
use Rattle.std.proofs.Common.{◌≡◌, ◌≢◌, ℕ, Bool, true, false, not, ◌&&◌, List, [], ◌∷◌, ◌++◌, refl, sym, ap, ◌∙◌, subst, append-nil, append_assoc, arith}
use Rattle.std.specs.Prelude.{Option, Some, codes, fold, find, if◌then◌else◌}
use Rattle.std.specs.List.{list_all}
use Rattle.std.specs.Str.{bytes_eq}
use Rattle.std.proofs.lemmas.Bool.{and_parts, and_from, or_parts, ne_eqb, cases_eq}
use Rattle.std.proofs.lemmas.List.Sums.{fold-append}
use Rattle.web_page.specs.Tree.{Attribute, Nodes, none, is_tag, name_of, tags}
use Rattle.web_page.specs.Reader
use Rattle.web_page.specs.Reader.{Draft, Frame, Mode, Opening, Reading, Token, Start, End, Content, AfterPre, Raw, RawSign, Sign, StartName, EndName, Inside, Name, Equals, Value, AfterValue, are_attributes, after_start, built, is_letter, is_name_byte, is_void, is_white, next, reading, settled, takes_elements, with_byte, with_element, with_start, with_tag}
use Rattle.web_page.specs.Calls.{attribute, has_end_sign, with_end_in, with_text}
use Rattle.web_page.specs.Exact.{attributes_text, end_text, escaped, escaped_byte, start_text, tag_end}
use Rattle.web_page.specs.Steps.Stored.{named}
use Rattle.web_page.proofs.Escapes.{plain_byte}
use Rattle.web_page.specs.declared.elements.Tag.{Tag}
use Rattle.web_page.specs.declared.elements.Tag.TheVariants.{Style, Br, Of}
use Rattle.web_page.specs.declared.elements.Element.TheVariants.{Pre}

abbrev pub run : Reading → List ℕ → Reading
run r bytes = fold next r bytes

pub run-append : (r : Reading) (a b : List ℕ) → run r (a ++ b) ≡ run (run r a) b
run-append r a b = fold-append next r a b

-- one after another
pub run_then : (r s t : Reading) (a b : List ℕ) → run r a ≡ s → run s b ≡ t → run r (a ++ b) ≡ t
run_then r s t a b e f = run-append r a b ∙ ap (λ x. run x b) e ∙ f

-- ---- texts

abbrev at_content : Draft → Reading
at_content draft = reading Content (Some draft)

plain_content : (draft : Draft) (b : ℕ) → b ≢ 60 → b ≢ 38 → next (at_content draft) b ≡ at_content (record draft { nodes = with_byte draft.nodes b })
plain_content draft b not_less not_and = rw (ne_eqb b 60 not_less, ne_eqb b 38 not_and) refl

byte_reads : (draft : Draft) (b : ℕ) → run (at_content draft) (escaped_byte false b) ≡ at_content (record draft { nodes = with_byte draft.nodes b })
byte_reads draft b = grind (arith, cases_eq, plain_byte, plain_content)

pub text_reads : (draft : Draft) (bytes : List ℕ) → run (at_content draft) (escaped false bytes) ≡ at_content (with_text draft bytes)
text_reads draft [] = refl
text_reads draft (b ∷ bytes) = run_then (at_content draft) _ _ (escaped_byte false b) (escaped false bytes) (byte_reads draft b) (text_reads (record draft { nodes = with_byte draft.nodes b }) bytes)

-- ---- values

abbrev at_value : Opening → Attribute → Option Draft → Reading
at_value opening given draft = reading (Value opening given) draft

plain_value : (opening : Opening) (given : Attribute) (draft : Option Draft) (b : ℕ) → b ≢ 34 → b ≢ 38 → next (at_value opening given draft) b ≡ at_value opening (record given { value = given.value ++ b ∷ [] }) draft
plain_value opening given draft b not_quote not_and = rw (ne_eqb b 34 not_quote, ne_eqb b 38 not_and) refl

value_byte_reads : (opening : Opening) (given : Attribute) (draft : Option Draft) (b : ℕ) → run (at_value opening given draft) (escaped_byte true b) ≡ at_value opening (record given { value = given.value ++ b ∷ [] }) draft
value_byte_reads opening given draft b = grind (arith, cases_eq, plain_byte, plain_value)

pub value_reads : (opening : Opening) (given : Attribute) (draft : Option Draft) (bytes : List ℕ) → run (at_value opening given draft) (escaped true bytes) ≡ at_value opening (record given { value = given.value ++ bytes }) draft
value_reads opening given draft [] = ap (λ x. at_value opening (record given { value = x }) draft) (sym (append-nil given.value))
value_reads opening given draft (b ∷ bytes) = grind (arith, value_reads opening (record given { value = given.value ++ b ∷ [] }) draft bytes, run_then, value_byte_reads, append_assoc)

-- ---- names

-- what holds of each element in the table of names
found : (p q : Tag → Bool) (list : List Tag) (tag : Tag) → find p list ≡ Some tag → list_all q list ≡ true → q tag ≡ true
found p q [] tag e h = cc
found p q (first ∷ list) tag e h = grind (arith, found p q list tag, and_parts)

pub each_tag : (q : Tag → Bool) → list_all q tags ≡ true → (tag : Tag) → q tag ≡ true
each_tag q h tag = found (λ other. bytes_eq (name_of other) (name_of tag)) q tags tag (named tag) h

-- a small letter and then small letters and digits
abbrev is_name : List ℕ → Bool
is_name [] = false
is_name (b ∷ bytes) = is_letter b && list_all is_name_byte bytes

name_is_name : (tag : Tag) → is_name (name_of tag) ≡ true
name_is_name = each_tag (λ tag. is_name (name_of tag)) refl

same_name : (tag : Tag) → bytes_eq (name_of tag) (name_of tag) ≡ true
same_name = each_tag (λ tag. bytes_eq (name_of tag) (name_of tag)) refl

not_greater : (b : ℕ) → is_name_byte b ≡ true → b ≢ 62
not_greater b h e = let f : is_name_byte 62 ≡ true = subst (λ x. is_name_byte x ≡ true) e h in cc

not_white : (b : ℕ) → is_name_byte b ≡ true → is_white b ≡ false
not_white b h = grind arith

name_byte : (b : ℕ) → is_letter b ≡ true → is_name_byte b ≡ true
name_byte b h = rw h refl

not_slash : (b : ℕ) → is_letter b ≡ true → b ≢ 47
not_slash b h e = let f : is_letter 47 ≡ true = subst (λ x. is_letter x ≡ true) e h in cc

start_name_reads : (draft : Option Draft) (before name : List ℕ) → list_all is_name_byte name ≡ true → run (reading (StartName before) draft) name ≡ reading (StartName (before ++ name)) draft
start_name_reads draft before [] h = ap (λ x. reading (StartName x) draft) (sym (append-nil before))
start_name_reads draft before (b ∷ name) h = grind (arith, start_name_reads draft (before ++ b ∷ []) name, and_parts, ne_eqb, not_greater, not_white, append_assoc)

end_name_reads : (draft : Option Draft) (before name : List ℕ) → list_all is_name_byte name ≡ true → run (reading (EndName before) draft) name ≡ reading (EndName (before ++ name)) draft
end_name_reads draft before [] h = ap (λ x. reading (EndName x) draft) (sym (append-nil before))
end_name_reads draft before (b ∷ name) h = grind (arith, end_name_reads draft (before ++ b ∷ []) name, and_parts, ne_eqb, not_greater, append_assoc)

name_after_sign : (draft : Option Draft) (name : List ℕ) → is_name name ≡ true → run (reading Sign draft) name ≡ reading (StartName name) draft
name_after_sign draft name h2 = grind (arith, and_parts, ne_eqb, not_slash, start_name_reads)

name_after_slash : (draft : Option Draft) (name : List ℕ) → is_name name ≡ true → run (reading (EndName []) draft) name ≡ reading (EndName name) draft
name_after_slash draft name h2 = grind (arith, and_parts, end_name_reads, and_from, name_byte)

-- ---- start tags

abbrev same_truth : Bool → Bool → Bool
same_truth true b = b
same_truth false b = not b

truths : (a b : Bool) → same_truth a b ≡ true → a ≡ b
truths a b h2 = grind arith

named_pre : (tag : Tag) → bytes_eq (name_of tag) (codes "pre") ≡ is_tag (Of Pre) tag
named_pre tag = truths _ _ (each_tag (λ other. same_truth (bytes_eq (name_of other) (codes "pre")) (is_tag (Of Pre) other)) refl tag)

named_style : (tag : Tag) → bytes_eq (name_of tag) (codes "style") ≡ is_tag Style tag
named_style tag = truths _ _ (each_tag (λ other. same_truth (bytes_eq (name_of other) (codes "style")) (is_tag Style other)) refl tag)

abbrev after_pre : Bool → Mode
after_pre pre = if pre then AfterPre else Content

abbrev newline_if : Bool → List ℕ
newline_if pre = if pre then codes "\n" else []

mode_after : (tag : Tag) → is_tag Style tag ≡ false → after_start (name_of tag) ≡ after_pre (is_tag (Of Pre) tag)
mode_after tag h = rw (named_pre tag, named_style tag, h) refl

newline_reads : (draft : Option Draft) (pre : Bool) → run (reading (after_pre pre) draft) (newline_if pre) ≡ reading Content draft
newline_reads draft pre = grind arith

two_parts : (pre : Bool) → (if pre then codes ">\n" else codes ">") ≡ codes ">" ++ newline_if pre
two_parts pre = grind arith

-- an element that has an end tag and no mode of its own can be started
pub record CanStart (draft : Draft) (tag : Tag) (given : List Attribute) : Type 0 where
  pub takes : takes_elements draft.open_elements ≡ true
  pub distinct : are_attributes given ≡ true
  pub ends : is_void tag ≡ false
  pub not_style : is_tag Style tag ≡ false

start_builds : (draft : Draft) (tag : Tag) (given : List Attribute) → CanStart draft tag given → built (Some draft) (Start (name_of tag) given) ≡ Some (with_start draft tag given)
start_builds draft tag given can = ap (Reader.started draft given) (named tag) ∙ rw (can.takes, can.distinct, can.ends) refl

-- attributes lead from the name to the end of the tag
abbrev pub ReadAttributes : List Attribute → Type 0
ReadAttributes given = (name : List ℕ) (draft : Option Draft) → run (reading (StartName name) draft) (attributes_text given ++ codes ">") ≡ with_tag draft (record { name = name; attributes = given })

pub no_attributes : ReadAttributes []
no_attributes name draft = refl

value_ends : (key value name : List ℕ) (draft : Option Draft) → run (at_value (record { name = name; attributes = [] }) (record { name = key; value = [] }) draft) ((escaped true value ++ codes "\"") ++ codes ">") ≡ with_tag draft (record { name = name; attributes = attribute key value })
value_ends key value name draft = grind (arith, run_then, value_reads)

pub id_attribute : (value : List ℕ) → ReadAttributes (attribute (codes "id") value)
id_attribute value name draft = value_ends (codes "id") value name draft

pub target_attribute : (value : List ℕ) → ReadAttributes (attribute (codes "href") value)
target_attribute value name draft = value_ends (codes "href") value name draft

pub start_reads : (draft : Draft) (tag : Tag) (given : List Attribute) → CanStart draft tag given → ReadAttributes given → run (at_content draft) (start_text tag given) ≡ at_content (with_start draft tag given)
start_reads draft tag given can attributes =
    let pre : Bool = is_tag (Of Pre) tag in
    let tag_ends : run (reading (StartName (name_of tag)) (Some draft)) (attributes_text given ++ codes ">") ≡ reading (after_pre pre) (Some (with_start draft tag given)) =
    attributes (name_of tag) (Some draft) ∙ ap (λ mode. reading mode (built (Some draft) (Start (name_of tag) given))) (mode_after tag can.not_style) ∙ ap (reading (after_pre pre)) (start_builds draft tag given can) in
    let whole_end : run (reading (StartName (name_of tag)) (Some draft)) (attributes_text given ++ tag_end tag) ≡ at_content (with_start draft tag given) =
    ap (λ x. run (reading (StartName (name_of tag)) (Some draft)) (attributes_text given ++ x)) (two_parts pre)
    ∙ ap (run (reading (StartName (name_of tag)) (Some draft))) (sym (append_assoc (attributes_text given) (codes ">") (newline_if pre)))
    ∙ run_then _ _ _ (attributes_text given ++ codes ">") (newline_if pre) tag_ends (newline_reads (Some (with_start draft tag given)) pre) in
    run_then (at_content draft) (reading Sign (Some draft)) _ (codes "<") (name_of tag ++ (attributes_text given ++ tag_end tag)) refl
    (run_then (reading Sign (Some draft)) (reading (StartName (name_of tag)) (Some draft)) _ (name_of tag) (attributes_text given ++ tag_end tag) (name_after_sign (Some draft) (name_of tag) (name_is_name tag)) whole_end)

pub break_reads : (draft : Draft) → takes_elements draft.open_elements ≡ true → run (at_content draft) (codes "<br>") ≡ at_content (with_element draft Br [] none)
break_reads draft takes = rw takes refl

-- ---- end tags

pub end_settles : (frame : Frame) (frames : List Frame) (found nodes : Nodes) → settled frame.tag found ≡ Some nodes
    → run (at_content (record { open_elements = frame ∷ frames; nodes = found })) (end_text frame.tag) ≡ at_content (with_end_in (frame ∷ frames) nodes)
end_settles frame frames found nodes settles = grind (arith, same_name, run_then, name_after_slash, name_is_name)

pub end_reads : (frame : Frame) (frames : List Frame) (nodes : Nodes) → settled frame.tag nodes ≡ Some nodes
    → run (at_content (record { open_elements = frame ∷ frames; nodes = nodes })) (end_text frame.tag) ≡ at_content (with_end_in (frame ∷ frames) nodes)
end_reads frame frames nodes settles = end_settles frame frames nodes nodes settles

-- ---- a style

no_sign_after : (b : ℕ) (bytes : List ℕ) → has_end_sign (b ∷ bytes) ≡ false → has_end_sign bytes ≡ false
no_sign_after b bytes h2 = grind (arith, or_parts)

no_slash : (b : ℕ) (bytes : List ℕ) → has_end_sign (60 ∷ b ∷ bytes) ≡ false → b ≢ 47
no_slash b bytes h e = grind (arith, or_parts)

abbrev with_one : Draft → ℕ → Draft
with_one draft b = record draft { nodes = with_byte draft.nodes b }

-- in a style, up to the next `<`; and after one
abbrev RawReads : List ℕ → Type 0
RawReads style = (draft : Draft) (rest : List ℕ) → has_end_sign style ≡ false → run (reading Raw (Some draft)) (style ++ 60 ∷ rest) ≡ run (reading RawSign (Some (with_text draft style))) rest

abbrev SignReads : List ℕ → Type 0
SignReads style = (draft : Draft) (rest : List ℕ) → has_end_sign (60 ∷ style) ≡ false → run (reading RawSign (Some draft)) (style ++ 60 ∷ rest) ≡ run (reading RawSign (Some (with_text (with_one draft 60) style))) rest

raw_step : (b : ℕ) (bytes : List ℕ) → RawReads bytes → SignReads bytes → RawReads (b ∷ bytes)
raw_step b bytes raw sign draft rest h = grind (arith, cases_eq, ne_eqb, no_sign_after)

sign_step : (b : ℕ) (bytes : List ℕ) → RawReads bytes → SignReads bytes → SignReads (b ∷ bytes)
sign_step b bytes raw sign draft rest h = grind (arith, cases_eq, no_sign_after, ne_eqb, no_slash)

both_read : (style : List ℕ) → RawReads style × SignReads style
both_read [] = (λ draft rest h. refl, λ draft rest h. refl)
both_read (b ∷ bytes) = let later = both_read bytes in (raw_step b bytes later.0 later.1, sign_step b bytes later.0 later.1)

pub style_reads : (style : List ℕ) → RawReads style
style_reads style = (both_read style).0
