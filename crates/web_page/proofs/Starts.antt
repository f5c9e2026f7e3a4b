-- Start tags with or without an attribute.
use Rattle.std.proofs.Common.{◌≡◌, ℕ, Bool, true, false, not, ◌&&◌, ◌||◌, List, [], ◌++◌, refl, ◌∙◌, arith}
use Rattle.std.specs.Prelude.{codes}
use Rattle.std.specs.List.{list_all}
use Rattle.std.specs.Str.{IsUtf8}
use Rattle.std.proofs.lemmas.Bool.{and_parts}
use Rattle.std.proofs.lemmas.Str.{IsUtf8-append}
use Rattle.web_page.specs.Tree.{Attribute, is_tag, name_of}
use Rattle.web_page.specs.Reader.{are_attributes, is_kept, is_void}
use Rattle.web_page.specs.Models.{fits_attributes}
use Rattle.web_page.specs.Calls.{are_written, attribute}
use Rattle.web_page.specs.Exact.{attributes_text, escaped, start_text, tag_end}
use Rattle.web_page.specs.Steps.Open.{attributes_of, is_inner, may_give}
use Rattle.web_page.proofs.Held.{IsStart}
use Rattle.web_page.proofs.Readings.{each_tag, id_attribute, no_attributes, target_attribute}
use Rattle.web_page.proofs.Texts.{IsClean, clean-append, clean-ascii, clean-escaped, clean-nil, hash_utf8, is_ascii_byte, kept_text, written_after_hash}
use Rattle.web_page.specs.declared.elements.Element.{Element}
use Rattle.web_page.specs.declared.elements.Tag.{Tag}
use Rattle.web_page.specs.declared.elements.Tag.TheVariants.{Style, Of}
use Rattle.web_page.specs.declared.output.Key.{Key}
use Rattle.web_page.specs.declared.output.Key.TheVariants.{Nothing, Id, Target, Place}

or_not : (a b : Bool) → (not a || not b) ≡ true → a ≡ true → b ≡ false
or_not a b h2 h3 = grind arith

or_so : (a b : Bool) → (not a || b) ≡ true → a ≡ true → b ≡ true
or_so a b h2 h3 = grind arith

not_void : (tag : Tag) → is_inner tag ≡ true → is_void tag ≡ false
not_void tag = or_not (is_inner tag) (is_void tag) (each_tag (λ other. not (is_inner other) || not (is_void other)) refl tag)

no_style : (tag : Tag) → is_inner tag ≡ true → is_tag Style tag ≡ false
no_style tag = or_not (is_inner tag) (is_tag Style tag) (each_tag (λ other. not (is_inner other) || not (is_tag Style other)) refl tag)

clean_tag : (tag : Tag) (given : List Attribute) → IsClean (attributes_text given) → IsClean (start_text tag given)
clean_tag tag given c =
    clean-append (codes "<") (name_of tag ++ (attributes_text given ++ tag_end tag)) (clean-ascii (codes "<") refl)
    (clean-append (name_of tag) (attributes_text given ++ tag_end tag) (clean-ascii (name_of tag) (each_tag (λ other. list_all is_ascii_byte (name_of other)) refl tag))
    (clean-append (attributes_text given) (tag_end tag) c (clean-ascii (tag_end tag) (each_tag (λ other. list_all is_ascii_byte (tag_end other)) refl tag))))

clean_attribute : (key value : List ℕ) → list_all is_ascii_byte key ≡ true → IsUtf8 value → are_written value ≡ true → IsClean (attributes_text (attribute key value))
clean_attribute key value k u w =
    clean-append (codes " ") (key ++ (codes "=\"" ++ (escaped true value ++ codes "\""))) (clean-ascii (codes " ") refl)
    (clean-append key (codes "=\"" ++ (escaped true value ++ codes "\"")) (clean-ascii key k)
    (clean-append (codes "=\"") (escaped true value ++ codes "\"") (clean-ascii (codes "=\"") refl)
    (clean-append (escaped true value) (codes "\"") (clean-escaped true value u w) (clean-ascii (codes "\"") refl))))

lone : (key value : List ℕ) → IsUtf8 value → are_written value ≡ true → are_attributes (attribute key value) ≡ true
lone key value u w = let k : list_all is_kept value ≡ true = kept_text value u w in rw k refl

pub start_is : (tag : Tag) (key : Key) (value : List ℕ) → IsUtf8 value → may_give tag key value ≡ true → IsStart tag (attributes_of key value)
start_is tag Nothing value u may =
    let parts = and_parts (is_inner tag) (fits_attributes tag []) may in
    record { fits = parts.1; distinct = refl; ends = not_void tag parts.0; not_style = no_style tag parts.0; read = no_attributes; clean = clean_tag tag [] clean-nil }
start_is tag Id value u may =
    let both = and_parts (is_inner tag && fits_attributes tag (attribute (codes "id") value)) (are_written value) may in
    let parts = and_parts (is_inner tag) (fits_attributes tag (attribute (codes "id") value)) both.0 in
    record { fits = parts.1; distinct = lone (codes "id") value u both.1; ends = not_void tag parts.0; not_style = no_style tag parts.0; read = id_attribute value; clean = clean_tag tag (attribute (codes "id") value) (clean_attribute (codes "id") value refl u both.1) }
start_is tag Target value u may =
    let both = and_parts (is_inner tag && fits_attributes tag (attribute (codes "href") value)) (are_written value) may in
    let parts = and_parts (is_inner tag) (fits_attributes tag (attribute (codes "href") value)) both.0 in
    record { fits = parts.1; distinct = lone (codes "href") value u both.1; ends = not_void tag parts.0; not_style = no_style tag parts.0; read = target_attribute value; clean = clean_tag tag (attribute (codes "href") value) (clean_attribute (codes "href") value refl u both.1) }
start_is tag Place value u may =
    let target = codes "#" ++ value in
    let both = and_parts (is_inner tag && fits_attributes tag (attribute (codes "href") target)) (are_written value) may in
    let parts = and_parts (is_inner tag) (fits_attributes tag (attribute (codes "href") target)) both.0 in
    let utf8 : IsUtf8 target = IsUtf8-append (codes "#") value hash_utf8 u in
    let written : are_written target ≡ true = written_after_hash value ∙ both.1 in
    record { fits = parts.1; distinct = lone (codes "href") target utf8 written; ends = not_void tag parts.0; not_style = no_style tag parts.0; read = target_attribute target; clean = clean_tag tag (attribute (codes "href") target) (clean_attribute (codes "href") target refl utf8 written) }

-- an element of the body may stand without an attribute
of_body : Tag → Bool
of_body (Of e) = true
of_body tag = false

pub bare : (e : Element) → may_give (Of e) Nothing [] ≡ true
unfolding of_body
bare e = or_so (of_body (Of e)) (fits_attributes (Of e) []) (each_tag (λ other. not (of_body other) || fits_attributes other []) refl (Of e)) refl
