-- How a page is written, byte by byte. The promises do not rest on it: what is written reads back, whatever it is.
use Rattle.std.specs.Prelude.{ℕ, Bool, true, false, List, [], ◌∷◌, ◌++◌, ◌&&◌, ◌==◌, flat_map, codes, if◌then◌else◌}
use Rattle.web_page.specs.Tree.{Attribute, is_tag, name_of}
use Rattle.web_page.specs.declared.elements.Element.TheVariants.{Pre}
use Rattle.web_page.specs.declared.elements.Tag.{Tag}
use Rattle.web_page.specs.declared.elements.Tag.TheVariants.{Of}

-- what stands for a byte of a text, and in a value for a quote too
abbrev pub escaped_byte : Bool → ℕ → List ℕ
escaped_byte in_value b =
    if b == 38 then codes "&amp;"
    else if b == 60 then codes "&lt;"
    else if b == 62 then codes "&gt;"
    else if in_value && b == 34 then codes "&quot;"
    else b ∷ []

abbrev pub escaped : Bool → List ℕ → List ℕ
escaped in_value bytes = flat_map (escaped_byte in_value) bytes

abbrev pub attributes_text : List Attribute → List ℕ
attributes_text [] = []
attributes_text (given ∷ more) =
    codes " " ++ (given.name ++ (codes "=\"" ++ (escaped true given.value ++ (codes "\"" ++ attributes_text more))))

-- the end of a start tag; a newline follows that of a pre
abbrev pub tag_end : Tag → List ℕ
tag_end tag = if is_tag (Of Pre) tag then codes ">\n" else codes ">"

abbrev pub start_text : Tag → List Attribute → List ℕ
start_text tag given = codes "<" ++ (name_of tag ++ (attributes_text given ++ tag_end tag))

abbrev pub end_text : Tag → List ℕ
end_text tag = codes "</" ++ (name_of tag ++ codes ">")

-- what stands before and after the content of the body
abbrev pub page_front : List ℕ → List ℕ → List ℕ → List ℕ
page_front language title style =
    codes "<!DOCTYPE html><html lang=\"" ++ (escaped true language
    ++ (codes "\"><head><meta charset=\"utf-8\"><meta name=\"viewport\" content=\"width=device-width\"><title>"
    ++ (escaped false title ++ (codes "</title><style>" ++ (style ++ codes "</style></head><body>")))))

abbrev pub page_end : List ℕ
page_end = codes "</body></html>"
