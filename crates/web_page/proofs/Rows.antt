-- Pages that the reader reads, each with its tree, and texts that it refuses.
use Rattle.std.specs.Prelude.{◌≡◌, ℕ, Bool, true, false, List, [], ◌∷◌, ◌++◌, Option, Some, None, codes}
use Rattle.std.specs.Str.{chars, is_utf8}
use lib.Utf8.{encode}
use Rattle.std.proofs.Common.{refl}
use Rattle.web_page.specs.Tree.{Attribute, Nodes, none, text, element}
use Rattle.web_page.specs.declared.elements.Tag.{Tag}
use Rattle.web_page.specs.declared.elements.Tag.TheVariants.{Html, Head, Meta, Title, Style, Body, Br, A, Of}
use Rattle.web_page.specs.Reader.{read, reading_of}
use Rattle.web_page.specs.Models.{are_fit, begins_with_encoding}
use Rattle.web_page.specs.declared.elements.Level.TheVariants.{One, Two, Three, Four, Five, Six}
use Rattle.web_page.specs.declared.elements.Element.TheVariants.{Header, Nav, Main, Footer, Section, Heading, P, Pre, Ul, Li, Dl, Dt, Dd, Code, Em}

-- an element without attributes
abbrev plain : Tag → Nodes → Nodes → Nodes
plain tag content rest = element tag [] content rest

-- the head of the pages below, and what stands before and after the content of their main element
abbrev head_text : List ℕ
head_text = codes "<head><meta charset=\"utf-8\"><title>T</title><style></style></head>"

abbrev before_main : List ℕ
before_main = codes "<!DOCTYPE html><html lang=\"en\">" ++ head_text ++ codes "<body><main>"

abbrev after_main : List ℕ
after_main = codes "</main></body></html>"

-- what is read where main has this content
abbrev main_of : List ℕ → Option Nodes
main_of bytes = read (before_main ++ bytes ++ after_main)

abbrev attribute : List ℕ → List ℕ → List Attribute
attribute name value = record { name = name; value = value } ∷ []

abbrev charset : Nodes → Nodes
charset rest = element Meta (attribute (codes "charset") (codes "utf-8")) none rest

-- an html element with this head, and this in its body
abbrev whole : Nodes → Nodes → Nodes
whole head body = element Html (attribute (codes "lang") (codes "en")) (plain Head head (plain Body body none)) none

abbrev head : Nodes
head = charset (plain Title (text (codes "T") none) (plain Style none none))

-- the page whose main element holds these nodes
abbrev page : Nodes → Option Nodes
page content = Some (whole head (plain (Of Main) content none))

-- a paragraph in main
abbrev paragraph : Nodes → Option Nodes
paragraph content = page (plain (Of P) content none)

-- ---- pages

reads_1 :
    -- an empty main
    (main_of ([]) ≡ page none)
    -- a text
    × (main_of (codes "<p>two words</p>") ≡ paragraph (text (codes "two words") none))
    -- references are the characters that they stand for
    × (main_of (codes "<p>a&lt;b&gt;&amp;&quot;&amp;lt;</p>") ≡ paragraph (text (codes "a<b>&\"&lt;") none))
    -- a quote, an apostrophe and a `>` are themselves
    × (main_of (codes "<p>\"'>;#</p>") ≡ paragraph (text (codes "\"'>;#") none))
    -- bytes of other characters are text
    × (main_of (codes "<p>" ++ 195 ∷ 164 ∷ 226 ∷ 130 ∷ 172 ∷ [] ++ codes "</p>") ≡ paragraph (text (195 ∷ 164 ∷ 226 ∷ 130 ∷ 172 ∷ []) none))
    -- in a paragraph white space is text
    × (main_of (codes "<p> \n\t</p>") ≡ paragraph (text (32 ∷ 10 ∷ 9 ∷ []) none))
    -- between elements that stand by themselves it is nothing
    × (main_of (codes "\n <p>a</p>\n\t<p>b</p> ") ≡ page (plain (Of P) (text (codes "a") none) (plain (Of P) (text (codes "b") none) none)))
    -- so are a carriage return and a form feed there
    × (main_of (13 ∷ 10 ∷ 12 ∷ [] ++ codes "<p>a</p>") ≡ paragraph (text (codes "a") none))
    -- in lists
    × (main_of (codes "<ul> <li></li>\n<li></li> </ul>") ≡ page (plain (Of Ul) (plain (Of Li) none (plain (Of Li) none none)) none))
    -- in an item directly it is text, before a list too
    × (main_of (codes "<ul><li> <code>a</code> <ul><li>b</li></ul>\n</li></ul>") ≡ page (plain (Of Ul) (plain (Of Li) (text (codes " ") (plain (Of Code) (text (codes "a") none) (text (codes " ") (plain (Of Ul) (plain (Of Li) (text (codes "b") none) none) (text (codes "\n") none))))) none) none))
    -- in a description with blocks
    × (main_of (codes "<dl><dt>t</dt> <dd> <p>a</p> </dd></dl>") ≡ page (plain (Of Dl) (plain (Of Dt) (text (codes "t") none) (plain (Of Dd) (plain (Of P) (text (codes "a") none) none) none)) none))
    -- in one without, it is text
    × (main_of (codes "<dl><dt>t</dt><dd> <em>a</em> </dd></dl>") ≡ page (plain (Of Dl) (plain (Of Dt) (text (codes "t") none) (plain (Of Dd) (text (codes " ") (plain (Of Em) (text (codes "a") none) (text (codes " ") none))) none)) none))
    -- also where it has nothing else
    × (main_of (codes "<dl><dt>t</dt><dd> </dd></dl>") ≡ page (plain (Of Dl) (plain (Of Dt) (text (codes "t") none) (plain (Of Dd) (text (codes " ") none) none)) none))
    -- the first newline in a pre is nothing
    × (main_of (codes "<pre>\na\n</pre>") ≡ page (plain (Of Pre) (text (codes "a\n") none) none))
unfolding read reading_of chars is_utf8 encode
reads_1 = (refl, refl, refl, refl, refl, refl, refl, refl, refl, refl, refl, refl, refl, refl)

reads_2 :
    -- and the second is text
    (main_of (codes "<pre>\n\na</pre>") ≡ page (plain (Of Pre) (text (codes "\na") none) none))
    -- a newline need not be there
    × (main_of (codes "<pre>a</pre><pre></pre>") ≡ page (plain (Of Pre) (text (codes "a") none) (plain (Of Pre) none none)))
    -- a newline after another tag in it is text
    × (main_of (codes "<pre><code>\na</code></pre>") ≡ page (plain (Of Pre) (plain (Of Code) (text (codes "\na") none) none) none))
    -- a br has no end
    × (main_of (codes "<p>a<br>b</p>") ≡ paragraph (text (codes "a") (plain Br none (text (codes "b") none))))
    -- an attribute, with references and white space around it
    × (main_of (codes "<p><a \n href=\"a?b=1&amp;c=&quot;>&lt;'\" >x</a></p>") ≡ paragraph (element A (attribute (codes "href") (codes "a?b=1&c=\"><'")) (text (codes "x") none) none))
    -- two attributes, in order
    × (main_of (codes "<section id=\"\" lang=\"de\"></section>") ≡ page (element (Of Section) (record { name = codes "id"; value = [] } ∷ attribute (codes "lang") (codes "de")) none none))
    -- headings of each level
    × (main_of (codes "<h1></h1><h2></h2><h3></h3><h4></h4><h5></h5><h6></h6>") ≡ page (plain (Of (Heading One)) none (plain (Of (Heading Two)) none (plain (Of (Heading Three)) none (plain (Of (Heading Four)) none (plain (Of (Heading Five)) none (plain (Of (Heading Six)) none none)))))))
    -- in a style all but `</` is text
    × (read (codes "<!DOCTYPE html><html lang=\"en\"><head><title>&amp;</title><style>a>b{c:\"&amp;<<b>\"}</style></head></html>") ≡ Some (element Html (attribute (codes "lang") (codes "en")) (plain Head (plain Title (text (codes "&") none) (plain Style (text (codes "a>b{c:\"&amp;<<b>\"}") none) none)) none) none))
    -- between the parts of a page it is nothing
    × (read (codes "<!DOCTYPE html><html lang=\"en\">\n<head>\n" ++ codes "<title>T</title>\n</head>\n<body>\n</body>\n</html>") ≡ Some (whole (plain Title (text (codes "T") none) none) none))
    -- and around them
    × (read (codes "<!DOCTYPE html>\n<html lang=\"en\"></html>\n") ≡ Some (element Html (attribute (codes "lang") (codes "en")) none none))
    -- in a text a form feed counts
    × (main_of (codes "<p>" ++ 12 ∷ [] ++ codes "</p>") ≡ paragraph (text (12 ∷ []) none))
    -- after main a footer, with white space around and in it
    × (read (before_main ++ codes "</main>\n<footer> <p>a</p>\n</footer>\n</body></html>") ≡ Some (whole head (plain (Of Main) none (plain (Of Footer) (plain (Of P) (text (codes "a") none) none) none))))
unfolding read reading_of chars is_utf8 encode
reads_2 = (refl, refl, refl, refl, refl, refl, refl, refl, refl, refl, refl, refl)

-- ---- what is refused

refuses_1 :
    -- an element without an end
    (main_of (codes "<p>a") ≡ None)
    -- an end of another element
    × (main_of (codes "<p><em>a</p></em>") ≡ None)
    -- an end without a start
    × (main_of (codes "</p>") ≡ None)
    -- an end of a br
    × (main_of (codes "<p></br></p>") ≡ None)
    -- a slash at the end of a tag
    × (main_of (codes "<p><br/></p>") ≡ None)
    -- another element
    × (main_of (codes "<b>a</b>") ≡ None)
    -- a name in capitals
    × (main_of (codes "<P>a</P>") ≡ None)
    -- a `<` that starts no tag
    × (main_of (codes "<p>a < b</p>") ≡ None)
    -- an `&` that starts no reference
    × (main_of (codes "<p>a & b</p>") ≡ None)
    -- another reference
    × (main_of (codes "<p>&nbsp;</p>") ≡ None)
    -- a reference by number
    × (main_of (codes "<p>&#38;</p>") ≡ None)
    -- a reference without its end
    × (main_of (codes "<p>&amp</p>") ≡ None)
    -- a value in single quotes
    × (main_of (codes "<p><a href='x'>x</a></p>") ≡ None)
    -- a value without quotes
    × (main_of (codes "<p><a href=x>x</a></p>") ≡ None)
unfolding read reading_of chars is_utf8 encode
refuses_1 = (refl, refl, refl, refl, refl, refl, refl, refl, refl, refl, refl, refl, refl, refl)

refuses_2 :
    -- an attribute without a value
    (main_of (codes "<section id></section>") ≡ None)
    -- an attribute twice
    × (main_of (codes "<section id=\"a\" id=\"b\"></section>") ≡ None)
    -- no white space between attributes
    × (main_of (codes "<section id=\"a\"lang=\"b\"></section>") ≡ None)
    -- an `&` in a value that starts no reference
    × (main_of (codes "<p><a href=\"?a&b\">x</a></p>") ≡ None)
    -- a comment
    × (main_of (codes "<!-- a -->") ≡ None)
    -- a text between elements that stand by themselves
    × (main_of (codes "<p>a</p>b") ≡ None)
    -- a text between items
    × (main_of (codes "<ul><li>a</li>b</ul>") ≡ None)
    -- a text beside elements that stand by themselves
    × (main_of (codes "<dl><dt>t</dt><dd>a<p>b</p></dd></dl>") ≡ None)
    -- a control character
    × (main_of (codes "<p>" ++ 7 ∷ [] ++ codes "</p>") ≡ None)
    -- one of two bytes, U+0085
    × (main_of (codes "<p>" ++ 194 ∷ 133 ∷ [] ++ codes "</p>") ≡ None)
    -- a noncharacter, U+FFFE
    × (main_of (codes "<p>" ++ 239 ∷ 191 ∷ 190 ∷ [] ++ codes "</p>") ≡ None)
    -- U+FDD0
    × (main_of (codes "<p>" ++ 239 ∷ 183 ∷ 144 ∷ [] ++ codes "</p>") ≡ None)
    -- a carriage return in a text
    × (main_of (codes "<p>" ++ 13 ∷ [] ++ codes "</p>") ≡ None)
    -- a carriage return in a value
    × (main_of (codes "<section id=\"" ++ 13 ∷ [] ++ codes "\"></section>") ≡ None)
unfolding read reading_of chars is_utf8 encode
refuses_2 = (refl, refl, refl, refl, refl, refl, refl, refl, refl, refl, refl, refl, refl, refl)

refuses_3 :
    -- a character that is cut off
    (main_of (codes "<p>" ++ 195 ∷ [] ++ codes "</p>") ≡ None)
    -- a control character after the first byte of another
    × (main_of (codes "<p>" ++ 195 ∷ 0 ∷ [] ++ codes "</p>") ≡ None)
    -- no document type
    × (read (codes "<html lang=\"en\"></html>") ≡ None)
    -- another document type
    × (read (codes "<!DOCTYPE HTML><html lang=\"en\"></html>") ≡ None)
    -- text after the page
    × (read (codes "<!DOCTYPE html><html lang=\"en\"></html>a") ≡ None)
    -- a second html element
    × (read (codes "<!DOCTYPE html><html></html><html></html>") ≡ None)
    -- no html element
    × (read (codes "<!DOCTYPE html>") ≡ None)
    -- an element in a title
    × (read (codes "<!DOCTYPE html><html><head><title><em>a</em></title></head></html>") ≡ None)
    -- another end in a style
    × (read (codes "<!DOCTYPE html><html><head><style>a</b></style></head></html>") ≡ None)
    -- the page cut off within its last tag
    × (read (codes "<!DOCTYPE html><html></html") ≡ None)
unfolding read reading_of chars is_utf8 encode
refuses_3 = (refl, refl, refl, refl, refl, refl, refl, refl, refl, refl)

-- ---- what the models have and do not have

-- whether a page whose body has this content is as the models have it
abbrev fits_body : Nodes → Bool
fits_body body = are_fit false (whole head body)

-- and one with this in its main element
abbrev fits_main : Nodes → Bool
fits_main content = fits_body (plain (Of Main) content none)

-- a list of one item with this in it
abbrev item : Nodes → Nodes
item content = plain (Of Ul) (plain (Of Li) content none) none

models_1 :
    -- a page with a header and a nav
    (fits_body (plain (Of Header) (plain (Of (Heading One)) (text (codes "a") none) none) (plain (Of Nav) (item (plain (Of Code) (text (codes "b") none) none)) (plain (Of Main) none none))) ≡ true)
    -- two terms with two descriptions, and another
    × (fits_main (plain (Of Dl) (plain (Of Dt) (text (codes "a") none) (plain (Of Dt) none (plain (Of Dd) none (plain (Of Dd) (plain (Of P) (text (codes "a") none) none) (plain (Of Dt) none (plain (Of Dd) (text (codes "b") none) none)))))) none) ≡ true)
    -- a section with an id
    × (fits_main (element (Of Section) (attribute (codes "id") (codes "a")) none none) ≡ true)
    -- headings with ids
    × (fits_main (element (Of (Heading One)) (attribute (codes "id") (codes "a")) (text (codes "a") none) (element (Of (Heading Six)) (attribute (codes "id") (codes "b")) (text (codes "b") none) none)) ≡ true)
    -- a heading, and then a list, in a nav
    × (fits_body (plain (Of Nav) (plain (Of (Heading Two)) (text (codes "a") none) (item (text (codes "b") none))) (plain (Of Main) none none)) ≡ true)
    -- lists and preformatted text in a header and in a footer
    × (fits_body (plain (Of Header) (item (text (codes "a") none)) (plain (Of Main) none (plain (Of Footer) (plain (Of Pre) none (item (text (codes "b") none))) none))) ≡ true)
    -- a text, elements within a line and a break in an item, and then a list
    × (fits_main (item (text (codes "a") (plain (Of Em) none (plain Br none (text (codes "b") (item (text (codes "c") none))))))) ≡ true)
    -- a list alone in an item
    × (fits_main (item (item (text (codes "a") none))) ≡ true)
models_1 = (refl, refl, refl, refl, refl, refl, refl, refl)

models_2 :
    -- no main
    (fits_body (plain (Of Header) none none) ≡ false)
    -- two of them
    × (fits_body (plain (Of Main) none (plain (Of Main) none none)) ≡ false)
    -- a header after main
    × (fits_body (plain (Of Main) none (plain (Of Header) none none)) ≡ false)
    -- a footer before main
    × (fits_body (plain (Of Footer) none (plain (Of Main) none none)) ≡ false)
    -- a footer alone
    × (fits_body (plain (Of Footer) none none) ≡ false)
    -- two of them
    × (fits_body (plain (Of Main) none (plain (Of Footer) none (plain (Of Footer) none none))) ≡ false)
    -- a nav after the footer
    × (fits_body (plain (Of Main) none (plain (Of Footer) none (plain (Of Nav) none none))) ≡ false)
    -- a section in a footer
    × (fits_body (plain (Of Main) none (plain (Of Footer) (plain (Of Section) none none) none)) ≡ false)
    -- a footer in main
    × (fits_main (plain (Of Footer) none none) ≡ false)
    -- a paragraph in a paragraph
    × (fits_main (plain (Of P) (plain (Of P) (text (codes "a") none) none) none) ≡ false)
    -- a text in the body
    × (fits_body (text (codes "a") (plain (Of Main) none none)) ≡ false)
models_2 = (refl, refl, refl, refl, refl, refl, refl, refl, refl, refl, refl)

models_3 :
    -- a link in a link, at any depth
    (fits_main (plain (Of P) (element A (attribute (codes "href") []) (plain (Of Em) (element A (attribute (codes "href") []) (text (codes "a") none) none) none) none) none) ≡ false)
    -- a link without a target
    × (fits_main (plain (Of P) (plain A (text (codes "a") none) none) none) ≡ false)
    -- an id with white space
    × (fits_main (element (Of Section) (attribute (codes "id") (codes "a b")) none none) ≡ false)
    × (fits_main (element (Of (Heading Two)) (attribute (codes "id") (codes "a b")) (text (codes "a") none) none) ≡ false)
    -- an empty id
    × (fits_main (element (Of Section) (attribute (codes "id") []) none none) ≡ false)
    × (fits_main (element (Of (Heading Two)) (attribute (codes "id") []) (text (codes "a") none) none) ≡ false)
    -- an id where there may be none
    × (fits_main (element (Of P) (attribute (codes "id") (codes "a")) (text (codes "a") none) none) ≡ false)
    -- a list that ends with a term
    × (fits_main (plain (Of Dl) (plain (Of Dt) (text (codes "a") none) none) none) ≡ false)
    -- one that begins with a description
    × (fits_main (plain (Of Dl) (plain (Of Dd) (text (codes "a") none) none) none) ≡ false)
    -- text and a paragraph in one description
    × (fits_main (plain (Of Dl) (plain (Of Dt) none (plain (Of Dd) (plain (Of P) (text (codes "a") none) (plain (Of Em) none none)) none)) none) ≡ false)
models_3 = (refl, refl, refl, refl, refl, refl, refl, refl, refl, refl)

models_4 :
    -- an element after the list in an item
    (fits_main (item (plain (Of Ul) (plain (Of Li) (plain (Of Em) (text (codes "a") none) none) none) (plain (Of Em) none none))) ≡ false)
    -- a text there, also one of white space
    × (fits_main (item (plain (Of Ul) (plain (Of Li) (text (codes "a") none) none) (text (codes " ") none))) ≡ false)
    -- a second list there
    × (fits_main (item (plain (Of Ul) (plain (Of Li) (text (codes "a") none) none) (item (text (codes "b") none)))) ≡ false)
    -- a paragraph in an item
    × (fits_main (item (plain (Of P) (text (codes "a") none) none)) ≡ false)
    -- a paragraph of white space
    × (fits_main (plain (Of P) (text (codes " ") none) none) ≡ false)
    -- a list without ink
    × (fits_main (item none) ≡ false)
    -- a paragraph in a list
    × (fits_main (plain (Of Ul) (plain (Of P) (text (codes "a") none) none) none) ≡ false)
    -- the head says the encoding first, and once
    × (begins_with_encoding head ≡ true)
    × (begins_with_encoding (plain Title none (charset none)) ≡ false)
    × (begins_with_encoding (charset (charset none)) ≡ false)
models_4 = (refl, refl, refl, refl, refl, refl, refl, refl, refl, refl)
