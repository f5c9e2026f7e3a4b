-- What an HTML answer promises: it can be cut into tags, newlines and the fragments of the document, in the document's
-- order.
use Rattle.std.specs.Prelude.{if◌then◌else◌, ◌&&◌, ◌++◌, ◌==◌, ◌||◌, ◌∷◌, ◌≡◌}
use Rattle.bpaf_doc.specs.Words.{ℕ, Bool, true, false, not, List, [], map, reverse, filter, flat_map, IsTrue, codes, list_any, AllPass, Style, Block, Part, Raw, Paragraph, LineBreak, is_inked, is_raw, is_line_byte}
use Rattle.bpaf_roff.specs.Bytes as byte
use Rattle.bpaf_doc.specs.declared.buffer.Style.TheVariants.{Text, Emphasis, Literal, Metavar, Invalid}
use Rattle.bpaf_doc.specs.declared.buffer.Block.TheVariants.{Header, Section2, Section3, Section4, ItemTerm, ItemBody, DefinitionList, Block as Plain}
use Rattle.bpaf_doc.specs.declared.html.Styles.{Styles}
use Rattle.bpaf_doc.specs.Html.Fragments.{Fragment, Shown, Start, End, shows, shown_fragments}
use Rattle.bpaf_doc.specs.Snippets.{Snippet, Put, Of, fragments_in, is_mark_or_fragment, styled_by, Touch}

-- `erased`, from inside or from outside of a run
abbrev pub erased_from : Bool → List ℕ → List ℕ
erased_from inside [] = []
erased_from inside (c ∷ cs) =
    (if dropped then [] else (c ∷ [])) ++ erased_from (dropped && not (c == byte.greater_sign)) cs
  where
    dropped : Bool
    dropped = inside || (c == byte.less_sign)

-- the text without every run from `<` to the next `>`
-- e.g. erased (codes "<b>Usage: </b><tt><b>my_program</b></tt>") ≡ codes "Usage: my_program"
abbrev pub erased : List ℕ → List ℕ
erased text = erased_from false text

-- the elements that an answer uses; a div is plain or indented
pub data Element : Type 0 where
  Tt : Element
  B : Element
  I : Element
  Div : Element
  IndentedDiv : Element
  Dt : Element
  Dd : Element
  Li : Element
  Dl : Element
  P : Element

abbrev pub name_of : Element → List ℕ
name_of Tt = codes "tt"
name_of B = codes "b"
name_of I = codes "i"
name_of Div = codes "div"
name_of IndentedDiv = codes "div"
name_of Dt = codes "dt"
name_of Dd = codes "dd"
name_of Li = codes "li"
name_of Dl = codes "dl"
name_of P = codes "p"

abbrev pub attributes_of : Element → List ℕ
attributes_of IndentedDiv = codes " style='padding-left: 0.5em'"
attributes_of _ = []

abbrev pub opening_tag : Element → List ℕ
opening_tag e = codes "<" ++ name_of e ++ attributes_of e ++ codes ">"

abbrev pub closing_tag : Element → List ℕ
closing_tag e = codes "</" ++ name_of e ++ codes ">"

-- a character other than `<` and `>`
abbrev pub is_no_angle : ℕ → Bool
is_no_angle c = not ((c == byte.less_sign) || (c == byte.greater_sign))

-- nothing; characters other than `<` and `>`; `<br>`; an opening tag, well-nested HTML and the closing tag of the same
-- name; two joined
pub data IsWellNestedHtml : List ℕ → Type 0 where
  nothing : {text : List ℕ} → text ≡ [] → IsWellNestedHtml text
  characters : {text : List ℕ} → AllPass is_no_angle text → IsWellNestedHtml text
  line_break : {text : List ℕ} → text ≡ codes "<br>" → IsWellNestedHtml text
  enclosed : {text : List ℕ} (e : Element) (inner : List ℕ) → text ≡ opening_tag e ++ (inner ++ closing_tag e)
      → IsWellNestedHtml inner → IsWellNestedHtml text
  joined : {text : List ℕ} (front back : List ℕ) → text ≡ front ++ back → IsWellNestedHtml front → IsWellNestedHtml back
      → IsWellNestedHtml text

-- `<` and `>` are written `&lt;` and `&gt;`
abbrev pub escaped_character : ℕ → List ℕ
escaped_character c =
    if (c == byte.less_sign) then codes "&lt;"
    else (if (c == byte.greater_sign) then codes "&gt;" else (c ∷ []))

-- a Raw chunk gives its escaped text, and a Header start `# `
abbrev pub fragment_text : Fragment → List ℕ
fragment_text (Shown style (Raw bytes weight)) = flat_map escaped_character bytes
fragment_text (Start Header) = codes "# "
fragment_text _ = []

-- the HTML text of what is shown
-- e.g. html_text (Words (codes "a<b") Text ∷ []) true ≡ codes "a&lt;b"
abbrev pub html_text : List Part → Bool → List ℕ
html_text document full = flat_map fragment_text (shown_fragments full document)

-- what is put around the texts: a tag, `<br>` or a newline
pub data HtmlTag : Type 0 where
  Open : Element → HtmlTag
  Close : Element → HtmlTag
  Break : HtmlTag
  Newline : HtmlTag

abbrev pub mark_text : HtmlTag → List ℕ
mark_text (Open e) = opening_tag e
mark_text (Close e) = closing_tag e
mark_text Break = codes "<br>"
mark_text Newline = codes "\n"

-- what an answer is cut into: a tag, `<br>`, a newline, or a fragment of the document
abbrev pub HtmlSnippet : Type 0
HtmlSnippet = Snippet HtmlTag

abbrev pub snippet_text : HtmlSnippet → List ℕ
snippet_text (Put mark) = mark_text mark
snippet_text (Of fragment) = fragment_text fragment

-- the tags of these elements
abbrev pub open_each : List Element → List HtmlSnippet
open_each elements = map (λ e. Put (Open e)) elements

abbrev pub close_each : List Element → List HtmlSnippet
close_each elements = map (λ e. Put (Close e)) elements

-- a Paragraph, a LineBreak or a Header mark
abbrev pub asks_break : Fragment → Bool
asks_break (Shown style Paragraph) = true
asks_break (Shown style LineBreak) = true
asks_break (Start Header) = true
asks_break (End Header) = true
asks_break _ = false

abbrev pub is_break : HtmlSnippet → Bool
is_break (Put Break) = true
is_break _ = false

-- what a style turns on
abbrev pub styles_of : Style → Styles
styles_of Text = record { mono = false; bold = false; italic = false }
styles_of Emphasis = record { mono = false; bold = true; italic = false }
styles_of Literal = record { mono = true; bold = true; italic = false }
styles_of Metavar = record { mono = true; bold = false; italic = true }
styles_of Invalid = record { mono = false; bold = true; italic = false }

-- the elements around a text of a style, from the outside in
abbrev pub style_elements : Style → List Element
style_elements Text = []
style_elements Emphasis = B ∷ []
style_elements Literal = Tt ∷ B ∷ []
style_elements Metavar = Tt ∷ I ∷ []
style_elements Invalid = B ∷ []

abbrev pub is_style_element : Element → Bool
is_style_element Tt = true
is_style_element B = true
is_style_element I = true
is_style_element _ = false

-- a tag of tt, b or i, and one of another element
abbrev pub is_style_tag : HtmlTag → Bool
is_style_tag (Open e) = is_style_element e
is_style_tag (Close e) = is_style_element e
is_style_tag _ = false

abbrev pub is_block_tag : HtmlTag → Bool
is_block_tag (Open e) = not (is_style_element e)
is_block_tag (Close e) = not (is_style_element e)
is_block_tag _ = false

-- each text opens its style's tags before its chunks and closes them after
abbrev pub styled_snippets : Fragment → List HtmlSnippet
styled_snippets fragment =
    styled_by (λ style. map Open (style_elements style)) (λ style. map Close (reverse (style_elements style))) fragment

abbrev pub is_definition_list : Block → Bool
is_definition_list DefinitionList = true
is_definition_list _ = false

-- the element of a block, which is directly in a definition list or not
abbrev pub block_elements : Bool → Block → List Element
block_elements in_list Section2 = Div ∷ []
block_elements in_list Section3 = IndentedDiv ∷ []
block_elements in_list Section4 = IndentedDiv ∷ []
block_elements in_list ItemTerm = Dt ∷ []
block_elements true ItemBody = Dd ∷ []
block_elements false ItemBody = Li ∷ []
block_elements in_list DefinitionList = Dl ∷ []
block_elements in_list Plain = P ∷ []
block_elements in_list _ = []

abbrev pub is_mark : Fragment → Bool
is_mark (Start b) = true
is_mark (End b) = true
is_mark _ = false

-- well-nested fragments with the tags of their marks: nothing; a fragment that is not a mark; a block with its tags
-- around what it holds; two joined
pub data HasBlockTags : Bool → List Fragment → List HtmlSnippet → Type 0 where
  nothing : {in_list : Bool} {fragments : List Fragment} {snippets : List HtmlSnippet} → fragments ≡ [] → snippets ≡ []
      → HasBlockTags in_list fragments snippets
  fragment : {in_list : Bool} {fragments : List Fragment} {snippets : List HtmlSnippet} (p : Fragment)
      → is_mark p ≡ false → fragments ≡ p ∷ [] → snippets ≡ Of p ∷ [] → HasBlockTags in_list fragments snippets
  enclosed : {in_list : Bool} {fragments : List Fragment} {snippets : List HtmlSnippet} (b : Block)
      (inner : List Fragment) (held : List HtmlSnippet) → fragments ≡ Start b ∷ (inner ++ End b ∷ []) → snippets
      ≡ Of (Start b) ∷
      (open_each (block_elements in_list b) ++ held ++ close_each (block_elements in_list b) ++ Of (End b) ∷ [])
      → HasBlockTags (is_definition_list b) inner held → HasBlockTags in_list fragments snippets
  joined : {in_list : Bool} {fragments : List Fragment} {snippets : List HtmlSnippet} (front back : List Fragment)
      (tags more : List HtmlSnippet)
      → fragments ≡ front ++ back → snippets ≡ tags ++ more → HasBlockTags in_list front tags
      → HasBlockTags in_list back more → HasBlockTags in_list fragments snippets

-- the answer to a well-nested document, in full or in brief, without the style sheet
pub record IsHtmlOf (document : List Part) (full : Bool) (answer : List ℕ) : Type 0 where
  -- the answer is well-nested HTML
  pub nested : IsWellNestedHtml answer
  -- its erasure without newlines is the HTML text
  pub text : filter is_line_byte (erased answer) ≡ html_text document full
  -- it is cut into tags, newlines and the fragments of the document in order
  pub cut : List HtmlSnippet
  pub spelling : answer ≡ flat_map snippet_text cut
  pub fragments : fragments_in cut ≡ shown_fragments full document
  -- there is a `<br>` between two inked chunks that have a Paragraph, a LineBreak or a Header mark between them
  pub breaks : (before between after : List HtmlSnippet) (a b : Fragment)
      → cut ≡ before ++ Of a ∷ (between ++ Of b ∷ after)
      → IsTrue (shows is_inked a) → IsTrue (shows is_inked b) → IsTrue (list_any asks_break (fragments_in between))
      → IsTrue (list_any is_break between)
  -- Raw chunks that follow one another in a text touch
  pub touching : Touch (shows is_raw) cut
  -- the tags of the blocks are around what the blocks hold
  pub tags : HasBlockTags false (shown_fragments full document) (filter (is_mark_or_fragment is_block_tag) cut)
  -- exactly the tags of its style are around the chunks of each text
  pub styles : filter (is_mark_or_fragment is_style_tag) cut ≡ flat_map styled_snippets (shown_fragments full document)

-- what follows an answer where the style sheet is asked for
abbrev pub style_sheet : List ℕ
style_sheet =
    codes "\n<style>\ndiv.bpaf-doc {\n    padding: 14px;\n    background-color:var(--code-block-background-color);\n"
    ++ codes "    font-family: \"Source Code Pro\", monospace;\n    margin-bottom: 0.75em;\n}\n"
    ++ codes "div.bpaf-doc dt { margin-left: 1em; }\ndiv.bpaf-doc dd { margin-left: 3em; }\n"
    ++ codes "div.bpaf-doc dl { margin-top: 0; padding-left: 1em; }\ndiv.bpaf-doc  { padding-left: 1em; }\n</style>"

-- such an answer, followed by the style sheet where it is asked for
abbrev pub IsHtmlPageOf : List Part → Bool → Bool → List ℕ → Type 0
IsHtmlPageOf document full include_css answer =
    (html : List ℕ) × IsHtmlOf document full html × (answer ≡ html ++ (if include_css then style_sheet else []))

-- The same for its text only: without tags and newlines it is the HTML text. This holds of ill-nested lists too.
abbrev pub IsHtmlTextPageOf : List Part → Bool → Bool → List ℕ → Type 0
IsHtmlTextPageOf document full include_css answer =
    (html : List ℕ) × (filter is_line_byte (erased html) ≡ html_text document full)
    × (answer ≡ html ++ (if include_css then style_sheet else []))
