-- What a markdown answer promises: it can be cut into marks and the fragments of the document, in the document's order.
use Rattle.std.specs.Prelude.{if◌then◌else◌, ◌&&◌, ◌++◌, ◌<◌, ◌==◌, ◌||◌, ◌∷◌, ◌≡◌}
use Rattle.bpaf_doc.specs.Words.{ℕ, Bool, true, false, not, List, [], map, reverse, filter, flat_map, count_by, IsTrue, nat_lt, codes, list_any, AllPass, after_last, Style, Part, Raw, starts, is_raw, is_ordinary, is_code_line, is_whole_line, is_paragraph, is_line_break}
use Rattle.bpaf_roff.specs.Bytes as byte
use Rattle.bpaf_doc.specs.declared.buffer.Style.TheVariants.{Text, Emphasis, Literal, Metavar, Invalid}
use Rattle.bpaf_doc.specs.declared.buffer.Block.TheVariants.{Header, Section3, Section4, ItemTerm, ItemBody, DefinitionList, Mono}
use Rattle.bpaf_doc.specs.Html.Fragments.{Fragment, Shown, TextEnd, Start, End, first_is, shows, shown_fragments}
use Rattle.bpaf_doc.specs.Snippets.{Snippet, Put, Of, fragments_in, is_mark_or_fragment, styled_by, Touch}

-- what f gives at each place of xs, from what is before it, the element itself, and what is after it
abbrev pub flat_map_places_from : {X Y : Type 0} → (List X → X → List X → List Y) → List X → List X → List Y
flat_map_places_from f before [] = []
flat_map_places_from f before (x ∷ after) = f before x after ++ flat_map_places_from f (before ++ x ∷ []) after

abbrev pub flat_map_places : {X Y : Type 0} → (List X → X → List X → List Y) → List X → List Y
flat_map_places f xs = flat_map_places_from f [] xs

-- what is written around the texts
pub data Mark : Type 0 where
  Italic : Mark
  Bold : Mark
  Tick : Mark
  TextFence : Mark
  Fence : Mark
  Heading : Mark
  SecondHeading : Mark
  ThirdHeading : Mark
  Dash : Mark
  LongDash : Mark
  Blank : Mark
  Newline : Mark

abbrev pub mark_text : Mark → List ℕ
mark_text Italic = codes "_"
mark_text Bold = codes "**"
mark_text Tick = codes "`"
mark_text TextFence = codes "```text"
mark_text Fence = codes "```"
mark_text Heading = codes "# "
mark_text SecondHeading = codes "## "
mark_text ThirdHeading = codes "### "
mark_text Dash = codes "- "
mark_text LongDash = codes " &mdash; "
mark_text Blank = codes " "
mark_text Newline = codes "\n"

-- what an answer is cut into: a mark, or a fragment of the document
abbrev pub MarkdownSnippet : Type 0
MarkdownSnippet = Snippet Mark

abbrev pub is_mono_start : Fragment → Bool
is_mono_start (Start Mono) = true
is_mono_start _ = false

abbrev pub is_mono_end : Fragment → Bool
is_mono_end (End Mono) = true
is_mono_end _ = false

-- so far there are more Mono starts than ends
abbrev pub is_in_mono : List Fragment → Bool
is_in_mono before = nat_lt (count_by is_mono_end before) (count_by is_mono_start before)

-- `[` and `]` get a backslash
abbrev pub escaped_character : ℕ → List ℕ
escaped_character c =
    if ((c == byte.opening_bracket) || (c == byte.closing_bracket)) then (byte.backslash ∷ c ∷ []) else (c ∷ [])

-- a Raw chunk as it is, but escaped where it is ordinary and inside Mono
abbrev pub fragment_text : List Fragment → Fragment → List ℕ
fragment_text before (Shown style (Raw bytes weight)) =
    if (is_in_mono before && is_ordinary (Raw bytes weight)) then flat_map escaped_character bytes else bytes
fragment_text before _ = []

abbrev pub snippet_text : List MarkdownSnippet → MarkdownSnippet → List MarkdownSnippet → List ℕ
snippet_text before (Put mark) after = mark_text mark
snippet_text before (Of fragment) after = fragment_text (fragments_in before) fragment

abbrev pub is_header_start : Fragment → Bool
is_header_start (Start Header) = true
is_header_start _ = false

abbrev pub is_list_mark : Fragment → Bool
is_list_mark (Start DefinitionList) = true
is_list_mark (End DefinitionList) = true
is_list_mark _ = false

-- a start of Section4 or ItemTerm
abbrev pub is_item_start : Fragment → Bool
is_item_start (Start Section4) = true
is_item_start (Start ItemTerm) = true
is_item_start _ = false

abbrev pub is_list_start : Fragment → Bool
is_list_start (Start DefinitionList) = true
is_list_start _ = false

abbrev pub is_term_end : Fragment → Bool
is_term_end (End ItemTerm) = true
is_term_end _ = false

-- the last DefinitionList mark was a start
abbrev pub is_in_list : List Fragment → Bool
is_in_list before = first_is is_list_start (filter is_list_mark (reverse before))

-- the last Section4 or ItemTerm start had an ItemTerm end next
abbrev pub is_after_empty_item : List Fragment → Bool
is_after_empty_item before = list_any is_item_start before && first_is is_term_end (after_last is_item_start before)

-- the heading and list marks of a fragment, by what is before and after it
abbrev pub headings_of : List Fragment → Fragment → List Fragment → List Mark
headings_of before (Start Header) after = (if list_any is_header_start before then SecondHeading else Heading) ∷ []
headings_of before (Start Section3) after = ThirdHeading ∷ []
headings_of before (Start Section4) after = if first_is is_term_end after then [] else (Dash ∷ [])
headings_of before (Start ItemTerm) after = if first_is is_term_end after then [] else (Dash ∷ [])
headings_of before (Start ItemBody) after =
    if (is_in_list before && not (is_after_empty_item before)) then (LongDash ∷ []) else []
headings_of before _ after = []

-- each fragment, and after it its heading and list marks
abbrev pub headed_snippets : List Fragment → Fragment → List Fragment → List MarkdownSnippet
headed_snippets before fragment after = Of fragment ∷ map Put (headings_of before fragment after)

-- a heading mark or a list mark
abbrev pub is_heading : Mark → Bool
is_heading Heading = true
is_heading SecondHeading = true
is_heading ThirdHeading = true
is_heading Dash = true
is_heading LongDash = true
is_heading _ = false

-- the marks around a text of a style, from the outside in
abbrev pub style_marks : Style → List Mark
style_marks Text = []
style_marks Emphasis = Bold ∷ []
style_marks Literal = Bold ∷ Tick ∷ []
style_marks Metavar = Italic ∷ Tick ∷ []
style_marks Invalid = Bold ∷ []

-- each text has its style's marks before its chunks and, in reverse order, after them
abbrev pub styled_snippets : Fragment → List MarkdownSnippet
styled_snippets fragment = styled_by style_marks (λ style. reverse (style_marks style)) fragment

abbrev pub is_style_mark : Mark → Bool
is_style_mark Italic = true
is_style_mark Bold = true
is_style_mark Tick = true
is_style_mark _ = false

-- the text of the snippets that follow others
abbrev pub text_after : List MarkdownSnippet → List MarkdownSnippet → List ℕ
text_after before snippets = flat_map_places_from snippet_text before snippets

abbrev pub is_text_fence : MarkdownSnippet → Bool
is_text_fence (Put TextFence) = true
is_text_fence _ = false

abbrev pub is_fence : MarkdownSnippet → Bool
is_fence (Put Fence) = true
is_fence _ = false

abbrev pub is_text_end : Fragment → Bool
is_text_end (TextEnd style) = true
is_text_end _ = false

abbrev pub is_newline : MarkdownSnippet → Bool
is_newline (Put Newline) = true
is_newline _ = false

-- after its last newline the text has only blanks
abbrev pub EndsInBlankLine : List ℕ → Type 0
EndsInBlankLine text = AllPass (λ c. c == byte.blank) (after_last (λ c. c == byte.newline) text)

-- the answer to a document, in full or in brief
pub record IsMarkdownOf (document : List Part) (full : Bool) (answer : List ℕ) : Type 0 where
  -- the answer is cut into marks and the fragments of the document in order; of the fragments, Raw chunks are written
  pub cut : List MarkdownSnippet
  pub spelling : answer ≡ flat_map_places snippet_text cut
  pub fragments : fragments_in cut ≡ shown_fragments full document
  -- the heading and list marks are those of the block marks, in order among the fragments
  pub headings : filter (is_mark_or_fragment is_heading) cut ≡ flat_map_places headed_snippets
      (shown_fragments full document)
  -- exactly the marks of its style are around the chunks of each text
  pub styles : filter (is_mark_or_fragment is_style_mark) cut ≡ flat_map styled_snippets (shown_fragments full document)
  -- at a code line more fences with `text` were written than without: more were opened than closed
  pub fenced : (before after : List MarkdownSnippet) (a : Fragment) → cut ≡ before ++ Of a ∷ after
      → IsTrue (shows is_code_line a) → count_by is_fence before < count_by is_text_fence before
  -- at an ordinary Raw chunk, and at the end of a text, as many were opened as closed
  pub unfenced : (before after : List MarkdownSnippet) (a : Fragment) → cut ≡ before ++ Of a ∷ after
      → IsTrue (shows is_ordinary a || is_text_end a) → count_by is_fence before ≡ count_by is_text_fence before
  -- a code line and a line of a fence are alone on their line, after blanks
  pub lines : (before after : List MarkdownSnippet) (a : Fragment) → cut ≡ before ++ Of a ∷ after
      → IsTrue (shows is_whole_line a)
      → EndsInBlankLine (text_after [] before) × IsTrue (starts (text_after (before ++ Of a ∷ []) after) (codes "\n"))
  -- there is nothing between ordinary Raw chunks that follow one another in a text
  pub touching : Touch (shows is_ordinary) cut
  -- between Raw chunks with a Paragraph between them there are two newlines in a row
  pub paragraphs : (before between after : List MarkdownSnippet) (a b : Fragment)
      → cut ≡ before ++ Of a ∷ (between ++ Of b ∷ after) → IsTrue (shows is_raw a) → IsTrue (shows is_raw b)
      → IsTrue (list_any (shows is_paragraph) (fragments_in between))
      → (front back : List MarkdownSnippet) × (between ≡ front ++ Put Newline ∷ Put Newline ∷ back)
  -- and with a LineBreak between them there is a newline
  pub line_breaks : (before between after : List MarkdownSnippet) (a b : Fragment)
      → cut ≡ before ++ Of a ∷ (between ++ Of b ∷ after) → IsTrue (shows is_raw a) → IsTrue (shows is_raw b)
      → IsTrue (list_any (shows is_line_break) (fragments_in between)) → IsTrue (list_any is_newline between)
