-- The events of a document as a manual page. What a part gives depends on the marks before it.
use Rattle.std.specs.Prelude.{if◌then◌else◌, ◌++◌, ◌∷◌}
use Rattle.bpaf_doc.specs.Words.{ℕ, Bool, true, false, List, [], Option, Some, map, reverse, find, flat_map, codes, after_last, str_to_ascii_uppercase, Style, Block, Part, Text, Start, End, is_mark_of, is_end_of, newline_as_blank, argument_word, Font, None, Roman, Bold, Italic}
use Rattle.bpaf_doc.specs.Manpage.Reader.{Event, Control, Span, LineEnd}
use Rattle.bpaf_doc.specs.declared.buffer.Style.TheVariants as style
use Rattle.bpaf_doc.specs.declared.buffer.Block.TheVariants as block

-- each part with the parts before it
abbrev pub places : List Part → List Part → List (List Part × Part)
places before [] = []
places before (part ∷ parts) = (before, part) ∷ places (before ++ part ∷ []) parts

-- whether there is a mark and it is a start
abbrev pub is_start : Option Part → Bool
is_start (Some (Start b)) = true
is_start _ = false

-- whether the last of these marks before a place is a start
abbrev pub last_is_start : (Part → Bool) → List Part → Bool
last_is_start is_mark before = is_start (find is_mark (reverse before))

-- a block whose text is a heading
abbrev pub is_section : Block → Bool
is_section block.Header = true
is_section block.Section2 = true
is_section block.Section3 = true
is_section block.Section4 = true
is_section _ = false

-- what sets whether newlines are stripped: the start and the end of a term, and the end of a body
abbrev pub sets_stripping : Part → Bool
sets_stripping (Start block.ItemTerm) = true
sets_stripping (End block.ItemTerm) = true
sets_stripping (End block.ItemBody) = true
sets_stripping _ = false

-- the text at a place, if the last section mark before it is a start; nothing of another place or part
abbrev pub captured_text : List Part × Part → List ℕ
captured_text (before, Text bytes how) = if last_is_start (is_mark_of is_section) before then bytes else []
captured_text _ = []

-- a text as one word of a control: newlines are blanks, and an empty text is two quotes
abbrev pub word_of : List ℕ → List ℕ
word_of text = argument_word (map newline_as_blank text)

-- the captured texts since the last section end before a place, joined
abbrev pub captured_texts : List Part → List ℕ
captured_texts before = flat_map captured_text (after_last (λ place. is_end_of is_section place.1) (places [] before))

-- these texts in ASCII capitals, as one word
abbrev pub heading : List Part → List ℕ
heading before = word_of (str_to_ascii_uppercase (captured_texts before))

-- an event, or a stop, at which a line of text ends
pub data Step : Type 0 where
  Gives : Event → Step
  Stop : Step

-- the font of a style
abbrev pub font_of : Style → Font
font_of style.Text = Roman
font_of style.Emphasis = Bold
font_of style.Literal = Bold
font_of style.Metavar = Italic
font_of style.Invalid = Italic

-- the control that a start gives
abbrev pub start_name : Block → Option (List ℕ)
start_name block.ItemTerm = Some (codes "TP")
start_name block.Block = Some (codes "PP")
start_name block.Meta = Some (codes "nf")
start_name _ = None

-- the control that the end of a section gives, with the heading of what is before
abbrev pub heading_name : Block → Option (List ℕ)
heading_name block.Header = Some (codes "SH")
heading_name block.Section2 = Some (codes "SS")
heading_name block.Section3 = Some (codes "SS")
heading_name block.Section4 = Some (codes "SS")
heading_name _ = None

-- the control that any other end gives
abbrev pub end_name : Block → Option (List ℕ)
end_name block.ItemBody = Some (codes "PP")
end_name block.Meta = Some (codes "fi")
end_name _ = None

-- the control before a text of this style: an emphasized one is under a heading without words
abbrev pub style_name : Style → Option (List ℕ)
style_name style.Emphasis = Some (codes "SS")
style_name _ = None

-- a control without words, if there is one
abbrev pub control_steps : Option (List ℕ) → List Step
control_steps None = []
control_steps (Some name) = Gives (Control name []) ∷ []

-- what an end gives, by the control of its heading: a term stops the line
abbrev pub end_steps : List Part → Block → Option (List ℕ) → List Step
end_steps before b (Some name) = Gives (Control name (heading before ∷ [])) ∷ []
end_steps before block.ItemTerm None = Stop ∷ []
end_steps before b None = control_steps (end_name b)

-- what a part gives: a captured text nothing, any other text a span, in a term with blanks for its newlines
abbrev pub place_steps : List Part × Part → List Step
place_steps (before, Text bytes how) =
    if last_is_start (is_mark_of is_section) before then []
    else control_steps (style_name how)
    ++ Gives (Span (font_of how) (if last_is_start sets_stripping before then map newline_as_blank bytes else bytes)) ∷ []
place_steps (before, Start b) = control_steps (start_name b)
place_steps (before, End b) = end_steps before b (heading_name b)

-- what the parts give, in order
abbrev pub page_steps : List Part → List Step
page_steps document = flat_map place_steps (places [] document)

-- whether a control or a stop comes first
abbrev pub starts_line : List Step → Bool
starts_line (Stop ∷ steps) = true
starts_line (Gives (Control name words) ∷ steps) = true
starts_line _ = false

-- a span directly before a control or a stop has a line end after it
abbrev pub line_ends : Step → List Step → List Event
line_ends (Gives (Span font text)) later = if starts_line later then LineEnd ∷ [] else []
line_ends _ later = []

-- what is read of a step
abbrev pub step_events : Step → List Event
step_events (Gives event) = event ∷ []
step_events Stop = []

-- the events of the steps with their line ends, without the stops
abbrev pub events_of_steps : List Step → List Event
events_of_steps [] = []
events_of_steps (step ∷ later) = step_events step ++ line_ends step later ++ events_of_steps later

-- the events of a document
-- e.g. page_events (Text (codes "A") style.Emphasis ∷ []) ≡ Control (codes "SS") ([]) ∷ Span Bold (codes "A") ∷ []
abbrev pub page_events : List Part → List Event
page_events document = events_of_steps (page_steps document)
