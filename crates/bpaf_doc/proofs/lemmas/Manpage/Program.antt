-- The reader of roff as a program, byte by byte.
use Rattle.std.specs.Prelude.{ℕ, List, [], ◌∷◌, ◌++◌, ◌==◌, Option, Some, None, if◌then◌else◌}
use Rattle.bpaf_doc.proofs.lemmas.Manpage.Words.{newline, blank, apostrophe, dash, dot, backslash, is_control_sign, Font, Event, Control, Span, LineEnd}
use Rattle.bpaf_roff.specs.declared.roff.Font.TheVariants.{Roman, Bold, Italic}

-- where the reader is, and what it has of the event that it is in
pub data State : Type 0 where
  Start : State
  Within : State
  Name : List ℕ → State
  Argument : List ℕ → List (List ℕ) → List ℕ → State
  ArgumentEscape : List ℕ → List (List ℕ) → List ℕ → State
  FontEscape : State
  FontLetter : State
  Inside : Font → List ℕ → State
  AfterNewline : Font → List ℕ → State
  InsideEscape : Font → List ℕ → State
  RestoreLetter : Font → List ℕ → State
  Star : Font → List ℕ → State
  Bracket : Font → List ℕ → State
  LetterA : Font → List ℕ → State
  Refused : State

abbrev pub next_word : List ℕ → List (List ℕ) → List ℕ → State
next_word name words [] = Refused
next_word name words (b ∷ word) = Argument name (words ++ (b ∷ word) ∷ []) []

abbrev pub line_over : List ℕ → State
line_over [] = Refused
line_over (b ∷ word) = Start

abbrev pub next_inside : Font → List ℕ → ℕ → State
next_inside font content b = if b == backslash then InsideEscape font content else if b == newline then AfterNewline font (content ++ newline ∷ []) else if b == dash then Refused else if b == apostrophe then Refused else Inside font (content ++ b ∷ [])

abbrev pub next : State → ℕ → State
next Start b = if b == dot then Name [] else if b == backslash then FontEscape else Refused
next Within b = if b == newline then Start else if b == backslash then FontEscape else Refused
next (Name name) b = if b == blank then Argument name [] [] else if b == newline then Start else Name (name ++ b ∷ [])
next (Argument name words word) b = if b == backslash then ArgumentEscape name words word else if b == blank then next_word name words word else if b == newline then line_over word else Argument name words (word ++ b ∷ [])
next (ArgumentEscape name words word) b = if b == backslash then Argument name words (word ++ b ∷ []) else if b == blank then Argument name words (word ++ b ∷ []) else Refused
next FontEscape b = if b == 102 then FontLetter else Refused
next FontLetter b = if b == 82 then Inside Roman [] else if b == 66 then Inside Bold [] else if b == 73 then Inside Italic [] else Refused
next (Inside font content) b = next_inside font content b
next (AfterNewline font content) b = if is_control_sign b then Refused else next_inside font content b
next (InsideEscape font content) b = if b == backslash then Inside font (content ++ backslash ∷ []) else if b == dash then Inside font (content ++ dash ∷ []) else if b == 38 then Inside font content else if b == 42 then Star font content else if b == 102 then RestoreLetter font content else Refused
next (RestoreLetter font content) b = if b == 80 then Within else Refused
next (Star font content) b = if b == 40 then Bracket font content else Refused
next (Bracket font content) b = if b == 65 then LetterA font content else Refused
next (LetterA font content) b = if b == 113 then Inside font (content ++ apostrophe ∷ []) else Refused
next Refused b = Refused

-- the event that ends with a byte
abbrev pub ended : State → ℕ → Option Event
ended Within b = if b == newline then Some LineEnd else None
ended (Name name) b = if b == newline then Some (Control name []) else None
ended (Argument name words word) b = if b == newline then Some (Control name (words ++ word ∷ [])) else None
ended (RestoreLetter font content) b = if b == 80 then Some (Span font content) else None
ended _ b = None

abbrev pub with_event : List Event → Option Event → List Event
with_event events None = events
with_event events (Some event) = events ++ event ∷ []

abbrev pub at_end : State → List Event → Option (List Event)
at_end Start events = Some events
at_end Within events = Some events
at_end _ events = None

abbrev pub read_from : List Event → State → List ℕ → Option (List Event)
read_from events state [] = at_end state events
read_from events state (b ∷ bytes) = read_from (with_event events (ended state b)) (next state b) bytes

-- the events that a text is read as, from a line start, if it is not refused
abbrev pub read : List ℕ → Option (List Event)
read text = read_from [] Start text
