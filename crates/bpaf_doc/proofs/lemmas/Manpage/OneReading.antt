-- A text is read as at most one list of events: whatever it is read as, the program reads it so.
use Rattle.std.specs.Prelude.{◌++◌, ◌∷◌, ◌≡◌, ◌≢◌}
use Rattle.bpaf_doc.proofs.lemmas.Manpage.Words.{arith, ap, ◌∙◌, append_assoc, append-nil, ne_eqb, ℕ, List, [], Some, None, refl, newline, font_escape, restore_font, Font, Event, Control, Span, LineEnd, IsName, IsArgument, AreArguments, IsSpanText, Place, AtLineStart, WithinLine, Reads}
use Rattle.bpaf_doc.proofs.lemmas.Manpage.Program.{State, Start, Within, Name, Argument, Inside, next, ended, with_event, read_from}

-- a byte that ends no event
step : (events : List Event) (state after : State) (b : ℕ) (bytes : List ℕ) → next state b ≡ after → ended state b ≡ None → read_from events state (b ∷ bytes) ≡ read_from events after bytes
step events state after b bytes n e = ap (λ o. read_from (with_event events o) (next state b) bytes) e ∙ ap (λ t. read_from events t bytes) n

name_read : (name : List ℕ) → IsName name → (events : List Event) (front rest : List ℕ) → read_from events (Name front) (name ++ rest) ≡ read_from events (Name (front ++ name)) rest
name_read [] h events front rest = rw (append-nil front) refl
name_read (b ∷ name) h events front rest = (step events (Name front) (Name (front ++ b ∷ [])) b (name ++ rest) (rw (ne_eqb b 32 h.0.0, ne_eqb b 10 h.0.1) refl) (rw (ne_eqb b 10 h.0.1) refl) ∙ name_read name h.1 events (front ++ b ∷ []) rest ∙ ap (λ w. read_from events (Name w) rest) (append_assoc front (b ∷ []) name))

argument_read : {text word : List ℕ} → IsArgument text word → (events : List Event) (name : List ℕ) (words : List (List ℕ)) (front rest : List ℕ) → read_from events (Argument name words front) (text ++ rest) ≡ read_from events (Argument name words (front ++ word)) rest
argument_read (IsArgument.end et ew) events name words front rest = rw (et, ew, append-nil front) refl
argument_read (IsArgument.escaped_backslash r m et ew h) events name words front rest = rw (et, ew) (argument_read h events name words (front ++ 92 ∷ []) rest ∙ ap (λ w. read_from events (Argument name words w) rest) (append_assoc front (92 ∷ []) m))
argument_read (IsArgument.escaped_blank r m et ew h) events name words front rest = rw (et, ew) (argument_read h events name words (front ++ 32 ∷ []) rest ∙ ap (λ w. read_from events (Argument name words w) rest) (append_assoc front (32 ∷ []) m))
argument_read (IsArgument.plain b r m et ew n92 n32 n10 h) events name words front rest = rw (et, ew) (step events (Argument name words front) (Argument name words (front ++ b ∷ [])) b (r ++ rest) (rw (ne_eqb b 92 n92, ne_eqb b 32 n32, ne_eqb b 10 n10) refl) (rw (ne_eqb b 10 n10) refl) ∙ argument_read h events name words (front ++ b ∷ []) rest ∙ ap (λ w. read_from events (Argument name words w) rest) (append_assoc front (b ∷ []) m))

further_read : {text : List ℕ} {words : List (List ℕ)} → AreArguments text words → (events : List Event) (name : List ℕ) (before : List (List ℕ)) (word rest : List ℕ) → word ≢ [] → read_from events (Argument name before word) (text ++ newline ∷ rest) ≡ read_from (events ++ Control name ((before ++ word ∷ []) ++ words) ∷ []) Start rest
further_read h events name before [] rest n = absurd (n refl)
further_read (AreArguments.end et ew) events name before (b ∷ word) rest n = rw (et, ew, append-nil (before ++ (b ∷ word) ∷ [])) refl
further_read (AreArguments.argument a w r more et ew nw ha h) events name before (b ∷ word) rest n = rw (et, ew, append_assoc a r (newline ∷ rest)) (argument_read ha events name (before ++ (b ∷ word) ∷ []) [] (r ++ newline ∷ rest) ∙ further_read h events name (before ++ (b ∷ word) ∷ []) w rest nw ∙ ap (λ ws. read_from (events ++ Control name ws ∷ []) Start rest) (append_assoc (before ++ (b ∷ word) ∷ []) (w ∷ []) more))

arguments_read : {text : List ℕ} {words : List (List ℕ)} → AreArguments text words → (events : List Event) (name rest : List ℕ) → read_from events (Name name) (text ++ newline ∷ rest) ≡ read_from (events ++ Control name words ∷ []) Start rest
arguments_read (AreArguments.end et ew) events name rest = rw (et, ew) refl
arguments_read (AreArguments.argument a w r more et ew nw ha h) events name rest = rw (et, ew, append_assoc a r (newline ∷ rest)) (argument_read ha events name [] [] (r ++ newline ∷ rest) ∙ further_read h events name [] w rest nw)

span_read : {text content : List ℕ} → IsSpanText text content → (events : List Event) (font : Font) (front rest : List ℕ) → read_from events (Inside font front) ((text ++ restore_font) ++ rest) ≡ read_from (events ++ Span font (front ++ content) ∷ []) Within rest
span_read (IsSpanText.end et ec) events font front rest = rw (et, ec, append-nil front) refl
span_read (IsSpanText.escaped_backslash r m et ec h) events font front rest = rw (et, ec) (span_read h events font (front ++ 92 ∷ []) rest ∙ ap (λ w. read_from (events ++ Span font w ∷ []) Within rest) (append_assoc front (92 ∷ []) m))
span_read (IsSpanText.escaped_dash r m et ec h) events font front rest = rw (et, ec) (span_read h events font (front ++ 45 ∷ []) rest ∙ ap (λ w. read_from (events ++ Span font w ∷ []) Within rest) (append_assoc front (45 ∷ []) m))
span_read (IsSpanText.escaped_apostrophe r m et ec h) events font front rest = rw (et, ec) (span_read h events font (front ++ 39 ∷ []) rest ∙ ap (λ w. read_from (events ++ Span font w ∷ []) Within rest) (append_assoc front (39 ∷ []) m))
span_read (IsSpanText.empty r et h) events font front rest = rw et (span_read h events font front rest)
span_read (IsSpanText.line_break r m et ec g h) events font front rest = rw (et, ec) ((grind (arith, ne_eqb)) ∙ span_read h events font (front ++ 10 ∷ []) rest ∙ ap (λ w. read_from (events ++ Span font w ∷ []) Within rest) (append_assoc front (10 ∷ []) m))
span_read (IsSpanText.plain b r m et ec n92 n45 n39 n10 h) events font front rest = rw (et, ec) (step events (Inside font front) (Inside font (front ++ b ∷ [])) b ((r ++ restore_font) ++ rest) (rw (ne_eqb b 92 n92, ne_eqb b 10 n10, ne_eqb b 45 n45, ne_eqb b 39 n39) refl) refl ∙ span_read h events font (front ++ b ∷ []) rest ∙ ap (λ w. read_from (events ++ Span font w ∷ []) Within rest) (append_assoc front (b ∷ []) m))

abbrev start_of : Place → State
start_of AtLineStart = Start
start_of WithinLine = Within

-- what a text is read as, the program reads it as
pub read_from-Reads : {place : Place} {text : List ℕ} {events : List Event} → Reads place text events → (front : List Event) → read_from front (start_of place) text ≡ Some (front ++ events)
read_from-Reads {place = AtLineStart} (Reads.end et ee) front = rw (et, ee, append-nil front) refl
read_from-Reads {place = WithinLine} (Reads.end et ee) front = rw (et, ee, append-nil front) refl
read_from-Reads (Reads.control name arguments rest words more ep et ee hn ha r) front = rw (ep, et, ee, append_assoc name arguments (newline ∷ rest)) (name_read name hn front [] (arguments ++ newline ∷ rest) ∙ arguments_read ha front name rest ∙ read_from-Reads r (front ++ Control name words ∷ []) ∙ ap Some (append_assoc front (Control name words ∷ []) more))
read_from-Reads {place = place} (Reads.span font inner content rest more et ee h r) front = rw (et, ee) (ap (read_from front (start_of place)) (ap (λ t. t ++ rest) (append_assoc (font_escape font) inner restore_font) ∙ append_assoc (font_escape font) (inner ++ restore_font) rest) ∙ (grind arith) ∙ span_read h front font [] rest ∙ read_from-Reads r (front ++ Span font content ∷ []) ∙ ap Some (append_assoc front (Span font content ∷ []) more))
read_from-Reads (Reads.line_end rest more ep et ee r) front = rw (ep, et, ee) (read_from-Reads r (front ++ LineEnd ∷ []) ∙ ap Some (append_assoc front (LineEnd ∷ []) more))

-- A text is read as at most one list of events.
pub one_reading : (text : List ℕ) (events others : List Event) → Reads AtLineStart text events → Reads AtLineStart text others → events ≡ others
one_reading text events others r s = let e = read_from-Reads r [] in let f = read_from-Reads s [] in cc
