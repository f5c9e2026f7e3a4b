-- What the calls of a roff write is read as their events.
use Rattle.std.specs.Prelude.{if◌then◌else◌, ◌++◌, ◌==◌, ◌∷◌, ◌≡◌, ◌≢◌}
use Rattle.bpaf_doc.proofs.lemmas.Manpage.Words.{AllByRecursion, list_all, inl, inr, ap, ◌∙◌, sym, subst, append_assoc, arith, append-nil, ℕ, Bool, true, false, not, List, [], map, flat_map, codes, refl, signs-append, text_after-append, newline, blank, dot, newline_as_blank, is_line_start, spaces_text, byte_text, Break, Byte, signs, sign_text, text_after, font_escape, restore_font, argument_word, argument_pieces, control_pieces, linebreak_pieces, text_pieces, Handle, Font, word_of, Step, Gives, Stop, starts_line, events_of_steps, Event, Control, Span, LineEnd, IsName, IsArgument, AreArguments, StartsNoControl, IsSpanText, Place, AtLineStart, WithinLine, Reads, Option, None, Some, Piece, Escape}
use Rattle.std.proofs.lemmas.List.Folds.{list_all-append}
use Rattle.std.proofs.lemmas.Bool.{ne_eqb, and_from, and_parts, not-true}
use Rattle.std.proofs.lemmas.Bool.Decides.{eqb_tells, nat_tests}
use Rattle.bpaf_roff.proofs.lemmas.LineStarts.{is_line_start-last}
use Rattle.bpaf_roff.proofs.lemmas.Texts as roff
use Rattle.bpaf_roff.specs.declared.escape.Apostrophes.{Apostrophes}
use Rattle.bpaf_roff.specs.declared.escape.Escape.TheVariants.{Spaces, Special, SpecialNoNewline, Unescaped}

-- a call of a roff: a control, a text of one item, or a line break
pub data Call : Type 0 where
  ControlCall : List ℕ → List (List ℕ) → Call
  TextCall : Bool → Font → List ℕ → Call
  BreakCall : Call

abbrev pub pieces_of : Call → List (Piece Escape)
pieces_of (ControlCall name arguments) = control_pieces name arguments
pieces_of (TextCall strip font text) = text_pieces strip ((font, text) ∷ [])
pieces_of BreakCall = linebreak_pieces

-- a control without arguments, if there is one
abbrev pub control_calls : Option (List ℕ) → List Call
control_calls None = []
control_calls (Some name) = ControlCall name [] ∷ []

-- what kind of byte a byte is
data Kind : ℕ → Type 0 where
  newline_byte : Kind 10
  blank_byte : Kind 32
  apostrophe_byte : Kind 39
  dash_byte : Kind 45
  dot_byte : Kind 46
  backslash_byte : Kind 92
  other : {b : ℕ} → (b == 10) ≡ false → (b == 32) ≡ false → (b == 39) ≡ false → (b == 45) ≡ false → (b == 46) ≡ false → (b == 92) ≡ false → b ≢ 10 → b ≢ 32 → b ≢ 39 → b ≢ 45 → b ≢ 46 → b ≢ 92 → Kind b

kind_of : (b : ℕ) → Kind b
kind_of b = elim (eqb_tells b 10) [ inl e ↦ subst Kind (sym e.1) newline_byte | inr e10 ↦ elim (eqb_tells b 32) [ inl e ↦ subst Kind (sym e.1) blank_byte | inr e32 ↦ elim (eqb_tells b 39) [ inl e ↦ subst Kind (sym e.1) apostrophe_byte | inr e39 ↦ elim (eqb_tells b 45) [ inl e ↦ subst Kind (sym e.1) dash_byte | inr e45 ↦ elim (eqb_tells b 46) [ inl e ↦ subst Kind (sym e.1) dot_byte | inr e46 ↦ elim (eqb_tells b 92) [ inl e ↦ subst Kind (sym e.1) backslash_byte | inr e92 ↦ other e10.0 e32.0 e39.0 e45.0 e46.0 e92.0 e10.1 e32.1 e39.1 e45.1 e46.1 e92.1 ] ] ] ] ] ]

-- what stands for plain text after the bytes written before
unfoldable pub plain : List ℕ → List ℕ → List ℕ
plain before t = text_after Handle before (map (Byte Special) t)

-- plain text is read as it is, and after a newline it begins no control
pub record IsPlain (before t : List ℕ) : Type 0 where
  pub reads : IsSpanText (plain before t) t
  pub start : is_line_start before ≡ true → StartsNoControl (plain before t)

plain_byte : (b : ℕ) → Kind b → (before t : List ℕ) → ((after : List ℕ) → IsPlain after t) → IsPlain before (b ∷ t)
unfolding plain
plain_byte b newline_byte before t later = record { reads = IsSpanText.line_break _ t refl refl ((later _).start (is_line_start-last before 10)) (later _).reads; start = λ h. (omega arith, omega arith) }
plain_byte b blank_byte before t later = record { reads = IsSpanText.plain 32 _ t refl refl (omega arith) (omega arith) (omega arith) (omega arith) (later _).reads; start = λ h. (omega arith, omega arith) }
plain_byte b apostrophe_byte before t later = by (is_line_start before) refl
  where
    by : (x : Bool) → is_line_start before ≡ x → IsPlain before (39 ∷ t)
    by true e = record { reads = rw e (IsSpanText.empty _ refl (IsSpanText.escaped_apostrophe _ t refl refl (later _).reads)); start = λ h. rw e (omega arith, omega arith) }
    by false e = record { reads = rw e (IsSpanText.escaped_apostrophe _ t refl refl (later _).reads); start = λ h. rw e (omega arith, omega arith) }
plain_byte b dash_byte before t later = record { reads = IsSpanText.escaped_dash _ t refl refl (later _).reads; start = λ h. (omega arith, omega arith) }
plain_byte b dot_byte before t later = by (is_line_start before) refl
  where
    by : (x : Bool) → is_line_start before ≡ x → IsPlain before (46 ∷ t)
    by true e = record { reads = rw e (IsSpanText.empty _ refl (IsSpanText.plain 46 _ t refl refl (omega arith) (omega arith) (omega arith) (omega arith) (later _).reads)); start = λ h. rw e (omega arith, omega arith) }
    by false e = record { reads = rw e (IsSpanText.plain 46 _ t refl refl (omega arith) (omega arith) (omega arith) (omega arith) (later _).reads); start = λ h. cc }
plain_byte b backslash_byte before t later = record { reads = IsSpanText.escaped_backslash _ t refl refl (later _).reads; start = λ h. (omega arith, omega arith) }
plain_byte b (other e10 e32 e39 e45 e46 e92 n10 n32 n39 n45 n46 n92) before t later = record { reads = rw (e46, e39, e92, e45) (IsSpanText.plain b _ t refl refl n92 n45 n39 n10 (later _).reads); start = λ h. rw (e46, e39, e92, e45) (n46, n39) }

pub plain_text : (t before : List ℕ) → IsPlain before t
unfolding plain
plain_text [] before = record { reads = IsSpanText.end refl refl; start = λ h. tt }
plain_text (b ∷ t) before = plain_byte b (kind_of b) before t (plain_text t)

-- a byte whose newline is a blank is written as that blank is, or as it was
stripped_byte : (b : ℕ) (before : List ℕ) → byte_text Handle before SpecialNoNewline b ≡ byte_text Handle before Special (newline_as_blank b)
stripped_byte b before = elim (eqb_tells b 10) [ inl e ↦ rw e.1 refl | inr e ↦ rw e.0 refl ]

-- text without its newlines is written as the text with blanks for them
stripped : (t before : List ℕ) → text_after Handle before (map (Byte SpecialNoNewline) t) ≡ plain before (map newline_as_blank t)
unfolding plain
stripped [] before = refl
stripped (b ∷ t) before = rw (stripped_byte b before, stripped t (before ++ byte_text Handle before Special (newline_as_blank b))) refl

-- text without an escape is written as it is
raw : (q : Apostrophes) (t before : List ℕ) → text_after q before (map (Byte Unescaped) t) ≡ t
raw q [] before = refl
raw q (b ∷ t) before = ap (λ ys. b ∷ ys) (raw q t (before ++ b ∷ []))

-- what a text of one item says in the end
abbrev pub said : Bool → List ℕ → List ℕ
said strip_newlines t = if strip_newlines then map newline_as_blank t else t

text_written : (strip : Bool) (font : Font) (t before : List ℕ) → (inner : List ℕ) × IsSpanText inner (said strip t) × (text_after Handle before (signs (text_pieces strip ((font, t) ∷ []))) ≡ font_escape font ++ inner ++ restore_font)
unfolding plain
text_written false font t before = (plain (before ++ font_escape font) t, (plain_text t (before ++ font_escape font)).reads, rw (text_after-append Handle before (map (Byte Unescaped) (font_escape font)), raw Handle (font_escape font) before, text_after-append Handle (before ++ font_escape font) (map (Byte Special) t)) (sym (append_assoc (font_escape font) _ _)))
text_written true font t before = (plain (before ++ font_escape font) (map newline_as_blank t), (plain_text (map newline_as_blank t) (before ++ font_escape font)).reads, rw (text_after-append Handle before (map (Byte Unescaped) (font_escape font)), raw Handle (font_escape font) before, text_after-append Handle (before ++ font_escape font) (map (Byte SpecialNoNewline) t), stripped t (before ++ font_escape font)) (sym (append_assoc (font_escape font) _ _)))

-- what the arguments of a control are written as
abbrev pub argument_text : List ℕ → List ℕ
argument_text argument = blank ∷ flat_map spaces_text (argument_word argument)

abbrev pub arguments_text : List (List ℕ) → List ℕ
arguments_text arguments = flat_map argument_text arguments

arguments_written : (arguments : List (List ℕ)) (before : List ℕ) → text_after Handle before (signs (flat_map argument_pieces arguments)) ≡ arguments_text arguments
arguments_written [] before = refl
arguments_written (a ∷ arguments) before =
    rw (text_after-append Handle (before ++ blank ∷ []) (map (Byte Spaces) (argument_word a)) (signs (flat_map argument_pieces arguments)), roff.argument_text Handle (argument_word a) (before ++ blank ∷ []), arguments_written arguments ((before ++ blank ∷ []) ++ flat_map spaces_text (argument_word a))) refl

-- an argument's bytes are read as they are, a newline as a blank
argument_byte : (b : ℕ) → Kind b → (t : List ℕ) → IsArgument (flat_map spaces_text t) (map newline_as_blank t) → IsArgument (flat_map spaces_text (b ∷ t)) (map newline_as_blank (b ∷ t))
argument_byte b newline_byte t later = IsArgument.escaped_blank _ _ refl refl later
argument_byte b blank_byte t later = IsArgument.escaped_blank _ _ refl refl later
argument_byte b apostrophe_byte t later = IsArgument.plain 39 _ _ refl refl (omega arith) (omega arith) (omega arith) later
argument_byte b dash_byte t later = IsArgument.plain 45 _ _ refl refl (omega arith) (omega arith) (omega arith) later
argument_byte b dot_byte t later = IsArgument.plain 46 _ _ refl refl (omega arith) (omega arith) (omega arith) later
argument_byte b backslash_byte t later = IsArgument.escaped_backslash _ _ refl refl later
argument_byte b (other e10 e32 e39 e45 e46 e92 n10 n32 n39 n45 n46 n92) t later = rw (e32, e10, e92) (IsArgument.plain b _ _ refl refl n92 n32 n10 later)

argument_read : (t : List ℕ) → IsArgument (flat_map spaces_text t) (map newline_as_blank t)
argument_read [] = IsArgument.end refl refl
argument_read (b ∷ t) = argument_byte b (kind_of b) t (argument_read t)

-- the word of an argument, a newline as a blank
word_read : (argument : List ℕ) → IsArgument (flat_map spaces_text (argument_word argument)) (word_of argument) × (word_of argument ≢ [])
word_read [] = (argument_read (codes "\"\""), λ e. cc)
word_read (b ∷ argument) = (argument_read (b ∷ argument), λ e. cc)

arguments_read : (arguments : List (List ℕ)) → AreArguments (arguments_text arguments) (map word_of arguments)
arguments_read [] = AreArguments.end refl refl
arguments_read (a ∷ arguments) = AreArguments.argument _ _ _ _ refl refl (word_read a).1 (word_read a).0 (arguments_read arguments)

-- no newline is in the bytes
abbrev HasNoNewline : List ℕ → Type 0
HasNoNewline t = list_all (λ b. not (b == 10)) t ≡ true

HasNoNewline-append : (s t : List ℕ) → HasNoNewline s → HasNoNewline t → HasNoNewline (s ++ t)
HasNoNewline-append s t h k = list_all-append (λ b. not (b == 10)) s t ∙ and_from _ _ h k

-- bytes without a newline leave the text within a line
line_goes_on : (t before : List ℕ) (b : ℕ) → (b == 10) ≡ false → HasNoNewline t → is_line_start (before ++ b ∷ t) ≡ false
line_goes_on [] before b h k = is_line_start-last before b ∙ h
line_goes_on (c ∷ t) before b h k = grind (arith, line_goes_on t (before ++ b ∷ []) c, and_parts, append_assoc, not-true)

argument_in_line : (t : List ℕ) → HasNoNewline (flat_map spaces_text t)
argument_in_line [] = refl
argument_in_line (b ∷ t) = HasNoNewline-append (spaces_text b) (flat_map spaces_text t) (grind (arith, nat_tests)) (argument_in_line t)

arguments_in_line : (arguments : List (List ℕ)) → HasNoNewline (arguments_text arguments)
arguments_in_line [] = refl
arguments_in_line (a ∷ arguments) = HasNoNewline-append (flat_map spaces_text (argument_word a)) (arguments_text arguments) (argument_in_line (argument_word a)) (arguments_in_line arguments)

name_in_line : (name : List ℕ) → IsName name → HasNoNewline name
name_in_line [] h = refl
name_in_line (b ∷ name) h = and_from _ _ (ap not (ne_eqb b 10 h.0.1)) (name_in_line name h.1)

-- a newline, unless at a line start
abbrev pub line_break : List ℕ → List ℕ
line_break before = sign_text Handle before Break

-- within a line a break is a newline
break_written : (before : List ℕ) → is_line_start before ≡ false → text_after Handle before (Break ∷ []) ≡ newline ∷ []
break_written before h = rw h refl

-- the text with the dot of a control
abbrev signed : List ℕ → List ℕ
signed before = (before ++ line_break before) ++ dot ∷ []

pub control_written : (name : List ℕ) (arguments : List (List ℕ)) (before : List ℕ) → IsName name → text_after Handle before (signs (control_pieces name arguments)) ≡ line_break before ++ dot ∷ ((name ++ arguments_text arguments) ++ newline ∷ [])
control_written name arguments before h = ap (λ ys. line_break before ++ dot ∷ ys) (rw (signs-append (flat_map argument_pieces arguments) linebreak_pieces, text_after-append Handle (signed before) (map (Byte Unescaped) name) (signs (flat_map argument_pieces arguments) ++ Break ∷ []), raw Handle name (signed before), text_after-append Handle ((signed before) ++ name) (signs (flat_map argument_pieces arguments)) (Break ∷ []), arguments_written arguments ((signed before) ++ name), break_written (((signed before) ++ name) ++ arguments_text arguments) within) (sym (append_assoc name (arguments_text arguments) (newline ∷ []))))
  where
    regrouped : ((signed before) ++ name) ++ arguments_text arguments ≡ (before ++ line_break before) ++ dot ∷ (name ++ arguments_text arguments)
    regrouped = append_assoc (signed before) name (arguments_text arguments) ∙ append_assoc (before ++ line_break before) (dot ∷ []) (name ++ arguments_text arguments)

    within : is_line_start (((signed before) ++ name) ++ arguments_text arguments) ≡ false
    within = rw regrouped (line_goes_on (name ++ arguments_text arguments) (before ++ line_break before) dot refl (HasNoNewline-append name (arguments_text arguments) (name_in_line name h) (arguments_in_line arguments)))

-- what a call says
abbrev pub step_of : Call → Step
step_of (ControlCall name arguments) = Gives (Control name (map word_of arguments))
step_of (TextCall strip font t) = Gives (Span font (said strip t))
step_of BreakCall = Stop

-- the name of a control is one
abbrev pub IsCall : Call → Type 0
IsCall (ControlCall name arguments) = IsName name
IsCall (TextCall strip font t) = Unit {0}
IsCall BreakCall = Unit {0}

-- at a line start or not
abbrev pub place_at : Bool → Place
place_at true = AtLineStart
place_at false = WithinLine

-- the line end that is due before the steps
abbrev pub due : Bool → List Step → List Event
due true steps = []
due false steps = if starts_line steps then LineEnd ∷ [] else []

abbrev newline_event : Bool → List Event
newline_event true = []
newline_event false = LineEnd ∷ []

-- a line break is read as a line end, unless at a line start
broken : (before t : List ℕ) (events : List Event) (x : Bool) → is_line_start before ≡ x → Reads AtLineStart t events → Reads (place_at x) (line_break before ++ t) (newline_event x ++ events)
broken before t events true e r = rw e r
broken before t events false e r = rw e (Reads.line_end t events refl refl refl r)

-- what a first call writes, and then what the others write
first_written : (call : Call) (calls : List Call) (before : List ℕ) → text_after Handle before (signs (flat_map pieces_of (call ∷ calls))) ≡ text_after Handle before (signs (pieces_of call)) ++ text_after Handle (before ++ text_after Handle before (signs (pieces_of call))) (signs (flat_map pieces_of calls))
first_written call calls before = rw (signs-append (pieces_of call) (flat_map pieces_of calls)) (text_after-append Handle before (signs (pieces_of call)) (signs (flat_map pieces_of calls)))

-- a control's line is read as the control, after the line end that is due
pub control_read : (name : List ℕ) (arguments : List (List ℕ)) (before : List ℕ) (x : Bool) → is_line_start before ≡ x → IsName name → (steps : List Step) (t : List ℕ) → Reads AtLineStart t (events_of_steps steps) → Reads (place_at x) ((line_break before ++ dot ∷ ((name ++ arguments_text arguments) ++ newline ∷ [])) ++ t) (due x (step_of (ControlCall name arguments) ∷ steps) ++ events_of_steps (step_of (ControlCall name arguments) ∷ steps))
control_read name arguments before x e h steps t r =
    rw (append_assoc (line_break before) (dot ∷ ((name ++ arguments_text arguments) ++ newline ∷ [])) t) (grind (arith, (broken before _ (Control name (map word_of arguments) ∷ events_of_steps steps) x e (Reads.control name (arguments_text arguments) t (map word_of arguments) (events_of_steps steps) refl (ap (λ ys. dot ∷ ys) (append_assoc (name ++ arguments_text arguments) (newline ∷ []) t)) refl h (arguments_read arguments) r))))

pub control_ends : (name : List ℕ) (arguments : List (List ℕ)) (before : List ℕ) → is_line_start (before ++ (line_break before ++ dot ∷ ((name ++ arguments_text arguments) ++ newline ∷ []))) ≡ true
control_ends name arguments before = let e : before ++ (line_break before ++ dot ∷ ((name ++ arguments_text arguments) ++ newline ∷ [])) ≡ (before ++ (line_break before ++ dot ∷ (name ++ arguments_text arguments))) ++ newline ∷ [] = simp append_assoc in rw e (is_line_start-last (before ++ (line_break before ++ dot ∷ (name ++ arguments_text arguments))) newline)

-- a text is read as its span, and then the line end that is due
text_read : (font : Font) (inner content : List ℕ) (x : Bool) → IsSpanText inner content → (steps : List Step) (t : List ℕ) → Reads WithinLine t (due false steps ++ events_of_steps steps) → Reads (place_at x) (((font_escape font ++ inner) ++ restore_font) ++ t) (due x (Gives (Span font content) ∷ steps) ++ events_of_steps (Gives (Span font content) ∷ steps))
text_read font inner content true h steps t r = Reads.span font inner content t (due false steps ++ events_of_steps steps) refl refl h r
text_read font inner content false h steps t r = Reads.span font inner content t (due false steps ++ events_of_steps steps) refl refl h r

text_ends : (t before : List ℕ) → is_line_start (before ++ (t ++ restore_font)) ≡ false
text_ends t before = let e : before ++ (t ++ restore_font) ≡ ((before ++ t) ++ (92 ∷ 102 ∷ [])) ++ 80 ∷ [] = simp append_assoc in rw e (is_line_start-last ((before ++ t) ++ (92 ∷ 102 ∷ [])) 80)

-- a line break is read as the line end that is due
break_read : (before : List ℕ) (x : Bool) → is_line_start before ≡ x → (steps : List Step) (t : List ℕ) → Reads AtLineStart t (events_of_steps steps) → Reads (place_at x) (line_break before ++ t) (due x (Stop ∷ steps) ++ events_of_steps (Stop ∷ steps))
break_read before true e steps t r = broken before t (events_of_steps steps) true e r
break_read before false e steps t r = broken before t (events_of_steps steps) false e r

-- The text that calls write after other text is read as what they say.
pub calls_read : (calls : List Call) → AllByRecursion IsCall calls → (before : List ℕ) (x : Bool) → is_line_start before ≡ x → Reads (place_at x) (text_after Handle before (signs (flat_map pieces_of calls))) (due x (map step_of calls) ++ events_of_steps (map step_of calls))
calls_read [] ok before true e = Reads.end refl refl
calls_read [] ok before false e = Reads.end refl refl
calls_read (ControlCall name arguments ∷ calls) ok before x e = rw (first_written (ControlCall name arguments) calls before, control_written name arguments before ok.0) (control_read name arguments before x e ok.0 (map step_of calls) _ (calls_read calls ok.1 (before ++ (line_break before ++ dot ∷ ((name ++ arguments_text arguments) ++ newline ∷ []))) true (control_ends name arguments before)))
calls_read (TextCall strip font t ∷ calls) ok before x e = let written = text_written strip font t before in rw (first_written (TextCall strip font t) calls before, written.2) (text_read font written.0 (said strip t) x written.1 (map step_of calls) _ (calls_read calls ok.1 (before ++ ((font_escape font ++ written.0) ++ restore_font)) false (text_ends (font_escape font ++ written.0) before)))
calls_read (BreakCall ∷ calls) ok before x e = rw (first_written BreakCall calls before, append-nil (line_break before)) (break_read before x e (map step_of calls) _ (calls_read calls ok.1 (before ++ line_break before) true (grind (arith, append-nil, is_line_start-last))))
