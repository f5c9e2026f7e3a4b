-- The program reads as events exactly what the text is read as.
use Rattle.std.specs.Prelude.{◌≡◌, ◌≢◌, ℕ, false, List, [], ◌∷◌, ◌++◌, ◌==◌, ◌↔◌, Option, Some, None, codes, refl}
use Rattle.std.proofs.Common.{inl, inr, ap, subst, ◌∙◌, sym, append_assoc, arith}
use Rattle.std.proofs.lemmas.List.{append-nil}
use Rattle.std.proofs.lemmas.Bool.Decides.{eqb_tells}
use Rattle.bpaf_roff.specs.Escaping.{newline, blank, dot}
use Rattle.bpaf_roff.specs.Roff.{restore_font}
use Rattle.bpaf_roff.specs.declared.roff.Font.{Font}
use Rattle.bpaf_roff.specs.declared.roff.Font.TheVariants.{Roman, Bold, Italic}
use Rattle.bpaf_doc.specs.Manpage.Reader.{Event, Control, Span, IsName, IsArgument, AreArguments, StartsNoControl, IsSpanText, Place, AtLineStart, WithinLine, Reads}
use Rattle.bpaf_doc.proofs.lemmas.Manpage.Program.{State, Start, Within, Name, Argument, ArgumentEscape, FontEscape, FontLetter, Inside, AfterNewline, InsideEscape, RestoreLetter, Star, Bracket, LetterA, Refused, next, ended, with_event, at_end, read_from, read}
use Rattle.bpaf_doc.proofs.lemmas.Manpage.OneReading.{read_from-Reads}

record RestOfName (front text : List ℕ) (events : List Event) : Type 0 where
  tail : List ℕ
  arguments : List ℕ
  rest : List ℕ
  words : List (List ℕ)
  more : List Event
  joined : text ≡ tail ++ (arguments ++ newline ∷ rest)
  named : IsName tail
  are : AreArguments arguments words
  reads : Reads AtLineStart rest more
  first : events ≡ Control (front ++ tail) words ∷ more

record RestOfArgument (name : List ℕ) (words : List (List ℕ)) (word text : List ℕ) (events : List Event) : Type 0 where
  tail : List ℕ
  read_word : List ℕ
  arguments : List ℕ
  rest : List ℕ
  more_words : List (List ℕ)
  more : List Event
  joined : text ≡ tail ++ (arguments ++ newline ∷ rest)
  argument : IsArgument tail read_word
  some : word ++ read_word ≢ []
  are : AreArguments arguments more_words
  reads : Reads AtLineStart rest more
  first : events ≡ Control name ((words ++ (word ++ read_word) ∷ []) ++ more_words) ∷ more

record RestOfSpan (font : Font) (front text : List ℕ) (events : List Event) : Type 0 where
  inner : List ℕ
  content : List ℕ
  rest : List ℕ
  more : List Event
  joined : text ≡ (inner ++ restore_font) ++ rest
  is : IsSpanText inner content
  reads : Reads WithinLine rest more
  first : events ≡ Span font (front ++ content) ∷ more

record RestAfterNewline (font : Font) (front text : List ℕ) (events : List Event) : Type 0 where
  span : RestOfSpan font front text events
  guarded : StartsNoControl span.inner

-- what is still to come from a state on
Next : State → List ℕ → List Event → Type 0
Next Start text events = Reads AtLineStart text events
Next Within text events = Reads WithinLine text events
Next (Name name) text events = RestOfName name text events
Next (Argument name words word) text events = RestOfArgument name words word text events
Next (ArgumentEscape name words word) text events = RestOfArgument name words word (92 ∷ text) events
Next FontEscape text events = (place : Place) → Reads place (92 ∷ text) events
Next FontLetter text events = (place : Place) → Reads place (92 ∷ 102 ∷ text) events
Next (Inside font content) text events = RestOfSpan font content text events
Next (AfterNewline font content) text events = RestAfterNewline font content text events
Next (InsideEscape font content) text events = RestOfSpan font content (92 ∷ text) events
Next (RestoreLetter font content) text events = RestOfSpan font content (92 ∷ 102 ∷ text) events
Next (Star font content) text events = RestOfSpan font content (92 ∷ 42 ∷ text) events
Next (Bracket font content) text events = RestOfSpan font content (92 ∷ 42 ∷ 40 ∷ text) events
Next (LetterA font content) text events = RestOfSpan font content (92 ∷ 42 ∷ 40 ∷ 65 ∷ text) events
Next Refused text events = ⊥

abbrev event_list : Option Event → List Event
event_list None = []
event_list (Some event) = event ∷ []

-- from what comes after a byte to what comes with it
abbrev Back : State → List ℕ → List Event → ℕ → Type 0
Back state text more b = Next (next state b) text more → Next state (b ∷ text) (event_list (ended state b) ++ more)

-- a fact at any byte, from the fact at k and the fact at the others
test : (P : ℕ → Type 0) (b k : ℕ) → P k → ((b == k) ≡ false → b ≢ k → P b) → P b
test P b k same others = elim (eqb_tells b k) [ inl e ↦ subst P (sym e.1) same | inr n ↦ others n.0 n.1 ]

-- an argument with one more byte, however it is spelled
longer : (name : List ℕ) (words : List (List ℕ)) (word : List ℕ) (b : ℕ) (spelled t : List ℕ) (more : List Event) → ((r m : List ℕ) → IsArgument r m → IsArgument (spelled ++ r) (b ∷ m)) → RestOfArgument name words (word ++ b ∷ []) t more → RestOfArgument name words word (spelled ++ t) more
longer name words word b spelled t more unit h = record { tail = spelled ++ h.tail; read_word = b ∷ h.read_word; arguments = h.arguments; rest = h.rest; more_words = h.more_words; more = h.more; joined = ap (λ ys. spelled ++ ys) h.joined ∙ sym (append_assoc spelled h.tail (h.arguments ++ newline ∷ h.rest)); argument = unit h.tail h.read_word h.argument; some = λ e. h.some (append_assoc word (b ∷ []) h.read_word ∙ e); are = h.are; reads = h.reads; first = h.first ∙ ap (λ w. Control name ((words ++ w ∷ []) ++ h.more_words) ∷ h.more) (append_assoc word (b ∷ []) h.read_word) }

back_blank : (name : List ℕ) (words : List (List ℕ)) (word t : List ℕ) (more : List Event) → Next (next (Argument name words word) 32) t more → RestOfArgument name words word (32 ∷ t) more
unfolding Next
back_blank name words [] t more h = absurd h
back_blank name words (c ∷ word) t more h = record { tail = []; read_word = []; arguments = blank ∷ (h.tail ++ h.arguments); rest = h.rest; more_words = h.read_word ∷ h.more_words; more = h.more; joined = ap (λ ys. blank ∷ ys) (h.joined ∙ sym (append_assoc h.tail h.arguments (newline ∷ h.rest))); argument = IsArgument.end refl refl; some = λ e. cc; are = AreArguments.argument h.tail h.read_word h.arguments h.more_words refl refl h.some h.argument h.are; reads = h.reads; first = h.first ∙ ap (λ ws. Control name ws ∷ h.more) (append_assoc (words ++ (c ∷ word) ∷ []) (h.read_word ∷ []) h.more_words ∙ ap (λ w. (words ++ (c ∷ w) ∷ []) ++ (h.read_word ∷ h.more_words)) (sym (append-nil word))) }

back_line_over : (name : List ℕ) (words : List (List ℕ)) (word t : List ℕ) (more : List Event) → Next (next (Argument name words word) 10) t more → RestOfArgument name words word (10 ∷ t) (Control name (words ++ word ∷ []) ∷ more)
unfolding Next
back_line_over name words [] t more h = absurd h
back_line_over name words (c ∷ word) t more h = record { tail = []; read_word = []; arguments = []; rest = t; more_words = []; more = more; joined = refl; argument = IsArgument.end refl refl; some = λ e. cc; are = AreArguments.end refl refl; reads = h; first = ap (λ ws. Control name ws ∷ more) (ap (λ w. words ++ (c ∷ w) ∷ []) (sym (append-nil word)) ∙ sym (append-nil (words ++ ((c ∷ word) ++ []) ∷ []))) }

-- a span with one more byte, however it is spelled
more_inside : (font : Font) (front : List ℕ) (b : ℕ) (spelled t : List ℕ) (more : List Event) → ((r m : List ℕ) → IsSpanText r m → IsSpanText (spelled ++ r) (b ∷ m)) → RestOfSpan font (front ++ b ∷ []) t more → RestOfSpan font front (spelled ++ t) more
more_inside font front b spelled t more unit h = record { inner = spelled ++ h.inner; content = b ∷ h.content; rest = h.rest; more = h.more; joined = ap (λ ys. spelled ++ ys) h.joined ∙ sym (append_assoc spelled (h.inner ++ restore_font) h.rest) ∙ ap (λ ys. ys ++ h.rest) (sym (append_assoc spelled h.inner restore_font)); is = unit h.inner h.content h.is; reads = h.reads; first = h.first ∙ ap (λ w. Span font w ∷ h.more) (append_assoc front (b ∷ []) h.content) }

back_inside : (font : Font) (front : List ℕ) (b : ℕ) (t : List ℕ) (more : List Event) → Back (Inside font front) t more b
unfolding Next
back_inside font front b t more = test (Back (Inside font front) t more) b 92 (λ h. h) (λ e92 n92. test (Back (Inside font front) t more) b 10 (λ h. record { inner = 10 ∷ h.span.inner; content = 10 ∷ h.span.content; rest = h.span.rest; more = h.span.more; joined = ap (λ ys. 10 ∷ ys) h.span.joined; is = IsSpanText.line_break h.span.inner h.span.content refl refl h.guarded h.span.is; reads = h.span.reads; first = h.span.first ∙ ap (λ w. Span font w ∷ h.span.more) (append_assoc front (10 ∷ []) h.span.content) }) (λ e10 n10. test (Back (Inside font front) t more) b 45 (λ h. absurd h) (λ e45 n45. test (Back (Inside font front) t more) b 39 (λ h. absurd h) (λ e39 n39. rw (e92, e10, e45, e39) (more_inside font front b (b ∷ []) t more (λ r m. IsSpanText.plain b r m refl refl n92 n45 n39 n10))))))

guarded_by : (b : ℕ) (t inner rest : List ℕ) → b ∷ t ≡ (inner ++ restore_font) ++ rest → b ≢ 46 → b ≢ 39 → StartsNoControl inner
guarded_by b t inner rest h4 h5 h6 = grind arith

same_next : (font : Font) (front : List ℕ) (b : ℕ) → (b == 46) ≡ false → (b == 39) ≡ false → next (AfterNewline font front) b ≡ next (Inside font front) b
same_next font front b e46 e39 = rw (e46, e39) refl

-- from what comes after a byte to what comes with it, in each state
back : (state : State) (b : ℕ) (t : List ℕ) (more : List Event) → Back state t more b
unfolding Next
back Start b t more = test (Back Start t more) b 46 (λ h. Reads.control h.tail h.arguments h.rest h.words h.more refl (ap (λ ys. dot ∷ ys) (h.joined ∙ sym (append_assoc h.tail h.arguments (newline ∷ h.rest)))) h.first h.named h.are h.reads) (λ e46 n46. test (Back Start t more) b 92 (λ h. h AtLineStart) (λ e92 n92. λ h. absurd (rw (e46, e92) at h)))
back Within b t more = test (Back (Within) t more) b 10 (λ h. Reads.line_end t more refl refl refl h) (λ e10 n10. test (Back (Within) t more) b 92 (λ h. h WithinLine) (λ e92 n92. λ h. absurd (rw (e10, e92) at h)))
back (Name front) b t more = test (Back (Name front) t more) b 32 (λ h. record { tail = []; arguments = blank ∷ (h.tail ++ h.arguments); rest = h.rest; words = h.read_word ∷ h.more_words; more = h.more; joined = ap (λ ys. blank ∷ ys) (h.joined ∙ sym (append_assoc h.tail h.arguments (newline ∷ h.rest))); named = tt; are = AreArguments.argument h.tail h.read_word h.arguments h.more_words refl refl h.some h.argument h.are; reads = h.reads; first = h.first ∙ ap (λ n. Control n (h.read_word ∷ h.more_words) ∷ h.more) (sym (append-nil front)) }) (λ e32 n32. test (Back (Name front) t more) b 10 (λ h. record { tail = []; arguments = []; rest = t; words = []; more = more; joined = refl; named = tt; are = AreArguments.end refl refl; reads = h; first = ap (λ n. Control n [] ∷ more) (sym (append-nil front)) }) (λ e10 n10. rw (e32, e10) (λ h. record { tail = b ∷ h.tail; arguments = h.arguments; rest = h.rest; words = h.words; more = h.more; joined = ap (λ ys. b ∷ ys) h.joined; named = ((n32, n10), h.named); are = h.are; reads = h.reads; first = h.first ∙ ap (λ n. Control n h.words ∷ h.more) (append_assoc front (b ∷ []) h.tail) })))
back (Argument name words word) b t more = test (Back (Argument name words word) t more) b 92 (λ h. h) (λ e92 n92. test (Back (Argument name words word) t more) b 32 (back_blank name words word t more) (λ e32 n32. test (Back (Argument name words word) t more) b 10 (back_line_over name words word t more) (λ e10 n10. rw (e92, e32, e10) (longer name words word b (b ∷ []) t more (λ r m. IsArgument.plain b r m refl refl n92 n32 n10)))))
back (ArgumentEscape name words word) b t more = test (Back (ArgumentEscape name words word) t more) b 92 (longer name words word 92 (codes "\\\\") t more (λ r m. IsArgument.escaped_backslash r m refl refl)) (λ e92 n92. test (Back (ArgumentEscape name words word) t more) b 32 (longer name words word 32 (codes "\\ ") t more (λ r m. IsArgument.escaped_blank r m refl refl)) (λ e32 n32. λ h. absurd (rw (e92, e32) at h)))
back FontEscape b t more = test (Back (FontEscape) t more) b 102 (λ h. h) (λ e102 n102. λ h. absurd (rw e102 at h))
back FontLetter b t more = test (Back (FontLetter) t more) b 82 (λ h place. Reads.span Roman h.inner h.content h.rest h.more (ap (λ ys. 92 ∷ 102 ∷ 82 ∷ ys) h.joined) h.first h.is h.reads) (λ e82 n82. test (Back (FontLetter) t more) b 66 (λ h place. Reads.span Bold h.inner h.content h.rest h.more (ap (λ ys. 92 ∷ 102 ∷ 66 ∷ ys) h.joined) h.first h.is h.reads) (λ e66 n66. test (Back (FontLetter) t more) b 73 (λ h place. Reads.span Italic h.inner h.content h.rest h.more (ap (λ ys. 92 ∷ 102 ∷ 73 ∷ ys) h.joined) h.first h.is h.reads) (λ e73 n73. λ h. absurd (rw (e82, e66, e73) at h))))
back (Inside font front) b t more = back_inside font front b t more
back (AfterNewline font front) b t more = test (Back (AfterNewline font front) t more) b 46 (λ h. absurd h) (λ e46 n46. test (Back (AfterNewline font front) t more) b 39 (λ h. absurd h) (λ e39 n39. (λ h. let span = back_inside font front b t more (subst (λ state. Next state t more) (same_next font front b e46 e39) h) in record { span = span; guarded = guarded_by b t span.inner span.rest span.joined n46 n39 })))
back (InsideEscape font front) b t more = test (Back (InsideEscape font front) t more) b 92 (more_inside font front 92 (codes "\\\\") t more (λ r m. IsSpanText.escaped_backslash r m refl refl)) (λ e92 n92. test (Back (InsideEscape font front) t more) b 45 (more_inside font front 45 (codes "\\-") t more (λ r m. IsSpanText.escaped_dash r m refl refl)) (λ e45 n45. test (Back (InsideEscape font front) t more) b 38 (λ h. record { inner = 92 ∷ 38 ∷ h.inner; content = h.content; rest = h.rest; more = h.more; joined = ap (λ ys. 92 ∷ 38 ∷ ys) h.joined; is = IsSpanText.empty h.inner refl h.is; reads = h.reads; first = h.first }) (λ e38 n38. test (Back (InsideEscape font front) t more) b 42 (λ h. h) (λ e42 n42. test (Back (InsideEscape font front) t more) b 102 (λ h. h) (λ e102 n102. λ h. absurd (rw (e92, e45, e38, e42, e102) at h))))))
back (RestoreLetter font front) b t more = test (Back (RestoreLetter font front) t more) b 80 (λ h. record { inner = []; content = []; rest = t; more = more; joined = refl; is = IsSpanText.end refl refl; reads = h; first = ap (λ w. Span font w ∷ more) (sym (append-nil front)) }) (λ e80 n80. λ h. absurd (rw e80 at h))
back (Star font front) b t more = test (Back (Star font front) t more) b 40 (λ h. h) (λ e40 n40. λ h. absurd (rw e40 at h))
back (Bracket font front) b t more = test (Back (Bracket font front) t more) b 65 (λ h. h) (λ e65 n65. λ h. absurd (rw e65 at h))
back (LetterA font front) b t more = test (Back (LetterA font front) t more) b 113 (more_inside font front 39 (codes "\\*(Aq") t more (λ r m. IsSpanText.escaped_apostrophe r m refl refl)) (λ e113 n113. λ h. absurd (rw e113 at h))
back Refused b t more = λ h. absurd h

ended_events : (events : List Event) (o : Option Event) (more : List Event) → with_event events o ++ more ≡ events ++ (event_list o ++ more)
ended_events events o more = grind (arith, append_assoc)

stopped : (state : State) (events out : List Event) → at_end state events ≡ Some out → (more : List Event) × (out ≡ events ++ more) × Next state [] more
unfolding Next
stopped Start events out e = let same : events ≡ out = cc in ([], sym same ∙ sym (append-nil events), Reads.end refl refl)
stopped Within events out e = let same : events ≡ out = cc in ([], sym same ∙ sym (append-nil events), Reads.end refl refl)
stopped _ events out e = absurd cc

from_state : (text : List ℕ) (state : State) (events out : List Event) → read_from events state text ≡ Some out → (more : List Event) × (out ≡ events ++ more) × Next state text more
from_state [] state events out e = stopped state events out e
from_state (b ∷ text) state events out e = let found = from_state text (next state b) (with_event events (ended state b)) out e in (event_list (ended state b) ++ found.0, found.1 ∙ ended_events events (ended state b) found.0, back state b text found.0 found.2)

-- The program reads a text as the events exactly where the text is read as them.
pub read-Reads : (text : List ℕ) (events : List Event) → (read text ≡ Some events) ↔ Reads AtLineStart text events
unfolding Next
read-Reads text events = ((λ e. let found = from_state text Start [] events e in subst (λ es. Reads AtLineStart text es) (sym found.1) found.2), (λ r. read_from-Reads r []))
