-- What is cut of a text is notes.
use Rattle.std.proofs.Common.{◌≡◌, ℕ, zero, suc, ◌+◌, ◌-◌, ◌<◌, ◌≤◌, inl, inr, Bool, true, false, cond, List, [], ◌∷◌, ◌++◌, IfSome, Option, None, Some, append_assoc, bytes_eq, codes, drop, drop-cons, get_or, length, reverse, take, refl, sym, ap, ◌∙◌, subst, arith}
use Rattle.std.specs.Prelude.{◌==◌, min, nat_lt, not}
use Rattle.std.specs.List.{list_any, slice_index}
use Rattle.std.specs.Option.{option_map, option_or}
use Rattle.std.specs.Str.{IsCharBoundary, IsUtf8, trim, trim_end}
use Rattle.std.proofs.Math.Seq.{drop-append_seam, take-append_seam}
use Rattle.std.proofs.lemmas.Bool.{eqb-true}
use Rattle.std.proofs.lemmas.Bool.Decides.{nat_tests}
use Rattle.std.proofs.lemmas.List.{append-nil, drop_all, get_or-reverse, get_or-take, length-append, length-reverse, length-take, nil_from_length, take-append-drop, take_all}
use Rattle.std.proofs.lemmas.List.Elements.{All-weaker}
use Rattle.std.proofs.lemmas.List.Folds.{list_any_none}
use Rattle.std.proofs.lemmas.List.Sums.{prefix_len_stops}
use Rattle.std.proofs.lemmas.Slice.Eq.{bytes_eq-Decides}
use Rattle.std.proofs.lemmas.Str.{IsCharBoundary-after_ascii, IsCharBoundary-before_ascii, IsUtf8-drop, IsUtf8-take}
use Rattle.help_fronts.specs.Laws.{IsTextOf}
use Rattle.help_fronts.proofs.Texts.{at_end, at_front, dropped, itself, taken, within}
use Rattle.drafts.specs.Seen.{last}
use Rattle.drafts.specs.Notes.{CutSaid, IsFront, NoteSaid, NotesSaid, after_last, bare_default, before, after, bracketed, cut, cut_by, cut_from, fit, helped, is_space, joined, last_note, no_notes, note_at_end, note_in, note_of, note_of_kind, opening, split_last, split_open, unquoted, unquoted_in, variable, with_note, with_text, without_last}
use Rattle.drafts.specs.declared.notes.NoteKind.{NoteKind}
use Rattle.drafts.specs.declared.notes.NoteKind.TheVariants as note
use Rattle.drafts.specs.Laws.{AreNotesOf, HelpsStandInTheirLines, IsHelpOf, IsInBrackets, IsNoteText, NotesStandAtTheEnd, all_said}
use Rattle.drafts.proofs.Cuts.{quote_cut, stands}
use Rattle.drafts.proofs.Ends.{help_cut, joined_length, take_front}
use Rattle.drafts.proofs.KeptHelps.{joined_utf8, pieces_whole}
use Rattle.drafts.proofs.Lists.{end_passes}
use Rattle.drafts.proofs.Trims.{IsEndOf, end_left, end_trimmed, trimmed}

-- ---- what may be missing

mapped : {X Y : Type 0} (P : Y → Type 0) (f : X → Y) (o : Option X) → IfSome o (λ x. P (f x)) → IfSome (option_map f o) P
mapped P f None h = tt
mapped P f (Some x) h = h

or_else : {X : Type 0} (P : X → Type 0) (a b : Option X) → IfSome a P → IfSome b P → IfSome (option_or a b) P
or_else P None b h g = g
or_else P (Some x) b h g = h

weaker : {X : Type 0} (P Q : X → Type 0) → ((x : X) → P x → Q x) → (o : Option X) → IfSome o P → IfSome o Q
weaker P Q more None h = tt
weaker P Q more (Some x) h = more x h

-- what is there, where it is said
there : {X : Type 0} (P : X → Type 0) (o : Option X) → IfSome o P → IfSome o (λ x. P x × (o ≡ Some x))
there P None h = tt
there P (Some x) h = (h, refl)

-- ---- brackets

-- a text that ends with a byte, without it
record IsClosed (text start : List ℕ) (closing : ℕ) : Type 0 where
  utf8 : IsUtf8 start
  whole : text ≡ start ++ (closing ∷ [])

closed_by : (closing : ℕ) (text : List ℕ) → 0 < closing → closing < 128 → last text ≡ closing → IsUtf8 text → IsClosed text (without_last text) closing
closed_by closing text some ascii here u =
    let n = length text - 1 in
    let below : n < length text = stands text n closing here some in
    let end : drop n text ≡ closing ∷ [] = drop-cons text n 0 below ∙ ap (λ b. b ∷ drop (suc n) text) here ∙ ap (λ t. closing ∷ t) (drop_all (suc n) text (omega arith)) in
    record {
      utf8 = IsUtf8-take text n u (IsCharBoundary-before_ascii text n below (omega (arith, here, ascii)));
      whole = sym (take-append-drop n text) ∙ ap (λ t. take n text ++ t) end;
    }

closed : (closing : ℕ) (text : List ℕ) → 0 < closing → closing < 128 → IsUtf8 text → IfSome (before closing text) (λ start. IsClosed text start closing)
closed closing text some ascii u = by (last text == closing) refl where
  by : (t : Bool) → (last text == closing) ≡ t → IfSome (cond t (Some (without_last text)) None) (λ start. IsClosed text start closing)
  by true e = closed_by closing text some ascii (eqb-true (last text) closing e) u
  by false e = tt

-- what stands before an opening bracket, and after it
record IsOpened (text start inner : List ℕ) (bracket : ℕ) : Type 0 where
  utf8 : IsUtf8 start
  inner_utf8 : IsUtf8 inner
  whole : text ≡ start ++ (bracket ∷ inner)
  is_last : list_any (λ b. b == bracket) inner ≡ false

no_other : (x c : ℕ) → not (x == c) ≡ false → x ≡ c
no_other x c h = grind (arith, nat_tests)

is_less : (x y : ℕ) → nat_lt x y ≡ true → x < y
is_less x y h = grind (arith, nat_tests)

last_is : (c : ℕ) (text : List ℕ) → after_last c text < length text → get_or text (length text - 1 - after_last c text) 0 ≡ c
last_is c text h =
    no_other (get_or text (length text - 1 - after_last c text) 0) c
    (ap (λ b. not (b == c)) (sym (get_or-reverse text (after_last c text) 0 h)) ∙ prefix_len_stops (λ b. not (b == c)) (reverse text) 0 (omega (arith, h, length-reverse text)))

differs : (x c : ℕ) → not (x == c) ≡ true → (x == c) ≡ false
differs x c h = grind (arith, nat_tests)

none_after : (c : ℕ) (text : List ℕ) → list_any (λ b. b == c) (drop (length text - after_last c text) text) ≡ false
none_after c text =
    let end : List ℕ = drop (length text - after_last c text) text in
    list_any_none (λ b. b == c) end (All-weaker (λ b. not (b == c) ≡ true) (λ b. (b == c) ≡ false) (λ b. differs b c) end (end_passes (λ b. not (b == c)) text))

opened_at : (bracket n m : ℕ) (text : List ℕ) → m ≡ n + 1 → IsUtf8 text → n < length text → get_or text n 0 ≡ bracket → bracket < 128 → list_any (λ b. b == bracket) (drop m text) ≡ false → IsOpened text (take n text) (drop m text) bracket
opened_at bracket n m text e u below here ascii none =
    let next : suc n ≡ m = omega (arith, e) in
    let end : drop n text ≡ bracket ∷ drop m text = drop-cons text n 0 below ∙ ap (λ b. b ∷ drop (suc n) text) here ∙ ap (λ k. bracket ∷ drop k text) next in
    record {
      utf8 = IsUtf8-take text n u (IsCharBoundary-before_ascii text n below (omega (arith, here, ascii)));
      inner_utf8 = IsUtf8-drop text m u (subst (IsCharBoundary text) (sym e) (IsCharBoundary-after_ascii text n u below (omega (arith, here, ascii))));
      whole = sym (take-append-drop n text) ∙ ap (λ t. take n text ++ t) end;
      is_last = none;
    }

opened : (bracket : ℕ) (text : List ℕ) → bracket < 128 → IsUtf8 text → IfSome (split_last bracket text) (λ s. IsOpened text s.0 s.1 bracket)
opened bracket text ascii u = by (nat_lt (after_last bracket text) (length text)) refl where
  k : ℕ
  k = after_last bracket text

  by : (t : Bool) → nat_lt k (length text) ≡ t → IfSome {T = List ℕ × List ℕ} (cond t (Some (take (length text - k - 1) text, drop (length text - k) text)) None) (λ s. IsOpened text s.0 s.1 bracket)
  by true e =
      let below : k < length text = is_less k (length text) e in
      let place : length text - k - 1 ≡ length text - 1 - k = omega arith in
      let here : get_or text (length text - k - 1) 0 ≡ bracket = ap (λ i. get_or text i 0) place ∙ last_is bracket text below in
      opened_at bracket (length text - k - 1) (length text - k) text (omega (arith, below)) u (omega (arith, below)) here ascii (none_after bracket text)
  by false e = tt

-- what stands before the brackets that a text ends with, and in them
record IsBracketed (text start inner : List ℕ) : Type 0 where
  utf8 : IsUtf8 start
  inner_utf8 : IsUtf8 inner
  brackets : List ℕ
  whole : text ≡ start ++ brackets
  in_brackets : IsInBrackets brackets inner

abbrev AreBracketed : (text : List ℕ) → List ℕ × List ℕ → Type 0
AreBracketed text s = IsBracketed text s.0 s.1

abbrev between : (bracket closing : ℕ) (inner : List ℕ) → List ℕ
between bracket closing inner = bracket ∷ (inner ++ (closing ∷ []))

both : (bracket closing : ℕ) (text front : List ℕ) → ((inner : List ℕ) → list_any (λ b. b == bracket) inner ≡ false → IsInBrackets (between bracket closing inner) inner) → IsClosed text front closing → (s : List ℕ × List ℕ) → IsOpened front s.0 s.1 bracket
    → AreBracketed text s
both bracket closing text front are h s g = record {
  utf8 = g.utf8;
  inner_utf8 = g.inner_utf8;
  brackets = between bracket closing s.1;
  whole = h.whole ∙ ap (λ t. t ++ (closing ∷ [])) g.whole ∙ append_assoc s.0 (bracket ∷ s.1) (closing ∷ []);
  in_brackets = are s.1 g.is_last;
}

bracketed_by : (bracket closing : ℕ) (text : List ℕ) → bracket < 128 → 0 < closing → closing < 128 → ((inner : List ℕ) → list_any (λ b. b == bracket) inner ≡ false → IsInBrackets (between bracket closing inner) inner) → IsUtf8 text
    → IfSome (split_open bracket (before closing text)) (AreBracketed text)
bracketed_by bracket closing text ascii some small are u = by (before closing text) (closed closing text some small u) where
  by : (o : Option (List ℕ)) → IfSome o (λ start. IsClosed text start closing) → IfSome (split_open bracket o) (AreBracketed text)
  by None h = tt
  by (Some front) h = weaker (λ s. IsOpened front s.0 s.1 bracket) (AreBracketed text) (both bracket closing text front are h) (split_last bracket front) (opened bracket front ascii h.utf8)

brackets : (text : List ℕ) → IsUtf8 text → IfSome (bracketed text) (AreBracketed text)
brackets text u =
    or_else (AreBracketed text) (split_open 91 (before 93 text)) (split_open 40 (before 41 text))
    (bracketed_by 91 93 text (omega arith) (omega arith) (omega arith) (λ inner none. inl (refl, none)) u) (bracketed_by 40 41 text (omega arith) (omega arith) (omega arith) (λ inner none. inr (refl, none)) u)

within_brackets : (text inner : List ℕ) → IsInBrackets text inner → IsTextOf text inner
within_brackets text inner (inl e) = record { before = codes "["; after = codes "]"; whole = e.0 }
within_brackets text inner (inr e) = record { before = codes "("; after = codes ")"; whole = e.0 }

-- ---- what stands in brackets

-- a text of a text, in UTF-8
record IsUtf8TextOf (text found : List ℕ) : Type 0 where
  stands : IsTextOf text found
  utf8 : IsUtf8 found

abbrev Says : (text : List ℕ) → NoteSaid → Type 0
Says text n = IsTextOf text n.text

-- after a beginning that ends with a blank
begun : (beginning text : List ℕ) → 0 < length beginning → get_or beginning (length beginning - 1) 0 ≡ 32 → IsUtf8 text → IfSome (after beginning text) (IsUtf8TextOf text)
begun beginning text some blank u = by (bytes_eq (take (length beginning) text) beginning) refl where
  n : ℕ
  n = length beginning

  by : (t : Bool) → bytes_eq (take n text) beginning ≡ t → IfSome (cond t (Some (drop n text)) None) (IsUtf8TextOf text)
  by true e =
      let same : take n text ≡ beginning = (bytes_eq-Decides (take n text) beginning).0 e in
      let size : min n (length text) ≡ n = sym (length-take n text) ∙ ap length same in
      let here : get_or text (n - 1) 0 ≡ 32 = sym (get_or-take n text (n - 1) 0 (omega (arith, some))) ∙ ap (λ s. get_or s (n - 1) 0) same ∙ blank in
      let cut : IsCharBoundary text (n - 1 + 1) = IsCharBoundary-after_ascii text (n - 1) u (omega (arith, some, size)) (omega (arith, here)) in
      record { stands = dropped n text; utf8 = IsUtf8-drop text n u (subst (IsCharBoundary text) (omega (arith, some)) cut) }
  by false e = tt

noted : (k : NoteKind) (text found : List ℕ) → IsUtf8TextOf text found → Says text (note_of k found)
noted k text found h = within text found (trim found) h.stands (trimmed found h.utf8).stands

noted_all : (k : NoteKind) (text : List ℕ) (o : Option (List ℕ)) → IfSome o (IsUtf8TextOf text) → IfSome (option_map (note_of k) o) (Says text)
noted_all k text o h = mapped (Says text) (note_of k) o (weaker (IsUtf8TextOf text) (λ found. Says text (note_of k found)) (noted k text) o h)

of_kind : (k : NoteKind) (text : List ℕ) → IsUtf8 text → IfSome (note_of_kind k text) (Says text)
of_kind note.Default text u = noted_all note.Default text (after (opening note.Default) text) (begun (opening note.Default) text (omega arith) refl u)
of_kind note.Values text u = noted_all note.Values text (after (opening note.Values) text) (begun (opening note.Values) text (omega arith) refl u)
of_kind note.Env text u = noted_all note.Env text (after (opening note.Env) text) (begun (opening note.Env) text (omega arith) refl u)

quoted : (text own : List ℕ) → own ≡ drop 1 text → (found : List ℕ) → IsClosed own found 34 → IsUtf8TextOf text found
quoted text own e found h = record {
  stands = within text own found (subst (IsTextOf text) (sym e) (dropped 1 text)) (subst (λ t. IsTextOf t found) (sym h.whole) (at_front found (34 ∷ [])));
  utf8 = h.utf8;
}

bare_text : (text : List ℕ) → IsUtf8 text → IfSome (unquoted text) (IsUtf8TextOf text)
bare_text text u = by (slice_index text 0 == 34) refl (list_any is_space text) where
  by : (t : Bool) → (slice_index text 0 == 34) ≡ t → (s : Bool) → IfSome (cond t (before 34 (drop 1 text)) (cond s None (Some text))) (IsUtf8TextOf text)
  by true e s =
      let own = drop 1 text in
      weaker (λ found. IsClosed own found 34) (IsUtf8TextOf text) (quoted text own refl) (before 34 own)
      (closed 34 own (omega arith) (omega arith) (IsUtf8-drop text 1 u (quote_cut text (eqb-true (slice_index text 0) 34 e) u)))
  by false e true = tt
  by false e false = record { stands = itself text; utf8 = u }

bare : (text : List ℕ) → IsUtf8 text → IfSome (bare_default text) (Says text)
bare text u = noted_all note.Default text (unquoted_in (after (codes "default ") text)) (by (after (codes "default ") text) (begun (codes "default ") text (omega arith) refl u)) where
  by : (o : Option (List ℕ)) → IfSome o (IsUtf8TextOf text) → IfSome (unquoted_in o) (IsUtf8TextOf text)
  by None h = tt
  by (Some found) h =
      weaker (IsUtf8TextOf found) (IsUtf8TextOf text) (λ own g. record { stands = within text found own h.stands g.stands; utf8 = g.utf8 }) (unquoted found) (bare_text found h.utf8)

says : (text : List ℕ) → IsUtf8 text → IfSome (note_in text) (Says text)
says text u =
    let preset = note_of_kind note.Default text in
    let values = note_of_kind note.Values text in
    let env = note_of_kind note.Env text in
    or_else (Says text) (option_or (option_or preset values) env) (bare_default text)
    (or_else (Says text) (option_or preset values) env (or_else (Says text) preset values (of_kind note.Default text u) (of_kind note.Values text u)) (of_kind note.Env text u)) (bare text u)

-- ---- the last note

record IsNoted (text start : List ℕ) (n : NoteSaid) : Type 0 where
  utf8 : IsUtf8 start
  end : List ℕ
  whole : text ≡ start ++ end
  note : IsNoteText end n
  stands : Says end n

abbrev AreNoted : (text : List ℕ) → List ℕ × NoteSaid → Type 0
AreNoted text s = IsNoted text s.0 s.1

-- with the white space before it
noted_at : (text front inner : List ℕ) → IsBracketed text front inner → IsEndOf front (trim_end front) → (n : NoteSaid) → Says inner n × (note_in inner ≡ Some n) → IsNoted text (trim_end front) n
noted_at text front inner h e n g =
    let end : List ℕ = e.after ++ h.brackets in
    record {
      utf8 = (end_trimmed front h.utf8).utf8;
      end = end;
      whole = h.whole ∙ ap (λ t. t ++ h.brackets) e.whole ∙ append_assoc (trim_end front) e.after h.brackets;
      note = record { white = e.after; brackets = h.brackets; inner = inner; whole = refl; is_white = e.is_white; in_brackets = h.in_brackets; note = g.1 };
      stands = within end h.brackets n.text (at_end e.after h.brackets) (within h.brackets inner n.text (within_brackets h.brackets inner h.in_brackets) g.0);
    }

last_noted : (text : List ℕ) → IsUtf8 text → IfSome (last_note text) (AreNoted text)
last_noted text u = by (bracketed text) (brackets text u) where
  by : (o : Option (List ℕ × List ℕ)) → IfSome o (AreBracketed text) → IfSome (note_at_end o) (AreNoted text)
  by None h = tt
  by (Some (front, inner)) h =
      mapped (AreNoted text) (λ n. (trim_end front, n)) (note_in inner)
      (weaker (λ n. Says inner n × (note_in inner ≡ Some n)) (λ n. IsNoted text (trim_end front) n) (noted_at text front inner h (end_left front h.utf8)) (note_in inner)
      (there (Says inner) (note_in inner) (says inner h.inner_utf8)))

-- ---- all notes

none_said : (text : List ℕ) → text ≡ [] → AreNotesOf text no_notes
none_said text e = record { notes = []; follow = e; said = refl; preset = tt; values = tt; env = tt }

after_first : (first rest : List ℕ) (o : Option (List ℕ)) → IfSome o (IsTextOf rest) → IfSome o (IsTextOf (first ++ rest))
after_first first rest = weaker (IsTextOf rest) (IsTextOf (first ++ rest)) (λ t. within (first ++ rest) rest t (at_end first rest))

one_more : (first rest : List ℕ) (all : NotesSaid) (n : NoteSaid) → AreNotesOf rest all → IsNoteText first n → Says first n → AreNotesOf (first ++ rest) (with_note all n)
one_more first rest all n h own stands = by n.kind refl where
  here : (t : List ℕ) → IsTextOf first t → IsTextOf (first ++ rest) t
  here t = within (first ++ rest) first t (at_front first rest)

  preset : IfSome all.preset (IsTextOf (first ++ rest))
  preset = after_first first rest all.preset h.preset

  values : IfSome all.values (IsTextOf (first ++ rest))
  values = after_first first rest all.values h.values

  env : IfSome all.env (IsTextOf (first ++ rest))
  env = after_first first rest all.env h.env

  said : with_note all n ≡ all_said (n ∷ h.notes)
  said = ap (λ a. with_note a n) h.said

  by : (k : NoteKind) → n.kind ≡ k → AreNotesOf (first ++ rest) (with_text k n.text all)
  by note.Default e = record { notes = n ∷ h.notes; follow = (first, rest, refl, own, h.follow); said = ap (λ k. with_text k n.text all) (sym e) ∙ said; preset = here n.text stands; values = values; env = env }
  by note.Values e = record { notes = n ∷ h.notes; follow = (first, rest, refl, own, h.follow); said = ap (λ k. with_text k n.text all) (sym e) ∙ said; preset = preset; values = here n.text stands; env = env }
  by note.Env e = record {
    notes = n ∷ h.notes;
    follow = (first, rest, refl, own, h.follow);
    said = ap (λ k. with_text k n.text all) (sym e) ∙ said;
    preset = preset;
    values = values;
    env = here (variable n.text) (within first n.text (variable n.text) stands (taken _ n.text));
  }

-- what is left, and the notes after it
record IsLeft (whole text : List ℕ) (all : NotesSaid) : Type 0 where
  utf8 : IsUtf8 text
  end : List ℕ
  parts : whole ≡ text ++ end
  notes : AreNotesOf end all

one_less : (whole text : List ℕ) (all : NotesSaid) (s : List ℕ × NoteSaid) → IsLeft whole text all → AreNoted text s → IsLeft whole s.0 (with_note all s.1)
one_less whole text all s h g = record {
  utf8 = g.utf8;
  end = g.end ++ h.end;
  parts = h.parts ∙ ap (λ t. t ++ h.end) g.whole ∙ append_assoc s.0 g.end h.end;
  notes = one_more g.end h.end all s.1 h.notes g.note g.stands;
}

-- all notes are cut
record IsDone (whole : List ℕ) (c : CutSaid) : Type 0 where
  left : IsLeft whole c.rest c.notes
  no_more : last_note c.rest ≡ None

brackets_size : (text inner : List ℕ) → IsInBrackets text inner → 0 < length text
brackets_size text inner (inl e) = subst (λ t. 0 < length t) (sym e.0) (omega arith)
brackets_size text inner (inr e) = subst (λ t. 0 < length t) (sym e.0) (omega arith)

note_size : (text : List ℕ) (n : NoteSaid) → IsNoteText text n → 0 < length text
note_size text n h = omega (arith, ap length h.whole, length-append h.white h.brackets, brackets_size h.brackets h.inner h.in_brackets)

cut_done : (most : ℕ) (whole text : List ℕ) (all : NotesSaid) → length text ≤ most → IsLeft whole text all → IsDone whole (cut_from most text all)
cut_done zero whole text all fits h = record { left = h; no_more = ap last_note (nil_from_length text (omega (arith, fits))) }
cut_done (suc most) whole text all fits h =
    by (last_note text) refl (last_noted text h.utf8) (λ s fit g. cut_done most whole s.0 (with_note all s.1) (omega (arith, fits, fit)) g) where
      by : (o : Option (List ℕ × NoteSaid)) → last_note text ≡ o → IfSome o (AreNoted text) → ((s : List ℕ × NoteSaid) → length s.0 < length text → IsLeft whole s.0 (with_note all s.1) → IsDone whole (cut_from most s.0 (with_note all s.1)))
          → IsDone whole (cut_by (cut_from most) text all o)
      by None e g more = record { left = h; no_more = e }
      by (Some (front, n)) e g more =
          more (front, n) (omega (arith, ap length g.whole, length-append front g.end, note_size g.end n g.note)) (one_less whole text all (front, n) h g)

cut_all : (text : List ℕ) → IsUtf8 text → IsDone text (cut text)
cut_all text u = cut_done (length text) text text no_notes (omega arith) (record { utf8 = u; end = []; parts = sym (append-nil text); notes = none_said [] refl })

begins : (whole text end : List ℕ) → whole ≡ text ++ end → IsFront text whole
begins whole text end e = sym (ap (take (length text)) e ∙ take-append_seam text end)

notes_after : (whole text : List ℕ) (all : NotesSaid) → IsLeft whole text all → AreNotesOf (drop (length text) whole) all
notes_after whole text all h = subst (λ t. AreNotesOf t all) (sym (ap (drop (length text)) h.parts ∙ drop-append_seam text h.end)) h.notes

pub notes_stand_at_the_end : NotesStandAtTheEnd
notes_stand_at_the_end text u =
    let done = cut_all text u in
    let c = cut text in
    record { rest = begins text c.rest done.left.end done.left.parts; no_more = done.no_more; notes = notes_after text c.rest c.notes done.left }

-- ---- helps

pub helps_stand_in_their_lines : HelpsStandInTheirLines
helps_stand_in_their_lines s ls utf8 = by (fit s c.notes) where
  text : List ℕ
  text = joined (codes "\n") ls

  spaced : List ℕ
  spaced = joined (codes " ") ls

  c : CutSaid
  c = cut spaced

  by : (t : Bool) → IsHelpOf ls (cond t (helped (take (length c.rest) text) c.notes) (helped text no_notes))
  by true =
      let spaced_utf8 : IsUtf8 spaced = joined_utf8 32 (omega arith) ls utf8 in
      let left = (cut_all spaced spaced_utf8).left in
      let front : IsFront c.rest spaced = begins spaced c.rest left.end left.parts in
      let size : length c.rest ≡ length (take (length c.rest) text) =
      omega (arith, length-take (length c.rest) text, joined_length ls, ap length left.parts, length-append c.rest left.end) in
      record {
        text = take_front (length c.rest) text;
        written = pieces_whole (take (length c.rest) text) (IsUtf8-take text (length c.rest) (joined_utf8 10 (omega arith) ls utf8) (help_cut ls text spaced c.rest refl refl front spaced_utf8 left.utf8));
        notes = subst (λ n. AreNotesOf (drop n spaced) c.notes) size (notes_after spaced c.rest c.notes left);
      }
  by false = record {
    text = sym (take_all (length text) text (omega arith));
    written = pieces_whole text (joined_utf8 10 (omega arith) ls utf8);
    notes = none_said (drop (length text) spaced) (drop_all (length text) spaced (omega (arith, joined_length ls)));
  }
