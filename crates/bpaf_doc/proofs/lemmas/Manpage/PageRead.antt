-- The calls of a roff that show a document are read as its events.
use Rattle.std.specs.Prelude.{if◌then◌else◌, ◌++◌, ◌∷◌, ◌≡◌}
use Rattle.bpaf_doc.proofs.lemmas.Manpage.Words.{AllByRecursion, str_to_ascii_uppercase, ap, ◌∙◌, sym, subst, append_assoc, arith, ℕ, true, List, [], Option, Some, None, map, flat_map, codes, Result, IfOk, refl, is_line_start, signs, text_after, escaped, Script, control_pieces, preamble, rendering, Handle, Part, Text, Start, End, Control, IsName, Reads, AtLineStart, Step, places, place_steps, page_steps, page_events, events_of_steps, captured_texts, word_of, last_is_start, sets_stripping, font_of, TakesDocument, IsPageOf, IsManualPageOf, title_page, Style, Block, start_name, end_name, heading_name, style_name, signs-append, text_after-append, is_mark_of, is_section}
use Rattle.std.proofs.lemmas.Result.{IfOk-weaker}
use Rattle.bpaf_doc.specs.declared.buffer.Block.TheVariants as block
use Rattle.bpaf_doc.proofs.lemmas.Manpage.ReadBack.{Call, ControlCall, TextCall, BreakCall, pieces_of, control_calls, IsCall, step_of, calls_read, control_written, control_read, control_ends}

-- the calls that show the end of a block, with the heading of what stands before
abbrev pub end_calls : List Part → Block → Option (List ℕ) → List Call
end_calls before b (Some name) = ControlCall name (str_to_ascii_uppercase (captured_texts before) ∷ []) ∷ []
end_calls before block.ItemTerm None = BreakCall ∷ []
end_calls before b None = control_calls (end_name b)

-- the calls that show a part
abbrev pub place_calls : List Part × Part → List Call
place_calls (before, Text bytes how) = if last_is_start (is_mark_of is_section) before then [] else control_calls (style_name how) ++ TextCall (last_is_start sets_stripping before) (font_of how) bytes ∷ []
place_calls (before, Start b) = control_calls (start_name b)
place_calls (before, End b) = end_calls before b (heading_name b)

text_steps : (before : List Part) (bytes : List ℕ) (how : Style) → map step_of (place_calls (before, Text bytes how)) ≡ place_steps (before, Text bytes how)
text_steps before bytes how = grind arith

map-append : (cs ds : List Call) → map step_of (cs ++ ds) ≡ map step_of cs ++ map step_of ds
map-append [] ds = refl
map-append (c ∷ cs) ds = ap (λ ys. step_of c ∷ ys) (map-append cs ds)

-- what the calls of the places say is what the places give
all_steps : (ps : List (List Part × Part)) → map step_of (flat_map place_calls ps) ≡ flat_map place_steps ps
all_steps [] = refl
all_steps (place ∷ ps) = map-append (place_calls place) (flat_map place_calls ps) ∙ ap (λ ys. ys ++ map step_of (flat_map place_calls ps)) (grind (arith, text_steps)) ∙ ap (λ ys. place_steps place ++ ys) (all_steps ps)

-- the calls of a document that is shown as a page
abbrev pub page_calls : List Part → List Call
page_calls document = flat_map place_calls (places [] document)

AreCalls-append : (cs ds : List Call) → AllByRecursion IsCall cs → AllByRecursion IsCall ds → AllByRecursion IsCall (cs ++ ds)
AreCalls-append [] ds h k = k
AreCalls-append (c ∷ cs) ds h k = (h.0, AreCalls-append cs ds h.1 k)

are_calls : (ps : List (List Part × Part)) → AllByRecursion IsCall (flat_map place_calls ps)
are_calls [] = tt
are_calls (place ∷ ps) = AreCalls-append (place_calls place) (flat_map place_calls ps) (grind (arith)) (are_calls ps)

-- A page that takes a document, with the pieces of the document's calls after its
-- own, is rendered to the page of the document.
pub page_read : (page : Script) → TakesDocument page → (document : List Part) → IsPageOf page document (rendering Handle (page.pieces ++ flat_map pieces_of (page_calls document)))
page_read page takes document = record { body = text_after Handle (escaped Handle page.pieces) (signs (flat_map pieces_of (page_calls document))); joined = rw (signs-append page.pieces (flat_map pieces_of (page_calls document)), text_after-append Handle [] (signs page.pieces) (signs (flat_map pieces_of (page_calls document)))) (sym (append_assoc preamble (escaped Handle page.pieces) _)); reads = reads }
  where
    reads : Reads AtLineStart (text_after Handle (escaped Handle page.pieces) (signs (flat_map pieces_of (page_calls document)))) (page_events document)
    reads = rw (← all_steps (places [] document)) (calls_read (page_calls document) (are_calls (places [] document)) (escaped Handle page.pieces) true takes.at_line_start)

-- A page with a title line takes a document.
pub title_page_takes_document : (arguments : List (List ℕ)) → TakesDocument (title_page arguments)
title_page_takes_document arguments = record { keeps_newlines = refl; at_line_start = at_line_start }
  where
    at_line_start : is_line_start (escaped Handle (control_pieces (codes "TH") arguments)) ≡ true
    at_line_start =
        rw (control_written (codes "TH") arguments [] ((((omega arith), (omega arith)), (((omega arith), (omega arith)), tt)))) (control_ends (codes "TH") arguments [])

-- the title line is read as the title
title_read : (arguments : List (List ℕ)) (steps : List Step) (t : List ℕ) → Reads AtLineStart t (events_of_steps steps) → Reads AtLineStart (escaped Handle (control_pieces (codes "TH") arguments) ++ t) (Control (codes "TH") (map word_of arguments) ∷ events_of_steps steps)
title_read arguments steps t r =
    subst (λ line. Reads AtLineStart (line ++ t) (Control (codes "TH") (map word_of arguments) ∷ events_of_steps steps)) (sym (control_written (codes "TH") arguments [] named)) (control_read (codes "TH") arguments [] true refl named steps t r)
  where
    named : IsName (codes "TH")
    named = (((omega arith), (omega arith)), (((omega arith), (omega arith)), tt))

-- A page with a title line and a document is a manual page.
pub titled_page_is_manual_page : (arguments : List (List ℕ)) (document : List Part) (text : List ℕ) → IsPageOf (title_page arguments) document text → IsManualPageOf (Control (codes "TH") (map word_of arguments)) document text
titled_page_is_manual_page arguments document text p = record { body = escaped Handle (control_pieces (codes "TH") arguments) ++ p.body; joined = p.joined ∙ append_assoc preamble (escaped Handle (control_pieces (codes "TH") arguments)) p.body; reads = title_read arguments (page_steps document) p.body p.reads }

-- What `render_roff` ensures of a page that holds the title line, said of the manual page.
pub manual_page : {X E : Type 0} (bytes : X → List ℕ) (result : Result X E) (page : Script) (arguments : List (List ℕ)) (document : List Part) → page ≡ title_page arguments → (TakesDocument page → IfOk result (λ text. IsPageOf page document (bytes text))) → IfOk result (λ text. IsManualPageOf (Control (codes "TH") (map word_of arguments)) document (bytes text))
manual_page bytes result page arguments document e rendered = IfOk-weaker result (λ text. IsPageOf (title_page arguments) document (bytes text)) (λ text. IsManualPageOf (Control (codes "TH") (map word_of arguments)) document (bytes text)) (λ text. titled_page_is_manual_page arguments document (bytes text)) ((rw e at rendered) (title_page_takes_document arguments))
