-- What the writer of a page keeps is what looking back over the marks gives, so the page that comes out is the page
-- as a function of the document; and where the page takes a document, a reader reads the document's events.
use Rattle.std.specs.Prelude.{if◌then◌else◌, ◌++◌, ◌∷◌, ◌≡◌}
use Rattle.bpaf_doc.proofs.lemmas.Manpage.Words.{str_to_ascii_uppercase, ap, ◌∙◌, sym, append_assoc, arith, ℕ, Bool, true, false, List, [], Some, None, find, flat_map, refl, append-nil, reverse-append, flat_map-append, Script, RoffText, text_of, with_written, text_pieces, Handle, Part, Text, Start, End, font_of, is_start, last_is_start, is_section, sets_stripping, captured_texts, TakesDocument, IsPageOf, start_name, heading_name, style_name, Draft, draft_on, after_text, after_start, after_section, after_block, after_end, after_part, after_parts, Style, Block, Option, control_pieces, Piece, Escape, is_mark_of}
use Rattle.bpaf_roff.proofs.lemmas.Written.{written_on}
use Rattle.bpaf_doc.specs.Manpage.Exact.{name_pieces, closing_pieces, end_pieces, start_or, strips_newlines, part_pieces, document_pieces, roff_page}
use Rattle.bpaf_doc.specs.declared.buffer.Block.TheVariants as block
use Rattle.bpaf_doc.proofs.lemmas.Manpage.LookingBack.{captured_texts-append, places-append}
use Rattle.bpaf_doc.proofs.lemmas.Manpage.ReadBack.{pieces_of, control_calls}
use Rattle.bpaf_doc.proofs.lemmas.Manpage.PageRead.{place_calls, page_read}

-- ---- one part more

-- the draft is the text of the page and of the pieces of the parts so far, and knows what looking back from here gives
record Holds (page : List (Piece Escape)) (by_page : Bool) (done : List Part) (draft : Draft) : Type 0 where
  text : draft.page ≡ text_of Handle (page ++ document_pieces by_page done)
  strips : draft.strips ≡ strips_newlines by_page done
  captures : draft.captures ≡ last_is_start (is_mark_of is_section) done
  heading : draft.heading ≡ captured_texts done

-- the pieces of one part more
one_more : (page : List (Piece Escape)) (text : RoffText) (by_page : Bool) (done : List Part) (part : Part) (more : List (Piece Escape)) → text ≡ text_of Handle (page ++ document_pieces by_page done) → more ≡ part_pieces by_page (done, part)
    → with_written text more ≡ text_of Handle (page ++ document_pieces by_page (done ++ part ∷ []))
one_more page text by_page done part more e same =
    ap (λ t. with_written t more) e ∙ written_on Handle (page ++ document_pieces by_page done) more
    ∙ ap (text_of Handle) (append_assoc page (document_pieces by_page done) more ∙ ap (λ t. page ++ t) (ap (λ t. document_pieces by_page done ++ t) same ∙ sym (grind (arith, places-append, flat_map-append, append-nil))))

-- a text, by whether it is captured
text_by : (captures : Bool) (page : List (Piece Escape)) (by_page : Bool) (done : List Part) (so_far : RoffText) (strips : Bool) (heading text : List ℕ) (how : Style) → Holds page by_page done (record { page = so_far; strips = strips; heading = heading; captures = captures })
    → Holds page by_page (done ++ Text text how ∷ []) (after_text (record { page = so_far; strips = strips; heading = heading; captures = captures }) text how)
text_by true page by_page done so_far strips heading text how h =
    grind (arith, append-nil, document_pieces, places-append, flat_map-append, start_or, find, sets_stripping, reverse-append, is_start, captured_texts-append)
text_by false page by_page done so_far strips heading text how h =
    let written = sym h.captures in
    record {
      text =
          one_more page so_far by_page done (Text text how) (name_pieces (style_name how) ++ text_pieces strips ((font_of how, text) ∷ [])) h.text (rw written (ap (λ strip. name_pieces (style_name how) ++ text_pieces strip ((font_of how, text) ∷ [])) h.strips));
      strips = h.strips ∙ sym (ap (λ parts. start_or by_page (find sets_stripping parts)) (reverse-append done ((Text text how) ∷ [])) ∙ grind arith);
      captures = h.captures ∙ sym (ap (λ parts. is_start (find (is_mark_of is_section) parts)) (reverse-append done ((Text text how) ∷ [])) ∙ (grind arith));
      heading =
          h.heading ∙ sym (append-nil (captured_texts done)) ∙ ap (λ x. captured_texts done ++ (if x then text else [])) h.captures ∙ sym (captured_texts-append done (Text text how));
    }

start_holds : (page : List (Piece Escape)) (by_page : Bool) (done : List Part) (draft : Draft) (b : Block) → Holds page by_page done draft → Holds page by_page (done ++ Start b ∷ []) (after_start draft b)
start_holds page by_page done draft b h = record {
  text = one_more page draft.page by_page done (Start b) (name_pieces (start_name b)) h.text refl;
  strips =
      (grind arith) ∙ ap (λ x. if sets_stripping (Start b) then true else x) h.strips ∙ sym (ap (λ parts. start_or by_page (find sets_stripping parts)) (reverse-append done ((Start b) ∷ [])) ∙ grind arith);
  captures =
      (grind arith) ∙ ap (λ x. if is_section b then true else x) h.captures ∙ sym (ap (λ parts. is_start (find (is_mark_of is_section) parts)) (reverse-append done ((Start b) ∷ [])) ∙ (grind arith));
  heading = h.heading ∙ sym (append-nil (captured_texts done)) ∙ sym (captured_texts-append done (Start b));
}

-- the end of a section writes its heading
section_holds : (page : List (Piece Escape)) (by_page : Bool) (done : List Part) (draft : Draft) (b : Block) (name : List ℕ) → heading_name b ≡ Some name → is_section b ≡ true → sets_stripping (End b) ≡ false
    → Holds page by_page done draft → Holds page by_page (done ++ End b ∷ []) (after_section draft name)
section_holds page by_page done draft b name named section term h = record {
  text = one_more page draft.page by_page done (End b) (control_pieces name (str_to_ascii_uppercase draft.heading ∷ [])) h.text
      (ap (λ text. control_pieces name (str_to_ascii_uppercase text ∷ [])) h.heading ∙ ap (end_pieces done b) (sym named));
  strips =
      h.strips ∙ sym ((ap (λ parts. start_or by_page (find sets_stripping parts)) (reverse-append done ((End b) ∷ [])) ∙ grind arith) ∙ ap (λ x. if x then false else strips_newlines by_page done) term);
  captures =
      sym ((ap (λ parts. is_start (find (is_mark_of is_section) parts)) (reverse-append done ((End b) ∷ [])) ∙ (grind arith)) ∙ ap (λ x. if x then false else last_is_start (is_mark_of is_section) done) section);
  heading = sym (captured_texts-append done (End b) ∙ ap (λ x. if x then [] else captured_texts done ++ []) section);
}

-- the end of any other block
block_holds : (page : List (Piece Escape)) (by_page : Bool) (done : List Part) (draft : Draft) (b : Block) → heading_name b ≡ None → is_section b ≡ false → Holds page by_page done draft
    → Holds page by_page (done ++ End b ∷ []) (after_block draft b)
block_holds page by_page done draft b unnamed inner h =
    grind (arith, one_more page draft.page by_page done (End b) (closing_pieces b) h.text (ap (end_pieces done b) (sym unnamed)), start_or, find, sets_stripping, reverse-append, is_start, captured_texts-append done (End b), append-nil (captured_texts done))

end_holds : (page : List (Piece Escape)) (by_page : Bool) (done : List Part) (draft : Draft) (b : Block) → Holds page by_page done draft → Holds page by_page (done ++ End b ∷ []) (after_end draft b (heading_name b))
end_holds page by_page done draft block.Header h = section_holds page by_page done draft block.Header _ refl refl refl h
end_holds page by_page done draft block.Section2 h = section_holds page by_page done draft block.Section2 _ refl refl refl h
end_holds page by_page done draft block.Section3 h = section_holds page by_page done draft block.Section3 _ refl refl refl h
end_holds page by_page done draft block.Section4 h = section_holds page by_page done draft block.Section4 _ refl refl refl h
end_holds page by_page done draft b h = block_holds page by_page done draft b refl refl h

part_holds : (page : List (Piece Escape)) (by_page : Bool) (done : List Part) (draft : Draft) (part : Part) → Holds page by_page done draft → Holds page by_page (done ++ part ∷ []) (after_part draft part)
part_holds page by_page done draft (Text text how) h = text_by draft.captures page by_page done draft.page draft.strips draft.heading text how h
part_holds page by_page done draft (Start b) h = start_holds page by_page done draft b h
part_holds page by_page done draft (End b) h = end_holds page by_page done draft b h

parts_hold : (page : List (Piece Escape)) (by_page : Bool) (done : List Part) (draft : Draft) (parts : List Part) → Holds page by_page done draft → Holds page by_page (done ++ parts) (after_parts draft parts)
parts_hold page by_page done draft [] h = rw (append-nil done) h
parts_hold page by_page done draft (part ∷ parts) h = rw (← append_assoc done (part ∷ []) parts) (parts_hold page by_page (done ++ part ∷ []) (after_part draft part) parts (part_holds page by_page done draft part h))

-- ---- the page

-- A page with the parts on it has the text of its own pieces and of the document's.
written_text : (page : Script) (document : List Part) → (after_parts (draft_on (text_of Handle page.pieces) page.strip_newlines) document).page ≡ text_of Handle (page.pieces ++ document_pieces page.strip_newlines document)
written_text page document = (parts_hold page.pieces page.strip_newlines [] (draft_on (text_of Handle page.pieces) page.strip_newlines) document (record { text = ap (text_of Handle) (sym (append-nil page.pieces)); strips = refl; captures = refl; heading = refl })).text

-- So its text is the page as a function of the document.
pub exact_page : (page : Script) (begun written : RoffText) (document : List Part) (text : List ℕ) → begun ≡ text_of Handle page.pieces → written ≡ (after_parts (draft_on begun page.strip_newlines) document).page → text ≡ written.bytes
    → text ≡ roff_page page document
exact_page page begun written document text begins on e = grind (arith, written_text page document)

-- ---- a page that keeps newlines

calls_kept : (name : Option (List ℕ)) → name_pieces name ≡ flat_map pieces_of (control_calls name)
calls_kept None = refl
calls_kept (Some name) = grind arith

kept_parts : (ps : List (List Part × Part)) → flat_map (part_pieces false) ps ≡ flat_map pieces_of (flat_map place_calls ps)
kept_parts [] = refl
kept_parts (place ∷ ps) = grind (arith, kept_parts ps, calls_kept, flat_map-append)

-- A page that takes a document is, with the document on it, read as the document's events.
pub taken_page : (page : Script) (document : List Part) (text : List ℕ) → TakesDocument page → text ≡ roff_page page document → IsPageOf page document text
taken_page page document text takes e = grind (arith, kept_parts, page_read)
