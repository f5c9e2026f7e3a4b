-- What looking back from a place gives after one more part: what a loop over the parts keeps.
use Rattle.std.specs.Prelude.{if◌then◌else◌, ◌++◌, ◌∷◌, ◌≡◌}
use Rattle.bpaf_doc.proofs.lemmas.Manpage.Words.{append_assoc, arith, List, [], refl, append-nil, reverse-append, drop-append-le, drop_all, length-append, flat_map-append, Part, places, captured_text, captured_texts, is_end_of, is_section}

-- the places, after one more part
pub places-append : (done before : List Part) (part : Part) → places done (before ++ part ∷ []) ≡ places done before ++ (done ++ before, part) ∷ []
places-append done [] part = rw (append-nil done) refl
places-append done (p ∷ before) part = rw (places-append (done ++ p ∷ []) before part, append_assoc done (p ∷ []) before) refl

-- the captured texts since the last section end, after one more part
pub captured_texts-append : (before : List Part) (part : Part) → captured_texts (before ++ part ∷ []) ≡ (if is_end_of is_section part then [] else captured_texts before ++ captured_text (before, part))
captured_texts-append before part = grind (arith, places-append, reverse-append, drop_all, drop-append-le, length-append, flat_map-append, append-nil)
