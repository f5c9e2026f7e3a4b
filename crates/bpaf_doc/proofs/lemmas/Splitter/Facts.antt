-- What holds of the chunks of each text.
use Rattle.std.specs.Prelude.{◌++◌, ◌≡◌}
use Rattle.bpaf_doc.proofs.lemmas.Splitter.Words.{All, flat_map, IsUtf8, sym, ◌∙◌, ap, subst, arith, append_assoc, append-nil, take_at, drop_at, length-append, ℕ, List, [], refl, length, All-nil, All-cons, All-same, list_all-append, ink, Chunk, chunk_ink, chunks_of, IsGap, IsOneLine, IsPlace, IsSpelledOnce, IsText, StandInOrder, StandsFor, is_gap_byte}
use Rattle.bpaf_doc.proofs.lemmas.Splitter.Spelling.{spells_its_chunks, only_its_chunks, spells_in}
use Rattle.bpaf_doc.proofs.lemmas.Splitter.Pieces.{Pieces, none, piece, pieces, IsUtf8-blank}
use Rattle.bpaf_doc.proofs.lemmas.Splitter.Ink.{ink-nil, ink-append, ink_after_gap, gap_ink}
use Rattle.bpaf_doc.proofs.lemmas.Splitter.FirstChunk.{chunks_of-plain}

-- ---- ink

ink_of_pieces : {chunks : List Chunk} {text : List ℕ} → Pieces chunks text → IsUtf8 text → flat_map chunk_ink chunks ≡ ink text
ink_of_pieces (none ec et) u = ap (λ cs. flat_map chunk_ink cs) ec ∙ sym (ap ink et ∙ ink-nil)
ink_of_pieces (piece gap there after rest chunk others ec et g h t l w s) u = grind (arith, ink_of_pieces s, gap_ink, ink_after_gap, ink-append)

-- the chunks of a UTF-8 text have together its ink
pub ink_of_chunks : (text : List ℕ) → IsUtf8 text → flat_map chunk_ink (chunks_of text) ≡ ink text
ink_of_chunks text u = ink_of_pieces (pieces (spells_its_chunks text)) u

-- ---- each chunk

one_line_of_pieces : {chunks : List Chunk} {text : List ℕ} → Pieces chunks text → All IsOneLine chunks
one_line_of_pieces {chunks} (none ec et) = All-same IsOneLine chunks [] ec (All-nil IsOneLine)
one_line_of_pieces {chunks} (piece gap there after rest chunk others ec et g h t l w s) = grind (arith, one_line_of_pieces s, All-same, All-cons)

-- no chunk has a newline in it
pub one_line_chunks : (text : List ℕ) → All IsOneLine (chunks_of text)
one_line_chunks text = one_line_of_pieces (pieces (spells_its_chunks text))

texts_of_pieces : {chunks : List Chunk} {text : List ℕ} → Pieces chunks text → IsUtf8 text → All IsText chunks
texts_of_pieces {chunks} (none ec et) u = All-same IsText chunks [] ec (All-nil IsText)
texts_of_pieces {chunks} (piece gap there after rest chunk others ec et g h t l w s) u = grind (arith, texts_of_pieces s, All-same, All-cons, IsUtf8-blank)

-- each Raw of a UTF-8 text is UTF-8
pub text_chunks : (text : List ℕ) → IsUtf8 text → All IsText (chunks_of text)
text_chunks text u = texts_of_pieces (pieces (spells_its_chunks text)) u

-- ---- places

-- a chunk that stands after a gap
place_after : (text front gap there back : List ℕ) (chunk : Chunk) → text ≡ (front ++ gap) ++ (there ++ back) → IsGap gap → StandsFor chunk there
    → IsPlace text (length front) chunk (length (front ++ gap)) (length ((front ++ gap) ++ there))
place_after text front gap there back chunk e g t = grind (arith, length-append, append_assoc, drop_at, take_at)

in_order_of_pieces : {chunks : List Chunk} {rest : List ℕ} → Pieces chunks rest → (text front pending : List ℕ) → text ≡ front ++ (pending ++ rest) → IsGap pending
    → StandInOrder text (length front) chunks
in_order_of_pieces {rest = rest} (none ec et) text front pending e g = grind (arith, drop_at, append-nil)
in_order_of_pieces (piece gap there after rest chunk others ec et g h t l w s) text front pending e p =
    let whole : text ≡ (front ++ (pending ++ gap)) ++ (there ++ (after ++ rest)) = grind (arith, append_assoc) in
    let on : text ≡ ((front ++ (pending ++ gap)) ++ there) ++ (after ++ rest) = whole ∙ sym (append_assoc (front ++ (pending ++ gap)) there (after ++ rest)) in
    let place = place_after text front (pending ++ gap) there (after ++ rest) chunk whole (list_all-append is_gap_byte pending gap ∙ rw p g) t in
    let more = in_order_of_pieces s text ((front ++ (pending ++ gap)) ++ there) after on h in
    subst (λ cs. StandInOrder text (length front) cs) (sym ec) (length (front ++ (pending ++ gap)), length ((front ++ (pending ++ gap)) ++ there), place, more)

-- the chunks have their places in the text, one after another
pub chunks_in_order : (text : List ℕ) → StandInOrder text 0 (chunks_of text)
chunks_in_order text = in_order_of_pieces (pieces (spells_its_chunks text)) text [] [] refl refl

pub spelled_once : (text : List ℕ) → IsSpelledOnce text
spelled_once text = record { spelled = spells_its_chunks text; only = λ chunks s. only_its_chunks chunks text s }

pub ruleset text_split = (spells_in, ink_of_chunks, one_line_chunks, chunks_in_order, chunks_of-plain)
