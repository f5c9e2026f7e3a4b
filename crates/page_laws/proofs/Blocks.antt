-- The blocks of a permitted text have permitted texts alone.
use Rattle.std.proofs.Common.{◌≡◌, ℕ, zero, suc, ◌+◌, ◌-◌, ◌<◌, ◌≤◌, Bool, true, false, List, [], ◌∷◌, ◌++◌, length, get_or, take, drop, replicate, map, min, codes, flat_map, refl, sym, ap, ◌∙◌, subst, append_assoc, length-drop, arith}
use Rattle.std.specs.Prelude.{if◌then◌else◌, ◌==◌, unwrap_or}
use Rattle.std.specs.List.{list_all, prefix_len, starts_with, slice_split}
use Rattle.std.proofs.lemmas.Bool.{and_parts}
use Rattle.std.proofs.lemmas.Bool.Decides.{nat_tests}
use Rattle.std.proofs.lemmas.List.Concat.{flat_map-append}
use Rattle.std.proofs.lemmas.Str.{IsCharBoundary-after_ascii, IsCharBoundary-before_ascii}
use Rattle.page_model.specs.Content.{Piece, words, literal, value, link, page, Line, BlockSaid, paragraph, code, bullets}
use Rattle.page_model.specs.Permitted.{is_permitted, piece_text}
use Rattle.description_texts.specs.declared.texts.lines.Kind.{Kind}
use Rattle.description_texts.specs.declared.texts.lines.Kind.TheVariants.{Blank, Fence, Code, Item, Plain}
use Rattle.description_texts.specs.Texts.{block_of_kind, block_said, blanks, code_line, first_paragraph, is_newline, item_of, item_said, kind_of, line_more, line_said, lines, lines_more, marked, plain_more, some_code, text_blocks, with_blank_front}
use Rattle.description_texts.specs.TextsCut.{cut_after}
use Rattle.description_texts.specs.TextsInside.{Draft, address_len, by_turns, end_kept, front_kept, further_pieces, gathered, is_blank, is_edge_back, is_edge_front, is_link_front, is_lone, is_quote, is_white, last_byte, line_pieces, link_len, links, lone_parts, lone_split, nothing, quoted, shown_line, some_words, spaced, squeezed, whole, with_apart, with_pieces, with_words, without_white_end, without_white_front, word}
use Rattle.description_texts.specs.TextsView.{IsLinkAt}
use Rattle.description_texts.proofs.TextsBounds.{after_marker}
use Rattle.description_texts.proofs.TextsLinks.{link_next, link_there, word_next}
use Rattle.page_laws.proofs.Each.{Each, each_append, each_mapped, each_weaker}
use Rattle.page_laws.proofs.Clean.{Clean, Parts, back_again, clean_append, clean_before, clean_after_front, clean_drop, clean_if, clean_low, clean_nil, clean_repeated, clean_take, cut_out, each_part, each_split, next, split_step}
use Rattle.page_laws.proofs.Clean as clean

-- ---- permitted texts, and what has such texts alone

abbrev pub Permitted : List ℕ → Type 0
Permitted = Clean is_permitted

abbrev pub PieceIs : Piece → Type 0
PieceIs piece = Permitted (piece_text piece)

abbrev pub LineIs : Line → Type 0
LineIs = Each PieceIs

abbrev pub BlockIs : BlockSaid → Type 0
BlockIs (paragraph lines) = Each LineIs lines
BlockIs (code lines) = Each Permitted lines
BlockIs (bullets items) = Each (Each LineIs) items

-- ---- of parts

pub each_take : {X : Type 0} (P : X → Type 0) (n : ℕ) (xs : List X) → Each P xs → Each P (take n xs)
each_take P zero xs h = tt
each_take P (suc n) [] h = tt
each_take P (suc n) (x ∷ xs) h = (h.0, each_take P n xs h.1)

each_cut : {X Y : Type 0} (P : X → Type 0) (Q : Y → Type 0) (more : X → List X → ℕ) (said : X → List X → List Y) → ((x : X) (xs : List X) → P x → Each P xs → Each Q (said x xs)) → (n : ℕ) (xs : List X) → Each P xs → Each Q (cut_after more said n xs)
each_cut P Q more said k n [] h = tt
each_cut P Q more said k (suc n) (x ∷ xs) h = each_cut P Q more said k n xs h.1
each_cut P Q more said k zero (x ∷ xs) h =
    each_append Q (said x (take (more x xs) xs)) (cut_after more said (more x xs) xs) (k x (take (more x xs) xs) h.0 (each_take P (more x xs) xs h.1)) (each_cut P Q more said k (more x xs) xs h.1)

pub each_changed : {X Y : Type 0} (P : X → Type 0) (Q : Y → Type 0) (f : X → Y) → ((x : X) → P x → Q (f x)) → (xs : List X) → Each P xs → Each Q (map f xs)
each_changed P Q f k xs h = each_mapped Q f xs (each_weaker P (λ x. Q (f x)) k xs h)

-- ---- white space

white_ascii : (b : ℕ) → is_white b ≡ true → b < 128
white_ascii b h = grind (arith, nat_tests)

blank_ascii : (b : ℕ) → is_blank b ≡ true → b < 128
blank_ascii b h = grind (arith, nat_tests)

front_permitted : (text : List ℕ) → Permitted text → Permitted (without_white_front text)
front_permitted text h = clean_after_front is_permitted is_white white_ascii text (prefix_len is_white text) (omega arith) h

end_by : (text : List ℕ) (t : Bool) → is_white (last_byte text) ≡ t → Permitted text → Permitted (if t then take (length text - 1) text else text)
end_by text true e h = clean_before is_permitted is_white white_ascii text (length text - 1) (omega arith) (λ less. e) h
end_by text false e h = h

end_permitted : (text : List ℕ) → Permitted text → Permitted (without_white_end text)
end_permitted text h = end_by text (is_white (last_byte text)) refl h

squeezed_step : (p : List ℕ) (b : ℕ) (text rest : List ℕ) (t : Bool) → is_white b ≡ t → ((q : List ℕ) → Permitted (q ++ text) → Permitted (q ++ rest)) → Permitted (p ++ b ∷ text)
    → Permitted (p ++ ((if t then (if is_edge_front text then [] else 32 ∷ []) else b ∷ []) ++ rest))
squeezed_step p b text rest true e after h =
    let parts = cut_out is_permitted p b text (white_ascii b e) h in
    let blank : List ℕ = if is_edge_front text then [] else 32 ∷ [] in
    clean_append is_permitted p (blank ++ rest) parts.front (clean_append is_permitted blank rest (clean_if is_permitted (is_edge_front text) [] (32 ∷ []) (clean_nil is_permitted) (clean_low is_permitted (32 ∷ []) refl)) (after [] parts.back))
squeezed_step p b text rest false e after h = back_again is_permitted p b rest (after (p ++ b ∷ []) (next is_permitted p b text h))

squeezed_after : (p text : List ℕ) → Permitted (p ++ text) → Permitted (p ++ squeezed text)
squeezed_after p [] h = h
squeezed_after p (b ∷ text) h = squeezed_step p b text (squeezed text) (is_white b) refl (λ q k. squeezed_after q text k) h

spaced_permitted : (line : List ℕ) → Permitted line → Permitted (spaced line)
spaced_permitted line h = squeezed_after [] (without_white_front line) (front_permitted line h)

-- ---- pieces that are gathered: words that are neighbours are permitted together, and each other piece by itself

abbrev spelled_piece : Piece → List ℕ
spelled_piece (words text) = text
spelled_piece (literal text) = 10 ∷ text ++ 10 ∷ []
spelled_piece (value text) = 10 ∷ text ++ 10 ∷ []
spelled_piece (link text) = 10 ∷ text ++ 10 ∷ []
spelled_piece (page name) = 10 ∷ name ++ 10 ∷ []

abbrev spelled : Line → List ℕ
spelled = flat_map spelled_piece

newline : Permitted (10 ∷ [])
newline = clean_low is_permitted (10 ∷ []) refl

apart_spelled : (text : List ℕ) → Permitted text → Permitted (10 ∷ text ++ 10 ∷ [])
apart_spelled text h = clean_append is_permitted (10 ∷ []) (text ++ 10 ∷ []) newline (clean_append is_permitted text (10 ∷ []) h newline)

spelled_both : (a b : Line) → Permitted (spelled a) → Permitted (spelled b) → Permitted (spelled (a ++ b))
spelled_both a b h k = subst Permitted (sym (flat_map-append spelled_piece a b)) (clean_append is_permitted (spelled a) (spelled b) h k)

record Apart (p text rest : List ℕ) : Type 0 where
  before : Permitted p
  inner : Permitted text
  after : Permitted rest

apart_from : (p text rest : List ℕ) → Permitted (p ++ ((10 ∷ text ++ 10 ∷ []) ++ rest)) → Apart p text rest
apart_from p text rest h =
    let first = cut_out is_permitted p 10 ((text ++ 10 ∷ []) ++ rest) (omega arith) h in
    let second = cut_out is_permitted text 10 rest (omega arith) (subst Permitted (append_assoc text (10 ∷ []) rest) first.back) in
    record { before = first.front; inner = second.front; after = second.back }

some_permitted : (text : List ℕ) → Permitted text → LineIs (some_words text)
some_permitted [] h = tt
some_permitted (b ∷ text) h = (h, tt)

whole_permitted : (draft : Draft) → LineIs draft.pieces → Permitted draft.words → LineIs (whole draft)
whole_permitted draft h k = each_append PieceIs draft.pieces (some_words draft.words) h (some_permitted draft.words k)

put_apart : (draft : Draft) (piece : Piece) → LineIs draft.pieces → Permitted draft.words → PieceIs piece → LineIs (with_apart draft piece).pieces
put_apart draft piece h k g = each_append PieceIs (whole draft) (piece ∷ []) (whole_permitted draft h k) (g, tt)

gathered_from : (draft : Draft) (line : Line) → LineIs draft.pieces → Permitted (draft.words ++ spelled line) → LineIs (whole (with_pieces draft line))
gathered_from draft [] h k = whole_permitted draft h (clean.whole is_permitted draft.words k)
gathered_from draft (words text ∷ line) h k = gathered_from (with_words draft text) line h (subst Permitted (sym (append_assoc draft.words text (spelled line))) k)
gathered_from draft (literal text ∷ line) h k = let parts = apart_from draft.words text (spelled line) k in gathered_from (with_apart draft (literal text)) line (put_apart draft (literal text) h parts.before parts.inner) parts.after
gathered_from draft (value text ∷ line) h k = let parts = apart_from draft.words text (spelled line) k in gathered_from (with_apart draft (value text)) line (put_apart draft (value text) h parts.before parts.inner) parts.after
gathered_from draft (link text ∷ line) h k = let parts = apart_from draft.words text (spelled line) k in gathered_from (with_apart draft (link text)) line (put_apart draft (link text) h parts.before parts.inner) parts.after
gathered_from draft (page name ∷ line) h k = let parts = apart_from draft.words name (spelled line) k in gathered_from (with_apart draft (page name)) line (put_apart draft (page name) h parts.before parts.inner) parts.after

gathered_permitted : (line : Line) → Permitted (spelled line) → LineIs (gathered line)
gathered_permitted line h = gathered_from nothing line tt h

spelled_line : (line : Line) → LineIs line → Permitted (spelled line)
spelled_line [] h = clean_nil is_permitted
spelled_line (words text ∷ line) h = clean_append is_permitted text (spelled line) h.0 (spelled_line line h.1)
spelled_line (literal text ∷ line) h = clean_append is_permitted (10 ∷ text ++ 10 ∷ []) (spelled line) (apart_spelled text h.0) (spelled_line line h.1)
spelled_line (value text ∷ line) h = clean_append is_permitted (10 ∷ text ++ 10 ∷ []) (spelled line) (apart_spelled text h.0) (spelled_line line h.1)
spelled_line (link text ∷ line) h = clean_append is_permitted (10 ∷ text ++ 10 ∷ []) (spelled line) (apart_spelled text h.0) (spelled_line line h.1)
spelled_line (page name ∷ line) h = clean_append is_permitted (10 ∷ name ++ 10 ∷ []) (spelled line) (apart_spelled name h.0) (spelled_line line h.1)

pub gathered_again : (line : Line) → LineIs line → LineIs (gathered line)
gathered_again line h = gathered_permitted line (spelled_line line h)

-- ---- literals

quote_ascii : (b : ℕ) → is_quote b ≡ true → b < 128
quote_ascii b h = grind (arith, nat_tests)

lone_ascii : (after_quote : Bool) (b : ℕ) (text : List ℕ) → is_lone after_quote b text ≡ true → b < 128
lone_ascii after_quote b text h = quote_ascii b (grind (arith, and_parts))

lone_after : (after_quote : Bool) (p text : List ℕ) → Permitted (p ++ text) → Parts is_permitted p (lone_split after_quote text)
lone_after after_quote p [] h = (h, tt)
lone_after after_quote p (b ∷ text) h = split_step is_permitted (is_lone after_quote b text) p b text (lone_split (is_quote b) text) (lone_ascii after_quote b text) (λ r k. lone_after (is_quote b) r text k) h

lone_permitted : (text : List ℕ) → Permitted text → Each Permitted (lone_parts text)
lone_permitted text h = each_part is_permitted (lone_split false text) (lone_after false [] text h)

literal_permitted : (before inner after : List ℕ) → Permitted inner → Permitted (end_kept (front_kept before inner) after)
literal_permitted before inner after h =
    let kept = clean_if is_permitted (is_edge_back before) (without_white_front inner) inner (front_permitted inner h) h in
    clean_if is_permitted (is_edge_front after) (without_white_end (front_kept before inner)) (front_kept before inner) (end_permitted (front_kept before inner) kept) kept

quote : Permitted (96 ∷ [])
quote = clean_low is_permitted (96 ∷ []) refl

quoted_by : (t : Bool) (inner shown : List ℕ) → Permitted inner → Permitted shown → Permitted (spelled (if t then words (96 ∷ []) ∷ words inner ∷ words (96 ∷ []) ∷ [] else literal shown ∷ []))
quoted_by true inner shown h k = clean_append is_permitted (96 ∷ []) (inner ++ (96 ∷ [])) quote (clean_append is_permitted inner (96 ∷ []) h quote)
quoted_by false inner shown h k = clean.as_whole is_permitted (10 ∷ shown ++ 10 ∷ []) (apart_spelled shown k)

quoted_permitted : (before inner after : List ℕ) → Permitted inner → Permitted (spelled (quoted before inner after))
quoted_permitted before inner after h = quoted_by (list_all is_white inner) inner (end_kept (front_kept before inner) after) h (literal_permitted before inner after h)

-- ---- links

record Opens (b n : ℕ) (text : List ℕ) : Type 0 where
  byte : b ≡ 60
  len : address_len text ≡ n

opens_by : (b n : ℕ) (text : List ℕ) (t : Bool) → is_link_front b ≡ t → (if t then address_len text else 0) ≡ suc n → Opens b (suc n) text
opens_by b n text true e h = record { byte = front e; len = h } where
  front : is_link_front b ≡ true → b ≡ 60
  front e = grind (arith, nat_tests)
opens_by b n text false e h = absurd (omega arith)

-- where no more bytes are left than this, what is put for them is permitted after a text
abbrev LinksAre : ℕ → Type 0
LinksAre fuel = (p text : List ℕ) → length text ≤ fuel → Permitted (p ++ text) → Permitted (p ++ spelled (links text))

link_step : (fuel : ℕ) (p : List ℕ) (b : ℕ) (text : List ℕ) (n : ℕ) → link_len b text ≡ n → length (b ∷ text) ≤ suc fuel → LinksAre fuel → Permitted (p ++ b ∷ text) → Permitted (p ++ spelled (links (b ∷ text)))
link_step fuel p b text zero e le follows h =
    let here : links (b ∷ text) ≡ word b ∷ links text = word_next (b ∷ text) 0 (omega arith) refl e in
    subst (λ line. Permitted (p ++ spelled line)) (sym here) (back_again is_permitted p b (spelled (links text)) (follows (p ++ b ∷ []) text (omega arith) (next is_permitted p b text h)))
link_step fuel p b text (suc n) e le follows h =
    let opens = opens_by b n text (is_link_front b) refl e in
    let there : IsLinkAt (b ∷ text) 0 (suc n) = link_there (b ∷ text) 0 (suc n) opens.byte (sym opens.len) (omega arith) in
    let place : 0 + 1 + suc n ≡ suc (suc n) = omega arith in
    let closes : get_or text (suc n) 0 ≡ 62 = ap (λ k. get_or (b ∷ text) k 0) (sym place) ∙ there.closes in
    let within : suc n < length text = omega (arith, there.within) in
    let parts = cut_out is_permitted p b text (omega (arith, opens.byte)) h in
    let address : Permitted (take (suc n) text) = clean_take is_permitted text (suc n) (IsCharBoundary-before_ascii text (suc n) within (omega (arith, closes))) parts.back in
    let after : Permitted (drop (suc n + 1) text) = clean_drop is_permitted text (suc n + 1) (IsCharBoundary-after_ascii text (suc n) parts.back.utf8 within (omega (arith, closes))) parts.back in
    let rest : List ℕ = drop (suc n + 1) text in
    let step : 0 + 2 + suc n ≡ suc (suc n + 1) = omega arith in
    let here : links (b ∷ text) ≡ link (take (suc n) text) ∷ links rest = link_next (b ∷ text) 0 (omega arith) refl (suc n) (sym e) (omega arith) there.within ∙ ap (λ k. link (take (suc n) text) ∷ links (drop k (b ∷ text))) step in
    let long : length rest ≤ fuel = omega (arith, length-drop (suc n + 1) text) in
    subst (λ line. Permitted (p ++ spelled line)) (sym here)
    (clean_append is_permitted p (spelled (link (take (suc n) text) ∷ links rest)) parts.front
    (clean_append is_permitted (10 ∷ take (suc n) text ++ 10 ∷ []) (spelled (links rest)) (apart_spelled (take (suc n) text) address) (follows [] rest long after)))

links_after : (fuel : ℕ) → LinksAre fuel
links_after fuel p [] le h = h
links_after zero p (b ∷ text) le h = absurd (omega arith)
links_after (suc fuel) p (b ∷ text) le h = link_step fuel p b text (link_len b text) refl le (links_after fuel) h

links_permitted : (text : List ℕ) → Permitted text → Permitted (spelled (links text))
links_permitted text h = links_after (length text) [] text (omega arith) h

-- ---- lines

turns_permitted : (parts : List (List ℕ)) → Each Permitted parts → Permitted (spelled (by_turns parts))
turns_permitted [] h = clean_nil is_permitted
turns_permitted (text ∷ []) h = links_permitted text h.0
turns_permitted (text ∷ inner ∷ []) h = links_permitted (text ++ 96 ∷ inner) (clean_append is_permitted text (96 ∷ inner) h.0 (clean_append is_permitted (96 ∷ []) inner quote h.1.0))
turns_permitted (text ∷ inner ∷ after ∷ parts) h =
    spelled_both (links text) (quoted text inner after ++ by_turns (after ∷ parts)) (links_permitted text h.0)
    (spelled_both (quoted text inner after) (by_turns (after ∷ parts)) (quoted_permitted text inner after h.1.0) (turns_permitted (after ∷ parts) h.1.1))

pieces_permitted : (line : List ℕ) → Permitted line → Permitted (spelled (line_pieces line))
unfolding line_pieces
pieces_permitted line h = turns_permitted (lone_parts (spaced line)) (lone_permitted (spaced line) (spaced_permitted line h))

further_permitted : (more : List (List ℕ)) → Each Permitted more → Permitted (spelled (flat_map further_pieces more))
further_permitted [] h = clean_nil is_permitted
further_permitted (line ∷ more) h =
    spelled_both (further_pieces line) (flat_map further_pieces more) (clean_append is_permitted (32 ∷ []) (spelled (line_pieces line)) (clean_low is_permitted (32 ∷ []) refl) (pieces_permitted line h.0)) (further_permitted more h.1)

pub shown_permitted : (first : List ℕ) (more : List (List ℕ)) → Permitted first → Each Permitted more → LineIs (shown_line first more)
unfolding shown_line
shown_permitted first more h k = gathered_permitted (line_pieces first ++ flat_map further_pieces more) (spelled_both (line_pieces first) (flat_map further_pieces more) (pieces_permitted first h) (further_permitted more k))

-- ---- blocks

newline_ascii : (b : ℕ) → is_newline b ≡ true → b < 128
newline_ascii b h = grind (arith, nat_tests)

blank_front : (line : List ℕ) → Permitted line → Permitted (with_blank_front line)
blank_front line h = clean_append is_permitted (replicate (prefix_len is_white line) 32) (drop (prefix_len is_white line) line) (clean_repeated is_permitted (prefix_len is_white line) 32 refl) (front_permitted line h)

lines_permitted : (text : List ℕ) → Permitted text → Each Permitted (lines text)
lines_permitted text h = each_changed Permitted Permitted with_blank_front blank_front (slice_split is_newline text) (each_split is_permitted is_newline newline_ascii text h)

code_permitted : (line : List ℕ) → Permitted line → Permitted (code_line line)
code_permitted line h =
    clean_if is_permitted (list_all is_blank line) [] (drop (min (blanks line) 4) line) (clean_nil is_permitted) (clean_after_front is_permitted is_blank blank_ascii line (min (blanks line) 4) (omega arith) h)

marker_by : (text : List ℕ) (t : Bool) → starts_with ◌==◌ text (codes "- ") ≡ t → Permitted text → Permitted (if t then drop 2 text else text)
marker_by text true e h = clean_drop is_permitted text 2 (after_marker text h.utf8 e) h
marker_by text false e h = h

marked_permitted : (line : List ℕ) → Permitted line → Permitted (marked line)
marked_permitted line h =
    let text : List ℕ = drop (blanks line) line in
    marker_by text (starts_with ◌==◌ text (codes "- ")) refl (clean_after_front is_permitted is_blank blank_ascii line (blanks line) (omega arith) h)

some_code_is : (lines : List (List ℕ)) → Each Permitted lines → Each BlockIs (some_code lines)
some_code_is [] h = tt
some_code_is (line ∷ lines) h = (h, tt)

item_is : (kind : Kind) (first : List ℕ) (more : List (List ℕ)) → Permitted first → Each Permitted more → Each (Each LineIs) (item_of kind first more)
item_is Blank first more h k = tt
item_is Fence first more h k = tt
item_is Code first more h k = tt
item_is Item first more h k = ((shown_permitted (marked first) more (marked_permitted first h) k, tt), tt)
item_is Plain first more h k = tt

block_is : (kind : Kind) (first : List ℕ) (more : List (List ℕ)) → Permitted first → Each Permitted more → Each BlockIs (block_of_kind kind first more)
block_is Blank first more h k = tt
block_is Fence first more h k = some_code_is _ (each_take Permitted _ more k)
block_is Code first more h k = (each_changed Permitted Permitted code_line code_permitted (first ∷ more) (h, k), tt)
block_is Item first more h k = (each_cut Permitted (Each LineIs) plain_more item_said (λ one others. item_is (kind_of one) one others) 0 (first ∷ more) (h, k), tt)
block_is Plain first more h k = (each_cut Permitted LineIs line_more line_said (λ one others p q. (shown_permitted one others p q, tt)) 0 (first ∷ more) (h, k), tt)

pub blocks_permitted : (text : List ℕ) → Permitted text → Each BlockIs (text_blocks text)
unfolding text_blocks
blocks_permitted text h = each_cut Permitted BlockIs lines_more block_said (λ first more. block_is (kind_of first) first more) 0 (lines text) (lines_permitted text h)

pub paragraph_permitted : (blocks : List BlockSaid) → Each BlockIs blocks → Each LineIs (unwrap_or (first_paragraph blocks) [])
paragraph_permitted [] h = tt
paragraph_permitted (paragraph lines ∷ blocks) h = h.0
paragraph_permitted (code lines ∷ blocks) h = paragraph_permitted blocks h.1
paragraph_permitted (bullets items ∷ blocks) h = paragraph_permitted blocks h.1
