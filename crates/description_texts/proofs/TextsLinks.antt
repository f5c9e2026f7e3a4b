-- The links of a text.
use Rattle.std.proofs.Common.{◌≡◌, ℕ, zero, suc, ◌+◌, ◌<◌, ◌≤◌, Bool, true, false, List, [], ◌∷◌, ◌++◌, length, map, take, drop, get_or, arith, refl, ap, sym, ◌∙◌, append-nil, append_assoc}
use Rattle.std.specs.Prelude.{if◌then◌else◌, ◌==◌, ◌&&◌}
use Rattle.std.specs.List.{prefix_len}
use Rattle.std.proofs.lemmas.Bool.{and_parts}
use Rattle.std.proofs.lemmas.Bool.Decides.{nat_tests}
use Rattle.std.proofs.lemmas.List.{drop_all, drop-drop, drop_more, get_or-drop, get_or_past, length-drop, length-take-le, map-append, take-take, take_all, take_more}
use Rattle.page_model.specs.Content.{link}
use Rattle.description_texts.specs.TextsInside.{address_len, is_address, is_link_byte, link_len, link_more, link_said, links, with_end, word}
use Rattle.description_texts.specs.TextsView.{IsLinkAt}
use Rattle.description_texts.proofs.TextsCuts.{cut_first}

byte_is : (b c : ℕ) → (b == c) ≡ true → b ≡ c
byte_is b c h = grind (arith, nat_tests)

closed_if : (t : Bool) (n : ℕ) (text : List ℕ) → (is_address (take n text) && (get_or text n 0 == 62)) ≡ t → 0 < (if t then n else 0) → get_or text (if t then n else 0) 0 ≡ 62
closed_if true n text e h = byte_is (get_or text n 0) 62 (and_parts (is_address (take n text)) (get_or text n 0 == 62) e).1
closed_if false n text e h = absurd (omega arith)

closed : (text : List ℕ) → 0 < address_len text → get_or text (address_len text) 0 ≡ 62
closed text h =
    let n = prefix_len is_link_byte text in
    closed_if (is_address (take n text) && (get_or text n 0 == 62)) n text refl h

inside : (text : List ℕ) (n : ℕ) → get_or text n 0 ≡ 62 → n < length text
inside text n h = grind (arith, get_or_past)

pub link_there : (text : List ℕ) (at len : ℕ) → get_or text at 0 ≡ 60 → len ≡ address_len (drop (at + 1) text) → 0 < len → IsLinkAt text at len
link_there text at len opens is some =
    let closes : get_or text (at + 1 + len) 0 ≡ 62 = sym (get_or-drop (at + 1) text len 0) ∙ ap (λ n. get_or (drop (at + 1) text) n 0) is ∙ closed (drop (at + 1) text) (omega (arith, is)) in
    record { opens = opens; closes = closes; within = inside text (at + 1 + len) closes }

-- ---- what a text says, from a place on

said_link : (b len : ℕ) (text : List ℕ) → len < length text → link_said b (take (suc len) text) ≡ link (take len text) ∷ []
said_link b len [] h = absurd (omega arith)
said_link b len (c ∷ text) h =
    ap (λ n. link (take n (c ∷ take len text)) ∷ []) (length-take-le len text (omega arith))
    ∙ ap (λ bytes. link bytes ∷ []) (take-take len (suc len) (c ∷ text) (omega arith))

abbrev pub LinksSoFar : List ℕ → ℕ → Type 0
LinksSoFar text at = links text ≡ map word (take at text) ++ links (drop at text)

module _ (text : List ℕ) (at : ℕ) (within : at < length text) (so_far : LinksSoFar text at) where
  parts_here : links (drop at text) ≡ link_said (get_or text at 0) (take (link_more (get_or text at 0) (drop (at + 1) text)) (drop (at + 1) text)) ++ links (drop (link_more (get_or text at 0) (drop (at + 1) text)) (drop (at + 1) text))
  parts_here = ap links (drop_more text at 0 within) ∙ cut_first link_more link_said (get_or text at 0) (drop (at + 1) text)

  -- a byte that begins no link
  pub word_next : link_len (get_or text at 0) (drop (at + 1) text) ≡ 0 → LinksSoFar text (at + 1)
  word_next none =
      let b = get_or text at 0 in
      let after = drop (at + 1) text in
      so_far
      ∙ ap (λ line. map word (take at text) ++ line) (parts_here ∙ ap (λ n. link_said b (take (with_end n) after) ++ links (drop (with_end n) after)) none)
      ∙ sym (append_assoc (map word (take at text)) (word b ∷ []) (links after))
      ∙ ap (λ line. line ++ links after) (sym (map-append word (take at text) (b ∷ [])) ∙ ap (map word) (sym (take_more text at 0 within)))

  with_some : (n : ℕ) → 0 < n → with_end n ≡ suc n
  with_some zero h = absurd (omega arith)
  with_some (suc n) h = refl

  -- a link
  pub link_next : (len : ℕ) → len ≡ link_len (get_or text at 0) (drop (at + 1) text) → 0 < len → at + 1 + len < length text
      → links text ≡ map word (take at text) ++ link (take len (drop (at + 1) text)) ∷ links (drop (at + 2 + len) text)
  link_next len is some inside =
      let b = get_or text at 0 in
      let after = drop (at + 1) text in
      let more : link_more b after ≡ suc len = ap with_end (sym is) ∙ with_some len some in
      let place : at + 1 + suc len ≡ at + 2 + len = omega arith in
      so_far
      ∙ ap (λ line. map word (take at text) ++ line) (parts_here
      ∙ ap (λ n. link_said b (take n after) ++ links (drop n after)) more
      ∙ ap (λ line. line ++ links (drop (suc len) after)) (said_link b len after (omega (arith, length-drop (at + 1) text)))
      ∙ ap (λ rest. link (take len after) ∷ links rest) (drop-drop (suc len) (at + 1) text ∙ ap (λ n. drop n text) place))

pub all_words : (text : List ℕ) (at : ℕ) → length text ≤ at → LinksSoFar text at → links text ≡ map word text
all_words text at h s = s ∙ ap (λ rest. map word (take at text) ++ links rest) (drop_all at text h) ∙ append-nil (map word (take at text)) ∙ ap (map word) (take_all at text h)
