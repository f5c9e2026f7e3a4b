-- What characters are written as.
use Rattle.std.proofs.Common.{◌≡◌, ◌≢◌, ℕ, ◌+◌, ◌-◌, ◌<◌, ◌≤◌, Bool, true, false, suc, List, [], ◌∷◌, ◌++◌, ◌&&◌, length, refl, sym, ap, ◌∙◌, append_assoc, append-nil, get_or, arith, take, drop, length-append, length-drop, subst}
use Rattle.std.specs.Prelude.{encode_utf8, ◌==◌, if◌then◌else◌}
use Rattle.std.specs.List.{list_all}
use Rattle.std.proofs.lemmas.Bool.{and_parts, ne_eqb}
use Rattle.std.proofs.lemmas.List.{get_or-drop, take_more}
use Rattle.std.proofs.lemmas.List.Concat.{flat_map-append}
use Rattle.std.proofs.Math.Seq.{take-append_seam}
use Rattle.std.specs.Str.{IsUtf8, IsCharBoundary}
use Rattle.std.proofs.lemmas.Str.{encode_ascii, inside_one, IsCharBoundary-from_take}
use Rattle.web_page.specs.Exact.{escaped, escaped_byte}
use Rattle.web_page.specs.Steps.Bytes.{is_no_sign}
use Rattle.web_page.specs.Steps.Pieces.{Extends}

-- a byte that stands for itself
abbrev pub IsPlain : Bool → ℕ → Type 0
IsPlain v b = (b ≢ 38) × (b ≢ 60) × (b ≢ 62) × ((v ≡ true) → b ≢ 34)

no_quote : (v : Bool) (b : ℕ) → ((v ≡ true) → b ≢ 34) → (v && (b == 34)) ≡ false
no_quote v b h2 = grind (arith, ne_eqb)

pub plain_byte : (v : Bool) (b : ℕ) → IsPlain v b → escaped_byte v b ≡ b ∷ []
plain_byte v b p = rw (ne_eqb b 38 p.0, ne_eqb b 60 p.1, ne_eqb b 62 p.2, no_quote v b p.3) refl

plain_bytes : (v : Bool) (bs : List ℕ) → ((k : ℕ) → k < length bs → IsPlain v (get_or bs k 0)) → escaped v bs ≡ bs
plain_bytes v [] p = refl
plain_bytes v (b ∷ bs) p =
    let first : escaped_byte v b ≡ b ∷ [] = plain_byte v b (p 0 (omega arith)) in
    ap (λ x. x ++ escaped v bs) first ∙ ap (λ xs. b ∷ xs) (plain_bytes v bs (λ k l. p (suc k) (omega arith)))

-- a text without signs
no_sign : (b c : ℕ) → is_no_sign b ≡ true → is_no_sign c ≡ false → b ≢ c
no_sign b c plain sign e = let same : is_no_sign c ≡ true = subst (λ x. is_no_sign x ≡ true) e plain in cc

pub alone : (v : Bool) (bytes : List ℕ) → list_all is_no_sign bytes ≡ true → escaped v bytes ≡ bytes
alone v [] h = refl
alone v (b ∷ bytes) h =
    let parts = and_parts (is_no_sign b) (list_all is_no_sign bytes) h in
    let plain : IsPlain v b = (no_sign b 38 parts.0 refl, no_sign b 60 parts.0 refl, no_sign b 62 parts.0 refl, λ _. no_sign b 34 parts.0 refl) in
    ap (λ x. x ++ escaped v bytes) (plain_byte v b plain) ∙ ap (λ xs. b ∷ xs) (alone v bytes parts.1)

-- no byte of a character is another character's only byte
pub other_byte : (c d k : ℕ) → d < 128 → c ≢ d → k < length (encode_utf8 c) → get_or (encode_utf8 c) k 0 ≢ d
other_byte c d k small ne h e = ne (inside_one c [] (encode_utf8 c) k (sym (append-nil (encode_utf8 c))) h (omega arith) ∙ e)

-- a character that stands for itself is written as it is
pub plain_character : (v : Bool) (c : ℕ) → IsPlain v c → escaped v (encode_utf8 c) ≡ encode_utf8 c
plain_character v c p =
    plain_bytes v (encode_utf8 c) (λ k h. (other_byte c 38 k (omega arith) p.0 h, other_byte c 60 k (omega arith) p.1 h, other_byte c 62 k (omega arith) p.2 h, λ e. other_byte c 34 k (omega arith) (p.3 e) h))

-- a character of one byte is written as this byte is
pub signed_character : (v : Bool) (c : ℕ) (text : List ℕ) → c < 128 → escaped_byte v c ≡ text → escaped v (encode_utf8 c) ≡ text
signed_character v c text h e = ap (escaped v) (encode_ascii c h) ∙ append-nil (escaped_byte v c) ∙ e

-- what is written for a text and its next byte
escaped_more : (v : Bool) (text : List ℕ) (at : ℕ) → at < length text → escaped v (take (at + 1) text) ≡ escaped v (take at text) ++ escaped_byte v (get_or text at 0)
escaped_more v text at h = grind (arith, take_more text at 0 h, flat_map-append (escaped_byte v) (take at text) (get_or text at 0 ∷ []), append-nil (escaped_byte v (get_or text at 0)))

-- the next byte of what follows a place
run_more : (text : List ℕ) (start at : ℕ) → start ≤ at → at < length text → take (at + 1 - start) (drop start text) ≡ take (at - start) (drop start text) ++ get_or text at 0 ∷ []
run_more text start at le h = grind (arith, length-drop start text, take_more (drop start text) (at - start) 0, get_or-drop start text (at - start) 0)

-- a step over a byte that stands for itself
pub plain_next : (v : Bool) (text out first : List ℕ) (start at : ℕ) → start ≤ at → at < length text → escaped_byte v (get_or text at 0) ≡ get_or text at 0 ∷ [] → out ++ take (at - start) (drop start text) ≡ first ++ escaped v (take at text) → out ++ take (at + 1 - start) (drop start text) ≡ first ++ escaped v (take (at + 1) text)
plain_next v text out first start at le h e w = grind (arith, run_more text start at le h, append_assoc out (take (at - start) (drop start text)) (get_or text at 0 ∷ []), append_assoc first (escaped v (take at text)) (get_or text at 0 ∷ []), escaped_more v text at h)

-- a step over a byte that a reference stands for
pub named_next : (v : Bool) (text out first more new name : List ℕ) (start at : ℕ) → at < length text → escaped_byte v (get_or text at 0) ≡ name → more ≡ out ++ take (at - start) (drop start text) → new ≡ more ++ name → out ++ take (at - start) (drop start text) ≡ first ++ escaped v (take at text) → new ++ take (at + 1 - (at + 1)) (drop (at + 1) text) ≡ first ++ escaped v (take (at + 1) text)
named_next v text out first more new name start at h e m n w = grind (arith, append-nil new, append_assoc first (escaped v (take at text)) name, escaped_more v text at h)

pub extends_more : (first old new more : List ℕ) → Extends first old → new ≡ old ++ more → Extends first new
extends_more first old new more h e = (h.0 ++ more, e ∙ ap (λ x. x ++ more) h.1 ∙ append_assoc first h.0 more)

-- the same, whether the text was appended or not
pub extends_tried : (first old new more : List ℕ) (came : Bool) → Extends first old → new ≡ (if came then old ++ more else old) → Extends first new
extends_tried first old new more true h e = extends_more first old new more h e
extends_tried first old new more false h e = (h.0, e ∙ h.1)

-- a text may be cut where an earlier one ended
pub cut_at_end : (old new : List ℕ) (n : ℕ) → IsUtf8 old → IsUtf8 new → n ≡ length old → Extends old new → IsCharBoundary new n
cut_at_end old new n u v e h = grind (arith, length-append, take-append_seam, IsCharBoundary-from_take)

-- and is that one again
pub cut_back : (old new : List ℕ) (n : ℕ) → n ≡ length old → Extends old new → take n new ≡ old
cut_back old new n e h = ap (λ k. take k new) e ∙ ap (take (length old)) h.1 ∙ take-append_seam old h.0

pub extends_further : (first old new more : List ℕ) → old ≡ first ++ more → Extends old new → Extends first new
extends_further first old new more e h = (more ++ h.0, h.1 ∙ ap (λ x. x ++ h.0) e ∙ append_assoc first more h.0)
