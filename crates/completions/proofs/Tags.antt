-- A text in which a name stands for each backquote, piece by piece.
use Rattle.std.proofs.Common.{◌≡◌, ℕ, suc, ◌<◌, cond, List, [], ◌∷◌, ◌++◌, length, get_or, append_assoc, arith, refl, sym, ap, ◌∙◌, Bor, Some, None}
use Rattle.std.proofs.lemmas.Bool.{ne_eqb}
use Rattle.std.proofs.lemmas.List.{length-append}
use Rattle.std.proofs.lemmas.List.Concat.{flat_map-append}
use Rattle.std.proofs.lemmas.Str.Pattern.{IsSplitOnceResult, split_parts}
use Rattle.completions.specs.Scripts.{tagged, tagged_byte}

untagged : (tag text : List ℕ) → ((i : ℕ) → i < length text → ¬ (get_or text i 0 ≡ 96)) → tagged tag text ≡ text
untagged tag [] h = refl
untagged tag (b ∷ text) h =
    ap (λ t. cond t tag (b ∷ []) ++ tagged tag text) (ne_eqb b 96 (h 0 (omega arith)))
    ∙ ap (λ more. b ∷ more) (untagged tag text (λ i below. h (suc i) (omega arith)))

pub last_piece : (tag text : List ℕ) → IsSplitOnceResult 96 text None → tagged tag text ≡ text
last_piece tag text h = untagged tag text (split_parts 96 text None h (omega arith))

pub next_piece : (tag text : List ℕ) (before after : Bor (List ℕ)) → IsSplitOnceResult 96 text (Some (before, after)) → tagged tag text ≡ before.now ++ (tag ++ tagged tag after.now)
next_piece tag text before after h =
    let parts = split_parts 96 text (Some (before, after)) h (omega arith) in
    ap (tagged tag) parts.0
    ∙ flat_map-append (tagged_byte tag) before.now (96 ∷ after.now)
    ∙ ap (λ front. front ++ (tag ++ tagged tag after.now)) (untagged tag before.now parts.1)

pub piece_shorter : (text : List ℕ) (before after : Bor (List ℕ)) → IsSplitOnceResult 96 text (Some (before, after)) → length after.now < length text
piece_shorter text before after h = grind (arith, split_parts, length-append)

-- a step of the loop that writes it, and its end
pub tagged_more : (tag text out new whole : List ℕ) (piece after : Bor (List ℕ)) → IsSplitOnceResult 96 text (Some (piece, after)) → new ≡ out ++ (piece.now ++ tag) → out ++ tagged tag text ≡ whole → new ++ tagged tag after.now ≡ whole
tagged_more tag text out new whole piece after h n w =
    ap (λ x. x ++ tagged tag after.now) n
    ∙ append_assoc out (piece.now ++ tag) (tagged tag after.now)
    ∙ ap (λ x. out ++ x) (append_assoc piece.now tag (tagged tag after.now) ∙ sym (next_piece tag text piece after h))
    ∙ w

pub tagged_end : (tag text out new whole : List ℕ) → IsSplitOnceResult 96 text None → new ≡ out ++ text → out ++ tagged tag text ≡ whole → new ≡ whole
tagged_end tag text out new whole h n w = n ∙ ap (λ x. out ++ x) (sym (last_piece tag text h)) ∙ w
