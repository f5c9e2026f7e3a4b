-- One step of a loop that puts texts.
use Rattle.std.proofs.Common.{◌≡◌, ℕ, ◌+◌, ◌<◌, List, ◌++◌, Bor, append_assoc, ap, ◌∙◌, drop, flat_map, get_or, length, map, sym}
use Rattle.std.proofs.lemmas.List.{drop_more}

-- a text after others
after_this : (r s t y x : List ℕ) → s ≡ r ++ y → t ≡ s ++ x → t ≡ r ++ (y ++ x)
after_this r s t y x h1 h2 = h2 ∙ ap (λ u. u ++ x) h1 ∙ append_assoc r y x

pub put_more : (f : List ℕ → List ℕ) (lines : List (Bor (List ℕ))) (i : ℕ) (d : Bor (List ℕ)) (out new whole : List ℕ) → i < length lines → new ≡ out ++ f (get_or lines i d).now
    → out ++ flat_map f (map (λ line. line.now) (drop i lines)) ≡ whole → new ++ flat_map f (map (λ line. line.now) (drop (i + 1) lines)) ≡ whole
put_more f lines i d out new whole h put so_far =
    ap (λ t. t ++ flat_map f (map (λ line. line.now) (drop (i + 1) lines))) put
    ∙ append_assoc out (f (get_or lines i d).now) (flat_map f (map (λ line. line.now) (drop (i + 1) lines)))
    ∙ ap (λ (ls : List (Bor (List ℕ))). out ++ flat_map f (map (λ line. line.now) ls)) (sym (drop_more lines i d h)) ∙ so_far

-- four texts that are put one after another
pub four_put : (s0 s1 s2 s3 s4 x y z w : List ℕ) → s1 ≡ s0 ++ x → s2 ≡ s1 ++ y → s3 ≡ s2 ++ z → s4 ≡ s3 ++ w → s4 ≡ s0 ++ (x ++ (y ++ (z ++ w)))
four_put s0 s1 s2 s3 s4 x y z w h1 h2 h3 h4 =
    let third : s4 ≡ s2 ++ (z ++ w) = after_this s2 s3 s4 z w h3 h4 in
    after_this s0 s1 s4 x (y ++ (z ++ w)) h1 (after_this s1 s2 s4 y (z ++ w) h2 third)
