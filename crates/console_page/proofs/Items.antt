-- Items one after another, and texts that are cut into them.
use Rattle.std.proofs.Common.{◌≡◌, ℕ, suc, ◌-◌, ◌<◌, ◌==◌, cond, List, [], ◌∷◌, ◌++◌, length, get_or, append_assoc, append-nil, arith, refl, sym, ap, ◌∙◌, Bor, Some, None}
use Rattle.std.specs.Prelude.{Result, Ok, Err, OnOk, IfOk, is_ok, flat_map, codes, if◌then◌else◌}
use Rattle.std.specs.List.{after_first, onto_first, slice_split}
use Rattle.std.proofs.lemmas.Bool.{ne_eqb}
use Rattle.std.proofs.lemmas.List.Splits.{slice_split_first}
use Rattle.std.proofs.lemmas.Str.Pattern.{IsSplitOnceResult, split_once_first, split_parts}
use Rattle.bpaf_doc.specs.Splitter.Chunks.{columns}
use Rattle.console_page.specs.Usage.{form_margin, hanging, item_front, items_text, left_after_item, pieces}
use Rattle.console_page.specs.Steps.{left_after}

-- ---- items after others

pub items_append : (room : ℕ) (margin : List ℕ) (left : ℕ) (xs ys : List (List ℕ)) → items_text room margin left (xs ++ ys) ≡ items_text room margin left xs ++ items_text room margin (left_after room left xs) ys
items_append room margin left [] ys = refl
items_append room margin left (x ∷ xs) ys =
    ap (λ more. item_front room margin left x ++ (x ++ more)) (items_append room margin (left_after_item room left x) xs ys)
    ∙ ap (λ more. item_front room margin left x ++ more) (sym (append_assoc x (items_text room margin (left_after_item room left x) xs) (items_text room margin (left_after room (left_after_item room left x) xs) ys)))
    ∙ sym (append_assoc (item_front room margin left x) (x ++ items_text room margin (left_after_item room left x) xs) (items_text room margin (left_after room (left_after_item room left x) xs) ys))

pub after_append : (room left : ℕ) (xs ys : List (List ℕ)) → left_after room left (xs ++ ys) ≡ left_after room (left_after room left xs) ys
after_append room left [] ys = refl
after_append room left (x ∷ xs) ys = after_append room (left_after_item room left x) xs ys

-- a step of a loop that writes some items of all that are left
pub put_step : (room : ℕ) (margin : List ℕ) (left more : ℕ) (out new whole : List ℕ) (all xs rest : List (List ℕ)) → all ≡ xs ++ rest → new ≡ out ++ items_text room margin left xs → more ≡ left_after room left xs → out ++ items_text room margin left all ≡ whole → new ++ items_text room margin more rest ≡ whole
put_step room margin left more out new whole all xs rest is n m w =
    ap (λ x. x ++ items_text room margin more rest) n
    ∙ ap (λ k. (out ++ items_text room margin left xs) ++ items_text room margin k rest) m
    ∙ append_assoc out (items_text room margin left xs) (items_text room margin (left_after room left xs) rest)
    ∙ ap (λ x. out ++ x) (sym (ap (items_text room margin left) is ∙ items_append room margin left xs rest))
    ∙ w

pub after_step : (room left more whole : ℕ) (all xs rest : List (List ℕ)) → all ≡ xs ++ rest → more ≡ left_after room left xs → left_after room left all ≡ whole → left_after room more rest ≡ whole
after_step room left more whole all xs rest is m w = ap (λ k. left_after room k rest) m ∙ sym (ap (left_after room left) is ∙ after_append room left xs rest) ∙ w

-- the last items
pub put_last : {T E : Type 0} (r : Result T E) (room : ℕ) (margin : List ℕ) (left : ℕ) (out new whole : List ℕ) (all xs : List (List ℕ)) → all ≡ xs → OnOk r (new ≡ out ++ items_text room margin left xs) → out ++ items_text room margin left all ≡ whole → OnOk r (new ≡ whole)
put_last (Ok v) room margin left out new whole all xs is n w = n ∙ ap (λ ys. out ++ items_text room margin left ys) (sym is) ∙ w
put_last (Err e) room margin left out new whole all xs is n w = tt

pub after_last : {E : Type 0} (r : Result ℕ E) (room left whole : ℕ) (all xs : List (List ℕ)) → all ≡ xs → IfOk r (λ more. more ≡ left_after room left xs) → left_after room left all ≡ whole → IfOk r (λ more. more ≡ whole)
after_last (Ok v) room left whole all xs is n w = n ∙ ap (left_after room left) (sym is) ∙ w
after_last (Err e) room left whole all xs is n w = tt

-- ---- a text that is cut

unsplit : (c : ℕ) (bs : List ℕ) → ((i : ℕ) → i < length bs → ¬ (get_or bs i 0 ≡ c)) → slice_split (λ b. b == c) bs ≡ bs ∷ []
unsplit c [] h = refl
unsplit c (b ∷ bs) h =
    ap (λ t. cond t ([] ∷ slice_split (λ b. b == c) bs) (onto_first b (slice_split (λ b. b == c) bs))) (ne_eqb b c (h 0 (omega arith)))
    ∙ ap (onto_first b) (unsplit c bs (λ i below. h (suc i) (omega arith)))

pub last_there : (c : ℕ) (bs : List ℕ) (f : List ℕ → List (List ℕ)) → IsSplitOnceResult c bs None → c < 128 → flat_map f (slice_split (λ b. b == c) bs) ≡ f bs
last_there c bs f h low = ap (flat_map f) (unsplit c bs (split_parts c bs None h low)) ∙ append-nil (f bs)

pub next_there : (c : ℕ) (bs : List ℕ) (f : List ℕ → List (List ℕ)) (line after : Bor (List ℕ)) → IsSplitOnceResult c bs (Some (line, after)) → c < 128 → flat_map f (slice_split (λ b. b == c) bs) ≡ f line.now ++ flat_map f (slice_split (λ b. b == c) after.now)
next_there c bs f line after h low =
    let found = split_once_first c bs (Some (line, after)) h low in
    ap (flat_map f) (slice_split_first (λ b. b == c) bs 0 found.0 ∙ ap (λ x. x ∷ slice_split (λ b. b == c) (after_first (λ b. b == c) bs)) (sym found.1) ∙ ap (λ x. line.now ∷ slice_split (λ b. b == c) x) (sym found.2))

-- ---- items after a front

hung_same : (width taken len room : ℕ) (front margin shown : List ℕ) (items : List (List ℕ)) → taken ≡ columns front → margin ≡ form_margin width taken items → shown ≡ margin → len ≡ length shown → room ≡ width - len
    → items_text room shown (width - taken) (flat_map (pieces room) items) ≡ items_text (width - length (form_margin width (columns front) items)) (form_margin width (columns front) items) (width - columns front) (flat_map (pieces (width - length (form_margin width (columns front) items))) items)
hung_same width taken len room front margin shown items t m s l r =
    let is : shown ≡ form_margin width (columns front) items = s ∙ m ∙ ap (λ n. form_margin width n items) t in
    let same : room ≡ width - length (form_margin width (columns front) items) = r ∙ ap (λ n. width - n) (l ∙ ap length is) in
    ap (λ k. items_text k shown (width - taken) (flat_map (pieces k) items)) same
    ∙ ap (λ x. items_text (width - length (form_margin width (columns front) items)) x (width - taken) (flat_map (pieces (width - length (form_margin width (columns front) items))) items)) is
    ∙ ap (λ n. items_text (width - length (form_margin width (columns front) items)) (form_margin width (columns front) items) (width - n) (flat_map (pieces (width - length (form_margin width (columns front) items))) items)) t

after_front : (out front shown o1 o2 new : List ℕ) → o1 ≡ out ++ front → o2 ≡ o1 ++ shown → new ≡ o2 ++ codes "\n" → new ≡ out ++ (front ++ (shown ++ codes "\n"))
after_front out front shown o1 o2 new a b c =
    c ∙ ap (λ x. x ++ codes "\n") (b ∙ ap (λ x. x ++ shown) a)
    ∙ append_assoc (out ++ front) shown (codes "\n")
    ∙ append_assoc out front (shown ++ codes "\n")

pub hung_step : {T E : Type 0} (r : Result T E) (width taken len room : ℕ) (front margin shown out o1 o2 new : List ℕ) (items : List (List ℕ)) → taken ≡ columns front → margin ≡ form_margin width taken items → shown ≡ margin → len ≡ length shown → room ≡ width - len → o1 ≡ out ++ front → o2 ≡ o1 ++ items_text room shown (width - taken) (flat_map (pieces room) items) → new ≡ (if is_ok r then o2 ++ codes "\n" else o2) → OnOk r (new ≡ out ++ hanging width front items)
unfolding hanging
hung_step (Ok v) width taken len room front margin shown out o1 o2 new items t m s l r a b n =
    after_front out front (items_text room shown (width - taken) (flat_map (pieces room) items)) o1 o2 new a b n
    ∙ ap (λ x. out ++ (front ++ (x ++ codes "\n"))) (hung_same width taken len room front margin shown items t m s l r)
hung_step (Err e) width taken len room front margin shown out o1 o2 new items t m s l r a b n = tt
