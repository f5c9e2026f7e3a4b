-- Letters that stand together, one after another.
use Rattle.std.proofs.Common.{◌≡◌, ℕ, ◌<◌, ◌||◌, ◌&&◌, ◌==◌, nat_lt, not, true, List, [], ◌∷◌, ◌++◌, append_assoc, ap, ◌∙◌, arith, drop, get_or, length, map, take}
use Rattle.std.specs.Char.{is_ascii_alphanumeric}
use Rattle.std.specs.List.{list_all}
use Rattle.std.specs.Str.{IsCharBoundary, IsUtf8}
use Rattle.std.proofs.lemmas.Bool.{and_parts}
use Rattle.std.proofs.lemmas.Bool.Decides.{nat_tests}
use Rattle.std.proofs.lemmas.Str.{IsCharBoundary-after_ascii}
use Rattle.drafts.specs.Strays.{StraySaid, are_known, are_rising, has_letters, is_cluster, letter, letter_of, stand_together}
use Rattle.drafts.specs.Free.{Has}
use Rattle.help_fronts.specs.Bytes.{is_dash}
use Rattle.help_fronts.specs.Usages.{UsedSaid}
use Rattle.drafts.specs.Options.{key}

letter_small : (b : ℕ) → is_ascii_alphanumeric b ≡ true → b < 128
letter_small b h = grind (arith, nat_tests)

pub letters_cut : (rest : List ℕ) → list_all is_ascii_alphanumeric rest ≡ true → 0 < length rest → IsUtf8 rest → IsCharBoundary rest 1
letters_cut [] h size utf8 = absurd (omega arith)
letters_cut (b ∷ bs) h size utf8 = IsCharBoundary-after_ascii (b ∷ bs) 0 utf8 size (letter_small b (and_parts (is_ascii_alphanumeric b) (list_all is_ascii_alphanumeric bs) h).0)

pub letters_rest : (rest back : List ℕ) → list_all is_ascii_alphanumeric rest ≡ true → 0 < length rest → back ≡ drop 1 rest → list_all is_ascii_alphanumeric back ≡ true
letters_rest [] back h size is = absurd (omega arith)
letters_rest (b ∷ bs) back h size is = ap (list_all is_ascii_alphanumeric) is ∙ (and_parts (is_ascii_alphanumeric b) (list_all is_ascii_alphanumeric bs) h).1

pub letters_more : (rest front back : List ℕ) (strays more whole : List StraySaid) → 0 < length rest → front ≡ take 1 rest → back ≡ drop 1 rest → more ≡ strays ++ letter_of front ∷ [] → strays ++ map letter rest ≡ whole → more ++ map letter back ≡ whole
letters_more [] front back strays more whole size f b put so_far = absurd (omega arith)
letters_more (x ∷ xs) front back strays more whole size f b put so_far =
    ap (λ ss. ss ++ map letter back) put ∙ ap (λ t. (strays ++ letter_of t ∷ []) ++ map letter back) f ∙ ap (λ ys. (strays ++ letter x ∷ []) ++ map letter ys) b
    ∙ append_assoc strays (letter x ∷ []) (map letter xs) ∙ so_far

dashed_size : (n : List ℕ) → has_letters n ≡ true → 0 < length n
dashed_size n h = grind (arith, nat_tests)

dashed_first : (n : List ℕ) → has_letters n ≡ true → get_or n 0 0 < 128
dashed_first n h = grind (arith, nat_tests)

pub cluster_cut : (has : Has) (n : List ℕ) → is_cluster has n ≡ true → IsUtf8 n → IsCharBoundary n 1
cluster_cut has n h utf8 =
    let dashed : has_letters n ≡ true = (and_parts (has_letters n) (are_rising (drop 1 n) || are_known has (drop 1 n)) h).0 in
    IsCharBoundary-after_ascii n 0 utf8 (dashed_size n dashed) (dashed_first n dashed)

pub cluster_letters : (has : Has) (n : List ℕ) → is_cluster has n ≡ true → list_all is_ascii_alphanumeric (drop 1 n) ≡ true
cluster_letters has n h =
    let dashed : has_letters n ≡ true = (and_parts (has_letters n) (are_rising (drop 1 n) || are_known has (drop 1 n)) h).0 in
    (and_parts (is_dash (get_or n 0 0) && nat_lt 2 (length n)) (list_all is_ascii_alphanumeric (drop 1 n)) dashed).1

pub together_cluster : (has : Has) (o : UsedSaid) → stand_together has o ≡ true → is_cluster has o.name ≡ true
together_cluster has o h =
    (and_parts (is_cluster has o.name) (not (has (key o.name))) (and_parts (o.joint == 32) (is_cluster has o.name && not (has (key o.name))) h).1).0
