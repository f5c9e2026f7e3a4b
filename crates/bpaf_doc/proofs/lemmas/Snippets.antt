-- Answers that are cut into marks and fragments: what follows each fragment of a cut, and what stands between two.
use Rattle.std.proofs.Common.{◌≡◌, Bool, true, false, List, [], ◌∷◌, ◌++◌, refl, sym, ap, ◌∙◌, arith, not, ◌&&◌}
use Rattle.std.specs.List.{list_any}
use Rattle.std.proofs.lemmas.Bool.{and_parts, and_from}
use Rattle.bpaf_doc.specs.Html.Fragments.{Fragment}
use Rattle.bpaf_doc.specs.Snippets.{Snippet, Put, Of, fragments_in}

-- the first fragment passes
abbrev pub begins : (Fragment → Bool) → List Fragment → Bool
begins passes [] = false
begins passes (f ∷ fs) = passes f

module _ {M : Type 0} where
  pub fragments-append : (xs ys : List (Snippet M)) → fragments_in (xs ++ ys) ≡ fragments_in xs ++ fragments_in ys
  fragments-append [] ys = refl
  fragments-append (s ∷ xs) ys = grind (arith, fragments-append xs ys)

  -- ---- what follows each fragment

  module _ (is_followed : Fragment → List (Snippet M) → Bool) where
    abbrev pub all_followed : List (Snippet M) → Bool
    all_followed [] = true
    all_followed (Put mark ∷ ss) = all_followed ss
    all_followed (Of f ∷ ss) = is_followed f ss && all_followed ss

    followed_back : (xs ys : List (Snippet M)) → all_followed (xs ++ ys) ≡ true → all_followed ys ≡ true
    followed_back [] ys h = h
    followed_back (s ∷ xs) ys h = grind (arith, followed_back xs ys, and_parts)

    -- what follows a fragment of a cut, and each after it
    pub followed_at : (cut before rest : List (Snippet M)) (a : Fragment) → all_followed cut ≡ true → cut ≡ before ++ Of a ∷ rest → (is_followed a rest ≡ true) × (all_followed rest ≡ true)
    followed_at cut before rest a h e = and_parts (is_followed a rest) (all_followed rest) (followed_back before (Of a ∷ rest) (ap all_followed (sym e) ∙ h))

    -- fragments that ask nothing of what follows
    pub quiet_followed : (asks : Fragment → Bool) → ((f : Fragment) (rest : List (Snippet M)) → asks f ≡ false → is_followed f rest ≡ true)
        → (ss rest : List (Snippet M)) → list_any asks (fragments_in ss) ≡ false → all_followed rest ≡ true → all_followed (ss ++ rest) ≡ true
    quiet_followed asks quiet [] rest e h = h
    quiet_followed asks quiet (x ∷ ss) rest e h = grind (arith, quiet_followed asks quiet ss, quiet, and_from)

  -- ---- what stands before a fragment that passes

  module _ (passes : Fragment → Bool) where
    -- no mark stands before such a fragment, where it is the next one
    abbrev pub touches : List (Snippet M) → Bool
    touches (Of f ∷ ss) = true
    touches ss = not (begins passes (fragments_in ss))

    pub other_touches : (ss : List (Snippet M)) (f : Fragment) (fs : List Fragment) → fragments_in ss ≡ f ∷ fs → passes f ≡ false → touches ss ≡ true
    other_touches ss f fs h1 h2 = grind arith

    pub touching_between : (between after : List (Snippet M)) (b : Fragment) → touches (between ++ Of b ∷ after) ≡ true → passes b ≡ true → fragments_in between ≡ [] → between ≡ []
    touching_between [] after b h o none = refl
    touching_between (s ∷ between) after b h o none = grind (arith, fragments-append)
