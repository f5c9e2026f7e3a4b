-- An answer in HTML or markdown, cut at a fragment of the document.
use Rattle.std.proofs.Common.{◌≡◌, List, [], ◌∷◌, ◌++◌, refl, ap, ◌∙◌}
use Rattle.bpaf_doc.specs.Html.Fragments.{Fragment}
use Rattle.bpaf_doc.specs.Snippets.{Snippet, Put, Of, fragments_in}

abbrev first_or : Fragment → List Fragment → Fragment
first_or d [] = d
first_or d (p ∷ ps) = p

abbrev rest_of : List Fragment → List Fragment
rest_of [] = []
rest_of (p ∷ ps) = ps

module _ {M : Type 0} where
  abbrev pub CutAt : List (Snippet M) → List Fragment → List Fragment → Fragment → Type 0
  CutAt ts front rest p = (before after : List (Snippet M)) × (ts ≡ before ++ Of p ∷ after) × (fragments_in before ≡ front) × (fragments_in after ≡ rest)

  pub cut_at : (ts : List (Snippet M)) (front rest : List Fragment) (p : Fragment) → fragments_in ts ≡ front ++ p ∷ rest → CutAt ts front rest p
  cut_at [] [] rest p e = absurd cc
  cut_at [] (f ∷ fs) rest p e = absurd cc
  cut_at (Put mark ∷ ts) front rest p e =
      let found : CutAt ts front rest p = cut_at ts front rest p e in (Put mark ∷ found.0, found.1, ap (λ x. Put mark ∷ x) found.2, found.3, found.4)
  cut_at (Of a ∷ ts) [] rest p e = ([], ts, ap (λ x. Of x ∷ ts) (ap (first_or p) e), refl, ap rest_of e)
  cut_at (Of a ∷ ts) (f ∷ fs) rest p e =
      let found : CutAt ts fs rest p = cut_at ts fs rest p (ap rest_of e) in
      (Of a ∷ found.0, found.1, ap (λ x. Of a ∷ x) found.2, ap (λ x. x ∷ fragments_in found.0) (ap (first_or p) e) ∙ ap (λ x. f ∷ x) found.3, found.4)
