-- What an answer in HTML or markdown is cut into: the marks that are put around the texts, and the fragments of the
-- document.
use Rattle.std.specs.Prelude.{◌++◌, ◌∷◌, ◌≡◌}
use Rattle.bpaf_doc.specs.Words.{Bool, true, List, [], map, IsTrue, Style}
use Rattle.bpaf_doc.specs.Html.Fragments.{Fragment, TextStart, TextEnd}

pub data Snippet (M : Type 0) : Type 0 where
  Put : M → Snippet M
  Of : Fragment → Snippet M

-- the snippets without the marks
abbrev pub fragments_in : {M : Type 0} → List (Snippet M) → List Fragment
fragments_in [] = []
fragments_in (Of fragment ∷ snippets) = fragment ∷ fragments_in snippets
fragments_in (Put mark ∷ snippets) = fragments_in snippets

-- a mark that passes, or a fragment
abbrev pub is_mark_or_fragment : {M : Type 0} → (M → Bool) → Snippet M → Bool
is_mark_or_fragment passes (Put mark) = passes mark
is_mark_or_fragment passes (Of fragment) = true

-- each text has the marks of its style before its chunks and after them
abbrev pub styled_by : {M : Type 0} → (Style → List M) → (Style → List M) → Fragment → List (Snippet M)
styled_by before after (TextStart style) = Of (TextStart style) ∷ map Put (before style)
styled_by before after (TextEnd style) = map Put (after style) ++ Of (TextEnd style) ∷ []
styled_by before after fragment = Of fragment ∷ []

-- there is nothing between fragments that pass and follow one another in a text
abbrev pub Touch : {M : Type 0} → (Fragment → Bool) → List (Snippet M) → Type 0
Touch {M = M} passes cut =
    (before between after : List (Snippet M)) (a b : Fragment) → cut ≡ before ++ Of a ∷ (between ++ Of b ∷ after)
    → IsTrue (passes a) → IsTrue (passes b) → fragments_in between ≡ [] → between ≡ []
