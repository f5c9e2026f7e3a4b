-- Steps of a summary: the first paragraph of two texts, a line without the full
-- stop at its end, and lines that are the same.
use Rattle.std.proofs.Common.{◌≡◌, ◌≢◌, suc, Bool, true, false, ◌&&◌, List, [], ◌∷◌, ◌++◌, length, map, refl, sym, ap, ◌∙◌, append-nil}
use Rattle.std.proofs.lemmas.List.{map-append}
use Rattle.std.specs.Option.{option_or}
use Rattle.page_model.specs.Content.{Piece, Line, BlockSaid, paragraph, code, bullets}
use Rattle.description_texts.specs.Texts.{first_paragraph}
use Rattle.description_pages.specs.Summaries.{same_line, same_piece, without_stop}

pub first_else : (help about : List BlockSaid) → first_paragraph (help ++ about) ≡ option_or (first_paragraph help) (first_paragraph about)
first_else [] about = refl
first_else (paragraph lines ∷ help) about = refl
first_else (code lines ∷ help) about = first_else help about
first_else (bullets items ∷ help) about = first_else help about

stop_left : (line : Line) (last : Piece) → without_stop (line ++ last ∷ []) ≡ line ++ without_stop (last ∷ [])
stop_left [] last = refl
stop_left (piece ∷ []) last = refl
stop_left (piece ∷ next ∷ line) last = ap (λ more. piece ∷ more) (stop_left (next ∷ line) last)

-- the last piece was taken off, and came back without its full stop
pub stop_taken : {X : Type 0} (see : X → Piece) (old rest new : List X) (last : X) → old ≡ rest ++ last ∷ [] → map see new ≡ map see rest ++ without_stop (see last ∷ []) → map see new ≡ without_stop (map see old)
stop_taken see old rest new last is n =
    n ∙ sym (stop_left (map see rest) (see last)) ∙ sym (ap without_stop (ap (map see) is ∙ map-append see rest (last ∷ [])))

pub none_taken : {X : Type 0} (see : X → Piece) (old rest : List X) → old ≡ rest ++ [] → rest ≡ [] → map see rest ≡ without_stop (map see old)
none_taken see old rest is none = ap (map see) none ∙ sym (ap (λ xs. without_stop (map see xs)) (is ∙ append-nil rest ∙ none))

and_false : (b : Bool) → (b && false) ≡ false
and_false true = refl
and_false false = refl

pub lengths_differ : {X : Type 0} (see : X → Piece) (xs ys : List X) → length xs ≢ length ys → false ≡ same_line (map see xs) (map see ys)
lengths_differ see [] [] h = absurd (h refl)
lengths_differ see [] (y ∷ ys) h = refl
lengths_differ see (x ∷ xs) [] h = refl
lengths_differ see (x ∷ xs) (y ∷ ys) h =
    sym (ap (λ b. same_piece (see x) (see y) && b) (sym (lengths_differ see xs ys (λ e. h (ap suc e)))) ∙ and_false (same_piece (see x) (see y)))
