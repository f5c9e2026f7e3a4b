-- Blocks that follow one another are the passages from where each begins.
use Rattle.std.proofs.Common.{◌≡◌, ℕ, ◌≤◌, List, [], ◌∷◌, ◌++◌, append-nil, drop, length, map, refl, subst, sym, ap, ◌∙◌}
use Rattle.std.proofs.lemmas.List.{drop_all}
use Rattle.help_blocks.specs.declared.cut.Block.{Block}
use Rattle.help_blocks.specs.Blocks.{FollowOn, Start, lines_of, start_of, starts}
use Rattle.drafts.specs.Passages.{PassageSaid, lines_between, next_start, passage, passages, passages_from}

-- the passage of a block
abbrev pub cut : (lines : List (List ℕ)) → Block → PassageSaid
cut lines b = passage b.kind (lines_between b.first b.end lines)

ends_at : (n : ℕ) (end : ℕ) (bs : List Block) → FollowOn n bs end → n ≡ next_start (map start_of bs) end
ends_at n end [] h = h
ends_at n end (b ∷ bs) h = sym h.0

cut_follows : (lines : List (List ℕ)) (n : ℕ) (bs : List Block) → FollowOn n bs (length lines) → map (cut lines) bs ≡ passages_from (map start_of bs) lines
cut_follows lines n [] h = refl
cut_follows lines n (b ∷ bs) h =
    ap (λ p. p ∷ map (cut lines) bs) (ap (λ e. passage b.kind (lines_between b.first e lines)) (ends_at b.end (length lines) bs h.2))
    ∙ ap (λ ps. passage b.kind (lines_between b.first (next_start (map start_of bs) (length lines)) lines) ∷ ps) (cut_follows lines b.end bs h.2)

pub cut_all : (lines : List (List ℕ)) (bs : List Block) (ss : List Start) → map start_of bs ≡ ss → FollowOn 0 bs (length lines) → map (cut lines) bs ≡ passages_from ss lines
cut_all lines bs ss e h = cut_follows lines 0 bs h ∙ ap (λ s. passages_from s lines) e

-- after the last block
pub cut_done : (found : List PassageSaid) (lines : List (List ℕ)) (items bs : List Block) (i n : ℕ) → items ≡ bs → length items ≤ i → n ≡ length lines → map start_of bs ≡ starts (lines_of lines)
    → FollowOn 0 bs n → found ++ map (cut lines) (drop i items) ≡ map (cut lines) items → found ≡ passages lines
cut_done found lines items bs i n same far size begun follow so_far =
    sym (append-nil found) ∙ ap (λ bs. found ++ map (cut lines) bs) (sym (drop_all i items far)) ∙ so_far ∙ ap (map (cut lines)) same
    ∙ cut_all lines bs (starts (lines_of lines)) begun (subst (FollowOn 0 bs) size follow)
