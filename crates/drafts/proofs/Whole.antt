-- The passages of a text follow one another, and no line is lost but blank ones.
use Rattle.std.proofs.Common.{◌≡◌, ℕ, ◌+◌, ◌-◌, ◌<◌, true, not, cond, List, [], ◌∷◌, ◌++◌, append_assoc, drop, filter, flat_map, length, map, take, refl, subst, sym, ap, ◌∙◌, arith}
use Rattle.std.specs.List.{AllPass, suffix_len}
use Rattle.std.proofs.lemmas.List.{drop-drop, drop_all, take-append-drop}
use Rattle.std.proofs.lemmas.List.Elements.{All-head, All-tail, filter-append}
use Rattle.std.proofs.lemmas.List.Folds.{flat_map-map}
use Rattle.help_blocks.specs.declared.cut.Block.{Block}
use Rattle.help_blocks.specs.Blocks.{FollowOn, lines_of, starts}
use Rattle.help_blocks.specs.Laws.{EachLineIsInABlock}
use Rattle.drafts.specs.Passages.{PassageSaid, inked, is_blank, lines_between, passages}
use Rattle.drafts.specs.Places.{placed}
use Rattle.drafts.specs.Laws.{is_inked}
use Rattle.drafts.proofs.Blocks.{cut, cut_all}
use Rattle.drafts.proofs.Lists.{end_passes}
use Rattle.drafts.proofs.Placing.{each_is_placed}

-- ---- passages follow one another, as blocks do

-- passages one after another, with blank lines alone after each
abbrev pub FollowIn : (lines : List (List ℕ)) → List PassageSaid → Type 0
FollowIn lines [] = lines ≡ []
FollowIn lines (p ∷ ps) = (blank : List (List ℕ)) × (rest : List (List ℕ)) × (lines ≡ p.lines ++ (blank ++ rest)) × AllPass is_blank blank × FollowIn rest ps

-- the lines of a block, those that are dropped after them, and the rest
block_then : (lines : List (List ℕ)) (first end : ℕ) → first < end → (let own = lines_between first end lines in let n = length own - suffix_len is_blank own in drop first lines ≡ inked own ++ (drop n own ++ drop end lines))
block_then lines first end h =
    let own = lines_between first end lines in
    let n = length own - suffix_len is_blank own in
    let there : first + (end - first) ≡ end = omega arith in
    sym (take-append-drop (end - first) (drop first lines)) ∙ ap (λ t. own ++ t) (drop-drop (end - first) first lines ∙ ap (λ m. drop m lines) there)
    ∙ ap (λ t. t ++ drop end lines) (sym (take-append-drop n own)) ∙ append_assoc (take n own) (drop n own) (drop end lines)

follow_in : (lines : List (List ℕ)) (first : ℕ) (bs : List Block) → FollowOn first bs (length lines) → FollowIn (drop first lines) (map (cut lines) bs)
follow_in lines first [] h = drop_all first lines (omega (arith, h))
follow_in lines first (b ∷ bs) h =
    let own = lines_between b.first b.end lines in
    (drop (length own - suffix_len is_blank own) own, drop b.end lines, sym (ap (λ n. drop n lines) h.0) ∙ block_then lines b.first b.end h.1, end_passes is_blank own, follow_in lines b.end bs h.2)

pub passages_follow : EachLineIsInABlock → (lines : List (List ℕ)) → FollowIn lines (passages lines)
passages_follow in_blocks lines =
    let there = in_blocks lines in
    subst (FollowIn lines) (cut_all lines there.0 (starts (lines_of lines)) there.1.begun there.1.follow) (follow_in lines 0 there.0 there.1.follow)

-- ---- lines that are not blank

none_inked : (ls : List (List ℕ)) → AllPass is_blank ls → filter is_inked ls ≡ []
none_inked [] blank = refl
none_inked (l ∷ ls) blank =
    ap (λ b. cond (not b) (l ∷ filter is_inked ls) (filter is_inked ls)) (All-head (λ l. is_blank l ≡ true) l ls blank) ∙ none_inked ls (All-tail (λ l. is_blank l ≡ true) l ls blank)

two_parts : (xs ys : List (List ℕ)) → filter is_inked (xs ++ ys) ≡ filter is_inked xs ++ filter is_inked ys
two_parts = filter-append is_inked

all_inked : (lines : List (List ℕ)) (ps : List PassageSaid) → FollowIn lines ps → filter is_inked (flat_map (λ p. p.lines) ps) ≡ filter is_inked lines
all_inked lines [] h = sym (ap (filter is_inked) h)
all_inked lines (p ∷ ps) h =
    two_parts p.lines (flat_map (λ p. p.lines) ps) ∙ ap (λ t. filter is_inked p.lines ++ t) (all_inked h.1 ps h.4)
    ∙ sym (ap (filter is_inked) h.2 ∙ two_parts p.lines (h.0 ++ h.1) ∙ ap (λ t. filter is_inked p.lines ++ t) (two_parts h.0 h.1 ∙ ap (λ t. t ++ filter is_inked h.1) (none_inked h.0 h.3)))

pub each_line_is_placed : EachLineIsInABlock → (lines : List (List ℕ)) → filter is_inked (flat_map (λ p. p.passage.lines) (placed (passages lines))) ≡ filter is_inked lines
each_line_is_placed in_blocks lines =
    let lines_of_all : List PassageSaid → List (List ℕ) = flat_map (λ p. p.lines) in
    ap (filter is_inked) (sym (flat_map-map (λ (p : PassageSaid). p.lines) (λ p. p.passage) (placed (passages lines))) ∙ ap lines_of_all (each_is_placed (passages lines)))
    ∙ all_inked lines (passages lines) (passages_follow in_blocks lines)
