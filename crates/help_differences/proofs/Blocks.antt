-- The names of blocks are those of their first lines.
use Rattle.std.proofs.Common.{◌≡◌, ℕ, List, [], ◌∷◌, ap, drop, length, map, refl, sym, take, ◌∙◌}
use Rattle.std.proofs.lemmas.List.{drop-map, take-map}
use Rattle.help_blocks.specs.declared.cut.Block.{Block}
use Rattle.help_blocks.specs.Blocks.{FollowOn, start_of}
use Rattle.help_differences.specs.Help.{end_before, lines_from, names_of_block, names_of_blocks, names_of_starts}

pub lines_of_map : {X : Type 0} (f : X → List ℕ) (lines : List X) (n m : ℕ) → map f (take n (drop m lines)) ≡ take n (drop m (map f lines))
lines_of_map f lines n m = sym (ap (λ ls. take n ls) (drop-map f m lines) ∙ take-map f n (drop m lines))

end_is : (first : ℕ) (bs : List Block) (end : ℕ) → FollowOn first bs end → end_before (map start_of bs) end ≡ first
end_is first [] end h = sym h
end_is first (b ∷ bs) end h = h.0

pub blocks_are : (lines : List (List ℕ)) (first : ℕ) (bs : List Block) → FollowOn first bs (length lines) → names_of_blocks lines bs ≡ names_of_starts lines (map start_of bs)
blocks_are lines first [] h = refl
blocks_are lines first (b ∷ bs) h =
    let own : names_of_block b.kind (lines_from lines b.first b.end) ≡ names_of_block b.kind (lines_from lines b.first (end_before (map start_of bs) (length lines))) =
    ap (λ e. names_of_block b.kind (lines_from lines b.first e)) (sym (end_is b.end bs (length lines) h.2)) in
    let others = blocks_are lines b.end bs h.2 in
    cc
