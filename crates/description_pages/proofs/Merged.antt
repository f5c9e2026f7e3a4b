-- Blocks that are put one after another.
use Rattle.std.proofs.Common.{◌≡◌, List, [], ◌∷◌, ◌++◌, map, refl, sym, ap, ◌∙◌}
use Rattle.std.proofs.lemmas.List.{map-append}
use Rattle.page_model.specs.Content.{BlockSaid}
use Rattle.description_pages.specs.Topics.{and_block, together}

after_last : (blocks : List BlockSaid) (last block : BlockSaid) → and_block (blocks ++ last ∷ []) block ≡ blocks ++ together last block
after_last [] last block = refl
after_last (first ∷ []) last block = refl
after_last (first ∷ second ∷ blocks) last block = ap (λ more. first ∷ more) (after_last (second ∷ blocks) last block)

-- the last one was taken off and came back with the block
pub block_put : {X : Type 0} (see : X → BlockSaid) (old rest : List X) (last : X) (new : List BlockSaid) (block : BlockSaid) → old ≡ rest ++ last ∷ [] → new ≡ map see rest ++ together (see last) block → new ≡ and_block (map see old) block
block_put see old rest last new block is e =
    e ∙ sym (after_last (map see rest) (see last) block) ∙ sym (ap (λ xs. and_block xs block) (ap (map see) is ∙ map-append see rest (last ∷ [])))
