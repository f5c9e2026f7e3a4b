-- The fragments of a well-nested document are well nested.
use Rattle.std.specs.Prelude.{◌++◌, ◌∷◌, ◌≡◌}
use Rattle.bpaf_doc.proofs.lemmas.Html.Words.{rules, ℕ, zero, suc, Bool, List, [], map, refl, sym, ap, ◌∙◌, append_assoc, append-nil, subst, Style, Block, Chunk, chunks_of, Fragment, TextStart, Shown, TextEnd, Hidden, Start, End, visible, walk, part_walk, depth_after}
use Rattle.bpaf_doc.specs.Buffer.Parts.{Part, Text, Start as PartStart, End as PartEnd, IsWellNested, nothing as no_part, text as one_text, enclosed as part_enclosed, joined as part_joined}
use Rattle.bpaf_doc.proofs.lemmas.Html.Fragments.Walking.{depth_after_all}

-- nothing; a shown text; a hidden one; a block round a well-nested list; two well-nested lists joined
pub data Nests : List Fragment → Type 0 where
  nothing : {fs : List Fragment} → fs ≡ [] → Nests fs
  text : {fs : List Fragment} (style : Style) (chunks : List Chunk) → fs ≡ TextStart style ∷ (map (Shown style) chunks ++ TextEnd style ∷ []) → Nests fs
  hidden : {fs : List Fragment} → fs ≡ Hidden ∷ [] → Nests fs
  enclosed : {fs : List Fragment} (b : Block) (inner : List Fragment) → fs ≡ Start b ∷ (inner ++ End b ∷ []) → Nests inner → Nests fs
  joined : {fs : List Fragment} (front back : List Fragment) → fs ≡ front ++ back → Nests front → Nests back → Nests fs

pub walk-append : (full : Bool) (depth : ℕ) (front back : List Part) → walk full depth (front ++ back) ≡ walk full depth front ++ walk full (depth_after_all full depth front) back
walk-append full depth [] back = refl
walk-append full depth (part ∷ parts) back = search (rules, walk-append full (depth_after full part depth) parts back, append_assoc)

text_nests : (full : Bool) (depth : ℕ) (bytes : List ℕ) (style : Style) → Nests (walk full depth (Text bytes style ∷ []))
text_nests full zero bytes style = text style (visible full (chunks_of bytes)) (append-nil (part_walk full (Text bytes style) zero))
text_nests full (suc depth) bytes style = hidden refl

pub walk_nests : {parts : List Part} → IsWellNested parts → (full : Bool) (depth : ℕ) → Nests (walk full depth parts)
walk_nests (no_part e) full depth = nothing (ap (walk full depth) e)
walk_nests (one_text bytes style e) full depth = subst Nests (ap (walk full depth) (sym e)) (text_nests full depth bytes style)
walk_nests (part_enclosed b inner e h) full depth =
    enclosed b (walk full (depth_after full (PartStart b) depth) inner)
    (ap (walk full depth) e ∙ ap (λ x. Start b ∷ x) (walk-append full (depth_after full (PartStart b) depth) inner (PartEnd b ∷ [])))
    (walk_nests h full (depth_after full (PartStart b) depth))
walk_nests (part_joined front back e h k) full depth =
    joined (walk full depth front) (walk full (depth_after_all full depth front) back) (ap (walk full depth) e ∙ walk-append full depth front back)
    (walk_nests h full depth) (walk_nests k full (depth_after_all full depth front))
