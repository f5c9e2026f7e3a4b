-- What follows lines.
use Rattle.std.proofs.Common.{◌≡◌, ℕ, false, List, [], ◌∷◌, ◌++◌, map, length, refl, sym, ap, ◌∙◌, append_assoc, arith, ◌==◌}
use Rattle.std.specs.Prelude.{codes}
use Rattle.std.proofs.lemmas.List.{map-append}
use Rattle.page_model.specs.Content.{words, Line}
use Rattle.page_model.specs.View.{line_of, piece_of}
use Rattle.page_model.specs.declared.parts.Inline.{Inline}
use Rattle.description_usage.specs.Entries.{after_lines, alias_notes, note}
use Rattle.description_usage.specs.Lines.{joined}

-- notes after the last of some lines
pub after_last : (notes : Line) (lines : List Line) (last : Line) → after_lines notes (lines ++ last ∷ []) ≡ lines ++ (last ++ words (codes " ") ∷ notes) ∷ []
after_last notes [] last = refl
after_last notes (line ∷ []) last = refl
after_last notes (line ∷ more ∷ lines) last = ap (λ ls. line ∷ ls) (after_last notes (more ∷ lines) last)

-- where there is a name
pub aliases_there : {X : Type 0} (word : List ℕ) (see : X → List ℕ) (names : List X) → (length names == 0) ≡ false → alias_notes word (map see names) ≡ note word (joined (codes ", ") (map (λ alias. words alias ∷ []) (map see names))) ∷ []
aliases_there word see [] h = absurd (grind arith)
aliases_there word see (name ∷ names) h = refl

-- a line with a piece and more pieces after it
pub line_more : (last pushed whole notes : List Inline) (between : Inline) → pushed ≡ last ++ between ∷ [] → whole ≡ pushed ++ notes → line_of whole ≡ line_of last ++ piece_of between ∷ line_of notes
line_more last pushed whole notes between e h =
    ap line_of h ∙ map-append piece_of pushed notes ∙ ap (λ ps. line_of ps ++ line_of notes) e ∙ ap (λ ps. ps ++ line_of notes) (map-append piece_of last (between ∷ [])) ∙ append_assoc (line_of last) (piece_of between ∷ []) (line_of notes)

-- lines, the last of which got more
pub last_more : {X : Type 0} (see : X → Line) (notes : Line) (old rest new : List X) (last more : X) → old ≡ rest ++ last ∷ [] → new ≡ rest ++ more ∷ [] → see more ≡ see last ++ words (codes " ") ∷ notes → map see new ≡ after_lines notes (map see old)
last_more see notes old rest new last more e h w =
    ap (map see) h ∙ map-append see rest (more ∷ []) ∙ ap (λ l. map see rest ++ l ∷ []) w ∙ sym (after_last notes (map see rest) (see last))
    ∙ sym (ap (after_lines notes) (ap (map see) e ∙ map-append see rest (last ∷ [])))

-- ---- names in a note

named_lines : {X : Type 0} (name : X → List ℕ) (names : List X) → map (λ n. words (name n) ∷ []) names ≡ map (λ alias. words alias ∷ []) (map name names)
named_lines name [] = refl
named_lines name (n ∷ names) = ap (λ ls. (words (name n) ∷ []) ∷ ls) (named_lines name names)

pub aliased : {X N : Type 0} (see : N → Line) (name : X → List ℕ) (old new : List N) (shown : N) (word : List ℕ) (names : List X) → (length names == 0) ≡ false → new ≡ old ++ shown ∷ []
    → see shown ≡ note word (joined (codes ", ") (map (λ n. words (name n) ∷ []) names)) → map see new ≡ map see old ++ alias_notes word (map name names)
aliased see name old new shown word names some pushed is =
    ap (map see) pushed ∙ map-append see old (shown ∷ []) ∙ ap (λ l. map see old ++ l ∷ []) (is ∙ ap (λ ls. note word (joined (codes ", ") ls)) (named_lines name names))
    ∙ ap (λ ls. map see old ++ ls) (sym (aliases_there word name names some))
