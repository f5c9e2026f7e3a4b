-- What texts come to.
use Rattle.std.proofs.Common.{◌≡◌, ℕ, List, [], ◌∷◌, ◌++◌, sym, ap, ◌∙◌, append-nil, append_assoc, arith}
use Rattle.std.proofs.lemmas.List.Sums.{fold-append}
use Rattle.web_page.specs.Tree.{Attribute, Nodes, element, none, text}
use Rattle.web_page.specs.Reader.{Draft, joined, with_byte}
use Rattle.web_page.specs.Calls.{with_text, with_words}
use Rattle.web_page.specs.declared.elements.Tag.{Tag}

pub parts : (draft : Draft) (first second : List ℕ) → with_text (with_text draft first) second ≡ with_text draft (first ++ second)
parts draft first second = ap (λ nodes. record draft { nodes = nodes }) (sym (fold-append with_byte draft.nodes first second))

pub on_text : (before bytes : List ℕ) → with_words (text before none) bytes ≡ text (before ++ bytes) none
on_text before [] = ap (λ x. text x none) (sym (append-nil before))
on_text before (b ∷ bytes) = on_text (before ++ b ∷ []) bytes ∙ ap (λ x. text x none) (append_assoc before (b ∷ []) bytes)

pub at_front : (b : ℕ) (bytes : List ℕ) → with_words none (b ∷ bytes) ≡ text (b ∷ bytes) none
at_front b bytes = on_text (b ∷ []) bytes

-- a byte after nodes whose last is an element, or a text after one
byte_after : (nodes content : Nodes) (tag : Tag) (given : List Attribute) (b : ℕ) → with_byte (joined nodes (element tag given content none)) b ≡ joined nodes (element tag given content (text (b ∷ []) none))
byte_after (text bytes (text more rest)) content tag given b = ap (text bytes) (byte_after (text more rest) content tag given b)
byte_after (text bytes (element inner others within rest)) content tag given b = ap (text bytes) (byte_after (element inner others within rest) content tag given b)
byte_after (element inner others within rest) content tag given b = ap (element inner others within) (byte_after rest content tag given b)
byte_after x content tag given b = grind arith

next_after : (nodes content : Nodes) (tag : Tag) (given : List Attribute) (before : List ℕ) (b : ℕ) → with_byte (joined nodes (element tag given content (text before none))) b ≡ joined nodes (element tag given content (text (before ++ b ∷ []) none))
next_after (text bytes (text more rest)) content tag given before b = ap (text bytes) (next_after (text more rest) content tag given before b)
next_after (text bytes (element inner others within rest)) content tag given before b = ap (text bytes) (next_after (element inner others within rest) content tag given before b)
next_after (element inner others within rest) content tag given before b = ap (element inner others within) (next_after rest content tag given before b)
next_after x content tag given before b = grind arith

more_after : (nodes content : Nodes) (tag : Tag) (given : List Attribute) (before bytes : List ℕ) → with_words (joined nodes (element tag given content (text before none))) bytes ≡ joined nodes (element tag given content (text (before ++ bytes) none))
more_after nodes content tag given before [] = ap (λ x. joined nodes (element tag given content (text x none))) (sym (append-nil before))
more_after nodes content tag given before (b ∷ bytes) = grind (arith, more_after nodes content tag given (before ++ b ∷ []) bytes, next_after, append_assoc)

pub after : (nodes content : Nodes) (tag : Tag) (given : List Attribute) (b : ℕ) (bytes : List ℕ) → with_words (joined nodes (element tag given content none)) (b ∷ bytes) ≡ joined nodes (element tag given content (text (b ∷ bytes) none))
after nodes content tag given b bytes = ap (λ x. with_words x bytes) (byte_after nodes content tag given b) ∙ more_after nodes content tag given (b ∷ []) bytes
