-- The ink of what a console shows in full, part by part.
use Rattle.std.specs.Prelude.{◌++◌, ◌+◌, ◌∷◌, ◌≡◌}
use Rattle.bpaf_doc.proofs.lemmas.Console.Words.{enumerate_from, list_any, ◌∙◌, ap, arith, ℕ, true, false, List, [], refl, take, flat_map, All-head, All-tail, Part, is_mark_of, part_bytes, part_ink, HasUtf8Texts, shown_part_ink, IsUtf8}
use Rattle.bpaf_doc.specs.Shown.{is_term_ref}
use Rattle.bpaf_doc.specs.Console.Ink.{backquoted_part_ink, FullInkIsBackquotedInk, FullInkIsDocumentInk}
use Rattle.bpaf_doc.proofs.lemmas.Splitter.Facts.{ink_of_chunks}

parts_in_full : (document parts : List Part) (k : ℕ) → HasUtf8Texts parts
    → flat_map (λ (k, part). shown_part_ink true (take k document) part) (enumerate_from k parts) ≡ flat_map backquoted_part_ink parts
parts_in_full document [] k u = refl
parts_in_full document (part ∷ parts) k u =
    ap (λ front. front ++ flat_map (λ (k, part). shown_part_ink true (take k document) part) (enumerate_from (k + 1) parts)) (grind (arith, ink_of_chunks, All-head (λ p. IsUtf8 (part_bytes p)) part parts u))
    ∙ ap (λ more. backquoted_part_ink part ++ more) (parts_in_full document parts (k + 1) (All-tail (λ p. IsUtf8 (part_bytes p)) part parts u))

unmarked_parts : (parts : List Part) → list_any (is_mark_of is_term_ref) parts ≡ false → flat_map backquoted_part_ink parts ≡ flat_map part_ink parts
unmarked_parts [] h = refl
unmarked_parts (part ∷ parts) h = grind (arith, unmarked_parts parts)

pub backquoted : FullInkIsBackquotedInk
backquoted document u = parts_in_full document document 0 u

pub own : FullInkIsDocumentInk
own document u none = backquoted document u ∙ unmarked_parts document (grind arith)
