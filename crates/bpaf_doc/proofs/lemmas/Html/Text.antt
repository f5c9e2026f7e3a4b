-- A page without its tags and newlines is the HTML text.
use Rattle.std.specs.Prelude.{◌++◌, ◌∷◌, ◌≡◌}
use Rattle.bpaf_doc.proofs.lemmas.Html.Words.{arith, ℕ, true, List, [], refl, append_assoc, flat_map, filter, list_all, and_parts, is_line_byte, erased, escaped_character, fragment_text, HtmlSnippet, fragments_in}
use Rattle.bpaf_doc.proofs.lemmas.Html.Fragments.Lines.{fragment_is_line}
use Rattle.bpaf_doc.proofs.lemmas.Html.Cut.{spelled}

-- the bytes outside of tags, without newlines
abbrev pub plain : List ℕ → List ℕ
plain text = filter is_line_byte (erased text)

plain_words : (bytes rest : List ℕ) → list_all is_line_byte bytes ≡ true → plain (flat_map escaped_character bytes ++ rest) ≡ flat_map escaped_character bytes ++ plain rest
plain_words [] rest h = refl
plain_words (b ∷ bs) rest h = grind (arith, plain_words bs rest, and_parts, append_assoc)

pub plain_spelled : (snippets : List HtmlSnippet) → list_all fragment_is_line (fragments_in snippets) ≡ true → plain (spelled snippets) ≡ flat_map fragment_text (fragments_in snippets)
plain_spelled [] h = refl
plain_spelled (s ∷ snippets) h = grind (arith, plain_spelled snippets, and_parts, plain_words)
