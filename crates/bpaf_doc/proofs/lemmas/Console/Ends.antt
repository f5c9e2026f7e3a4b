-- A text that ends in a printable ASCII character has no White_Space at its end.
use Rattle.std.specs.Prelude.{◌++◌, ◌<◌, ◌∷◌, ◌≡◌}
use Rattle.bpaf_doc.proofs.lemmas.Console.Words.{common_steps, is_ascii_graphic, is_whitespace, is_not_whitespace, nat_tests, chars-IsAscii, encodes-chars, IsUtf8-from_ascii, IsUtf8-string_bytes, encode_ascii, ink, has_some, replicate-append-replicate, ap, arith, ◌∙◌, ℕ, true, false, List, [], refl, filter, IsUtf8}
use Rattle.std.specs.Str.{trim_end}
use Rattle.bpaf_doc.proofs.lemmas.Console.Ink.{trim-boundary, trim-cut}
use Rattle.bpaf_doc.proofs.lemmas.Splitter.Pieces.{utf8_cut}
use Rattle.bpaf_doc.proofs.lemmas.Console.Layout.Stretches.{trim_some}

small : (b : ℕ) → is_ascii_graphic b ≡ true → b < 128
small b h = grind (arith, nat_tests)

dark : (b : ℕ) → is_ascii_graphic b ≡ true → is_whitespace b ≡ false
dark b h = grind (arith, nat_tests)

trim_one : (b : ℕ) → is_ascii_graphic b ≡ true → trim_end (b ∷ []) ≡ b ∷ []
unfolding trim_end
trim_one b h = grind (arith, dark, chars-IsAscii, encodes-chars, IsUtf8-from_ascii, small)

one_ink : (b : ℕ) → is_ascii_graphic b ≡ true → has_some (ink (b ∷ [])) ≡ true
one_ink b h = ap (λ cs. has_some (filter is_not_whitespace cs)) (chars-IsAscii (b ∷ []) (grind arith)) ∙ rw (dark b h) refl

pub graphic_end : (text front : List ℕ) (b : ℕ) → text ≡ front ++ b ∷ [] → IsUtf8 text → is_ascii_graphic b ≡ true → trim_end text ≡ text
graphic_end text front b e u h = grind (arith, common_steps, utf8_cut front (b ∷ []), small b h, trim_some front (b ∷ []), one_ink b h, trim_one b h)

pub ruleset trimmed_end = (graphic_end, trim-boundary, trim-cut, IsUtf8-string_bytes)

pub ruleset pushed_blanks = (encode_ascii, replicate-append-replicate)
