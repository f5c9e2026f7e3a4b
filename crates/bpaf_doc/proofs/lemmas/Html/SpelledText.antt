-- A text in another spelling is a text.
use Rattle.std.specs.Char.{IsScalar}
use Rattle.std.specs.Prelude.{◌<◌, ◌∷◌, ◌≡◌, ◌≤◌}
use Rattle.bpaf_doc.proofs.lemmas.Html.Words.{flat_map-append, and_parts, ne_eqb, cases_lt, IsUtf8-append, IsUtf8-nil, IsUtf8-from_ascii, IsUtf8-encode, encode_ascii, Language, spelling_of, inl, inr, arith, append-nil, ℕ, true, List, [], refl, flat_map, IsUtf8, IsAscii}
use Rattle.std.proofs.lemmas.Str.Ascii.{IsAscii-nil, IsAscii-cons}
use lib.Utf8.{encode, encodes, scalar, scalars}
use Rattle.bpaf_roff.proofs.lemmas.EscapedText.{High, high_encode}

low : (l : Language) (b : ℕ) → b < 128 → IsAscii (spelling_of l b)
low l b h = grind (arith, IsAscii-cons, IsAscii-nil)

-- and no other byte is spelled in another way
high : (l : Language) (b : ℕ) → 128 ≤ b → spelling_of l b ≡ b ∷ []
high l b h = grind (arith, ne_eqb)

high_bytes : (l : Language) (bytes : List ℕ) → High bytes → flat_map (spelling_of l) bytes ≡ bytes
high_bytes l [] h = refl
high_bytes l (b ∷ bytes) h = rw (high l b h.0, high_bytes l bytes h.1) refl

spelled_character : (l : Language) (c : ℕ) → IsScalar c → IsUtf8 (flat_map (spelling_of l) (encode c))
spelled_character l c h = elim (cases_lt c 128) [ inl ascii ↦ rw (encode_ascii c ascii, append-nil (spelling_of l c)) (IsUtf8-from_ascii (spelling_of l c) (low l c ascii)) | inr other ↦ rw (high_bytes l (encode c) (high_encode c other)) (IsUtf8-encode c h) ]

spelled_characters : (l : Language) (cs : List ℕ) → scalars cs ≡ true → IsUtf8 (flat_map (spelling_of l) (encodes cs))
spelled_characters l [] h = IsUtf8-nil
spelled_characters l (c ∷ cs) h =
    grind (arith, spelled_characters l cs, and_parts (scalar c) (scalars cs) h, flat_map-append (spelling_of l) (encode c) (encodes cs), IsUtf8-append (flat_map (spelling_of l) (encode c)) (flat_map (spelling_of l) (encodes cs)), spelled_character l c)

pub IsUtf8-spelled : (l : Language) (bytes : List ℕ) → IsUtf8 bytes → IsUtf8 (flat_map (spelling_of l) bytes)
IsUtf8-spelled l bytes h = rw (← h.1.1) (spelled_characters l h.0 h.1.0)
