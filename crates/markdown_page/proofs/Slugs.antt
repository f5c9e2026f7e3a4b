-- The id of a heading, character by character.
use Rattle.std.proofs.Common.{◌≡◌, ℕ, List, [], ◌∷◌, ◌++◌, length, refl, sym, ap, ◌∙◌, arith, chars, append-nil, append_assoc}
use Rattle.std.proofs.Math.Utf8.{encode}
use Rattle.std.proofs.lemmas.Str.{chars_past_char, chars-nil}
use Rattle.std.specs.Prelude.{IsUtf8, flat_map}
use Rattle.markdown_page.specs.Slugs.{slug_character}

pub character_more : (out new bs rest whole : List ℕ) (c : ℕ) → IsUtf8 bs → bs ≡ encode c ++ rest → new ≡ out ++ slug_character c → out ++ flat_map slug_character (chars bs) ≡ whole → new ++ flat_map slug_character (chars rest) ≡ whole
character_more out new bs rest whole c u e n h =
    ap (λ x. x ++ flat_map slug_character (chars rest)) n
    ∙ append_assoc out (slug_character c) (flat_map slug_character (chars rest))
    ∙ sym (ap (λ cs. out ++ flat_map slug_character cs) (chars_past_char bs rest c u e))
    ∙ h

pub none_more : (out bs whole : List ℕ) → length bs ≡ 0 → out ++ flat_map slug_character (chars bs) ≡ whole → out ≡ whole
none_more out [] whole e h = sym (append-nil out) ∙ sym (ap (λ cs. out ++ flat_map slug_character cs) chars-nil) ∙ h
none_more out (b ∷ bs) whole e h = absurd (omega arith)
