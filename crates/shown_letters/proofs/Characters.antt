-- A fold over the characters of a text, character by character.
use Rattle.std.proofs.Common.{◌≡◌, ℕ, List, [], ◌∷◌, ◌++◌, length, sym, ap, ◌∙◌, arith, chars}
use Rattle.std.proofs.Math.Utf8.{encode}
use Rattle.std.proofs.lemmas.Str.{chars_past_char, chars-nil}
use Rattle.std.specs.Prelude.{IsUtf8}
use Rattle.std.specs.List.{fold}
use Rattle.shown_letters.specs.Terminal.{Screen, step}

pub character_more : (old new whole : Screen) (bs rest : List ℕ) (c : ℕ) → IsUtf8 bs → bs ≡ encode c ++ rest → new ≡ step old c → fold step old (chars bs) ≡ whole → fold step new (chars rest) ≡ whole
character_more old new whole bs rest c u e n h =
    ap (λ s. fold step s (chars rest)) n ∙ sym (ap (λ cs. fold step old cs) (chars_past_char bs rest c u e)) ∙ h

pub none_more : (old whole : Screen) (bs : List ℕ) → length bs ≡ 0 → fold step old (chars bs) ≡ whole → old ≡ whole
none_more old whole [] e h = sym (ap (λ cs. fold step old cs) chars-nil) ∙ h
none_more old whole (b ∷ bs) e h = absurd (omega arith)
