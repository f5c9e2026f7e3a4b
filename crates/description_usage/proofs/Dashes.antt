-- The dashes at the front of a name.
use Rattle.std.proofs.Common.{◌≡◌, ◌≢◌, ℕ, ◌+◌, cond, List, [], ◌∷◌, ◌++◌, drop, refl, sym, ap, ◌∙◌, arith, one-add, Option, Some, None, IfSome}
use Rattle.std.proofs.lemmas.Bool.{ne_eqb}
use Rattle.std.proofs.lemmas.Str.{encode_ascii, len_utf8_ascii}
use Rattle.std.specs.Char.{encode_utf8}
use Rattle.std.specs.List.{prefix_len}
use Rattle.std.specs.Str.Pattern.{CutsPrefixes, FindsCharPrefix, IsTrimStartMatches}
use Rattle.description_usage.specs.Syntax.{is_dash, without_dashes}

a_dash : (rest : List ℕ) (s : List ℕ) → s ≡ 45 ∷ rest → without_dashes s ≡ without_dashes rest
a_dash rest s e = ap without_dashes e ∙ ap (λ n. drop n (45 ∷ rest)) (one-add (prefix_len is_dash rest))

no_dash : (s : List ℕ) → ((rest : List ℕ) → s ≢ 45 ∷ rest) → without_dashes s ≡ s
no_dash [] h = refl
no_dash (c ∷ s) h = ap (λ b. drop (cond b (1 + prefix_len is_dash s) 0) (c ∷ s)) (ne_eqb c 45 (λ e. h s (ap (λ b. b ∷ s) e)))

encoded : (rest : List ℕ) → 45 ∷ rest ≡ encode_utf8 45 ++ rest
encoded rest = sym (ap (λ xs. xs ++ rest) (encode_ascii 45 (omega arith)))

cut_off : (ns : List ℕ) (s r : List ℕ) → CutsPrefixes (FindsCharPrefix 45) s ns r → without_dashes s ≡ without_dashes r
cut_off [] s r h = ap without_dashes (sym h)
cut_off (n ∷ ns) s r (m, before, at, e) = cut_off ns s m before ∙ a_dash (drop n m) m (at.split ∙ sym (encoded (drop n m))) ∙ ap without_dashes (sym e)

none_left : (o : Option ℕ) (r : List ℕ) → FindsCharPrefix 45 r o → IfSome o (λ n. n ≡ 0) → without_dashes r ≡ r
none_left None r h e = no_dash r (λ rest is. h rest (is ∙ encoded rest))
none_left (Some n) r at e = absurd (let ends = at.ends in let one = len_utf8_ascii 45 (omega arith) in omega arith)

pub dashes_trimmed : (s r : List ℕ) → IsTrimStartMatches (FindsCharPrefix 45) s r → r ≡ without_dashes s
dashes_trimmed s r h = sym (cut_off h.0.0 s r h.0.1 ∙ none_left h.1.0 r h.1.1 h.1.2)
