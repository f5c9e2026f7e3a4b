-- What a block of bytes becomes under its label, and whether a line starts after it.
use Rattle.std.proofs.Common.{ap, ◌∙◌, append_assoc, arith, ◌≡◌, ℕ, Bool, List, [], ◌∷◌, ◌++◌, map, flat_map, refl}
use Rattle.std.proofs.lemmas.List.{map-append}
use Rattle.bpaf_roff.specs.Escaping.{Byte, is_line_start, spaces_text, byte_text, text_after}
use Rattle.bpaf_roff.specs.Steps.Output.{written}
use Rattle.bpaf_roff.specs.declared.escape.Apostrophes.{Apostrophes}
use Rattle.bpaf_roff.specs.declared.escape.Escape.{Escape}
use Rattle.bpaf_roff.specs.declared.escape.Escape.TheVariants.{Spaces, Special}
use Rattle.bpaf_roff.proofs.lemmas.LineStarts.{byte_text-written, text_after-push}

-- a line starts after bytes if it does after the last of them
pub line_start_by_last : (x : Bool) (label : Escape) (bytes front : List ℕ) (last : ℕ) → bytes ≡ front ++ last ∷ []
    → (y : Bool) → ((r : Apostrophes) (s : List ℕ) → y ≡ is_line_start (s ++ byte_text r s label last))
    → (q : Apostrophes) → y ≡ is_line_start (written x ++ text_after q (written x) (map (Byte label) bytes))
line_start_by_last x label bytes front last e y ends q = grind (arith, map-append, text_after-push, append_assoc)

pub line_start_by_none : (x : Bool) (label : Escape) (bytes : List ℕ) → bytes ≡ [] → (q : Apostrophes) → x ≡ is_line_start (written x ++ text_after q (written x) (map (Byte label) bytes))
line_start_by_none x label bytes e q = grind arith

-- how a byte of an argument is written does not depend on the others
pub argument_text : (q : Apostrophes) (bytes before : List ℕ) → text_after q before (map (Byte Spaces) bytes) ≡ flat_map spaces_text bytes
argument_text q [] before = refl
argument_text q (b ∷ bytes) before = ap (λ t. spaces_text b ++ t) (argument_text q bytes (before ++ spaces_text b))

-- a sign becomes what the byte shown for it does, where the text so far ends a line or not
pub sign_is : (q : Apostrophes) (label : Escape) (before : List ℕ) (b s : ℕ) → byte_text q before label b ≡ byte_text q before Special s → (x : Bool) → x ≡ is_line_start before → byte_text q before label b ≡ byte_text q (written x) Special s
sign_is q label before b s shown x e = shown ∙ byte_text-written q before Special s x e
