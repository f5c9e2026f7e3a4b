-- The characters of a text, one by one.
use Rattle.std.proofs.Common.{◌≡◌, ℕ, List, [], ◌∷◌, ◌++◌, length, Bool, true, false, Option, None, refl, sym, ap, ◌∙◌, arith, chars}
use Rattle.std.proofs.Math.Utf8.{encode}
use Rattle.std.proofs.lemmas.Str.{chars_past_char, chars-nil}
use Rattle.std.specs.Prelude.{IsUtf8, ◌&&◌, is_none, is_some, not}
use Rattle.std.specs.List.{list_all}
use Rattle.description_toml.specs.Described.Kinds.{allows, has_form, is_of}
use Rattle.description_toml.specs.Described.Texts.{begins, has_blank_end, has_name_size, is_dash, is_empty_text, is_line, is_name_character, is_word_character, is_read_once, is_text, without_colon}
use Rattle.description_toml.specs.declared.decode.texts.Kind.{Kind}
use Rattle.description_toml.specs.declared.decode.texts.Kind.TheVariants as kind

first_of : (p : ℕ → Bool) (bs rest : List ℕ) (c : ℕ) (b : Bool) → IsUtf8 bs → bs ≡ encode c ++ rest → p c ≡ b → list_all p (chars bs) ≡ (b && list_all p (chars rest))
first_of p bs rest c b u e h = ap (list_all p) (chars_past_char bs rest c u e) ∙ ap (λ b. b && list_all p (chars rest)) h

some_none : {X : Type 0} (o : Option X) → is_some o ≡ true → is_none o ≡ false
some_none o h1 = grind arith

none_some : {X : Type 0} (o : Option X) → is_some o ≡ false → is_none o ≡ true
none_some o h1 = grind arith

-- a character that is refused, one that is not, and the end
pub refused_here : {X : Type 0} (p : ℕ → Bool) (bs rest : List ℕ) (c : ℕ) (o : Option X) (some : Bool) → IsUtf8 bs → bs ≡ encode c ++ rest → is_none o ≡ p c → some ≡ is_some o → some ≡ true → is_none o ≡ list_all p (chars bs)
refused_here p bs rest c o some u e is s y = let n = some_none o (sym s ∙ y) in n ∙ sym (first_of p bs rest c false u e (sym is ∙ n))

pub passed_here : {X : Type 0} (p : ℕ → Bool) (bs rest : List ℕ) (c : ℕ) (o : Option X) (some : Bool) → IsUtf8 bs → bs ≡ encode c ++ rest → is_none o ≡ p c → some ≡ is_some o → some ≡ false → list_all p (chars rest) ≡ list_all p (chars bs)
passed_here p bs rest c o some u e is s n = sym (first_of p bs rest c true u e (sym is ∙ none_some o (sym s ∙ n)))

pub nothing_left : (p : ℕ → Bool) (bs : List ℕ) → length bs ≡ 0 → true ≡ list_all p (chars bs)
nothing_left p [] h = sym (ap (list_all p) chars-nil)
nothing_left p (b ∷ bs) h = absurd (omega arith)

-- ---- what a text of a kind is: its characters, and its form

and_true : (a : Bool) → (a && true) ≡ a
and_true a = grind arith

and_assoc : (a b c : Bool) → (a && (b && c)) ≡ ((a && b) && c)
and_assoc a b c = grind arith

pub of_kind : (k : Kind) (text : List ℕ) → (list_all (allows k) (chars text) && has_form k text) ≡ is_of k text
of_kind kind.Text text = and_true (is_text text)
of_kind kind.Body text = refl
of_kind kind.Line text = and_true (is_line text)
of_kind kind.Value text = refl
of_kind kind.Title text = refl
of_kind kind.Heading text = and_assoc (list_all is_word_character (chars text)) (list_all is_read_once text) (not (has_blank_end text) && not (is_empty_text (without_colon text)))
of_kind kind.Section text = refl
of_kind kind.Language text = refl
of_kind kind.Name text = refl
of_kind kind.Long text = and_assoc (list_all is_name_character (chars text)) (has_name_size text) (not (begins is_dash text))
of_kind kind.Command text =
    let dash = not (begins is_dash text) in
    and_assoc (list_all is_name_character (chars text)) (has_name_size text && dash) (list_all is_read_once text)
    ∙ ap (λ b. b && list_all is_read_once text) (and_assoc (list_all is_name_character (chars text)) (has_name_size text) dash)

pub form_decides : {X : Type 0} (o : Option X) (all form whole : Bool) → is_none o ≡ all → o ≡ None → (all && form) ≡ whole → form ≡ whole
form_decides o all form whole h e w = grind arith

pub characters_decide : {X : Type 0} (o : Option X) (all form whole : Bool) → is_none o ≡ all → ¬ (o ≡ None) → (all && form) ≡ whole → is_none o ≡ whole
characters_decide o all form whole h e w = grind arith
