-- Names of options and commands.
use Rattle.std.specs.Prelude.{ℕ, Bool, List, [], ◌∷◌, ◌++◌, bytes_eq, codes, drop, flat_map, length, map, take, if◌then◌else◌}
use Rattle.help_differences.specs.declared.names.Kind.{Kind}
use Rattle.help_differences.specs.declared.names.Kind.TheVariants as kind

pub record Named : Type 0 where
  pub kind : Kind
  pub text : List ℕ

abbrev pub called : Kind → (text : List ℕ) → Named
called k t = record { kind = k; text = t }

-- ---- `--[no-]x` is two names: `--x` and `--no-x`

abbrev pub negatable : List ℕ
negatable = codes "--[no-]"

abbrev pub is_negatable : (text : List ℕ) → Bool
is_negatable text = bytes_eq (take (length negatable) text) negatable

abbrev pub with_and_without : (word : List ℕ) → List (List ℕ)
with_and_without word = (codes "--" ++ word) ∷ (codes "--no-" ++ word) ∷ []

abbrev pub expanded : (text : List ℕ) → List (List ℕ)
expanded text = if is_negatable text then with_and_without (drop (length negatable) text) else text ∷ []

-- options that are written so
abbrev pub options_called : (texts : List (List ℕ)) → List Named
options_called texts = map (called kind.Option) (flat_map expanded texts)
