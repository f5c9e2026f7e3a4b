-- The texts that the entries of a map show.
use Rattle.std.specs.Prelude.{◌∷◌, ◌≡◌}
use Rattle.bpaf_items.proofs.Words.{option_map, BTreeMap, get_by_text, is_at, Updates, nat_cmp, arith, ℕ, List, [], Some, map, String, string_bytes, refl, same_text, texts_in, texts_with}
use Rattle.std.specs.Map.{lookup}
use Rattle.std.specs.Cmp.Lexicographic.{slice_cmp}
use Rattle.std.specs.String.{string_cmp}
use Rattle.std.proofs.lemmas.Map.Text.{is_eq-slice_cmp, btree_map_updates_text}

module _ {Y Z : Type 0} where
  abbrev pub shown_pair : String Y × String Z → List ℕ × List ℕ
  shown_pair e = (string_bytes e.0, string_bytes e.1)

  lookup-shown : (name : List ℕ) (es : List (String Y × String Z))
      → lookup (same_text name) (map shown_pair es) ≡ option_map string_bytes (lookup (is_at (λ (k : String Y). slice_cmp nat_cmp name (string_bytes k))) es)
  lookup-shown name [] = refl
  lookup-shown name (e ∷ es) = grind (arith, lookup-shown name es, is_eq-slice_cmp)

  pub texts_shown : (m : BTreeMap (String Y) (String Z)) (name : List ℕ) → texts_in (map shown_pair m.entries) name ≡ option_map string_bytes (get_by_text m name)
  texts_shown m name = lookup-shown name m.entries

  -- an inserted text is shown for its name
  pub texts_inserted : (m n : BTreeMap (String Y) (String Z)) (key : String Y) (text : String Z) → Updates string_cmp m n key (Some text)
      → (other : List ℕ) → texts_in (map shown_pair n.entries) other ≡ texts_with (texts_in (map shown_pair m.entries)) (string_bytes key) (string_bytes text) other
  texts_inserted m n key text h other = grind (arith, texts_shown n other, btree_map_updates_text (string_bytes key) m n (Some text) h other, texts_shown m other)
