-- Names of files, one after another.
use Rattle.std.proofs.Common.{◌≡◌, ℕ, ◌+◌, ◌<◌, ◌≤◌, ◌↔◌, Bool, true, false, cond, not, Bor, String, arith, ◌&&◌, ◌||◌, List, [], ◌∷◌, length, drop, get_or, map, refl, sym, ap, subst, ◌∙◌, string_bytes}
use Rattle.std.specs.Prelude.{IsTrue, bytes_eq}
use Rattle.std.specs.List.{list_any, prefix_len}
use Rattle.std.specs.Cmp.Lexicographic.{on_texts_equal, slice_cmp, texts_ties}
use Rattle.std.specs.Ordering.{eq_by_cmp, nat_cmp}
use Rattle.std.specs.declared.cmp.Ordering.{Ordering}
use Rattle.std.proofs.lemmas.Bool.{false≢true}
use Rattle.std.proofs.lemmas.List.{drop_all, drop_more}
use Rattle.std.proofs.lemmas.List.Sums.{prefix_len-le-length}
use Rattle.std.proofs.lemmas.Slice.Eq.{bytes_eq-Decides}
use Rattle.file_names.specs.Names.{are_alike, are_file_names, is_file_name, is_first_name, is_no_dot, name_key, names_said}

pub stem_within : (name : List ℕ) → prefix_len is_no_dot name ≤ length name
stem_within = prefix_len-le-length is_no_dot

-- a test that holds exactly where two texts are the same
pub tells_same : (b : Bool) (x y : List ℕ) → (IsTrue b ↔ (x ≡ y)) → b ≡ bytes_eq x y
tells_same b x y h3 = grind (arith, bytes_eq-Decides, false≢true)

holds : (a b : Bool) → false ≡ not (a && b) → (a && b) ≡ true
holds a b h2 = grind (arith, false≢true)

fails : (a b : Bool) → true ≡ not (a && b) → (a && b) ≡ false
fails a b h2 = grind (arith, false≢true)

-- the names from one on
abbrev pub names_from : List (Bor (List ℕ)) → ℕ → List (List ℕ)
names_from ns i = names_said (drop i ns)

-- ---- what names are compared by

pub alike_keys : (name : List ℕ) (names : List (List ℕ)) → list_any (are_alike name) names ≡ list_any (bytes_eq (name_key name)) (map name_key names)
alike_keys name [] = refl
alike_keys name (other ∷ names) = ap (λ b. are_alike name other || b) (alike_keys name names)

pub no_other_left : (ns : List (Bor (List ℕ))) (i : ℕ) (name : List ℕ) → length ns ≤ i → list_any (are_alike name) (names_from ns i) ≡ false
no_other_left ns i name h = ap (λ os. list_any (are_alike name) (names_said os)) (drop_all i ns h)

-- those of the names from one on
abbrev pub Held : {S : Type 0} → List (String S) → List (Bor (List ℕ)) → ℕ → Type 0
Held {S} keys ns i = (q : String S) → list_any (λ k. bytes_eq (string_bytes q) (string_bytes k)) keys ≡ list_any (bytes_eq (string_bytes q)) (map name_key (names_from ns i))

texts_equal : (s t : List ℕ) → bytes_eq s t ≡ bytes_eq t s
texts_equal s t = (on_texts_equal (λ (x : List ℕ). x)).symm s t

either : (b c : Bool) → cond b true c ≡ (b || c)
either b c = grind arith

-- ---- a set of keys, by their texts

module _ {S : Type 0} where
  abbrev pub by_text : String S → String S → Ordering
  by_text x y = slice_cmp nat_cmp (string_bytes x) (string_bytes y)

  abbrev pub same_text : String S → String S → Bool
  same_text x y = bytes_eq (string_bytes x) (string_bytes y)

  by_order : eq_by_cmp by_text ≡ same_text
  by_order i x y = sym (texts_ties (string_bytes x) (string_bytes y)) i

  pub key_added : (keys : List (String S)) (key : String S) (added : Bool) → added ≡ not (list_any (eq_by_cmp by_text key) keys) → added ≡ not (list_any (same_text key) keys)
  key_added keys key added = subst (λ (eq : String S → String S → Bool). added ≡ not (list_any (eq key) keys)) by_order

  pub keys_updated : (keys more : List (String S)) (key : String S) → ((q : String S) → list_any (eq_by_cmp by_text q) more ≡ cond (eq_by_cmp by_text key q) true (list_any (eq_by_cmp by_text q) keys))
      → (q : String S) → list_any (same_text q) more ≡ cond (same_text key q) true (list_any (same_text q) keys)
  keys_updated keys more key = subst (λ (eq : String S → String S → Bool). (q : String S) → list_any (eq q) more ≡ cond (eq key q) true (list_any (eq q) keys)) by_order

module _ (ns : List (Bor (List ℕ))) (i : ℕ) (n d : Bor (List ℕ)) (at : n ≡ get_or ns i d) (h : i < length ns) where
  more : names_from ns i ≡ n.now ∷ names_from ns (i + 1)
  more = ap names_said (drop_more ns i d h) ∙ ap (λ m. m.now ∷ names_from ns (i + 1)) (sym at)

  -- it is the first that is refused, or another one is
  module _ (alone : Bool) (is : alone ≡ not (list_any (are_alike n.now) (names_from ns (i + 1)))) where
    whole : is_first_name (n.now ∷ names_from ns (i + 1)) ≡ (is_file_name n.now && alone)
    whole = ap (λ b. is_file_name n.now && b) (sym is)

    pub refused_here : true ≡ not (is_file_name n.now && alone) → is_first_name (names_from ns i) ≡ are_file_names (names_from ns i)
    refused_here h = grind (arith, whole, fails, more)

    pub passed_here : (first : ℕ) → false ≡ not (is_file_name n.now && alone) → is_first_name (names_from ns first) ≡ are_file_names (names_from ns (i + 1)) → is_first_name (names_from ns first) ≡ are_file_names (names_from ns i)
    passed_here first h judged = judged ∙ sym (ap are_file_names more ∙ ap (λ b. b && are_file_names (names_from ns (i + 1))) (whole ∙ holds (is_file_name n.now) alone h))

  -- it is among those that are known
  module _ {S : Type 0} (keys new : List (String S)) (key : String S) (same : string_bytes key ≡ name_key n.now) (held : Held keys ns (i + 1)) where
    pub alone_is : (alone : Bool) → alone ≡ not (list_any (λ k. bytes_eq (string_bytes key) (string_bytes k)) keys) → alone ≡ not (list_any (are_alike n.now) (names_from ns (i + 1)))
    alone_is alone e = grind (arith, alike_keys)

    pub held_more : ((q : String S) → list_any (λ k. bytes_eq (string_bytes q) (string_bytes k)) new ≡ cond (bytes_eq (string_bytes key) (string_bytes q)) true (list_any (λ k. bytes_eq (string_bytes q) (string_bytes k)) keys)) → Held new ns i
    held_more u q = grind (arith, either, texts_equal, more)

  -- the same of the names that one is compared with
  pub other_differs : (name : List ℕ) → are_alike name n.now ≡ false → list_any (are_alike name) (names_from ns (i + 1)) ≡ list_any (are_alike name) (names_from ns i)
  other_differs name differs = sym (ap (list_any (are_alike name)) more ∙ ap (λ b. b || list_any (are_alike name) (names_from ns (i + 1))) differs)

  pub other_is_alike : (name : List ℕ) → are_alike name n.now ≡ true → list_any (are_alike name) (names_from ns i) ≡ true
  other_is_alike name alike = ap (list_any (are_alike name)) more ∙ ap (λ b. b || list_any (are_alike name) (names_from ns (i + 1))) alike

pub none_first : (ns : List (Bor (List ℕ))) → is_first_name (names_from ns (length ns)) ≡ are_file_names (names_from ns (length ns))
none_first ns = grind (arith, drop_all)
