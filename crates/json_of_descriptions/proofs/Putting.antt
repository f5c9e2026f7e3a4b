-- Members and values one after another.
use Rattle.std.proofs.Common.{◌≡◌, ℕ, ◌+◌, ◌<◌, ◌≤◌, ◌==◌, Bool, true, false, List, [], ◌∷◌, ◌++◌, length, map, take, get_or, refl, sym, ap, ◌∙◌, subst, append_assoc, append-nil, arith}
use Rattle.std.proofs.lemmas.Bool.{false≢true}
use Rattle.std.proofs.lemmas.List.{map-append, take_all, take_more}
use Rattle.json.specs.Json.{Json, string, array, boolean}
use Rattle.json.specs.Token.{Token, key, begin_array, end_array, begin_object, end_object}
use Rattle.json.specs.Token as token
use Rattle.json.specs.Tree.{json_tokens, items_tokens, members_tokens}
use Rattle.description.proofs.Listed.{are_same}
use Rattle.json_of_descriptions.specs.Fields.{Field, is_nothing, items_of, list_at, members_of, object_at, object_with, text_at}
use Rattle.json_of_descriptions.specs.Steps.{fields_tokens, values_tokens, PutsFields, PutsValues}

fields_append : (fs gs : List Field) → fields_tokens (fs ++ gs) ≡ fields_tokens fs ++ fields_tokens gs
unfolding fields_tokens
fields_append [] gs = refl
fields_append (f ∷ fs) gs =
    ap (λ ts. key f.0 ∷ (json_tokens f.1 ++ ts)) (fields_append fs gs) ∙ ap (λ ts. key f.0 ∷ ts) (sym (append_assoc (json_tokens f.1) (fields_tokens fs) (fields_tokens gs)))

values_append : (js ks : List Json) → values_tokens (js ++ ks) ≡ values_tokens js ++ values_tokens ks
unfolding values_tokens
values_append [] ks = refl
values_append (j ∷ js) ks = ap (λ ts. json_tokens j ++ ts) (values_append js ks) ∙ sym (append_assoc (json_tokens j) (values_tokens js) (values_tokens ks))

-- ---- members

pub fields_none : (old : List Token) → PutsFields old old []
unfolding fields_tokens
fields_none old = record { tokens = sym (append-nil old) }

pub fields_then : {a b c : List Token} {fs gs : List Field} → PutsFields a b fs → PutsFields b c gs → PutsFields a c (fs ++ gs)
fields_then {a} {b} {c} {fs} {gs} w v =
    record { tokens = v.tokens ∙ ap (λ ts. ts ++ fields_tokens gs) w.tokens ∙ append_assoc a (fields_tokens fs) (fields_tokens gs) ∙ ap (λ ts. a ++ ts) (sym (fields_append fs gs)) }

-- a key and its value, in one token
pub text_put : (a b c : List Token) (k text : List ℕ) → b ≡ a ++ key k ∷ [] → c ≡ b ++ token.string text ∷ [] → PutsFields a c (text_at k text)
unfolding fields_tokens
text_put a b c k text w v =
    record { tokens = v ∙ ap (λ ts. ts ++ token.string text ∷ []) w ∙ append_assoc a (key k ∷ []) (token.string text ∷ []) }

pub boolean_put : (a b c : List Token) (k : List ℕ) (flag : Bool) → b ≡ a ++ key k ∷ [] → c ≡ b ++ token.boolean flag ∷ [] → PutsFields a c ((k, boolean flag) ∷ [])
unfolding fields_tokens
boolean_put a b c k flag w v =
    record { tokens = v ∙ ap (λ ts. ts ++ token.boolean flag ∷ []) w ∙ append_assoc a (key k ∷ []) (token.boolean flag ∷ []) }

-- ---- values

pub values_none : (old : List Token) → PutsValues old old []
unfolding values_tokens
values_none old = record { tokens = sym (append-nil old) }

pub values_then : {a b c : List Token} {js ks : List Json} → PutsValues a b js → PutsValues b c ks → PutsValues a c (js ++ ks)
values_then {a} {b} {c} {js} {ks} w v =
    record { tokens = v.tokens ∙ ap (λ ts. ts ++ values_tokens ks) w.tokens ∙ append_assoc a (values_tokens js) (values_tokens ks) ∙ ap (λ ts. a ++ ts) (sym (values_append js ks)) }

pub string_put : (a b : List Token) (text : List ℕ) → b ≡ a ++ token.string text ∷ [] → PutsValues a b (string text ∷ [])
unfolding values_tokens
string_put a b text w = record { tokens = w }

-- the values of a list, one after another
module _ {X Y : Type 0} (f : Y → Json) (g : X → Y) (xs : List X) where
  pub values_next : {a b c : List Token} (i : ℕ) (x d : X) → i < length xs → x ≡ get_or xs i d → PutsValues a b (map f (map g (take i xs))) → PutsValues b c (f (g x) ∷ []) → PutsValues a c (map f (map g (take (i + 1) xs)))
  values_next {a} {b} {c} i x d within is w v =
      let more : take (i + 1) xs ≡ take i xs ++ x ∷ [] = take_more xs i d within ∙ ap (λ y. take i xs ++ y ∷ []) (sym is) in
      let all : map f (map g (take (i + 1) xs)) ≡ map f (map g (take i xs)) ++ f (g x) ∷ [] =
      ap (λ ys. map f (map g ys)) more ∙ ap (map f) (map-append g (take i xs) (x ∷ [])) ∙ map-append f (map g (take i xs)) (g x ∷ []) in
      subst (PutsValues a c) (sym all) (values_then w v)

  pub values_all : {a b : List Token} (i : ℕ) → length xs ≤ i → PutsValues a b (map f (map g (take i xs))) → PutsValues a b (map f (map g xs))
  values_all {a} {b} i past w = subst (λ ys. PutsValues a b (map f (map g ys))) (take_all i xs past) w

-- ---- brackets

items_closed : (js : List Json) → items_tokens (items_of js) ≡ values_tokens js ++ end_array ∷ []
unfolding values_tokens
items_closed [] = refl
items_closed (j ∷ js) = ap (λ ts. json_tokens j ++ ts) (items_closed js) ∙ sym (append_assoc (json_tokens j) (values_tokens js) (end_array ∷ []))

members_closed : (fs : List Field) → members_tokens (members_of fs) ≡ fields_tokens fs ++ end_object ∷ []
unfolding fields_tokens
members_closed [] = refl
members_closed (f ∷ fs) =
    ap (λ ts. key f.0 ∷ (json_tokens f.1 ++ ts)) (members_closed fs) ∙ ap (λ ts. key f.0 ∷ ts) (sym (append_assoc (json_tokens f.1) (fields_tokens fs) (end_object ∷ [])))

pub object_tokens : (fs : List Field) → json_tokens (object_with fs) ≡ begin_object ∷ (fields_tokens fs ++ end_object ∷ [])
object_tokens fs = ap (λ ts. begin_object ∷ ts) (members_closed fs)

enclosed : (a b c d : List Token) (fs : List Field) → b ≡ a ++ begin_object ∷ [] → PutsFields b c fs → d ≡ c ++ end_object ∷ [] → d ≡ a ++ json_tokens (object_with fs)
enclosed a b c d fs w v u =
    u ∙ ap (λ ts. ts ++ end_object ∷ []) (v.tokens ∙ ap (λ ts. ts ++ fields_tokens fs) w ∙ append_assoc a (begin_object ∷ []) (fields_tokens fs))
    ∙ append_assoc a (begin_object ∷ fields_tokens fs) (end_object ∷ [])
    ∙ ap (λ ts. a ++ ts) (sym (object_tokens fs))

-- members between the brackets of an object
pub object_put : {a b c d : List Token} {fs : List Field} → b ≡ a ++ begin_object ∷ [] → PutsFields b c fs → d ≡ c ++ end_object ∷ [] → PutsValues a d (object_with fs ∷ [])
unfolding values_tokens
object_put {a} {b} {c} {d} {fs} w v u =
    record { tokens = enclosed a b c d fs w v u ∙ ap (λ ts. a ++ ts) (sym (append-nil (json_tokens (object_with fs)))) }

-- a whole value
pub whole_put : {b c d : List Token} {fs : List Field} → b ≡ begin_object ∷ [] → PutsFields b c fs → d ≡ c ++ end_object ∷ [] → d ≡ json_tokens (object_with fs)
whole_put {b} {c} {d} {fs} w v u = enclosed [] b c d fs w v u

-- values between the brackets of an array, after its key
pub array_put : (a b c d : List Token) (k : List ℕ) (j : Json) (js : List Json) → b ≡ a ++ key k ∷ begin_array ∷ [] → PutsValues b c (j ∷ js) → d ≡ c ++ end_array ∷ [] → PutsFields a d (list_at k (j ∷ js))
unfolding fields_tokens
array_put a b c d k j js w v u =
    record {
      tokens =
          u ∙ ap (λ ts. ts ++ end_array ∷ []) (v.tokens ∙ ap (λ ts. ts ++ values_tokens (j ∷ js)) w ∙ append_assoc a (key k ∷ begin_array ∷ []) (values_tokens (j ∷ js)))
          ∙ append_assoc a (key k ∷ begin_array ∷ values_tokens (j ∷ js)) (end_array ∷ [])
          ∙ ap (λ ts. a ++ (key k ∷ begin_array ∷ ts)) (sym (items_closed (j ∷ js)))
          ∙ ap (λ ts. a ++ (key k ∷ ts)) (sym (append-nil (json_tokens (array (items_of (j ∷ js))))));
    }

-- an array of the things of a list, and none where there are none
module _ {X Y : Type 0} (f : Y → Json) (g : X → Y) where
  full_put : {a b c d : List Token} (k : List ℕ) (xs : List X) → (length xs == 0) ≡ false → b ≡ a ++ key k ∷ begin_array ∷ [] → PutsValues b c (map f (map g xs)) → d ≡ c ++ end_array ∷ [] → PutsFields a d (list_at k (map f (map g xs)))
  full_put k [] some w v u = absurd (false≢true (sym some))
  full_put {a} {b} {c} {d} k (x ∷ xs) some w v u = array_put a b c d k (f (g x)) (map f (map g xs)) w v u

  none_put : (a : List Token) (k : List ℕ) (xs : List X) → (length xs == 0) ≡ true → PutsFields a a (list_at k (map f (map g xs)))
  none_put a k [] none = fields_none a
  none_put a k (x ∷ xs) none = let is : length (x ∷ xs) ≡ 0 = are_same (length (x ∷ xs)) 0 none in absurd (omega arith)

  pub list_put : {a b c d : List Token} (k : List ℕ) (xs ys : List X) → ys ≡ xs → (length ys == 0) ≡ false → b ≡ a ++ key k ∷ begin_array ∷ [] → PutsValues b c (map f (map g ys)) → d ≡ c ++ end_array ∷ [] → PutsFields a d (list_at k (map f (map g xs)))
  list_put {a} {b} {c} {d} k xs ys same some w v u = subst (λ zs. PutsFields a d (list_at k (map f (map g zs)))) same (full_put k ys some w v u)

  pub list_none : (a : List Token) (k : List ℕ) (xs ys : List X) → ys ≡ xs → (length ys == 0) ≡ true → PutsFields a a (list_at k (map f (map g xs)))
  list_none a k xs ys same none = subst (λ zs. PutsFields a a (list_at k (map f (map g zs)))) same (none_put a k ys none)

-- an object that is not empty, after its key
pub object_at_put : (a b c d e : List Token) (k : List ℕ) (fs : List Field) → is_nothing fs ≡ false → b ≡ a ++ key k ∷ [] → c ≡ b ++ begin_object ∷ [] → PutsFields c d fs → e ≡ d ++ end_object ∷ [] → PutsFields a e (object_at k fs)
unfolding fields_tokens
object_at_put a b c d e k [] some w v u t = absurd (false≢true (sym some))
object_at_put a b c d e k (f ∷ fs) some w v u t =
    record {
      tokens =
          enclosed b c d e (f ∷ fs) v u t ∙ ap (λ ts. ts ++ json_tokens (object_with (f ∷ fs))) w ∙ append_assoc a (key k ∷ []) (json_tokens (object_with (f ∷ fs)))
          ∙ ap (λ ts. a ++ (key k ∷ ts)) (sym (append-nil (json_tokens (object_with (f ∷ fs)))));
    }

pub object_at_none : (a : List Token) (k : List ℕ) (fs : List Field) → is_nothing fs ≡ true → PutsFields a a (object_at k fs)
object_at_none a k [] none = fields_none a
object_at_none a k (f ∷ fs) none = absurd (false≢true none)
