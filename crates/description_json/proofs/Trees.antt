-- Lists of values beside the data that they have, and a table beside its members.
use Rattle.std.proofs.Common.{◌≡◌, ◌+◌, ◌<◌, ◌≤◌, ℕ, zero, suc, List, [], ◌∷◌, ◌++◌, drop, get_or, length, Option, Some, None, option_map, String, Global, Ordering, Less, Equal, Greater, string_bytes, refl, sym, ap, ◌∙◌, arith}
use Rattle.std.proofs.lemmas.List.{drop_all, drop_more}
use Rattle.std.specs.Prelude.{Bool, false, true, not, option_and_then, if◌then◌else◌, is_some}
use Rattle.std.proofs.lemmas.Bool.{false≢true}
use Rattle.std.specs.BTreeMap.{insert_entry, is_at}
use Rattle.std.specs.Borrow.{Bor}
use Rattle.std.specs.Map.{lookup}
use Rattle.std.specs.Ordering.{match_ordering}
use Rattle.std.specs.String.{string_cmp}
use Rattle.json.specs.Json as json
use Rattle.json.specs.Value as json_view
use Rattle.json.specs.declared.value.Value as json_value
use Rattle.toml.specs.Data.{Data, Items, no_items, item, Members, no_members, member, get_member}
use Rattle.toml.specs.View.{view, items_view, members_view}
use Rattle.toml.specs.declared.value.Value.{Value}
use Rattle.toml.proofs.Views.{Entry, view-lookup}
use Rattle.description_json.specs.Tables.{items_data, members_data, put_member, value_data, with_member}

members_view-match_ordering : (o : Ordering) (a b c : List Entry) → members_view (match_ordering o a b c) ≡ match_ordering o (members_view a) (members_view b) (members_view c)
members_view-match_ordering Less a b c = refl
members_view-match_ordering Equal a b c = refl
members_view-match_ordering Greater a b c = refl

members_view-insert_entry : (es : List Entry) (k : String Global) (v : Value) → members_view (insert_entry string_cmp es k v) ≡ put_member (string_bytes k) (view v) (members_view es)
members_view-insert_entry [] k v = refl
members_view-insert_entry (e ∷ es) k v = members_view-match_ordering (string_cmp k e.0) _ _ _ ∙ rw (members_view-insert_entry es k v)

put_at : (k : String Global) (v : Value) (es : List Entry) (earlier : Option Value) (is_new : Bool) → is_some earlier ≡ not is_new → option_map view earlier ≡ get_member (string_bytes k) (members_view es)
    → with_member (string_bytes k) (view v) (members_view es) ≡ (if is_new then Some (members_view (insert_entry string_cmp es k v)) else None)
put_at k v es None true new found = rw (← found, members_view-insert_entry es k v)
put_at k v es None false new found = absurd (false≢true new)
put_at k v es (Some w) true new found = absurd (false≢true (sym new))
put_at k v es (Some w) false new found = rw (← found)

-- what an insert leaves, and whether it was the first at the key
pub put_says : (k : String Global) (name : List ℕ) (v : Value) (es after : List Entry) (earlier : Option Value) (is_new : Bool)
    → string_bytes k ≡ name → earlier ≡ lookup (is_at (string_cmp k)) es → after ≡ insert_entry string_cmp es k v → is_some earlier ≡ not is_new
    → with_member name (view v) (members_view es) ≡ (if is_new then Some (members_view after) else None)
put_says k name v es after earlier is_new named found inserted new =
    rw (← named, inserted) (put_at k v es earlier is_new new (ap (option_map view) found ∙ view-lookup (string_bytes k) es))

-- ---- items

-- items before others
abbrev pub items_before : List Value → Items → Items
items_before [] rest = rest
items_before (v ∷ vs) rest = item (view v) (items_before vs rest)

before_last : (vs : List Value) (v : Value) (rest : Items) → items_before vs (item (view v) rest) ≡ items_before (vs ++ v ∷ []) rest
before_last [] v rest = refl
before_last (w ∷ vs) v rest = ap (item (view w)) (before_last vs v rest)

one_more : (vs : List Value) (v : Value) (rest : Option Items) → option_map (items_before vs) (option_map (item (view v)) rest) ≡ option_map (items_before (vs ++ v ∷ [])) rest
one_more vs v None = refl
one_more vs v (Some rest) = ap Some (before_last vs v rest)

-- before any item
pub none_before : (rest : Option Items) → rest ≡ option_map (items_before []) rest
none_before None = refl
none_before (Some rest) = refl

all_before : (vs : List Value) → items_before vs no_items ≡ items_view vs
all_before [] = refl
all_before (v ∷ vs) = ap (item (view v)) (all_before vs)

module _ {A : Type 0} (js : List (json_value.Value A)) (i : ℕ) (j : json_value.Value A) (within : i < length js) (at : j ≡ get_or js i j) where
  items_from : items_data (json_view.items_view (drop i js)) ≡ option_and_then (λ d. option_map (item d) (items_data (json_view.items_view (drop (i + 1) js)))) (value_data (json_view.value_view j))
  items_from = ap (λ xs. items_data (json_view.items_view xs)) (drop_more js i j within ∙ ap (λ x. x ∷ drop (i + 1) js) (sym at))

  -- an item that has data
  pub items_turn : (all : Option Items) (vs : List Value) (v : Value) → all ≡ option_map (items_before vs) (items_data (json_view.items_view (drop i js)))
      → Some (view v) ≡ value_data (json_view.value_view j) → all ≡ option_map (items_before (vs ++ v ∷ [])) (items_data (json_view.items_view (drop (i + 1) js)))
  items_turn all vs v before has =
      before ∙ ap (option_map (items_before vs)) (items_from ∙ ap (option_and_then (λ d. option_map (item d) (items_data (json_view.items_view (drop (i + 1) js))))) (sym has)) ∙ one_more vs v _

  -- one that has none
  pub items_lost : (all : Option Items) (vs : List Value) → all ≡ option_map (items_before vs) (items_data (json_view.items_view (drop i js)))
      → None ≡ value_data (json_view.value_view j) → None ≡ all
  items_lost all vs before none =
      sym (before ∙ ap (option_map (items_before vs)) (items_from ∙ ap (option_and_then (λ d. option_map (item d) (items_data (json_view.items_view (drop (i + 1) js))))) (sym none)))

-- after the last
pub items_end : {A : Type 0} → (js : List (json_value.Value A)) (i : ℕ) (all : Option Items) (vs : List Value) → length js ≤ i
    → all ≡ option_map (items_before vs) (items_data (json_view.items_view (drop i js))) → Some (items_view vs) ≡ all
items_end js i all vs past before =
    sym (before ∙ ap (λ xs. option_map (items_before vs) (items_data (json_view.items_view xs))) (drop_all i js past) ∙ ap Some (all_before vs))

-- ---- members

abbrev pub JsonMember : Type 0 → Type 0
JsonMember A = Bor (List ℕ) × json_value.Value A

lost_after : (f : Data → Members → Option Members) (o : Option Data) → option_and_then (λ d. option_and_then (f d) None) o ≡ None
lost_after f None = refl
lost_after f (Some d) = refl

-- where some last members have no data, all have none
pub members_lost : {A : Type 0} → (ms : List (JsonMember A)) (i : ℕ) → members_data (json_view.members_view (drop i ms)) ≡ None → members_data (json_view.members_view ms) ≡ None
members_lost ms zero lost = lost
members_lost [] (suc i) lost = lost
members_lost (m ∷ ms) (suc i) lost = rw (members_lost ms i lost) (lost_after (with_member m.0.now) (value_data (json_view.value_view m.1)))

module _ {A : Type 0} (ms : List (JsonMember A)) (i : ℕ) (m : JsonMember A) (within : i < length ms) (at : m ≡ get_or ms i m) (later : Members) (done : members_data (json_view.members_view (drop (i + 1) ms)) ≡ Some later) where
  members_from : members_data (json_view.members_view (drop i ms)) ≡ option_and_then (λ d. with_member m.0.now d later) (value_data (json_view.value_view m.1))
  members_from =
      ap (λ xs. members_data (json_view.members_view xs)) (drop_more ms i m within ∙ ap (λ x. x ∷ drop (i + 1) ms) (sym at))
      ∙ ap (λ rest. option_and_then (λ d. option_and_then (with_member m.0.now d) rest) (value_data (json_view.value_view m.1))) done

  -- the member has this data
  pub members_turn : (d : Data) → Some d ≡ value_data (json_view.value_view m.1) → members_data (json_view.members_view (drop i ms)) ≡ with_member m.0.now d later
  members_turn d has = members_from ∙ ap (option_and_then (λ e. with_member m.0.now e later)) (sym has)

  -- it has none
  pub members_none : None ≡ value_data (json_view.value_view m.1) → members_data (json_view.members_view ms) ≡ None
  members_none none = members_lost ms i (members_from ∙ ap (option_and_then (λ e. with_member m.0.now e later)) (sym none))

-- ---- one of each

pub one_item : {A : Type 0} → (js : List (json_value.Value A)) → length js ≡ 1 → (j : json.Json) × (json_view.items_view js ≡ json.item j json.no_items)
one_item [] one = absurd (omega (arith, one))
one_item (j ∷ []) one = (json_view.value_view j, refl)
one_item (j ∷ k ∷ js) one = absurd (omega (arith, one))

pub one_member : {A : Type 0} → (ms : List (JsonMember A)) (m : JsonMember A) (key : List ℕ) → length ms ≡ 1 → m ≡ get_or ms 0 m → m.0.now ≡ key
    → (j : json.Json) × (json_view.members_view ms ≡ json.member key j json.no_members)
one_member [] m key one at named = absurd (omega (arith, one))
one_member (n ∷ []) m key one at named = (json_view.value_view n.1, ap (λ k. json.member k (json_view.value_view n.1) json.no_members) (ap (λ x. x.0.now) (sym at) ∙ named))
one_member (n ∷ o ∷ ms) m key one at named = absurd (omega (arith, one))
