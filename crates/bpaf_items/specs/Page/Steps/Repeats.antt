-- What is remembered of the entries of a list so far, and what the next one writes.
use Rattle.std.specs.Prelude.{if◌then◌else◌, ◌||◌, ◌∷◌, ◌≡◌}
use Rattle.bpaf_items.specs.Words.{ℕ, Bool, true, false, not, flat_map, fold, nat_eq, List, [], AllByRecursion, IsDistinct, list_any, Write, Leaf}
use Rattle.std.specs.Hash.FoldHasher as folding
use Rattle.bpaf_items.specs.declared.meta_help.key.ItemKey.{ItemKey}
use Rattle.bpaf_items.specs.Listing.ItemList.{Entry, listed}
use Rattle.bpaf_items.specs.Listing.Keys.{Key, key_input, key_of, same_key}
use Rattle.bpaf_items.specs.Listing.Falls.{has_key_of, ends_in_mark_or_new, is_shown}
use Rattle.bpaf_items.specs.Page.EnvTexts.{Texts}
use Rattle.bpaf_items.specs.Page.EntryWrites.{entry_writes}
use Rattle.bpaf_items.specs.View.{key_in}

-- ---- keys with their hashes

abbrev pub key_hash : Key → ℕ
key_hash k = folding.finish (fold folding.write folding.initial (key_input k))

-- a key of an item with its hash
abbrev pub Hashed : Type 0 → Type 0
Hashed B = ℕ × ItemKey B

abbrev pub IsHashed : {B : Type 0} → Hashed B → Type 0
IsHashed k = k.0 ≡ key_hash (key_in k.1)

abbrev pub AreHashed : {B : Type 0} → List (Hashed B) → Type 0
AreHashed = AllByRecursion IsHashed

-- one of these is the key
abbrev pub has_key : {B : Type 0} → List (Hashed B) → Key → Bool
has_key keys q = list_any (λ k. same_key q (key_in k.1)) keys

-- the keys after one was inserted, and an answer that says whether it is new
pub record PutsKey {B : Type 0} (keys after : List (Hashed B)) (key : Key) (is_new : Bool) : Type 0 where
  pub answer : is_new ≡ not (has_key keys key)
  pub has : (q : Key) → has_key after q ≡ (same_key q key || has_key keys q)
  pub hashed : AreHashed after

-- ---- what is remembered

-- the hash of an entry that is an item
abbrev pub entry_hash : Entry → List ℕ
entry_hash (listed l) = key_hash (key_of l) ∷ []
entry_hash e = []

-- no two items have one hash
abbrev pub AreApart : List Entry → Type 0
AreApart es = IsDistinct nat_eq (flat_map entry_hash es)

-- what is remembered of all these entries: that their items are apart, or the keys of the items before; and whether a
-- note would be shown now
pub record Remembers {B : Type 0} (all : List Entry) (are_apart : Bool) (keys : List (Hashed B)) (shown : Bool)
    (before : List Entry) : Type 0 where
  pub apart : are_apart ≡ true → AreApart all
  pub hashed : AreHashed keys
  pub seen : are_apart ≡ false → (l : Leaf) → has_key keys (key_of l) ≡ list_any (has_key_of l) before
  pub last : shown ≡ ends_in_mark_or_new before

-- what an entry writes after those before it
abbrev pub shown_writes : (include_env : Bool) → Texts → (before : List Entry) → Entry → List Write
shown_writes include texts before e = if is_shown (before, e) then entry_writes include texts e else []
