-- What holds of whatever a reader gives, reader by reader.
use Rattle.std.proofs.Common.{◌≡◌, ℕ, List, [], Bool, true, Option, Some, None, subst, arith}
use Rattle.std.specs.Prelude.{if◌then◌else◌, option_map, option_and_then}
use Rattle.toml.specs.Data.{Data, Members, Items, no_items, item, get_member, as_array, as_table, as_str}
use Rattle.description_toml.specs.Described.{with_only}
use Rattle.description_toml.specs.Described.Texts.{as_text_of, if_passes}
use Rattle.description_toml.specs.Described.Values.{as_texts, each_item, each_table, has_only, in_table, is_empty, optional_at, required_at, value_or, words_at}
use Rattle.description_toml.proofs.Each.{Each}

abbrev pub Gives : {X : Type 0} → (X → Type 0) → Option X → Type 0
Gives P None = Unit {0}
Gives P (Some x) = P x

abbrev pub Whatever : {X : Type 0} → X → Type 0
Whatever x = Unit {0}

pub given : {X : Type 0} (P : X → Type 0) (o : Option X) (x : X) → Gives P o → o ≡ Some x → P x
given P o x h e = let Q : Option _ → Type 0 = Gives P in subst Q e h

pub gives_whatever : {X : Type 0} (o : Option X) → Gives Whatever o
gives_whatever o = grind arith

-- one reader after another
pub gives_then : {X Y : Type 0} (P : X → Type 0) (Q : Y → Type 0) (o : Option X) (f : X → Option Y) → Gives P o → ((x : X) → P x → Gives Q (f x)) → Gives Q (option_and_then f o)
gives_then P Q o f h4 h5 = grind arith

pub gives_map : {X Y : Type 0} (P : X → Type 0) (Q : Y → Type 0) (o : Option X) (f : X → Y) → Gives P o → ((x : X) → P x → Q (f x)) → Gives Q (option_map f o)
gives_map P Q o f h4 h5 = grind arith

pub gives_if : {X : Type 0} (P : X → Type 0) (b : Bool) (o : Option X) → Gives P o → Gives P (if b then o else None)
gives_if P b o h3 = grind arith

pub gives_unless : {X : Type 0} (P : X → Type 0) (b : Bool) (o : Option X) → Gives P o → Gives P (if b then None else o)
gives_unless P b o h3 = grind arith

pub gives_with_only : {X : Type 0} (P : X → Type 0) (keys : List (List ℕ)) (read : Members → Option X) → ((ms : Members) → Gives P (read ms)) → (ms : Members) → Gives P (with_only keys read ms)
gives_with_only P keys read h ms = gives_if P (has_only keys ms) (read ms) (h ms)

-- ---- what stands at a key

pub found : {Y : Type 0} (P : Y → Type 0) (left_out : Option Y) (read : Data → Option Y) (o : Option Data) → Gives P left_out → ((d : Data) → Gives P (read d)) → Gives P (value_or left_out read o)
found P left_out read o h4 h5 = grind arith

pub gives_optional : {X : Type 0} (P : X → Type 0) (read : Data → Option X) → ((d : Data) → Gives P (read d)) → (key : List ℕ) (ms : Members) → Gives (Gives P) (optional_at read key ms)
gives_optional P read h key ms = found (Gives P) (Some None) (λ d. option_map Some (read d)) (get_member key ms) tt (λ d. gives_map P (Gives P) (read d) Some (h d) (λ x p. p))

pub gives_required : {X : Type 0} (P : X → Type 0) (read : Data → Option X) → ((d : Data) → Gives P (read d)) → (key : List ℕ) (ms : Members) → Gives P (required_at read key ms)
gives_required P read h key ms = found P None read (get_member key ms) tt h

pub gives_passing : (P : List ℕ → Type 0) (test : List ℕ → Bool) → ((text : List ℕ) → test text ≡ true → P text) → (text : List ℕ) → Gives P (if_passes test text)
gives_passing P test h text = grind arith

pub gives_text : (P : List ℕ → Type 0) (test : List ℕ → Bool) → ((text : List ℕ) → test text ≡ true → P text) → (d : Data) → Gives P (as_text_of test d)
gives_text P test h d = gives_then Whatever P (as_str d) (if_passes test) (gives_whatever (as_str d)) (λ text u. gives_passing P test h text)

-- ---- items and tables

pub gives_items : {X : Type 0} (P : X → Type 0) (read : Data → Option X) → ((d : Data) → Gives P (read d)) → (ds : Items) → Gives (Each P) (each_item read ds)
gives_items P read h no_items = tt
gives_items P read h (item d ds) = grind (arith, gives_items P read h ds, gives_then, gives_map)

pub gives_each : {X : Type 0} (P : X → Type 0) (read : Members → Option X) → ((ms : Members) → Gives P (read ms)) → (ds : Items) → Gives (Each P) (each_table read ds)
gives_each P read h = gives_items P (in_table read) (λ d. gives_then Whatever P (as_table d) read (gives_whatever (as_table d)) (λ ms u. h ms))

pub gives_texts : (P : List ℕ → Type 0) (read : Data → Option (List ℕ)) → ((d : Data) → Gives P (read d)) → (d : Data) → Gives (Each P) (as_texts read d)
gives_texts P read h d = gives_then Whatever (Each P) (as_array d) _ (gives_whatever (as_array d)) (λ ds u. gives_unless (Each P) (is_empty ds) (each_item read ds) (gives_items P read h ds))

pub gives_words : (P : List ℕ → Type 0) (read : Data → Option (List ℕ)) → ((d : Data) → Gives P (read d)) → (key : List ℕ) (ms : Members) → Gives (Each P) (words_at read key ms)
gives_words P read h key ms = found (Each P) (Some []) (as_texts read) (get_member key ms) tt (gives_texts P read h)
