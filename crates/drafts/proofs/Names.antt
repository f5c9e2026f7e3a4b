-- An entry has a table only where a description takes it, and then its names are taken.
use Rattle.std.proofs.Common.{◌≡◌, ℕ, Bool, true, false, not, cond, ◌&&◌, List, [], ◌∷◌, Option, None, Some, flat_map, refl, sym, ap, ◌∙◌, subst, arith}
use Rattle.std.specs.Prelude.{◌==◌}
use Rattle.std.specs.List.{list_all, slice_index}
use Rattle.std.specs.Str.{trim}
use Rattle.std.proofs.lemmas.Bool.{and_parts}
use Rattle.std.proofs.lemmas.Bool.Decides.{nat_tests}
use Rattle.page_model.specs.Permitted.{are_permitted}
use Rattle.help_blocks.specs.declared.place.Kind.{Kind}
use Rattle.help_blocks.specs.declared.place.Kind.TheVariants as kind
use Rattle.drafts.specs.Drafts.{after_role}
use Rattle.drafts.specs.Entries.{has_none, is_writable, keys_of, taken_in, value_front, value_name}
use Rattle.drafts.specs.Free.{Has, free_in, free_keys, with_keys}
use Rattle.drafts.specs.Passages.{PassageSaid, first_line}
use Rattle.drafts.specs.Places.{begins_with_command, MarkedSaid, PlacedSaid, TakenSaid, above_with, entry_role, is_choice_of_commands, is_command, is_empty, is_given, is_value, is_written, keys_by, kind_role, marked_from, own_part, placed_from, role_in, role_of, taken_after, taken_by, taken_with, with_entry}
use Rattle.drafts.specs.Seen.{is_word}
use Rattle.drafts.specs.declared.places.Above.{Above}
use Rattle.drafts.specs.declared.places.Part.{Part}
use Rattle.drafts.specs.declared.places.Part.TheVariants as part
use Rattle.drafts.specs.declared.places.Role.{Role}
use Rattle.drafts.specs.declared.places.Role.TheVariants as role
use Rattle.drafts.proofs.Roles.{written_entry, written_member}

-- ---- the names of one passage

-- `permitted`, whether a text may hold its lines
abbrev keys_in : Kind → TakenSaid → (permitted : Bool) → (line : List ℕ) → Option (List (List ℕ))
keys_in k t permitted line = cond permitted (keys_of (taken_by k t) k line) None

abbrev after_in : Kind → TakenSaid → (permitted : Bool) → (line : List ℕ) → Has
after_in k t permitted line = (taken_with (is_command k) (keys_in k t permitted line) t).options

value_same : (t : TakenSaid) (permitted word : Bool) → t.options ≡ with_entry t.options (cond permitted (cond word (Some []) None) None)
value_same t true true = refl
value_same t true false = refl
value_same t false word = refl

none_same : (t : TakenSaid) (permitted : Bool) → t.options ≡ with_entry t.options (cond permitted None None)
none_same t true = refl
none_same t false = refl

after_given : (k : Kind) (t : TakenSaid) (permitted : Bool) (line : List ℕ) → is_given (keys_in k t permitted line) ≡ true → taken_in t.options k line ≡ after_in k t permitted line
after_given kind.Option t true line h = by (not (has_none (free_in t.options line)) && list_all is_writable (free_in t.options line)) h where
  by : (b : Bool) → is_given (cond b (Some (flat_map free_keys (free_in t.options line))) None) ≡ true
      → with_keys t.options (flat_map free_keys (free_in t.options line)) ≡ with_entry t.options (cond b (Some (flat_map free_keys (free_in t.options line))) None)
  by true h = refl
  by false h = cc
after_given kind.Option t false line h = cc
after_given kind.Command t permitted line h = refl
after_given kind.Value t permitted line h = value_same t permitted (is_word (value_name (value_front line).front))
after_given kind.Usage t permitted line h = none_same t permitted
after_given kind.Title t permitted line h = none_same t permitted
after_given kind.Text t permitted line h = none_same t permitted
after_given kind.Code t permitted line h = none_same t permitted

not_given : (has : Has) (keys : Option (List (List ℕ))) → is_given keys ≡ false → has ≡ with_entry has keys
not_given has None h = refl
not_given has (Some keys) h = cc

after_other : (k : Kind) (t : TakenSaid) (permitted : Bool) (line : List ℕ) → (k ≡ kind.Option → is_given (keys_in k t permitted line) ≡ false) → t.options ≡ after_in k t permitted line
after_other kind.Option t permitted line h = not_given t.options (keys_in kind.Option t permitted line) (h refl)
after_other kind.Command t permitted line h = refl
after_other kind.Value t permitted line h = value_same t permitted (is_word (value_name (value_front line).front))
after_other kind.Usage t permitted line h = none_same t permitted
after_other kind.Title t permitted line h = none_same t permitted
after_other kind.Text t permitted line h = none_same t permitted
after_other kind.Code t permitted line h = none_same t permitted

-- ---- an option that is taken is an entry

abbrev IsEntryRole : Role → Type 0
IsEntryRole role.Entry = Unit {0}
IsEntryRole role.Member = Unit {0}
IsEntryRole _ = ⊥

entry_there : (p : Part) → IsEntryRole (entry_role p true)
entry_there part.First = tt
entry_there part.Group = tt
entry_there part.List = tt
entry_there part.Topic = tt
entry_there part.Loose = tt

abbrev role_by : (empty permitted written : Bool) → (k : Kind) → (own : Part) → MarkedSaid → Above → Role
role_by empty permitted written k own m a = cond empty role.Nothing (cond permitted (kind_role k own (record { passage = m.passage; is_written = written }) a) role.LeftOut)

keys_need : (t : TakenSaid) (permitted : Bool) (lines : List (List ℕ)) → is_given (keys_in kind.Option t permitted (first_line lines)) ≡ true → (permitted ≡ true) × (is_empty lines ≡ false)
keys_need t false lines h = cc
keys_need t true [] h = cc
keys_need t true (l ∷ ls) h = (refl, grind (arith, nat_tests))

written_option : (t : TakenSaid) (p : PassageSaid) (below : List PassageSaid) → p.kind ≡ kind.Option → is_given (keys_by t p) ≡ true → is_written t p below ≡ true
written_option t p below e h =
    let commands : Bool = slice_index (trim (first_line p.lines)) 0 == 123 && begins_with_command below in
    ap (λ g. g && not (is_choice_of_commands p below)) h ∙ ap (λ k. not (is_value k && commands)) e

option_is_entry : (t : TakenSaid) (p : PassageSaid) (below : List PassageSaid) (own : Part) (a : Above) → p.kind ≡ kind.Option → is_given (keys_by t p) ≡ true
    → IsEntryRole (role_in own (record { passage = p; is_written = is_written t p below }) a)
option_is_entry t p below own a e h =
    let permitted = list_all are_permitted p.lines in
    let needed = keys_need t permitted p.lines (sym (ap (λ k. is_given (keys_in k t permitted (first_line p.lines))) e) ∙ h) in
    let m : MarkedSaid = record { passage = p; is_written = is_written t p below } in
    let same : role_by (is_empty p.lines) permitted (is_written t p below) p.kind own m a ≡ role_by false true true kind.Option own m a =
    ap (λ b. role_by b permitted (is_written t p below) p.kind own m a) needed.1 ∙ ap (λ b. role_by false b (is_written t p below) p.kind own m a) needed.0
    ∙ ap (λ b. role_by false true b p.kind own m a) (written_option t p below e h) ∙ ap (λ k. role_by false true true k own m a) e in
    subst IsEntryRole (sym same) (entry_there a.part)

-- ---- all passages

pub record IsTaken (t : TakenSaid) (has : Has) (p : PlacedSaid) : Type 0 where
  pub same : has ≡ t.options
  pub entry : p.role ≡ role.Entry → is_given (keys_by t p.passage) ≡ true
  pub member : p.role ≡ role.Member → is_given (keys_by t p.passage) ≡ true

abbrev pub AllTaken : TakenSaid → Has → List PlacedSaid → Type 0
AllTaken t has [] = Unit {0}
AllTaken t has (p ∷ ps) = IsTaken t has p × AllTaken (taken_after t p.passage) (after_role has p.role p.passage) ps

after_same : (t : TakenSaid) (p : PassageSaid) (below : List PassageSaid) (own : Part) (a : Above) (r : Role) → role_in own (record { passage = p; is_written = is_written t p below }) a ≡ r
    → (r ≡ role.Entry → is_given (keys_by t p) ≡ true) → (r ≡ role.Member → is_given (keys_by t p) ≡ true) → after_role t.options r p ≡ (taken_after t p).options
after_same t p below own a r e entry member = by r e entry member where
  permitted : Bool
  permitted = list_all are_permitted p.lines

  no_option : (r : Role) → role_in own (record { passage = p; is_written = is_written t p below }) a ≡ r → (IsEntryRole r → ⊥) → p.kind ≡ kind.Option → is_given (keys_by t p) ≡ false
  no_option r e none k = given (is_given (keys_by t p)) refl where
    given : (g : Bool) → is_given (keys_by t p) ≡ g → g ≡ false
    given true h = absurd (none (subst IsEntryRole e (option_is_entry t p below own a k h)))
    given false h = refl

  other : (r : Role) → role_in own (record { passage = p; is_written = is_written t p below }) a ≡ r → (IsEntryRole r → ⊥) → t.options ≡ (taken_after t p).options
  other r e none = after_other p.kind t permitted (first_line p.lines) (no_option r e none)

  by : (r : Role) → role_in own (record { passage = p; is_written = is_written t p below }) a ≡ r → (r ≡ role.Entry → is_given (keys_by t p) ≡ true) → (r ≡ role.Member → is_given (keys_by t p) ≡ true)
      → after_role t.options r p ≡ (taken_after t p).options
  by role.Entry e entry member = after_given p.kind t permitted (first_line p.lines) (entry refl)
  by role.Member e entry member = after_given p.kind t permitted (first_line p.lines) (member refl)
  by role.Nothing e entry member = other role.Nothing e (λ n. n)
  by role.Usage e entry member = other role.Usage e (λ n. n)
  by role.About e entry member = other role.About e (λ n. n)
  by role.Header e entry member = other role.Header e (λ n. n)
  by role.Footer e entry member = other role.Footer e (λ n. n)
  by role.Topic e entry member = other role.Topic e (λ n. n)
  by role.InTopic e entry member = other role.InTopic e (λ n. n)
  by role.Group e entry member = other role.Group e (λ n. n)
  by role.Usual e entry member = other role.Usual e (λ n. n)
  by role.LeftOut e entry member = other role.LeftOut e (λ n. n)

pub all_taken : (t : TakenSaid) (has : Has) (a : Above) (ps : List PassageSaid) → has ≡ t.options → AllTaken t has (placed_from a (marked_from t ps))
all_taken t has a [] same = tt
all_taken t has a (p ∷ ps) same =
    let m : MarkedSaid = record { passage = p; is_written = is_written t p ps } in
    let ms = marked_from (taken_after t p) ps in
    let own = own_part m ms a in
    let r = role_of m ms a in
    let entry : r ≡ role.Entry → is_given (keys_by t p) ≡ true = λ e. (and_parts (is_given (keys_by t p)) _ (written_entry m own a e)).0 in
    let member : r ≡ role.Member → is_given (keys_by t p) ≡ true = λ e. (and_parts (is_given (keys_by t p)) _ (written_member m own a e)).0 in (
      record { same = same; entry = entry; member = member },
      all_taken (taken_after t p) (after_role has r p) (above_with m ms a) ps (ap (λ h. after_role h r p) same ∙ after_same t p ps own a r refl entry member),
    )
