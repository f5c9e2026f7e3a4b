-- Items that are read one after another.
use Rattle.std.proofs.Common.{◌≡◌, ℕ, ◌+◌, ◌<◌, ◌≤◌, List, [], ◌∷◌, ◌++◌, length, drop, get_or, map, Option, Some, None, option_map, refl, sym, ap, ◌∙◌, append_assoc, append-nil, arith}
use Rattle.std.proofs.lemmas.List.{drop_all, map-append}
use Rattle.std.specs.Prelude.{option_and_then, Result, Ok, Err}
use Rattle.toml.proofs.Views.{items_view-drop}
use Rattle.toml.specs.Data.{Data}
use Rattle.toml.specs.View.{items_view, view}
use Rattle.toml.specs.declared.value.Value.{Value}
use Rattle.description.specs.Content.{CommandSaid, CommandsSaid, no_commands, commands, GroupSaid, GroupsSaid, no_groups, groups}
use Rattle.description_toml.specs.Described.{as_command, as_group, each_command, each_group}
use Rattle.description_toml.specs.Described.Values.{each_item}
use Rattle.description.specs.View.{commands_in, groups_in}
use Rattle.description_toml.specs.Faults.{IsRefusal, Joins, Reads}
use Rattle.description_toml.specs.declared.decode.teller.Refused.{Refused}

-- after the first items, which gave xs
abbrev pub ReadSoFar : {X : Type 0} → (Data → Option X) → List Value → List X → ℕ → Type 0
ReadSoFar read vs xs i = each_item read (items_view vs) ≡ option_map (λ rest. xs ++ rest) (each_item read (items_view (drop i vs)))

module _ {X : Type 0} (read : Data → Option X) where
  next_item : (vs : List Value) (xs : List X) (i : ℕ) (d : Value) → i < length vs → ReadSoFar read vs xs i
      → each_item read (items_view vs) ≡ option_map (λ rest. xs ++ rest) (option_and_then (λ x. option_map (λ ys. x ∷ ys) (each_item read (items_view (drop (i + 1) vs)))) (read (view (get_or vs i d))))
  next_item vs xs i d h s = s ∙ ap (λ ds. option_map (λ rest. xs ++ rest) (each_item read ds)) (items_view-drop vs i d h)

  one_more : (xs : List X) (x : X) (o : Option (List X)) → option_map (λ rest. xs ++ rest) (option_map (λ ys. x ∷ ys) o) ≡ option_map (λ rest. (xs ++ x ∷ []) ++ rest) o
  one_more xs x o = grind (arith, append_assoc)

  pub table_read : (vs : List Value) (xs ys : List X) (x : X) (i : ℕ) (d : Value) → i < length vs → ReadSoFar read vs xs i → read (view (get_or vs i d)) ≡ Some x → ys ≡ xs ++ x ∷ []
      → ReadSoFar read vs ys (i + 1)
  table_read vs xs ys x i d h s e g = grind (arith, next_item vs xs i d h s, one_more xs x (each_item read (items_view (drop (i + 1) vs))))

  pub table_faulty : (vs : List Value) (xs : List X) (i : ℕ) (d : Value) → i < length vs → ReadSoFar read vs xs i → read (view (get_or vs i d)) ≡ None → each_item read (items_view vs) ≡ None
  table_faulty vs xs i d h s e = next_item vs xs i d h s ∙ rw e refl

-- ---- a loop over items that pushes what each gives

module _ {T X : Type 0} (read : Data → Option X) (said : T → X) (vs : List Value) (ts : List T) (i : ℕ) where
  pub item_read : (t : T) {us : List T} {d : Value} → i < length vs → d ≡ get_or vs i d → ReadSoFar read vs (map said ts) i → read (view d) ≡ Some (said t) → us ≡ ts ++ t ∷ [] → ReadSoFar read vs (map said us) (i + 1)
  item_read t {us} {d} h at s e g = grind (arith, table_read read vs (map said ts) (map said us) (said t) i d h s, map-append said ts (t ∷ []))

  pub item_faulty : {d : Value} → i < length vs → d ≡ get_or vs i d → ReadSoFar read vs (map said ts) i → read (view d) ≡ None → each_item read (items_view vs) ≡ None
  item_faulty {d} h at s e = table_faulty read vs (map said ts) i d h s (ap (λ v. read (view v)) (sym at) ∙ e)

  pub items_read : length vs ≤ i → ReadSoFar read vs (map said ts) i → each_item read (items_view vs) ≡ Some (map said ts)
  items_read h s = s ∙ ap (λ us. option_map (λ rest. map said ts ++ rest) (each_item read (items_view us))) (drop_all i vs h) ∙ ap Some (append-nil (map said ts))

-- ---- such a loop that reads on after an item that is refused

abbrev pub ListSoFar : {L T X : Type 0} → (Data → Option X) → (T → X) → (L → List T) → List Value → Result L Refused → ℕ → Type 0
ListSoFar read said items vs (Ok list) i = ReadSoFar read vs (map said (items list)) i
ListSoFar read said items vs (Err e) i = ¬ IsRefusal e → each_item read (items_view vs) ≡ None

module _ {L T X : Type 0} (read : Data → Option X) (said : T → X) (items : L → List T) (vs : List Value) (i : ℕ) where
  pub item_joined : (list : Result L Refused) (one : Result T Refused) (joined : Result L Refused) {d : Value} → i < length vs → d ≡ get_or vs i d → ListSoFar read said items vs list i → Reads (read (view d)) said one → Joins items list one joined
      → ListSoFar read said items vs joined (i + 1)
  item_joined (Ok l) (Ok t) (Ok m) h at s e j = item_read read said vs (items l) i t h at s e j
  item_joined (Ok l) (Ok t) (Err f) h at s e j = λ n. absurd (n j)
  item_joined (Ok l) (Err e) (Ok m) h at s r j = absurd j
  item_joined (Ok l) (Err e) (Err f) h at s r j = λ n. item_faulty read said vs (items l) i h at s (r (j n))
  item_joined (Err e) one (Ok m) h at s r j = absurd j
  item_joined (Err e) one (Err f) h at s r j = λ n. s (j n)

  pub items_joined : (list : Result L Refused) → length vs ≤ i → ListSoFar read said items vs list i → Reads (each_item read (items_view vs)) (λ l. map said (items l)) list
  items_joined (Ok l) h s = items_read read said vs (items l) i h s
  items_joined (Err e) h s = s

-- ---- commands and groups

abbrev pub commands_before : List CommandSaid → CommandsSaid → CommandsSaid
commands_before [] rest = rest
commands_before (c ∷ cs) rest = commands c (commands_before cs rest)

abbrev pub groups_before : List GroupSaid → GroupsSaid → GroupsSaid
groups_before [] rest = rest
groups_before (g ∷ gs) rest = groups g (groups_before gs rest)

abbrev pub CommandsSoFar : List Value → List CommandSaid → ℕ → Type 0
CommandsSoFar vs cs i = each_command (items_view vs) ≡ option_map (commands_before cs) (each_command (items_view (drop i vs)))

abbrev pub GroupsSoFar : List Value → List GroupSaid → ℕ → Type 0
GroupsSoFar vs gs i = each_group (items_view vs) ≡ option_map (groups_before gs) (each_group (items_view (drop i vs)))

command_next : (cs : List CommandSaid) (c : CommandSaid) (rest : CommandsSaid) → commands_before (cs ++ c ∷ []) rest ≡ commands_before cs (commands c rest)
command_next [] c rest = refl
command_next (d ∷ cs) c rest = ap (commands d) (command_next cs c rest)

command_more : (cs : List CommandSaid) (c : CommandSaid) (o : Option CommandsSaid) → option_map (commands_before cs) (option_map (commands c) o) ≡ option_map (commands_before (cs ++ c ∷ [])) o
command_more cs c o = grind (arith, command_next)

group_next : (gs : List GroupSaid) (g : GroupSaid) (rest : GroupsSaid) → groups_before (gs ++ g ∷ []) rest ≡ groups_before gs (groups g rest)
group_next [] g rest = refl
group_next (h ∷ gs) g rest = ap (groups h) (group_next gs g rest)

group_more : (gs : List GroupSaid) (g : GroupSaid) (o : Option GroupsSaid) → option_map (groups_before gs) (option_map (groups g) o) ≡ option_map (groups_before (gs ++ g ∷ [])) o
group_more gs g o = grind (arith, group_next)

commands_all : (cs : List CommandSaid) → commands_before cs no_commands ≡ commands_in cs
commands_all [] = refl
commands_all (c ∷ cs) = ap (commands c) (commands_all cs)

groups_all : (gs : List GroupSaid) → groups_before gs no_groups ≡ groups_in gs
groups_all [] = refl
groups_all (g ∷ gs) = ap (groups g) (groups_all gs)

command_item : (vs : List Value) (cs : List CommandSaid) (i : ℕ) (d : Value) → i < length vs → CommandsSoFar vs cs i
    → each_command (items_view vs) ≡ option_map (commands_before cs) (option_and_then (λ c. option_map (commands c) (each_command (items_view (drop (i + 1) vs)))) (as_command (view (get_or vs i d))))
command_item vs cs i d h s = s ∙ ap (λ ds. option_map (commands_before cs) (each_command ds)) (items_view-drop vs i d h)

pub command_read : (vs : List Value) (cs ds : List CommandSaid) (c : CommandSaid) (i : ℕ) (d : Value) → i < length vs → CommandsSoFar vs cs i → as_command (view (get_or vs i d)) ≡ Some c → ds ≡ cs ++ c ∷ [] → CommandsSoFar vs ds (i + 1)
command_read vs cs ds c i d h s e g = grind (arith, command_item vs cs i d h s, command_more cs c (each_command (items_view (drop (i + 1) vs))))

pub command_faulty : (vs : List Value) (cs : List CommandSaid) (i : ℕ) (d : Value) → i < length vs → CommandsSoFar vs cs i → as_command (view (get_or vs i d)) ≡ None → each_command (items_view vs) ≡ None
command_faulty vs cs i d h s e = command_item vs cs i d h s ∙ rw e refl

pub commands_read : (vs : List Value) (cs : List CommandSaid) (i : ℕ) → CommandsSoFar vs cs i → drop i vs ≡ [] → each_command (items_view vs) ≡ Some (commands_in cs)
commands_read vs cs i s e = s ∙ ap (λ us. option_map (commands_before cs) (each_command (items_view us))) e ∙ ap Some (commands_all cs)

group_item : (vs : List Value) (gs : List GroupSaid) (i : ℕ) (d : Value) → i < length vs → GroupsSoFar vs gs i
    → each_group (items_view vs) ≡ option_map (groups_before gs) (option_and_then (λ g. option_map (groups g) (each_group (items_view (drop (i + 1) vs)))) (as_group (view (get_or vs i d))))
group_item vs gs i d h s = s ∙ ap (λ ds. option_map (groups_before gs) (each_group ds)) (items_view-drop vs i d h)

pub group_read : (vs : List Value) (gs hs : List GroupSaid) (g : GroupSaid) (i : ℕ) (d : Value) → i < length vs → GroupsSoFar vs gs i → as_group (view (get_or vs i d)) ≡ Some g → hs ≡ gs ++ g ∷ [] → GroupsSoFar vs hs (i + 1)
group_read vs gs hs g i d h s e same = grind (arith, group_item vs gs i d h s, group_more gs g (each_group (items_view (drop (i + 1) vs))))

pub group_faulty : (vs : List Value) (gs : List GroupSaid) (i : ℕ) (d : Value) → i < length vs → GroupsSoFar vs gs i → as_group (view (get_or vs i d)) ≡ None → each_group (items_view vs) ≡ None
group_faulty vs gs i d h s e = group_item vs gs i d h s ∙ rw e refl

pub groups_read : (vs : List Value) (gs : List GroupSaid) (i : ℕ) → GroupsSoFar vs gs i → drop i vs ≡ [] → each_group (items_view vs) ≡ Some (groups_in gs)
groups_read vs gs i s e = s ∙ ap (λ us. option_map (groups_before gs) (each_group (items_view us))) e ∙ ap Some (groups_all gs)

-- ---- loops over commands and groups that read on after one that is refused

abbrev pub CommandListSoFar : {L T : Type 0} → (T → CommandSaid) → (L → List T) → List Value → Result L Refused → ℕ → Type 0
CommandListSoFar said items vs (Ok list) i = CommandsSoFar vs (map said (items list)) i
CommandListSoFar said items vs (Err e) i = ¬ IsRefusal e → each_command (items_view vs) ≡ None

abbrev pub GroupListSoFar : {L T : Type 0} → (T → GroupSaid) → (L → List T) → List Value → Result L Refused → ℕ → Type 0
GroupListSoFar said items vs (Ok list) i = GroupsSoFar vs (map said (items list)) i
GroupListSoFar said items vs (Err e) i = ¬ IsRefusal e → each_group (items_view vs) ≡ None

module _ {L T : Type 0} (said : T → CommandSaid) (items : L → List T) (vs : List Value) (i : ℕ) where
  pub command_joined : (list : Result L Refused) (one : Result T Refused) (joined : Result L Refused) {d : Value} → i < length vs → d ≡ get_or vs i d → CommandListSoFar said items vs list i → Reads (as_command (view d)) said one → Joins items list one joined
      → CommandListSoFar said items vs joined (i + 1)
  command_joined (Ok l) (Ok t) (Ok m) {d} h at s e j = command_read vs (map said (items l)) (map said (items m)) (said t) i d h s (ap (λ v. as_command (view v)) (sym at) ∙ e) (ap (map said) j ∙ map-append said (items l) (t ∷ []))
  command_joined (Ok l) (Ok t) (Err f) h at s e j = λ n. absurd (n j)
  command_joined (Ok l) (Err e) (Ok m) h at s r j = absurd j
  command_joined (Ok l) (Err e) (Err f) {d} h at s r j = λ n. command_faulty vs (map said (items l)) i d h s (ap (λ v. as_command (view v)) (sym at) ∙ r (j n))
  command_joined (Err e) one (Ok m) h at s r j = absurd j
  command_joined (Err e) one (Err f) h at s r j = λ n. s (j n)

  pub commands_joined : (list : Result L Refused) → length vs ≤ i → CommandListSoFar said items vs list i → Reads (each_command (items_view vs)) (λ l. commands_in (map said (items l))) list
  commands_joined (Ok l) h s = commands_read vs (map said (items l)) i s (drop_all i vs h)
  commands_joined (Err e) h s = s

module _ {L T : Type 0} (said : T → GroupSaid) (items : L → List T) (vs : List Value) (i : ℕ) where
  pub group_joined : (list : Result L Refused) (one : Result T Refused) (joined : Result L Refused) {d : Value} → i < length vs → d ≡ get_or vs i d → GroupListSoFar said items vs list i → Reads (as_group (view d)) said one → Joins items list one joined
      → GroupListSoFar said items vs joined (i + 1)
  group_joined (Ok l) (Ok t) (Ok m) {d} h at s e j = group_read vs (map said (items l)) (map said (items m)) (said t) i d h s (ap (λ v. as_group (view v)) (sym at) ∙ e) (ap (map said) j ∙ map-append said (items l) (t ∷ []))
  group_joined (Ok l) (Ok t) (Err f) h at s e j = λ n. absurd (n j)
  group_joined (Ok l) (Err e) (Ok m) h at s r j = absurd j
  group_joined (Ok l) (Err e) (Err f) {d} h at s r j = λ n. group_faulty vs (map said (items l)) i d h s (ap (λ v. as_group (view v)) (sym at) ∙ r (j n))
  group_joined (Err e) one (Ok m) h at s r j = absurd j
  group_joined (Err e) one (Err f) h at s r j = λ n. s (j n)

  pub groups_joined : (list : Result L Refused) → length vs ≤ i → GroupListSoFar said items vs list i → Reads (each_group (items_view vs)) (λ l. groups_in (map said (items l))) list
  groups_joined (Ok l) h s = groups_read vs (map said (items l)) i s (drop_all i vs h)
  groups_joined (Err e) h s = s
