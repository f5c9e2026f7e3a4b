-- What is seen of a level, of its groups and of its commands.
use Rattle.std.proofs.Common.{◌≡◌, ℕ, ◌+◌, ◌<◌, Bool, true, false, not, ◌||◌, List, [], ◌∷◌, ◌++◌, flat_map, map, take, length, get_or, refl, sym, ap, ◌∙◌, append-nil, append_assoc, Result, Ok, Err, OnOk}
use Rattle.std.specs.List.{list_any}
use Rattle.std.proofs.lemmas.List.{map-append, take_more}
use Rattle.std.proofs.lemmas.List.Concat.{flat_map-append}
use Rattle.std.proofs.lemmas.List.Elements.{filter-append}
use Rattle.std.proofs.lemmas.List.Folds.{list_any-append, list_any_at}
use Rattle.page_model.specs.Content.{Line}
use Rattle.description.specs.Content.{PositionalSaid, GroupSaid, CommandSaid}
use Rattle.description.specs.View.{opt_said, choice_said, positional_said, group_said, command_said, level_said, groups_in, commands_in}
use Rattle.description.specs.declared.options.Choice.{Choice}
use Rattle.description.specs.declared.options.Opt.{Opt}
use Rattle.description.specs.declared.levels.Level.{Level, out-Level}
use Rattle.description.specs.declared.levels.Group.{Group, out-Group}
use Rattle.description.specs.declared.levels.Command.{Command, out-Command}
use Rattle.description.proofs.Views.{open-Level, open-Group, open-Command}
use Rattle.description_usage.specs.Usage.{choice_items, command_list, group_items, group_list, group_positionals, group_shows_command, is_shown_command, level_positionals, level_shows_command, named_items, option_items, shown_positionals}

-- ---- an item that passes a test

module _ {X S : Type 0} (see : X → S) (xs : List X) (i : ℕ) (x : X) (at : x ≡ get_or xs i x) (within : i < length xs) where
  pub next : map see (take (i + 1) xs) ≡ map see (take i xs) ++ see x ∷ []
  next = ap (map see) (take_more xs i x within) ∙ map-append see (take i xs) (get_or xs i x ∷ []) ∙ ap (λ y. map see (take i xs) ++ see y ∷ []) (sym at)

  pub none_yet : (test : S → Bool) → test (see x) ≡ false → list_any test (map see (take i xs)) ≡ false → list_any test (map see (take (i + 1) xs)) ≡ false
  none_yet test fails none = ap (list_any test) next ∙ list_any-append test (map see (take i xs)) (see x ∷ []) ∙ ap (λ b. b || (test (see x) || false)) none ∙ ap (λ b. b || false) fails

pub any_seen : {X S : Type 0} (test : S → Bool) (see : X → S) (xs : List X) → list_any test (map see xs) ≡ list_any (λ x. test (see x)) xs
any_seen test see [] = refl
any_seen test see (x ∷ xs) = ap (λ b. test (see x) || b) (any_seen test see xs)

-- an item of a list that passes
pub one_passes : {X S : Type 0} (see : X → S) (test : S → Bool) (xs : List X) (i : ℕ) (x : X) → x ≡ get_or xs i x → i < length xs → test (see x) ≡ true → list_any test (map see xs) ≡ true
one_passes see test xs i x at within passes = any_seen test see xs ∙ list_any_at (λ y. test (see y)) xs i x within (ap (λ y. test (see y)) (sym at) ∙ passes)

-- ---- lists of groups and of commands

pub listed_groups : (gs : List GroupSaid) → group_list (groups_in gs) ≡ gs
listed_groups [] = refl
listed_groups (g ∷ gs) = ap (λ hs. g ∷ hs) (listed_groups gs)

pub listed_commands : (cs : List CommandSaid) → command_list (commands_in cs) ≡ cs
listed_commands [] = refl
listed_commands (c ∷ cs) = ap (λ ds. c ∷ ds) (listed_commands cs)

pub shown_there : {A : Type 0} (c : Command A) → is_shown_command (command_said c) ≡ not (out-Command A c).hidden
shown_there c = ap is_shown_command (open-Command c)

pub group_commands_there : {A : Type 0} (g : Group A) → group_shows_command (group_said g) ≡ list_any is_shown_command (map command_said (out-Group A g).commands.items)
group_commands_there {A} g = ap group_shows_command (open-Group g) ∙ ap (list_any is_shown_command) (listed_commands (map command_said (out-Group A g).commands.items))

pub group_positionals_there : {A : Type 0} (g : Group A) → group_positionals (group_said g) ≡ map positional_said (out-Group A g).positionals.items
group_positionals_there g = ap group_positionals (open-Group g)

module _ {A : Type 0} (l : Level A) where
  abbrev pub level_groups : List GroupSaid
  level_groups = map group_said (out-Level A l).groups.items

  abbrev pub own_items : List Line
  own_items = flat_map option_items (map opt_said (out-Level A l).options.items) ++ flat_map choice_items (map choice_said (out-Level A l).choices.items)

  pub named_there : named_items (level_said l) ≡ own_items ++ flat_map group_items level_groups
  named_there = ap named_items (open-Level l) ∙ ap (λ gs. own_items ++ flat_map group_items gs) (listed_groups level_groups)

  pub positionals_there : level_positionals (level_said l) ≡ flat_map group_positionals level_groups ++ map positional_said (out-Level A l).positionals.items
  positionals_there = ap level_positionals (open-Level l) ∙ ap (λ gs. flat_map group_positionals gs ++ map positional_said (out-Level A l).positionals.items) (listed_groups level_groups)

  pub commands_there : level_shows_command (level_said l) ≡ (list_any is_shown_command (map command_said (out-Level A l).commands.items) || list_any group_shows_command level_groups)
  commands_there =
      ap level_shows_command (open-Level l) ∙ ap (λ cs. list_any is_shown_command cs || list_any group_shows_command (group_list (groups_in level_groups))) (listed_commands (map command_said (out-Level A l).commands.items))
      ∙ ap (λ gs. list_any is_shown_command (map command_said (out-Level A l).commands.items) || list_any group_shows_command gs) (listed_groups level_groups)

-- options, choices and groups that are put one after another
pub named_put : {A : Type 0} (l : Level A) (old first second third : List Line) (os : List Opt) (cs : List (Choice A)) (gs : List (Group A)) → os ≡ (out-Level A l).options.items → cs ≡ (out-Level A l).choices.items → gs ≡ (out-Level A l).groups.items
    → first ≡ old ++ flat_map option_items (map opt_said os) → second ≡ first ++ flat_map choice_items (map choice_said cs) → third ≡ second ++ flat_map group_items (map group_said gs) → third ≡ old ++ named_items (level_said l)
named_put l old first second third os cs gs at_options at_choices at_groups one two three =
    let items = flat_map option_items (map opt_said os) in
    let more = flat_map choice_items (map choice_said cs) in
    let below = flat_map group_items (map group_said gs) in
    let whole : (items ++ more) ++ below ≡ named_items (level_said l) =
    ap (λ ps. (flat_map option_items (map opt_said ps) ++ more) ++ below) at_options ∙ ap (λ ps. (flat_map option_items (map opt_said (out-Level _ l).options.items) ++ flat_map choice_items (map choice_said ps)) ++ below) at_choices
    ∙ ap (λ ps. own_items l ++ flat_map group_items (map group_said ps)) at_groups ∙ sym (named_there l)
    in
    three ∙ ap (λ ps. ps ++ below) (two ∙ ap (λ ps. ps ++ more) one ∙ append_assoc old items more) ∙ append_assoc old (items ++ more) below ∙ ap (λ ps. old ++ ps) whole

-- ---- one group more

-- the positional values of one more group
pub group_more : {A : Type 0} (groups : List (Group A)) (i : ℕ) (g : Group A) (old before after : List PositionalSaid) → g ≡ get_or groups i g → i < length groups
    → after ≡ before ++ shown_positionals (map positional_said (out-Group A g).positionals.items) → before ≡ old ++ shown_positionals (flat_map group_positionals (map group_said (take i groups)))
    → after ≡ old ++ shown_positionals (flat_map group_positionals (map group_said (take (i + 1) groups)))
group_more {A} groups i g old before after at within put so_far =
    let front = flat_map group_positionals (map group_said (take i groups)) in
    let own = map positional_said (out-Group A g).positionals.items in
    let more : flat_map group_positionals (map group_said (take (i + 1) groups)) ≡ front ++ own =
    ap (flat_map group_positionals) (next group_said groups i g at within) ∙ flat_map-append group_positionals (map group_said (take i groups)) (group_said g ∷ []) ∙ ap (λ ps. front ++ ps) (append-nil (group_positionals (group_said g)) ∙ group_positionals_there g)
    in
    put ∙ ap (λ ps. ps ++ shown_positionals own) so_far ∙ append_assoc old (shown_positionals front) (shown_positionals own) ∙ ap (λ ps. old ++ ps) (sym (filter-append (λ p. not p.hidden) front own)) ∙ sym (ap (λ ps. old ++ shown_positionals ps) more)

pub ok_more : {T E : Type 0} (r : Result T E) (P Q : Type 0) → (P → Q) → OnOk r P → OnOk r Q
ok_more (Ok x) P Q f h = f h
ok_more (Err e) P Q f h = tt
