-- What a level, a group and a command have, put one after another.
use Rattle.std.proofs.Common.{◌≡◌, ℕ, ◌+◌, ◌<◌, ◌≤◌, true, false, cond, List, [], ◌∷◌, ◌++◌, drop, get_or, length, map, sym, ap, ◌∙◌}
use Rattle.std.proofs.lemmas.List.{drop_all, drop_more}
use Rattle.std.specs.Prelude.{codes}
use Rattle.description.specs.View.{choice_said, command_said, commands_said, groups_said, group_said, level_said, opt_said, positional_said}
use Rattle.description.specs.declared.levels.Command.{Command, out-Command}
use Rattle.description.specs.declared.levels.Group.{Group, out-Group}
use Rattle.description.specs.declared.levels.Level.{Level, out-Level}
use Rattle.description.specs.declared.options.Choice.{Choice}
use Rattle.description.specs.declared.options.Opt.{Opt}
use Rattle.description.specs.declared.positionals.Positional.{Positional}
use Rattle.description.proofs.Views.{command_layer, level_layer, open-Command, open-Group, open-Level}
use Rattle.completions.specs.Content.{EntrySaid}
use Rattle.completions.specs.Table.{choices_entries, command_entries, command_head_entries, commands_entries, group_entries, groups_entries, level_entries, lone, mark, members_entries, options_entries, places_entries, shown_option, unsaid_places, what_after}
use Rattle.completions.specs.Written.{Writes, data_text}
use Rattle.completions.specs.declared.shells.Shell.{Shell}
use Rattle.completions.proofs.Writing.{put_next, put_none, writes_as, writes_none, writes_then}

-- ---- options, choices and positional values, and commands after them

abbrev option_rows : List Opt → List EntrySaid
option_rows os = options_entries (map opt_said os)

abbrev choice_rows : {A : Type 0} → List (Choice A) → List EntrySaid
choice_rows cs = choices_entries (map choice_said cs)

abbrev place_rows : List Positional → List EntrySaid
place_rows ps = places_entries (map positional_said ps)

-- after what stands in front
put_members : {A : Type 0} (sh : Shell) (front : List EntrySaid) (os us : List Opt) (cs ds : List (Choice A)) (ps qs : List Positional) (more : List EntrySaid) (s0 s1 s2 s3 s4 s5 : List ℕ) → os ≡ us → cs ≡ ds → ps ≡ qs
    → Writes sh s0 s1 front → Writes sh s1 s2 (option_rows os) → Writes sh s2 s3 (choice_rows cs) → Writes sh s3 s4 (place_rows ps) → Writes sh s4 s5 more → Writes sh s0 s5 (front ++ option_rows us ++ choice_rows ds ++ place_rows qs ++ more)
put_members sh front os us cs ds ps qs more s0 s1 s2 s3 s4 s5 io ic ip h1 h2 h3 h4 h5 =
    let w2 = writes_then sh s0 s1 s2 front (option_rows us) h1 (h2 ∙ ap (λ xs. s1 ++ data_text sh (option_rows xs)) io) in
    let w3 = writes_then sh s0 s2 s3 (front ++ option_rows us) (choice_rows ds) w2 (h3 ∙ ap (λ xs. s2 ++ data_text sh (choice_rows xs)) ic) in
    let w4 = writes_then sh s0 s3 s4 (front ++ option_rows us ++ choice_rows ds) (place_rows qs) w3 (h4 ∙ ap (λ xs. s3 ++ data_text sh (place_rows xs)) ip) in
    writes_then sh s0 s4 s5 (front ++ option_rows us ++ choice_rows ds ++ place_rows qs) more w4 h5

-- ---- a group, a level and a command

pub group_put : {A : Type 0} (sh : Shell) (g : Group A) (os : List Opt) (cs : List (Choice A)) (ps : List Positional) (s1 s2 s3 s4 s5 : List ℕ) → os ≡ (out-Group A g).options.items → cs ≡ (out-Group A g).choices.items → ps ≡ (out-Group A g).positionals.items
    → Writes sh s1 s2 (options_entries (map opt_said os)) → Writes sh s2 s3 (choices_entries (map choice_said cs)) → Writes sh s3 s4 (places_entries (map positional_said ps)) → Writes sh s4 s5 (commands_entries (commands_said (out-Group A g).commands.items))
    → Writes sh s1 s5 (group_entries (group_said g))
group_put {A} sh g os cs ps s1 s2 s3 s4 s5 io ic ip h2 h3 h4 h5 =
    let inside = out-Group A g in
    put_members sh [] os inside.options.items cs inside.choices.items ps inside.positionals.items (commands_entries (commands_said inside.commands.items)) s1 s1 s2 s3 s4 s5 io ic ip (writes_none sh s1) h2 h3 h4 h5
    ∙ sym (ap (λ said. s1 ++ data_text sh (group_entries said)) (open-Group g))

pub level_put : {A : Type 0} (sh : Shell) (l : Level A) (os : List Opt) (cs : List (Choice A)) (ps : List Positional) (s0 s1 s2 s3 s4 s5 s6 : List ℕ) → os ≡ (out-Level A l).options.items → cs ≡ (out-Level A l).choices.items → ps ≡ (out-Level A l).positionals.items
    → Writes sh s0 s1 (groups_entries (groups_said (out-Level A l).groups.items)) → Writes sh s1 s2 (options_entries (map opt_said os)) → Writes sh s2 s3 (choices_entries (map choice_said cs)) → Writes sh s3 s4 (places_entries (map positional_said ps))
    → Writes sh s4 s5 (unsaid_places (level_said l)) → Writes sh s5 s6 (commands_entries (commands_said (out-Level A l).commands.items)) → Writes sh s0 s6 (level_entries (level_said l))
level_put {A} sh l os cs ps s0 s1 s2 s3 s4 s5 s6 io ic ip h1 h2 h3 h4 h5 h6 =
    let inside = out-Level A l in
    let front = groups_entries (groups_said inside.groups.items) in
    let unsaid = unsaid_places (level_layer inside) in
    let opened = h5 ∙ ap (λ said. s4 ++ data_text sh (unsaid_places said)) (open-Level l) in
    let w5 = put_members sh front os inside.options.items cs inside.choices.items ps inside.positionals.items unsaid s0 s1 s2 s3 s4 s5 io ic ip h1 h2 h3 h4 opened in
    writes_then sh s0 s5 s6 (front ++ option_rows inside.options.items ++ choice_rows inside.choices.items ++ place_rows inside.positionals.items ++ unsaid) (commands_entries (commands_said inside.commands.items)) w5 h6
    ∙ sym (ap (λ said. s0 ++ data_text sh (level_entries said)) (open-Level l))

module _ {A : Type 0} (m : Command A) where
  abbrev after_head : List EntrySaid → List EntrySaid
  after_head head = head ++ level_entries (level_said (out-Command A m).level) ++ mark (codes "end") ∷ []

  command_shown : (out-Command A m).hidden ≡ false → command_entries (command_said m) ≡ after_head (command_head_entries (command_said m))
  command_shown h =
      ap command_entries (open-Command m)
      ∙ ap (λ t. cond t [] (after_head (command_head_entries (command_layer (out-Command A m))))) h
      ∙ sym (ap (λ said. after_head (command_head_entries said)) (open-Command m))

  pub command_hidden : (out-Command A m).hidden ≡ true → command_entries (command_said m) ≡ []
  command_hidden h = ap command_entries (open-Command m) ∙ ap (λ t. cond t [] (after_head (command_head_entries (command_layer (out-Command A m))))) h

  pub command_put : (sh : Shell) (end : EntrySaid) (s0 s1 s2 s3 : List ℕ) → (out-Command A m).hidden ≡ false → end ≡ mark (codes "end") → Writes sh s0 s1 (command_head_entries (command_said m)) → Writes sh s1 s2 (level_entries (level_said (out-Command A m).level))
      → Writes sh s2 s3 (end ∷ []) → Writes sh s0 s3 (command_entries (command_said m))
  command_put sh end s0 s1 s2 s3 h is h1 h2 h3 =
      let head = command_head_entries (command_said m) in
      let inside = level_entries (level_said (out-Command A m).level) in
      writes_then sh s0 s2 s3 (head ++ inside) (mark (codes "end") ∷ []) (writes_then sh s0 s1 s2 head inside h1 h2) (writes_as sh s2 s3 end (mark (codes "end")) is h3)
      ∙ sym (ap (λ es. s0 ++ data_text sh es) (command_shown h))

-- ---- the whole table

pub table_put : (sh : Shell) (name : List ℕ) (helps inside : List EntrySaid) (program top end : EntrySaid) (s0 s1 s2 s3 s4 s5 : List ℕ) → program ≡ lone (codes "program") name → top ≡ mark (codes "level") → end ≡ mark (codes "end")
    → Writes sh s0 s1 (program ∷ []) → Writes sh s1 s2 helps → Writes sh s2 s3 (top ∷ []) → Writes sh s3 s4 inside → Writes sh s4 s5 (end ∷ [])
    → Writes sh s0 s5 (lone (codes "program") name ∷ helps ++ mark (codes "level") ∷ inside ++ mark (codes "end") ∷ [])
table_put sh name helps inside program top end s0 s1 s2 s3 s4 s5 is1 is2 is3 h1 h2 h3 h4 h5 =
    let first = lone (codes "program") name in
    let w2 = writes_then sh s0 s1 s2 (first ∷ []) helps (writes_as sh s0 s1 program first is1 h1) h2 in
    let w4 = writes_then sh s2 s3 s4 (mark (codes "level") ∷ []) inside (writes_as sh s2 s3 top (mark (codes "level")) is2 h3) h4 in
    writes_then sh s0 s4 s5 ((first ∷ helps) ++ (mark (codes "level") ∷ inside)) (mark (codes "end") ∷ []) (writes_then sh s0 s2 s4 (first ∷ helps) (mark (codes "level") ∷ inside) w2 w4) (writes_as sh s4 s5 end (mark (codes "end")) is3 h5)

-- ---- one of a list after those before it

module _ {A : Type 0} (sh : Shell) (items : List (Group A)) (i : ℕ) where
  abbrev in_groups : List (Group A) → List EntrySaid
  in_groups gs = groups_entries (groups_said gs)

  pub next_group : (x : Group A) (out new whole : List ℕ) → i < length items → x ≡ get_or items i x → Writes sh out new (group_entries (group_said x)) → out ++ data_text sh (groups_entries (groups_said (drop i items))) ≡ whole
      → new ++ data_text sh (groups_entries (groups_said (drop (i + 1) items))) ≡ whole
  next_group x out new whole within is w so_far =
      let there : drop i items ≡ x ∷ drop (i + 1) items = drop_more items i x within ∙ ap (λ y. y ∷ drop (i + 1) items) (sym is) in
      put_next sh out new whole (in_groups (drop i items)) (group_entries (group_said x)) (in_groups (drop (i + 1) items)) (ap in_groups there) w so_far

  pub last_group : (out whole : List ℕ) → length items ≤ i → out ++ data_text sh (groups_entries (groups_said (drop i items))) ≡ whole → out ≡ whole
  last_group out whole past so_far = put_none sh out whole (in_groups (drop i items)) (ap in_groups (drop_all i items past)) so_far

module _ {A : Type 0} (sh : Shell) (items : List (Command A)) (i : ℕ) where
  abbrev in_commands : List (Command A) → List EntrySaid
  in_commands cs = commands_entries (commands_said cs)

  pub next_command : (x : Command A) (out new whole : List ℕ) → i < length items → x ≡ get_or items i x → Writes sh out new (command_entries (command_said x)) → out ++ data_text sh (commands_entries (commands_said (drop i items))) ≡ whole
      → new ++ data_text sh (commands_entries (commands_said (drop (i + 1) items))) ≡ whole
  next_command x out new whole within is w so_far =
      let there : drop i items ≡ x ∷ drop (i + 1) items = drop_more items i x within ∙ ap (λ y. y ∷ drop (i + 1) items) (sym is) in
      put_next sh out new whole (in_commands (drop i items)) (command_entries (command_said x)) (in_commands (drop (i + 1) items)) (ap in_commands there) w so_far

  pub last_command : (out whole : List ℕ) → length items ≤ i → out ++ data_text sh (commands_entries (commands_said (drop i items))) ≡ whole → out ≡ whole
  last_command out whole past so_far = put_none sh out whole (in_commands (drop i items)) (ap in_commands (drop_all i items past)) so_far

-- the options of a choice, each in its place
module _ (sh : Shell) (options : List Opt) (i : ℕ) where
  abbrev members : (what : List ℕ) → List Opt → List EntrySaid
  members what os = members_entries what (map opt_said os)

  pub next_member : (d : Opt) (what later out new whole : List ℕ) → i < length options → later ≡ what_after what (opt_said (get_or options i d)) → Writes sh out new (shown_option what (opt_said (get_or options i d)))
      → out ++ data_text sh (members_entries what (map opt_said (drop i options))) ≡ whole → new ++ data_text sh (members_entries later (map opt_said (drop (i + 1) options))) ≡ whole
  next_member d what later out new whole within after w so_far =
      let rest : List Opt = drop (i + 1) options in
      let shown : List EntrySaid = shown_option what (opt_said (get_or options i d)) in
      put_next sh out new whole (members what (drop i options)) shown (members later rest) (ap (members what) (drop_more options i d within) ∙ ap (λ t. shown ++ members t rest) (sym after)) w so_far

  pub last_member : (what out whole : List ℕ) → length options ≤ i → out ++ data_text sh (members_entries what (map opt_said (drop i options))) ≡ whole → out ≡ whole
  last_member what out whole past so_far = put_none sh out whole (members what (drop i options)) (ap (members what) (drop_all i options past)) so_far
