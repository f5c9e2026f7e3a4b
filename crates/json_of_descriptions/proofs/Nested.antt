-- What a level, a group and a command have, one after another.
use Rattle.std.proofs.Common.{◌≡◌, true, List, [], ◌∷◌, ◌++◌, map, refl, sym, ap, subst}
use Rattle.std.specs.Prelude.{codes}
use Rattle.description.specs.Content.{GroupSaid, CommandSaid}
use Rattle.description.specs.View.{choice_said, command_said, commands_in, group_said, groups_in, level_said, opt_said, positional_said, topic_said}
use Rattle.description.specs.declared.levels.Command.{Command, out-Command}
use Rattle.description.specs.declared.levels.Group.{Group, out-Group}
use Rattle.description.specs.declared.levels.Level.{Level, out-Level}
use Rattle.description.proofs.Views.{command_layer, level_layer, open-Command, open-Group, open-Level}
use Rattle.json.specs.Token.{Token, begin_object, end_object}
use Rattle.json_of_descriptions.specs.Descriptions.{choices_at, command_json, commands_json, group_json, groups_json, level_fields, names_of_command, options_at, positionals_at, texts_of_level, topics_at}
use Rattle.json_of_descriptions.specs.Fields.{flag_unless, list_at, text_at}
use Rattle.json_of_descriptions.specs.Steps.{PutsFields, PutsValues}
use Rattle.json_of_descriptions.proofs.Putting.{fields_then, object_put}

groups_are : (gs : List GroupSaid) → map group_json gs ≡ groups_json (groups_in gs)
groups_are [] = refl
groups_are (g ∷ gs) = ap (λ js. group_json g ∷ js) (groups_are gs)

commands_are : (cs : List CommandSaid) → map command_json cs ≡ commands_json (commands_in cs)
commands_are [] = refl
commands_are (c ∷ cs) = ap (λ js. command_json c ∷ js) (commands_are cs)

groups_put : (a b : List Token) (gs : List GroupSaid) → PutsFields a b (list_at (codes "group") (map group_json gs)) → PutsFields a b (list_at (codes "group") (groups_json (groups_in gs)))
groups_put a b gs w = subst (λ js. PutsFields a b (list_at (codes "group") js)) (groups_are gs) w

commands_put : (a b : List Token) (cs : List CommandSaid) → PutsFields a b (list_at (codes "command") (map command_json cs)) → PutsFields a b (list_at (codes "command") (commands_json (commands_in cs)))
commands_put a b cs w = subst (λ js. PutsFields a b (list_at (codes "command") js)) (commands_are cs) w

module _ {A : Type 0} (l : Level A) where
  pub level_put : (s0 s1 s2 s3 s4 s5 s6 s7 s8 : List Token)
      → PutsFields s0 s1 (texts_of_level (level_said l))
      → PutsFields s1 s2 (flag_unless true (codes "command_required") (out-Level A l).command_required)
      → PutsFields s2 s3 (options_at (codes "option") (map opt_said (out-Level A l).options.items))
      → PutsFields s3 s4 (choices_at (codes "choice") (map choice_said (out-Level A l).choices.items))
      → PutsFields s4 s5 (list_at (codes "group") (map group_json (map group_said (out-Level A l).groups.items)))
      → PutsFields s5 s6 (positionals_at (codes "positional") (map positional_said (out-Level A l).positionals.items))
      → PutsFields s6 s7 (list_at (codes "command") (map command_json (map command_said (out-Level A l).commands.items)))
      → PutsFields s7 s8 (topics_at (codes "topic") (map topic_said (out-Level A l).topics.items))
      → PutsFields s0 s8 (level_fields (level_said l))
  level_put s0 s1 s2 s3 s4 s5 s6 s7 s8 h1 h2 h3 h4 h5 h6 h7 h8 =
      let texts : PutsFields s0 s1 (texts_of_level (level_layer (out-Level A l))) = subst (λ said. PutsFields s0 s1 (texts_of_level said)) (open-Level l) h1 in
      let w7 = fields_then (commands_put s6 s7 (map command_said (out-Level A l).commands.items) h7) h8 in
      let w6 = fields_then h6 w7 in
      let w5 = fields_then (groups_put s4 s5 (map group_said (out-Level A l).groups.items) h5) w6 in
      let w4 = fields_then h4 w5 in
      let w3 = fields_then h3 w4 in
      let w2 = fields_then h2 w3 in
      let w1 = fields_then texts w2 in
      subst (λ said. PutsFields s0 s8 (level_fields said)) (sym (open-Level l)) w1

pub group_put : {A : Type 0} (g : Group A) (s0 s1 s2 s3 s4 s5 s6 s7 : List Token)
    → s1 ≡ s0 ++ begin_object ∷ []
    → PutsFields s1 s2 (text_at (codes "title") (out-Group A g).title.now)
    → PutsFields s2 s3 (options_at (codes "option") (map opt_said (out-Group A g).options.items))
    → PutsFields s3 s4 (choices_at (codes "choice") (map choice_said (out-Group A g).choices.items))
    → PutsFields s4 s5 (positionals_at (codes "positional") (map positional_said (out-Group A g).positionals.items))
    → PutsFields s5 s6 (list_at (codes "command") (map command_json (map command_said (out-Group A g).commands.items)))
    → s7 ≡ s6 ++ end_object ∷ []
    → PutsValues s0 s7 (group_json (group_said g) ∷ [])
group_put {A} g s0 s1 s2 s3 s4 s5 s6 s7 b h1 h2 h3 h4 h5 e =
    let w4 = fields_then h4 (commands_put s5 s6 (map command_said (out-Group A g).commands.items) h5) in
    let w3 = fields_then h3 w4 in
    let w2 = fields_then h2 w3 in
    let w1 = fields_then h1 w2 in
    subst (λ said. PutsValues s0 s7 (group_json said ∷ [])) (sym (open-Group g)) (object_put b w1 e)

pub command_put : {A : Type 0} (m : Command A) (s0 s1 s2 s3 s4 : List Token)
    → s1 ≡ s0 ++ begin_object ∷ []
    → PutsFields s1 s2 (names_of_command (command_said m))
    → PutsFields s2 s3 (level_fields (level_said (out-Command A m).level))
    → s4 ≡ s3 ++ end_object ∷ []
    → PutsValues s0 s4 (command_json (command_said m) ∷ [])
command_put {A} m s0 s1 s2 s3 s4 b h1 h2 e =
    let names : PutsFields s1 s2 (names_of_command (command_layer (out-Command A m))) = subst (λ said. PutsFields s1 s2 (names_of_command said)) (open-Command m) h1 in
    let w1 = fields_then names h2 in
    subst (λ said. PutsValues s0 s4 (command_json said ∷ [])) (sym (open-Command m)) (object_put b w1 e)
