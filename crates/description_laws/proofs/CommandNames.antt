-- In a description that a TOML text gives, no two commands of a level have one name, and each name is that of a
-- command.
use Rattle.std.proofs.Common.{◌≡◌, ℕ, true, false, not, ◌&&◌, List, [], ◌∷◌, ◌++◌, bytes_eq, codes, flat_map, Option, Some, None, option_and_then, option_to_list, refl, sym, ap, ap₂, ◌∙◌, subst, ⊎_elim, append-nil, arith}
use Rattle.std.specs.List.{list_all, list_any}
use Rattle.std.proofs.lemmas.Bool.{and_parts, true≢false}
use Rattle.std.proofs.lemmas.Grind.{flat_map-append}
use Rattle.toml.specs.Data.{Data, Members, as_str, get_member}
use Rattle.html_page.proofs.Among.{Among, among_either, among_left, among_right}
use Rattle.html_page.proofs.Apart.{Distinct, distinct_append, test_among}
use Rattle.description.specs.Content.{GroupsSaid, GroupSaid, CommandsSaid, CommandSaid, DescriptionSaid}
use Rattle.description_toml.specs.Described.{choice_from, command_head, command_keys, command_of, CommandHead, commands_at, described, description_head, description_of, DescriptionHead, fixed_in, group_head, group_of, GroupHead, groups_at, help_option_keys, level_of, option_from, option_keys, Outline, outline_from, positional_from, topic_from}
use Rattle.description_toml.specs.Described.Taken.{are_distinct, command_words, distinct, has_distinct_names, level_commands, level_options, option_names, tables_under, text_under, texts_under}
use Rattle.description_toml.specs.Described.Texts.{as_command_name, as_text, begins, if_passes, is_command_name, is_dash, is_long, is_name, is_read_once}
use Rattle.description_toml.specs.Described.Values.{as_short, each_table, flag_at, has_only, optional_at, required_at, value_or, words_at}
use Rattle.description_toml.proofs.Gives.{Gives, Whatever, given, gives_if, gives_map, gives_required, gives_text, gives_then, gives_whatever}
use Rattle.description_laws.proofs.Paths.{distinct_apart, distinct_left, distinct_right}
use Rattle.description_laws.proofs.Readers.{Holding, commands_hold, groups_hold}
use Rattle.description_laws.proofs.Told.{CommandTells, CommandsTell, GroupTells, GroupsTell, TellsApart, group_own, groups_own, names_in, own_name}

-- ---- distinct lists

-- each element of some is among others
abbrev Within : {X : Type 0} → (xs ys : List X) → Type 0
Within {X} xs ys = (x : X) → Among xs x → Among ys x

-- a part of what each of some gives
within_flat : {X Y : Type 0} (f g : X → List Y) → ((x : X) → Within (g x) (f x)) → (xs : List X) → Within (flat_map g xs) (flat_map f xs)
within_flat f g part [] y a = a
within_flat f g part (x ∷ xs) y a =
    ⊎_elim (λ b. among_left (f x) (flat_map f xs) y (part x y b)) (λ b. among_right (f x) (flat_map f xs) y (within_flat f g part xs y b)) (among_either (g x) (flat_map g xs) y a)

distinct_swap : {X : Type 0} (xs ys : List X) → Distinct (xs ++ ys) → Distinct (ys ++ xs)
distinct_swap xs ys h = distinct_append ys xs (distinct_right xs ys h) (distinct_left xs ys h) (λ y a b. distinct_apart xs ys h y b a)

distinct_flat : {X Y : Type 0} (f g : X → List Y) → ((x : X) → Within (g x) (f x)) → ((x : X) → Distinct (g x)) → (xs : List X) → Distinct (flat_map f xs) → Distinct (flat_map g xs)
distinct_flat f g part own [] h = tt
distinct_flat f g part own (x ∷ xs) h =
    distinct_append (g x) (flat_map g xs) (own x) (distinct_flat f g part own xs (distinct_right (f x) (flat_map f xs) h))
    (λ y a b. distinct_apart (f x) (flat_map f xs) h y (part x y a) (within_flat f g part xs y b))

distinct_test : (xs : List (List ℕ)) → are_distinct xs ≡ true → Distinct xs
distinct_test [] h = tt
distinct_test (x ∷ xs) h =
    let parts = and_parts (not (list_any (bytes_eq x) xs)) (are_distinct xs) h in
    (λ a. true≢false (sym parts.0 ∙ ap not (test_among x xs a)), distinct_test xs parts.1)

-- ---- names

abbrev pub IsName : List ℕ → Type 0
IsName text = is_name text ≡ true

command_name : (text : List ℕ) → is_command_name text ≡ true → IsName text
command_name text h = let both = and_parts (is_long text) (list_all is_read_once text) h in let parts = and_parts (is_name text) (not (begins is_dash text)) both.0 in parts.0

-- the name of a command's table, and those of the commands in a table
abbrev own : Members → List (List ℕ)
own ms = option_to_list (text_under (codes "name") ms)

abbrev names_under : Members → List (List ℕ)
names_under ms = flat_map own (tables_under (codes "command") ms)

flat_twice : {X Y Z : Type 0} (f : X → List Y) (g : Y → List Z) (xs : List X) → flat_map g (flat_map f xs) ≡ flat_map (λ x. flat_map g (f x)) xs
flat_twice f g [] = refl
flat_twice f g (x ∷ xs) = flat_map-append g (f x) (flat_map f xs) ∙ ap (λ zs. flat_map g (f x) ++ zs) (flat_twice f g xs)

first_kept : (o : Option (List ℕ)) (xs ys : List (List ℕ)) → Within (option_to_list o) (distinct ((option_to_list o ++ xs) ++ ys))
first_kept o xs ys h3 h4 = grind arith

one_alone : (o : Option (List ℕ)) → Distinct (option_to_list o)
one_alone o = grind arith

-- the names of all commands of a level, those of its groups first
names_distinct : (ms : Members) → has_distinct_names ms ≡ true → Distinct (flat_map names_under (tables_under (codes "group") ms) ++ names_under ms)
names_distinct ms h =
    let direct : List Members = tables_under (codes "command") ms in
    let inner : List Members = flat_map (tables_under (codes "command")) (tables_under (codes "group") ms) in
    let rest = and_parts (are_distinct (flat_map (option_names false) (level_options ms))) (are_distinct (flat_map (option_names true) (level_options ms)) && are_distinct (flat_map command_words (level_commands ms))) h in
    let words = and_parts (are_distinct (flat_map (option_names true) (level_options ms))) (are_distinct (flat_map command_words (level_commands ms))) rest.1 in
    let names : Distinct (flat_map own (direct ++ inner)) =
    distinct_flat command_words own (λ t. first_kept (text_under (codes "name") t) (option_to_list (text_under (codes "short") t)) (texts_under (codes "aliases") t)) (λ t. one_alone (text_under (codes "name") t))
    (direct ++ inner) (distinct_test (flat_map command_words (level_commands ms)) words.1) in
    distinct_swap (names_under ms) (flat_map names_under (tables_under (codes "group") ms))
    (subst Distinct (flat_map-append own direct inner ∙ ap (λ ns. names_under ms ++ ns) (flat_twice (tables_under (codes "command")) own (tables_under (codes "group") ms))) names)

-- ---- heads

-- where a text passes as a name it is that name
name_passes : (o : Option (List ℕ)) → Gives (λ name. IsName name × (option_to_list o ≡ name ∷ [])) (option_and_then (if_passes is_command_name) o)
name_passes o = grind (arith, command_name)

name_there : (o : Option Data) → Gives (λ name. IsName name × (option_to_list (option_and_then as_str o) ≡ name ∷ [])) (value_or None as_command_name o)
name_there o = grind (arith, name_passes)

outline_there : (ms : Members) → Gives (λ (o : Outline). has_distinct_names ms ≡ true) (outline_from ms)
unfolding outline_from
outline_there ms = grind (arith, gives_then, gives_whatever)

record CommandTold (ms : Members) (c : CommandHead) : Type 0 where
  is_name : IsName c.names.name
  name : own ms ≡ c.names.name ∷ []
  distinct : has_distinct_names ms ≡ true

command_head_there : (ms : Members) → Gives (CommandTold ms) (command_head ms)
unfolding command_head
command_head_there ms = gives_if (CommandTold ms) (has_only command_keys ms) _ (
    gives_then (λ name. IsName name × (own ms ≡ name ∷ [])) (CommandTold ms) (required_at as_command_name (codes "name") ms) _ (name_there (get_member (codes "name") ms)) (λ name n.
    gives_then Whatever (CommandTold ms) (optional_at as_short (codes "short") ms) _ (gives_whatever (optional_at as_short (codes "short") ms)) (λ initial u.
    gives_then Whatever (CommandTold ms) (optional_at as_text (codes "help") ms) _ (gives_whatever (optional_at as_text (codes "help") ms)) (λ help v.
    gives_then Whatever (CommandTold ms) (flag_at false (codes "hidden") ms) _ (gives_whatever (flag_at false (codes "hidden") ms)) (λ hidden w.
    gives_then Whatever (CommandTold ms) (words_at as_command_name (codes "aliases") ms) _ (gives_whatever (words_at as_command_name (codes "aliases") ms)) (λ aliases x.
    gives_then (λ (o : Outline). has_distinct_names ms ≡ true) (CommandTold ms) (outline_from ms) _ (outline_there ms) (λ outline d. record { is_name = n.0; name = n.1; distinct = d })))))))

-- ---- groups, levels and commands

-- the commands that stand in tables, and the groups
abbrev CommandsOf : List Members → CommandsSaid → Type 0
CommandsOf tables cs = CommandsTell IsName cs × (names_in cs ≡ flat_map own tables)

abbrev GroupsOf : List Members → GroupsSaid → Type 0
GroupsOf tables gs = GroupsTell IsName gs × (groups_own gs ≡ flat_map names_under tables)

abbrev CommandOf : List Members → CommandSaid → Type 0
CommandOf tables c = CommandTells IsName c × (own_name c ∷ [] ≡ flat_map own tables)

abbrev GroupOf : List Members → GroupSaid → Type 0
GroupOf tables g = GroupTells IsName g × (group_own g ≡ flat_map names_under tables)

group_there : (ms : Members) (inner : Option CommandsSaid) (g : GroupHead) → Gives (CommandsOf (tables_under (codes "command") ms)) inner → Gives (GroupOf (ms ∷ [])) (group_of inner g)
unfolding group_of
group_there ms inner g i = grind (arith, gives_then, gives_whatever, gives_map, append-nil)

level_there : (ms : Members) (inner_groups : Option GroupsSaid) (inner_commands : Option CommandsSaid) (o : Outline) → Gives (GroupsOf (tables_under (codes "group") ms)) inner_groups → Gives (CommandsOf (tables_under (codes "command") ms)) inner_commands
    → has_distinct_names ms ≡ true → Gives (TellsApart IsName) (level_of inner_groups inner_commands o)
unfolding level_of
level_there ms inner_groups inner_commands o ig ic d =
    gives_then Whatever (TellsApart IsName) (each_table (option_from option_keys) o.lists.options) _ (gives_whatever (each_table (option_from option_keys) o.lists.options)) (λ os u.
    gives_then Whatever (TellsApart IsName) (each_table choice_from o.lists.choices) _ (gives_whatever (each_table choice_from o.lists.choices)) (λ cs v.
    gives_then (GroupsOf (tables_under (codes "group") ms)) (TellsApart IsName) inner_groups _ ig (λ gs hg.
    gives_then Whatever (TellsApart IsName) (each_table positional_from o.lists.positionals) _ (gives_whatever (each_table positional_from o.lists.positionals)) (λ ps w.
    gives_then (CommandsOf (tables_under (codes "command") ms)) (TellsApart IsName) inner_commands _ ic (λ ns hn.
    gives_map Whatever (TellsApart IsName) (each_table topic_from o.lists.topics) _ (gives_whatever (each_table topic_from o.lists.topics)) (λ ts x.
    (subst Distinct (sym (ap₂ (λ xs ys. xs ++ ys) hg.1 hn.1)) (names_distinct ms d), hg.0, hn.0)))))))

command_there : (ms : Members) (inner_groups : Option GroupsSaid) (inner_commands : Option CommandsSaid) (c : CommandHead) → Gives (GroupsOf (tables_under (codes "group") ms)) inner_groups → Gives (CommandsOf (tables_under (codes "command") ms)) inner_commands
    → CommandTold ms c → Gives (CommandOf (ms ∷ [])) (command_of inner_groups inner_commands c)
command_there ms inner_groups inner_commands c ig ic h =
    gives_map (TellsApart IsName) (CommandOf (ms ∷ [])) (level_of inner_groups inner_commands c.outline) _ (level_there ms inner_groups inner_commands c.outline ig ic h.distinct)
    (λ l t. ((h.is_name, t), sym (append-nil (own ms) ∙ h.name)))

tell : Holding CommandsOf GroupsOf CommandOf GroupOf
tell = record {
  no_commands = (tt, refl);
  no_groups = (tt, refl);
  more_commands = λ ts us c cs h k. ((h.0, k.0), ap₂ (λ xs ys. xs ++ ys) h.1 k.1 ∙ sym (flat_map-append own ts us));
  more_groups = λ ts us g gs h k. ((h.0, k.0), ap₂ (λ xs ys. xs ++ ys) h.1 k.1 ∙ sym (flat_map-append names_under ts us));
  command = λ ms gs cs hg hc. gives_then (CommandTold ms) (CommandOf (ms ∷ [])) (command_head ms) (command_of gs cs) (command_head_there ms) (λ c h. command_there ms gs cs c hg hc h);
  group = λ ms cs hc. gives_then Whatever (GroupOf (ms ∷ [])) (group_head ms) (group_of cs) (gives_whatever (group_head ms)) (λ g u. group_there ms cs g hc);
}

-- ---- the whole

record HeadTold (ms : Members) (h : DescriptionHead) : Type 0 where
  is_name : IsName h.name
  distinct : has_distinct_names ms ≡ true

head_there : (ms : Members) → Gives (HeadTold ms) (description_head ms)
unfolding description_head
head_there ms = grind (arith, gives_if, gives_then, gives_required, gives_text, command_name, gives_whatever, outline_there)

abbrev DescriptionTells : DescriptionSaid → Type 0
DescriptionTells d = IsName d.name × TellsApart IsName d.level

described_tells : (ms : Members) → Gives DescriptionTells (described ms)
unfolding described
described_tells ms =
    gives_then (HeadTold ms) DescriptionTells (description_head ms) _ (head_there ms) (λ h p.
    gives_then Whatever DescriptionTells (fixed_in h.fixed) _ (gives_whatever (fixed_in h.fixed)) (λ w v.
    gives_then Whatever DescriptionTells (each_table (option_from help_option_keys) h.help_options) _ (gives_whatever (each_table (option_from help_option_keys) h.help_options)) (λ helps u.
    gives_map (TellsApart IsName) DescriptionTells (level_of (groups_at (codes "group") ms) (commands_at (codes "command") ms) h.outline) (description_of h w helps)
    (level_there ms (groups_at (codes "group") ms) (commands_at (codes "command") ms) h.outline (groups_hold tell (codes "group") ms) (commands_hold tell (codes "command") ms) p.distinct) (λ l q. (p.is_name, q)))))

pub names_tell : (ms : Members) (d : DescriptionSaid) → described ms ≡ Some d → IsName d.name × TellsApart IsName d.level
names_tell ms d e = given DescriptionTells (described ms) d (described_tells ms) e
