-- The parts of a level, put one after another.
use Rattle.std.proofs.Common.{◌≡◌, ℕ, List, ◌++◌, flat_map, map, sym, ap, ◌∙◌, append_assoc}
use Rattle.std.specs.Prelude.{codes}
use Rattle.description.specs.View.{choice_said, commands_said, groups_said, group_said, level_said, opt_said, positional_said, topic_said}
use Rattle.description.specs.declared.levels.Group.{Group}
use Rattle.description.specs.declared.levels.Level.{Level, out-Level}
use Rattle.description.specs.declared.options.Choice.{Choice}
use Rattle.description.specs.declared.options.Opt.{Opt}
use Rattle.description.specs.declared.positionals.Positional.{Positional}
use Rattle.description.specs.declared.topics.Topic.{Topic}
use Rattle.description.proofs.Views.{open-Level}
use Rattle.description.specs.Content.{GroupSaid}
use Rattle.description_usage.proofs.LevelParts.{listed_groups}
use Rattle.description_hints.specs.Content.{Path, SiteSaid}
use Rattle.description_hints.specs.Names.{choices_words, group_words, level_words, options_words}
use Rattle.description_hints.specs.Sites.{choices_sites, commands_sites, groups_sites, level_sites, standing_of, options_sites, own_texts, positionals_sites, topics_sites}
use Rattle.description_hints.specs.declared.sites.Standing.{Standing}

-- ---- one list after another

onto : {X : Type 0} (s0 s t p x : List X) → s ≡ s0 ++ p → t ≡ s ++ x → t ≡ s0 ++ (p ++ x)
onto s0 s t p x h e = e ∙ ap (λ s. s ++ x) h ∙ append_assoc s0 p x

pub three_put : {X : Type 0} (a b c s0 s1 s2 s3 : List X) → s1 ≡ s0 ++ a → s2 ≡ s1 ++ b → s3 ≡ s2 ++ c → s3 ≡ s0 ++ (a ++ b ++ c)
three_put a b c s0 s1 s2 s3 h1 h2 h3 = onto s0 s2 s3 (a ++ b) c (onto s0 s1 s2 a b h1 h2) h3

seven_put : {X : Type 0} (a b c d e f g s0 s1 s2 s3 s4 s5 s6 s7 : List X) → s1 ≡ s0 ++ a → s2 ≡ s1 ++ b → s3 ≡ s2 ++ c → s4 ≡ s3 ++ d → s5 ≡ s4 ++ e → s6 ≡ s5 ++ f → s7 ≡ s6 ++ g
    → s7 ≡ s0 ++ (a ++ b ++ c ++ d ++ e ++ f ++ g)
seven_put a b c d e f g s0 s1 s2 s3 s4 s5 s6 s7 h1 h2 h3 h4 h5 h6 h7 =
    onto s0 s6 s7 (a ++ b ++ c ++ d ++ e ++ f) g
    (onto s0 s5 s6 (a ++ b ++ c ++ d ++ e) f (onto s0 s4 s5 (a ++ b ++ c ++ d) e (onto s0 s3 s4 (a ++ b ++ c) d (three_put a b c s0 s1 s2 s3 h1 h2 h3) h4) h5) h6)
    h7

-- ---- a level

module _ {A : Type 0} (path : Path) (l : Level A) where
  -- its parts, where its options stand so, and these are its texts
  abbrev whole : Standing → List SiteSaid → List SiteSaid
  whole b own =
      own ++ options_sites b path (codes "option") (map opt_said (out-Level A l).options.items) ++ choices_sites b path (map choice_said (out-Level A l).choices.items)
      ++ groups_sites b path 0 (groups_said (out-Level A l).groups.items) ++ positionals_sites path (map positional_said (out-Level A l).positionals.items)
      ++ commands_sites path 0 (commands_said (out-Level A l).commands.items) ++ topics_sites path (map topic_said (out-Level A l).topics.items)

  level_parts : level_sites path (level_said l) ≡ whole (standing_of (level_said l)) (own_texts path (level_said l))
  level_parts = ap (level_sites path) (open-Level l) ∙ sym (ap (λ m. whole (standing_of m) (own_texts path m)) (open-Level l))

  parts_put : (b : Standing) (own : List SiteSaid)
      → (os : List Opt) (cs : List (Choice A)) (ps : List Positional) (ts : List Topic) → os ≡ (out-Level A l).options.items → cs ≡ (out-Level A l).choices.items → ps ≡ (out-Level A l).positionals.items → ts ≡ (out-Level A l).topics.items
      → (s0 s1 s2 s3 s4 s5 s6 s7 : List SiteSaid) → s1 ≡ s0 ++ own → s2 ≡ s1 ++ options_sites b path (codes "option") (map opt_said os) → s3 ≡ s2 ++ choices_sites b path (map choice_said cs)
      → s4 ≡ s3 ++ groups_sites b path 0 (groups_said (out-Level A l).groups.items) → s5 ≡ s4 ++ positionals_sites path (map positional_said ps)
      → s6 ≡ s5 ++ commands_sites path 0 (commands_said (out-Level A l).commands.items) → s7 ≡ s6 ++ topics_sites path (map topic_said ts) → s7 ≡ s0 ++ whole b own
  parts_put b own os cs ps ts io ic ip it s0 s1 s2 s3 s4 s5 s6 s7 h1 h2 h3 h4 h5 h6 h7 =
      seven_put own (options_sites b path (codes "option") (map opt_said os)) (choices_sites b path (map choice_said cs)) (groups_sites b path 0 (groups_said (out-Level A l).groups.items))
      (positionals_sites path (map positional_said ps)) (commands_sites path 0 (commands_said (out-Level A l).commands.items)) (topics_sites path (map topic_said ts))
      s0 s1 s2 s3 s4 s5 s6 s7 h1 h2 h3 h4 h5 h6 h7
      ∙ (λ i. s0 ++ (own ++ options_sites b path (codes "option") (map opt_said (io i)) ++ choices_sites b path (map choice_said (ic i)) ++ groups_sites b path 0 (groups_said (out-Level A l).groups.items)
      ++ positionals_sites path (map positional_said (ip i)) ++ commands_sites path 0 (commands_said (out-Level A l).commands.items) ++ topics_sites path (map topic_said (it i))))

  pub level_put : (standing : Standing) → standing ≡ standing_of (level_said l)
      → (os : List Opt) (cs : List (Choice A)) (ps : List Positional) (ts : List Topic) → os ≡ (out-Level A l).options.items → cs ≡ (out-Level A l).choices.items → ps ≡ (out-Level A l).positionals.items → ts ≡ (out-Level A l).topics.items
      → (s0 s1 s2 s3 s4 s5 s6 s7 : List SiteSaid) → s1 ≡ s0 ++ own_texts path (level_said l) → s2 ≡ s1 ++ options_sites standing path (codes "option") (map opt_said os) → s3 ≡ s2 ++ choices_sites standing path (map choice_said cs)
      → s4 ≡ s3 ++ groups_sites standing path 0 (groups_said (out-Level A l).groups.items) → s5 ≡ s4 ++ positionals_sites path (map positional_said ps)
      → s6 ≡ s5 ++ commands_sites path 0 (commands_said (out-Level A l).commands.items) → s7 ≡ s6 ++ topics_sites path (map topic_said ts) → s7 ≡ s0 ++ level_sites path (level_said l)
  level_put standing is os cs ps ts io ic ip it s0 s1 s2 s3 s4 s5 s6 s7 h1 h2 h3 h4 h5 h6 h7 =
      parts_put standing (own_texts path (level_said l)) os cs ps ts io ic ip it s0 s1 s2 s3 s4 s5 s6 s7 h1 h2 h3 h4 h5 h6 h7
      ∙ ap (λ b. s0 ++ whole b (own_texts path (level_said l))) is ∙ ap (λ more. s0 ++ more) (sym level_parts)

-- ---- the words of its options

module _ {A : Type 0} (l : Level A) where
  abbrev words_there : List Opt → List (Choice A) → List GroupSaid → List (List ℕ)
  words_there os cs gs = options_words (map opt_said os) ++ choices_words (map choice_said cs) ++ flat_map group_words gs

  level_words_there : level_words (level_said l) ≡ words_there (out-Level A l).options.items (out-Level A l).choices.items (map group_said (out-Level A l).groups.items)
  level_words_there = ap level_words (open-Level l) ∙ ap (words_there (out-Level A l).options.items (out-Level A l).choices.items) (listed_groups (map group_said (out-Level A l).groups.items))

  pub words_put : (os : List Opt) (cs : List (Choice A)) (gs : List (Group A)) → os ≡ (out-Level A l).options.items → cs ≡ (out-Level A l).choices.items → gs ≡ (out-Level A l).groups.items
      → (old first second third : List (List ℕ)) → first ≡ old ++ options_words (map opt_said os) → second ≡ first ++ choices_words (map choice_said cs) → third ≡ second ++ flat_map group_words (map group_said gs) → third ≡ old ++ level_words (level_said l)
  words_put os cs gs io ic ig old first second third h1 h2 h3 =
      three_put (options_words (map opt_said os)) (choices_words (map choice_said cs)) (flat_map group_words (map group_said gs)) old first second third h1 h2 h3
      ∙ (λ i. old ++ words_there (io i) (ic i) (map group_said (ig i))) ∙ ap (λ more. old ++ more) (sym level_words_there)
