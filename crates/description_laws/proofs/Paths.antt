-- No two levels of a page have one title, where no two commands of a level have one name and each name is a word.
use Rattle.std.proofs.Common.{◌≡◌, ℕ, Bool, true, false, List, [], ◌∷◌, ◌++◌, codes, map, refl, sym, ◌∙◌, subst, inl, inr, append_assoc}
use Rattle.std.specs.Prelude.{if◌then◌else◌}
use Rattle.std.proofs.lemmas.List.{map-append}
use Rattle.html_page.specs.Laws.{AreTitles, is_parted, titles_in}
use Rattle.html_page.proofs.Among.{Among, Each, among_left, among_right, each_among, each_append, each_mapped, each_weaker}
use Rattle.html_page.proofs.Apart.{Apart, Distinct, distinct_append, test_distinct, test_each}
use Rattle.description.specs.Content.{LevelSaid, level, GroupsSaid, no_groups, groups, GroupSaid, group, CommandsSaid, no_commands, commands, CommandSaid, command}
use Rattle.description.specs.Words.{WordsSaid}
use Rattle.description_pages.specs.Chapters.{chapter_from}
use Rattle.description_pages.specs.Levels.{SubjectSaid}
use Rattle.description_pages.specs.Sections.{joined_names}
use Rattle.description_pages.specs.Subjects.{all_from, below, below_commands, below_group, below_groups, below_level, from_command, in_short, is_shown}
use Rattle.description_laws.proofs.PageTitles.{mapped_twice, titles_on_page}
use Rattle.description_laws.proofs.Told.{TellsApart, CommandsTell, CommandTells, GroupTells, GroupsTell, group_own, groups_own, names_in, own_name, level_own}
use Rattle.description_laws.proofs.Words.{IsWord, words_parted, words_told}

cancel : {X : Type 0} (a b c : List X) → a ++ b ≡ a ++ c → b ≡ c
cancel [] b c e = e
cancel (x ∷ a) b c e = let inner : a ++ b ≡ a ++ c = cc in cancel a b c inner

no_more : {X : Type 0} (a : List X) (b : X) (c : List X) → a ≡ a ++ b ∷ c → ⊥
no_more [] b c e = cc
no_more (x ∷ a) b c e = let inner : a ≡ a ++ b ∷ c = cc in no_more a b c inner

first_same : {X : Type 0} (a b : X) (xs ys : List X) → a ∷ xs ≡ b ∷ ys → a ≡ b
first_same a b xs ys e = cc

-- ---- paths from a level, of which each goes on with one of some names

record GoesOn (from firsts path : List (List ℕ)) : Type 0 where
  first : List ℕ
  more : List (List ℕ)
  among : Among firsts first
  is : path ≡ from ++ first ∷ more
  words : Each IsWord (first ∷ more)

record ArePaths (from firsts : List (List ℕ)) (paths : List (List (List ℕ))) : Type 0 where
  distinct : Distinct paths
  go_on : Each (GoesOn from firsts) paths

abbrev paths : List SubjectSaid → List (List (List ℕ))
paths = map (λ (s : SubjectSaid). s.names)

goes_on_with : (from xs ys path : List (List ℕ)) → ((x : List ℕ) → Among xs x → Among ys x) → GoesOn from xs path → GoesOn from ys path
goes_on_with from xs ys path h g = record { first = g.first; more = g.more; among = h g.first g.among; is = g.is; words = g.words }

none : (from firsts : List (List ℕ)) → ArePaths from firsts []
none from firsts = record { distinct = tt; go_on = tt }

both : (from xs ys : List (List ℕ)) (ps qs : List (List (List ℕ))) → Apart xs ys → ArePaths from xs ps → ArePaths from ys qs → ArePaths from (xs ++ ys) (ps ++ qs)
both from xs ys ps qs apart p q = record {
  distinct = distinct_append ps qs p.distinct q.distinct no;
  go_on = each_append (GoesOn from (xs ++ ys)) ps qs (each_weaker (GoesOn from xs) (GoesOn from (xs ++ ys)) (λ path g. goes_on_with from xs (xs ++ ys) path (among_left xs ys) g) ps p.go_on)
      (each_weaker (GoesOn from ys) (GoesOn from (xs ++ ys)) (λ path g. goes_on_with from ys (xs ++ ys) path (among_right xs ys) g) qs q.go_on);
} where
  no : Apart ps qs
  no path a b =
      let g = each_among (GoesOn from xs) ps p.go_on path a in
      let h = each_among (GoesOn from ys) qs q.go_on path b in
      let same : g.first ≡ h.first = first_same g.first h.first g.more h.more (cancel from (g.first ∷ g.more) (h.first ∷ h.more) (sym g.is ∙ h.is)) in
      apart h.first (subst (Among xs) same g.among) h.among

two : (from xs ys : List (List ℕ)) (ss ts : List SubjectSaid) → Apart xs ys → ArePaths from xs (paths ss) → ArePaths from ys (paths ts) → ArePaths from (xs ++ ys) (paths (ss ++ ts))
two from xs ys ss ts apart p q = subst (ArePaths from (xs ++ ys)) (sym (map-append (λ (s : SubjectSaid). s.names) ss ts)) (both from xs ys (paths ss) (paths ts) apart p q)

-- a level, and those below it
not_there : (from firsts : List (List ℕ)) (ps : List (List (List ℕ))) → ArePaths from firsts ps → Among ps from → ⊥
not_there from firsts ps p a = let g = each_among (GoesOn from firsts) ps p.go_on from a in no_more from g.first g.more g.is

one : (from : List (List ℕ)) (name : List ℕ) (firsts : List (List ℕ)) (ps : List (List (List ℕ))) → IsWord name → ArePaths (from ++ name ∷ []) firsts ps → ArePaths from (name ∷ []) ((from ++ name ∷ []) ∷ ps)
one from name firsts ps word p = record {
  distinct = (not_there (from ++ name ∷ []) firsts ps p, p.distinct);
  go_on = (record { first = name; more = []; among = inl refl; is = refl; words = (word, tt) }, each_weaker (GoesOn (from ++ name ∷ []) firsts) (GoesOn from (name ∷ [])) further ps p.go_on);
} where
  further : (path : List (List ℕ)) → GoesOn (from ++ name ∷ []) firsts path → GoesOn from (name ∷ []) path
  further path g = record { first = name; more = g.first ∷ g.more; among = inl refl; is = g.is ∙ append_assoc from (name ∷ []) (g.first ∷ g.more); words = (word, g.words) }

if_shown : (shown : Bool) (from firsts : List (List ℕ)) (s : SubjectSaid) (ss : List SubjectSaid) → ArePaths from firsts (paths (s ∷ ss)) → ArePaths from firsts (paths (if shown then s ∷ ss else []))
if_shown true from firsts s ss p = p
if_shown false from firsts s ss p = none from firsts

-- ---- both parts of names that are distinct

pub distinct_left : {X : Type 0} (xs ys : List X) → Distinct (xs ++ ys) → Distinct xs
distinct_left [] ys h = tt
distinct_left (x ∷ xs) ys h = (λ a. h.0 (among_left xs ys x a), distinct_left xs ys h.1)

pub distinct_right : {X : Type 0} (xs ys : List X) → Distinct (xs ++ ys) → Distinct ys
distinct_right [] ys h = h
distinct_right (x ∷ xs) ys h = distinct_right xs ys h.1

pub distinct_apart : {X : Type 0} (xs ys : List X) → Distinct (xs ++ ys) → Apart xs ys
distinct_apart [] ys h y a b = a
distinct_apart (x ∷ xs) ys h y (inl e) b = h.0 (among_right xs ys x (subst (Among ys) e b))
distinct_apart (x ∷ xs) ys h y (inr a) b = distinct_apart xs ys h.1 y a b

-- ---- levels

mutual
  on_level : (s : SubjectSaid) (l : LevelSaid) → TellsApart IsWord l → ArePaths s.names (level_own l) (paths (below_level s l))
  on_level s (level t r os cs gs ps ms) h =
      two s.names (groups_own gs) (names_in ms) (below_groups s gs) (below_commands s ms) (distinct_apart (groups_own gs) (names_in ms) h.0)
      (on_groups s gs (distinct_left (groups_own gs) (names_in ms) h.0) h.1) (on_commands s ms (distinct_right (groups_own gs) (names_in ms) h.0) h.2)

  on_groups : (s : SubjectSaid) (gs : GroupsSaid) → Distinct (groups_own gs) → GroupsTell IsWord gs → ArePaths s.names (groups_own gs) (paths (below_groups s gs))
  on_groups s no_groups d h = none s.names []
  on_groups s (groups g gs) d h =
      two s.names (group_own g) (groups_own gs) (below_group s g) (below_groups s gs) (distinct_apart (group_own g) (groups_own gs) d)
      (on_group s g (distinct_left (group_own g) (groups_own gs) d) h.0) (on_groups s gs (distinct_right (group_own g) (groups_own gs) d) h.1)

  on_group : (s : SubjectSaid) (g : GroupSaid) → Distinct (group_own g) → GroupTells IsWord g → ArePaths s.names (group_own g) (paths (below_group s g))
  on_group s (group name os cs ps ms) d h = on_commands s ms d h

  on_commands : (s : SubjectSaid) (ms : CommandsSaid) → Distinct (names_in ms) → CommandsTell IsWord ms → ArePaths s.names (names_in ms) (paths (below_commands s ms))
  on_commands s no_commands d h = none s.names []
  on_commands s (commands m ms) d h =
      two s.names (own_name m ∷ []) (names_in ms) (from_command s m) (below_commands s ms) (distinct_apart (own_name m ∷ []) (names_in ms) d)
      (on_command s m h.0) (on_commands s ms d.1 h.1)

  on_command : (s : SubjectSaid) (m : CommandSaid) → CommandTells IsWord m → ArePaths s.names (own_name m ∷ []) (paths (from_command s m))
  on_command s (command called help l) h =
      let there : SubjectSaid = below s (command called help l) in
      if_shown (is_shown (command called help l)) s.names (called.name ∷ []) there (below_level there l)
      (one s.names called.name (level_own l) (paths (below_level there l)) h.0 (on_level there l h.1))

-- ---- titles

-- one word or more
abbrev pub IsPath : List (List ℕ) → Type 0
IsPath [] = ⊥
IsPath (word ∷ words) = Each IsWord (word ∷ words)

pub longer : (from more : List (List ℕ)) → IsPath from → Each IsWord more → IsPath (from ++ more)
longer [] more h k = absurd h
longer (word ∷ words) more h k = each_append IsWord (word ∷ words) more h k

path_parted : (path : List (List ℕ)) → IsPath path → is_parted (joined_names (codes " ") path) ≡ true
path_parted [] h = absurd h
path_parted (word ∷ words) h = words_parted (word ∷ words) h

path_told : (p q : List (List ℕ)) → IsPath p → IsPath q → joined_names (codes " ") p ≡ joined_names (codes " ") q → p ≡ q
path_told [] q h k e = absurd h
path_told (x ∷ xs) [] h k e = absurd k
path_told (x ∷ xs) (y ∷ ys) h k e = words_told x y xs ys h k e

of_mapped : (f : List (List ℕ) → List ℕ) (ps : List (List (List ℕ))) (t : List ℕ) → Among (map f ps) t → Each IsPath ps → (p : List (List ℕ)) × Among ps p × (t ≡ f p) × IsPath p
of_mapped f [] t a h = absurd a
of_mapped f (p ∷ ps) t (inl e) h = (p, inl refl, e, h.0)
of_mapped f (p ∷ ps) t (inr a) h = let rest = of_mapped f ps t a h.1 in (rest.0, inr rest.1, rest.2, rest.3)

abbrev joined : List (List ℕ) → List ℕ
joined = joined_names (codes " ")

titles_distinct : (ps : List (List (List ℕ))) → Each IsPath ps → Distinct ps → Distinct (map joined ps)
titles_distinct [] h d = tt
titles_distinct (p ∷ ps) h d = (no, titles_distinct ps h.1 d.1) where
  no : Among (map joined ps) (joined p) → ⊥
  no a = let other = of_mapped joined ps (joined p) a h.1 in d.0 (subst (Among ps) (sym (path_told p other.0 h.0 other.3 other.2)) other.1)

-- the titles of a level and of those below it
pub titles_tell : (fixed : WordsSaid) (s : SubjectSaid) → IsPath s.names → TellsApart IsWord s.level → AreTitles (titles_in (chapter_from fixed s))
titles_tell fixed s path tells =
    let short : SubjectSaid = in_short s in
    let lower : ArePaths s.names (level_own s.level) (paths (below_level short s.level)) = on_level short s.level tells in
    let all : List (List (List ℕ)) = paths (all_from short) in
    let are_paths : Each IsPath all =
    (path, each_weaker (GoesOn s.names (level_own s.level)) IsPath (λ p g. subst IsPath (sym g.is) (longer s.names (g.first ∷ g.more) path g.words)) (paths (below_level short s.level)) lower.go_on) in
    let distinct : Distinct all = (not_there s.names (level_own s.level) (paths (below_level short s.level)) lower, lower.distinct) in
    let same : titles_in (chapter_from fixed s) ≡ map joined all = titles_on_page fixed s ∙ sym (mapped_twice (λ (t : SubjectSaid). t.names) joined (all_from short)) in
    let parted : Each (λ t. is_parted t ≡ true) (map joined all) = each_mapped (λ t. is_parted t ≡ true) joined all (each_weaker IsPath (λ p. is_parted (joined p) ≡ true) path_parted all are_paths) in
    subst AreTitles (sym same) (test_each is_parted (map joined all) parted, test_distinct (map joined all) (titles_distinct all are_paths distinct))
