-- Each link of the page of a level leads somewhere.
use Rattle.std.proofs.Common.{◌≡◌, ℕ, Bool, true, false, List, [], ◌∷◌, ◌++◌, map, refl, sym, subst, inl, inr, ⊎_elim, ap, ap₂, ◌∙◌}
use Rattle.std.proofs.lemmas.List.{map-append}
use Rattle.std.specs.Prelude.{codes, if◌then◌else◌}
use Rattle.html_page.specs.Laws.{EntriesLeadToTitles, all_led_to, is_among, titles_in}
use Rattle.html_page.proofs.Among.{Among, Each, among_either, among_left, among_right, each_from, each_weaker}
use Rattle.html_page.proofs.Apart.{test_among, test_each}
use Rattle.html_page.proofs.Links as pages
use Rattle.description.specs.Content.{LevelSaid, level, GroupsSaid, no_groups, groups, GroupSaid, group, CommandsSaid, no_commands, commands, CommandSaid, command}
use Rattle.description.specs.Words.{WordsSaid}
use Rattle.description_pages.specs.Chapters.{chapter_from}
use Rattle.description_pages.specs.Levels.{SubjectSaid}
use Rattle.description_pages.specs.Sections.{joined_names}
use Rattle.description_pages.specs.Subjects.{all_from, below, below_commands, below_group, below_groups, below_level, from_command, in_short, is_shown}
use Rattle.command_pages.specs.Html.{frame_said}
use Rattle.description_laws.specs.HtmlPages.{HtmlLinksHaveTargets}
use Rattle.description_laws.proofs.Led.{each_of_flat, level_leads}
use Rattle.description_laws.proofs.PageTitles.{led_from, led_on_page, on_page, title, titles_on_page}

-- ---- what is below a level that is below another is below that

abbrev BelowIt : SubjectSaid → SubjectSaid → Type 0
BelowIt t u = Among (below_level t t.level) u

one_below : (shown : Bool) (s t u : SubjectSaid) → (Among (below_level s s.level) t → Among (below_level s s.level) u) → Among (if shown then all_from s else []) t → BelowIt t u → Among (if shown then all_from s else []) u
one_below true s t u further (inl e) b = inr (subst (λ r. BelowIt r u) e b)
one_below true s t u further (inr a) b = inr (further a)
one_below false s t u further a b = absurd a

mutual
  below_in : (s : SubjectSaid) (l : LevelSaid) (t u : SubjectSaid) → Among (below_level s l) t → BelowIt t u → Among (below_level s l) u
  below_in s (level texts r os cs gs ps ms) t u a b =
      ⊎_elim (λ c. among_left (below_groups s gs) (below_commands s ms) u (below_in_groups s gs t u c b)) (λ c. among_right (below_groups s gs) (below_commands s ms) u (below_in_commands s ms t u c b))
      (among_either (below_groups s gs) (below_commands s ms) t a)

  below_in_groups : (s : SubjectSaid) (gs : GroupsSaid) (t u : SubjectSaid) → Among (below_groups s gs) t → BelowIt t u → Among (below_groups s gs) u
  below_in_groups s no_groups t u a b = a
  below_in_groups s (groups g gs) t u a b =
      ⊎_elim (λ c. among_left (below_group s g) (below_groups s gs) u (below_in_group s g t u c b)) (λ c. among_right (below_group s g) (below_groups s gs) u (below_in_groups s gs t u c b))
      (among_either (below_group s g) (below_groups s gs) t a)

  below_in_group : (s : SubjectSaid) (g : GroupSaid) (t u : SubjectSaid) → Among (below_group s g) t → BelowIt t u → Among (below_group s g) u
  below_in_group s (group name os cs ps ms) t u a b = below_in_commands s ms t u a b

  below_in_commands : (s : SubjectSaid) (ms : CommandsSaid) (t u : SubjectSaid) → Among (below_commands s ms) t → BelowIt t u → Among (below_commands s ms) u
  below_in_commands s no_commands t u a b = a
  below_in_commands s (commands m ms) t u a b =
      ⊎_elim (λ c. among_left (from_command s m) (below_commands s ms) u (below_in_command s m t u c b)) (λ c. among_right (from_command s m) (below_commands s ms) u (below_in_commands s ms t u c b))
      (among_either (from_command s m) (below_commands s ms) t a)

  below_in_command : (s : SubjectSaid) (m : CommandSaid) (t u : SubjectSaid) → Among (from_command s m) t → BelowIt t u → Among (from_command s m) u
  below_in_command s (command called help l) t u a b =
      one_below (is_shown (command called help l)) (below s (command called help l)) t u (λ c. below_in (below s (command called help l)) l t u c b) a b

-- ---- titles

among_mapped : {X Y : Type 0} (f : X → Y) (xs : List X) (x : X) → Among xs x → Among (map f xs) (f x)
among_mapped f [] x a = a
among_mapped f (y ∷ xs) x (inl e) = inl (ap f e)
among_mapped f (y ∷ xs) x (inr a) = inr (among_mapped f xs x a)

below_all : (s t u : SubjectSaid) → Among (all_from s) t → BelowIt t u → Among (all_from s) u
below_all s t u (inl e) b = inr (subst (λ r. BelowIt r u) e b)
below_all s t u (inr a) b = inr (below_in s s.level t u a b)

-- ---- the titles of levels below are those of the names that lead there

if_titles : (shown : Bool) (ss ts : List SubjectSaid) → map title ss ≡ map title ts → map title (if shown then ss else []) ≡ map title (if shown then ts else [])
if_titles true ss ts e = e
if_titles false ss ts e = refl

both_titles : (ss more ts others : List SubjectSaid) → map title ss ≡ map title ts → map title more ≡ map title others → map title (ss ++ more) ≡ map title (ts ++ others)
both_titles ss more ts others e f = map-append title ss more ∙ ap₂ (λ xs ys. xs ++ ys) e f ∙ sym (map-append title ts others)

mutual
  same_titles : (s t : SubjectSaid) → s.names ≡ t.names → (l : LevelSaid) → map title (below_level s l) ≡ map title (below_level t l)
  same_titles s t e (level texts r os cs gs ps ms) = both_titles (below_groups s gs) (below_commands s ms) (below_groups t gs) (below_commands t ms) (titles_of_groups s t e gs) (titles_of_commands s t e ms)

  titles_of_groups : (s t : SubjectSaid) → s.names ≡ t.names → (gs : GroupsSaid) → map title (below_groups s gs) ≡ map title (below_groups t gs)
  titles_of_groups s t e no_groups = refl
  titles_of_groups s t e (groups g gs) = both_titles (below_group s g) (below_groups s gs) (below_group t g) (below_groups t gs) (titles_of_group s t e g) (titles_of_groups s t e gs)

  titles_of_group : (s t : SubjectSaid) → s.names ≡ t.names → (g : GroupSaid) → map title (below_group s g) ≡ map title (below_group t g)
  titles_of_group s t e (group name os cs ps ms) = titles_of_commands s t e ms

  titles_of_commands : (s t : SubjectSaid) → s.names ≡ t.names → (ms : CommandsSaid) → map title (below_commands s ms) ≡ map title (below_commands t ms)
  titles_of_commands s t e no_commands = refl
  titles_of_commands s t e (commands m ms) = both_titles (from_command s m) (below_commands s ms) (from_command t m) (below_commands t ms) (titles_of_command s t e m) (titles_of_commands s t e ms)

  titles_of_command : (s t : SubjectSaid) → s.names ≡ t.names → (m : CommandSaid) → map title (from_command s m) ≡ map title (from_command t m)
  titles_of_command s t e (command called help l) =
      let longer : s.names ++ called.name ∷ [] ≡ t.names ++ called.name ∷ [] = ap (λ names. names ++ called.name ∷ []) e in
      if_titles (is_shown (command called help l)) (below s (command called help l) ∷ below_level (below s (command called help l)) l) (below t (command called help l) ∷ below_level (below t (command called help l)) l)
      (ap₂ (λ x xs. x ∷ xs) (ap (joined_names (codes " ")) longer) (same_titles (below s (command called help l)) (below t (command called help l)) longer l))

-- each entry of a level leads to the chapter of a level
pub entries_lead_to_titles : (fixed : WordsSaid) (s : SubjectSaid) → EntriesLeadToTitles (chapter_from fixed s)
entries_lead_to_titles fixed s =
    let short : SubjectSaid = in_short s in
    let T : List (List ℕ) = map title (all_from short) in
    let from_first : Each (Among T) (led_from fixed s) =
    level_leads (Among T) fixed s (λ u b. inr (subst (λ ts. Among ts (title u)) (same_titles s short refl s.level) (among_mapped title (below_level s s.level) u b))) in
    let from_others : Each (λ t. Each (Among T) (led_from fixed t)) (below_level short s.level) =
    each_from (λ t. Each (Among T) (led_from fixed t)) (below_level short s.level) (λ t a. level_leads (Among T) fixed t (λ u b. among_mapped title (all_from short) u (below_all short t u (inr a) b))) in
    let led : Each (Among T) (all_led_to (chapter_from fixed s)) = subst (Each (Among T)) (sym (led_on_page fixed s)) (each_of_flat (Among T) (led_from fixed) (on_page s) (from_first, from_others)) in
    let titled : Each (Among (titles_in (chapter_from fixed s))) (all_led_to (chapter_from fixed s)) = subst (λ ts. Each (Among ts) (all_led_to (chapter_from fixed s))) (sym (titles_on_page fixed s)) led in
    test_each (is_among (titles_in (chapter_from fixed s))) (all_led_to (chapter_from fixed s))
    (each_weaker (Among (titles_in (chapter_from fixed s))) (λ x. is_among (titles_in (chapter_from fixed s)) x ≡ true) (λ x a. test_among x (titles_in (chapter_from fixed s)) a) (all_led_to (chapter_from fixed s)) titled)

pub html_links_have_targets : HtmlLinksHaveTargets
html_links_have_targets d given s = pages.links_have_targets (frame_said d given) (chapter_from d.words s) (entries_lead_to_titles d.words s)
