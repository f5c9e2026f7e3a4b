-- Each link of a page leads somewhere.
use Rattle.std.proofs.Common.{◌≡◌, ℕ, Bool, true, List, [], ◌∷◌, ◌++◌, bytes_eq, codes, ap, ap₂, ◌∙◌, inl, inr, ⊎_elim}
use Rattle.std.specs.Prelude.{◌||◌}
use Rattle.std.specs.List.{list_all}
use Rattle.std.proofs.lemmas.Bool.{or_left, or_right}
use Rattle.std.proofs.lemmas.Slice.Eq.{bytes_eq-Decides}
use Rattle.page_model.specs.Content.{ChapterSaid, chapter, ChaptersSaid, no_chapters, chapters}
use Rattle.html_page.specs.Ids.{chapter_id}
use Rattle.html_page.specs.Laws.{EntriesLeadToTitles, LinksHaveTargets, addresses_in, all_led_to, is_among, is_target_of, titles_below, titles_in}
use Rattle.html_page.specs.Page.{page_events}
use Rattle.html_page.specs.View.{FrameSaid}
use Rattle.html_page.proofs.Among.{Among, among_either, among_left, among_right, each_from, each_weaker}
use Rattle.html_page.proofs.Apart.{among_test, each_test, test_among, test_each}
use Rattle.html_page.proofs.Attributes.{page_ids, page_targets}
use Rattle.html_page.proofs.Carried.{Carries, chapter_ids, chapters_ids, page_gives, place, section_ids}

-- the section of a title of the page
mutual
  pub section_there : (c : ChapterSaid) (title : List ℕ) → Among (titles_in c) title → Among (chapter_ids c) (chapter_id title)
  section_there (chapter title name about parts below) other (inl e) = inl (ap chapter_id e)
  section_there (chapter title name about parts below) other (inr a) = among_right (section_ids title parts) (chapters_ids below) (chapter_id other) (sections_there below other a)

  pub sections_there : (cs : ChaptersSaid) (title : List ℕ) → Among (titles_below cs) title → Among (chapters_ids cs) (chapter_id title)
  sections_there no_chapters title a = absurd a
  sections_there (chapters first others) title a =
      ⊎_elim (λ b. among_left (chapter_ids first) (chapters_ids others) (chapter_id title) (section_there first title b)) (λ b. among_right (chapter_ids first) (chapters_ids others) (chapter_id title) (sections_there others title b))
      (among_either (titles_in first) (titles_below others) title a)

one_target : (ids : List (List ℕ)) (id : List ℕ) → Among ids id → is_target_of ids (place id) ≡ true
one_target [] id h = absurd h
one_target (i ∷ ids) id (inl e) = or_left (bytes_eq (place id) (codes "#" ++ i)) (is_target_of ids (place id)) ((bytes_eq-Decides (place id) (codes "#" ++ i)).1 (ap place e))
one_target (i ∷ ids) id (inr a) = or_right (bytes_eq (place id) (codes "#" ++ i)) (is_target_of ids (place id)) (one_target ids id a)

module _ (frame : FrameSaid) (top : ChapterSaid) (lead : EntriesLeadToTitles top) where
  abbrev leads : List ℕ → Bool
  leads target = is_target_of (chapter_ids top) target || is_among (addresses_in top) target

  abbrev Fine : List ℕ → Type 0
  Fine target = leads target ≡ true

  to_id : (id : List ℕ) → Among (chapter_ids top) id → Fine (place id)
  to_id id a = or_left (is_target_of (chapter_ids top) (place id)) (is_among (addresses_in top) (place id)) (one_target (chapter_ids top) id a)

  to_address : (address : List ℕ) → Among (addresses_in top) address → Fine address
  to_address address a = or_right (is_target_of (chapter_ids top) address) (is_among (addresses_in top) address) (test_among address (addresses_in top) a)

  to_title : (title : List ℕ) → is_among (titles_in top) title ≡ true → Fine (place (chapter_id title))
  to_title title h = to_id (chapter_id title) (section_there top title (among_test title (titles_in top) h))

  carried : Carries Fine (chapter_ids top) (page_events frame top)
  carried =
      page_gives Fine frame top (each_from Fine (addresses_in top) to_address) (each_from (λ id. Fine (place id)) (chapter_ids top) to_id)
      (each_weaker (λ title. is_among (titles_in top) title ≡ true) (λ title. Fine (place (chapter_id title))) to_title (all_led_to top) (each_test (is_among (titles_in top)) (all_led_to top) lead))

pub links_have_targets : LinksHaveTargets
links_have_targets frame top lead =
    let p = carried frame top lead in
    ap₂ (λ ids targets. list_all (λ target. is_target_of ids target || is_among (addresses_in top) target) targets) (page_ids frame top p.balanced ∙ p.ids) (page_targets frame top p.balanced)
    ∙ test_each (leads frame top lead) _ p.targets
