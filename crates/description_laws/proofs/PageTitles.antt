-- The titles of the chapters of a page, and those to which its entries lead, level by level.
use Rattle.std.proofs.Common.{◌≡◌, ℕ, List, [], ◌∷◌, ◌++◌, codes, flat_map, map, refl, sym, ap, ap₂, ◌∙◌}
use Rattle.std.proofs.lemmas.Grind.{flat_map-append}
use Rattle.std.proofs.lemmas.List.{map-append}
use Rattle.page_model.specs.Content.{ChapterSaid, chapter, ChaptersSaid, no_chapters, chapters}
use Rattle.html_page.specs.Laws.{all_led_to, led_to, led_to_below, titles_below, titles_in}
use Rattle.html_page.specs.Page.{title_of}
use Rattle.description.specs.Words.{WordsSaid}
use Rattle.description_pages.specs.Chapters.{all_alone, chapter_from, chapter_with, each_alone, parts_after, parts_of}
use Rattle.description_pages.specs.Levels.{SubjectSaid, page_of}
use Rattle.description_pages.specs.Sections.{joined_names}
use Rattle.description_pages.specs.Subjects.{all_from, in_short, subjects_after}
use Rattle.description_pages.specs.declared.levels.Depth.TheVariants.{Deep}
use Rattle.description_pages.specs.declared.sections.Detail.TheVariants.{Full}
use Rattle.description_pages.proofs.ChapterParts.{each_level_has_its_chapter}

abbrev pub title : SubjectSaid → List ℕ
title s = joined_names (codes " ") s.names

-- those to which a level leads
abbrev pub led_from : WordsSaid → SubjectSaid → List (List ℕ)
led_from fixed s = flat_map led_to (parts_after fixed (page_of fixed Full Deep s))

abbrev led_by : ChapterSaid → List (List ℕ)
led_by c = flat_map led_to (parts_of c)

abbrev alone : WordsSaid → SubjectSaid → ChapterSaid
alone fixed s = chapter_with fixed s []

pub mapped_twice : {X Y Z : Type 0} (f : X → Y) (g : Y → Z) (xs : List X) → map g (map f xs) ≡ map (λ x. g (f x)) xs
mapped_twice f g [] = refl
mapped_twice f g (x ∷ xs) = ap (λ zs. g (f x) ∷ zs) (mapped_twice f g xs)

flat_mapped : {X Y Z : Type 0} (f : X → Y) (g : Y → List Z) (xs : List X) → flat_map g (map f xs) ≡ flat_map (λ x. g (f x)) xs
flat_mapped f g [] = refl
flat_mapped f g (x ∷ xs) = ap (λ zs. g (f x) ++ zs) (flat_mapped f g xs)

mutual
  titles_alone : (c : ChapterSaid) → titles_in c ≡ map title_of (each_alone c)
  titles_alone (chapter t name about parts below) = ap (λ ts. t ∷ ts) (titles_of_all below)

  titles_of_all : (cs : ChaptersSaid) → titles_below cs ≡ map title_of (all_alone cs)
  titles_of_all no_chapters = refl
  titles_of_all (chapters first others) = ap₂ (λ xs ys. xs ++ ys) (titles_alone first) (titles_of_all others) ∙ sym (map-append title_of (each_alone first) (all_alone others))

mutual
  led_alone : (c : ChapterSaid) → all_led_to c ≡ flat_map led_by (each_alone c)
  led_alone (chapter t name about parts below) = ap (λ ts. flat_map led_to parts ++ ts) (led_of_all below)

  led_of_all : (cs : ChaptersSaid) → led_to_below cs ≡ flat_map led_by (all_alone cs)
  led_of_all no_chapters = refl
  led_of_all (chapters first others) = ap₂ (λ xs ys. xs ++ ys) (led_alone first) (led_of_all others) ∙ sym (flat_map-append led_by (each_alone first) (all_alone others))

-- the levels of a page
abbrev pub on_page : SubjectSaid → List SubjectSaid
on_page s = s ∷ subjects_after s

-- the first has the same title in short
pub titles_on_page : (fixed : WordsSaid) (s : SubjectSaid) → titles_in (chapter_from fixed s) ≡ map title (all_from (in_short s))
titles_on_page fixed s = titles_alone (chapter_from fixed s) ∙ ap (map title_of) (each_level_has_its_chapter fixed s) ∙ mapped_twice (alone fixed) title_of (on_page s)

pub led_on_page : (fixed : WordsSaid) (s : SubjectSaid) → all_led_to (chapter_from fixed s) ≡ flat_map (led_from fixed) (on_page s)
led_on_page fixed s = led_alone (chapter_from fixed s) ∙ ap (flat_map led_by) (each_level_has_its_chapter fixed s) ∙ flat_mapped (alone fixed) led_by (on_page s)
