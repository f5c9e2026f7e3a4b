-- What a chapter says, in terms of what is inside.
use Rattle.std.proofs.Common.{◌≡◌, ℕ, List, [], ◌∷◌, map, refl, rules, length, ◌==◌, false, arith}
use Rattle.std.specs.Prelude.{not}
use Rattle.page_model.specs.Content.{PartSaid, ChapterSaid, chapter}
use Rattle.page_model.specs.View.{block_of, part_of, chapter_of, chapters_in}
use Rattle.page_model.specs.declared.parts.Chapter.{Chapter, Chapter-F, out-Chapter, the_lemmas}
use Rattle.html_page.specs.Page.{has_chapters, own_section, top_section}
use Rattle.html_page.specs.View.{FrameSaid}

abbrev pub chapter_layer : {A : Type 0} → Chapter-F A (Chapter A) → ChapterSaid
chapter_layer level = chapter level.title.now level.name.now (map block_of level.about.items) (map part_of level.parts.items) (chapters_in (map chapter_of level.below.items))

pub open-Chapter : {A : Type 0} (c : Chapter A) → chapter_of c ≡ chapter_layer (out-Chapter A c)
open-Chapter c = search (rules, the_lemmas)

pub chapters_there : {A : Type 0} (cs : List (Chapter A)) → has_chapters (chapters_in (map chapter_of cs)) ≡ not (length cs == 0)
chapters_there [] = refl
chapters_there (c ∷ cs) = grind arith

pub top_section_with_chapters : {A : Type 0} (frame : FrameSaid) (title : List ℕ) (parts : List PartSaid) (cs : List (Chapter A)) → (length cs == 0) ≡ false
    → own_section frame title parts ≡ top_section frame title parts (chapters_in (map chapter_of cs))
top_section_with_chapters frame title parts [] h = absurd cc
top_section_with_chapters frame title parts (c ∷ cs) h = refl

pub ruleset views = (open-Chapter, chapters_there)
