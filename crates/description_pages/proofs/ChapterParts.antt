-- Chapters that are made, and those of the levels below one.
use Rattle.std.specs.Prelude.{◌≡◌, Bool, true, false, not, List, [], ◌∷◌, ◌++◌, map, if◌then◌else◌}
use Rattle.std.proofs.Common.{refl, sym, ap, ◌∙◌, rules, append-nil, append_assoc}
use Rattle.std.proofs.lemmas.List.{map-append}
use Rattle.page_model.specs.Content.{BlockSaid, ChapterSaid, chapter}
use Rattle.page_model.specs.View.{block_of, chapter_of, chapters_in, part_of}
use Rattle.page_model.specs.declared.parts.Chapter.{Chapter, Chapter-F, roll-Chapter, the_lemmas}
use Rattle.description.specs.Content.{LevelSaid, level, GroupsSaid, no_groups, groups, GroupSaid, group, CommandsSaid, no_commands, commands, CommandSaid, command}
use Rattle.description.specs.Words.{WordsSaid}
use Rattle.description_pages.specs.Chapters.{EachLevelHasItsChapter, chapter_if_shown, chapter_with, chapters_in_group, chapters_on, command_chapters, group_chapters, all_alone, each_alone}
use Rattle.description.specs.View.{command_said, level_said}
use Rattle.description.specs.declared.levels.Command.{Command, out-Command}
use Rattle.description.proofs.Views.{open-Command}
use Rattle.description_pages.specs.Levels.{PageSaid, SubjectSaid}
use Rattle.description_pages.specs.Subjects.{below, below_commands, below_group, below_groups, below_level, from_command, in_short, is_shown}

-- ---- a chapter that is made

pub made-Chapter : {A : Type 0} (c : Chapter-F A (Chapter A)) → chapter_of (roll-Chapter A c) ≡ chapter c.title.now c.name.now (map block_of c.about.items) (map part_of c.parts.items) (chapters_in (map chapter_of c.below.items))
made-Chapter c = search (rules, the_lemmas)

-- ---- each level

at : WordsSaid → SubjectSaid → ChapterSaid
at fixed s = chapter_with fixed s []

abbrev flat : List ChapterSaid → List ChapterSaid
flat some = all_alone (chapters_in some)

flat_both : (some others : List ChapterSaid) → flat (some ++ others) ≡ flat some ++ flat others
flat_both [] others = refl
flat_both (c ∷ some) others = ap (λ x. each_alone c ++ x) (flat_both some others) ∙ sym (append_assoc (each_alone c) (flat some) (flat others))

two : (fixed : WordsSaid) (some others : List ChapterSaid) (ss ts : List SubjectSaid) → flat some ≡ map (at fixed) ss → flat others ≡ map (at fixed) ts → flat (some ++ others) ≡ map (at fixed) (ss ++ ts)
two fixed some others ss ts e f = flat_both some others ∙ ap (λ x. x ++ flat others) e ∙ ap (λ x. map (at fixed) ss ++ x) f ∙ sym (map-append (at fixed) ss ts)

shown_or_not : (fixed : WordsSaid) (b : Bool) (c : ChapterSaid) (ss : List SubjectSaid) → each_alone c ≡ map (at fixed) ss → flat (if b then c ∷ [] else []) ≡ map (at fixed) (if b then ss else [])
shown_or_not fixed true c ss e = append-nil (each_alone c) ∙ e
shown_or_not fixed false c ss e = refl

mutual
  unfolding at

  on_level : (fixed : WordsSaid) (s : SubjectSaid) (l : LevelSaid) → flat (chapters_on fixed s l) ≡ map (at fixed) (below_level s l)
  on_level fixed s (level texts required options choices gs values cs) = two fixed (group_chapters fixed s gs) (command_chapters fixed s cs) (below_groups s gs) (below_commands s cs) (on_groups fixed s gs) (on_commands fixed s cs)

  on_groups : (fixed : WordsSaid) (s : SubjectSaid) (gs : GroupsSaid) → flat (group_chapters fixed s gs) ≡ map (at fixed) (below_groups s gs)
  on_groups fixed s no_groups = refl
  on_groups fixed s (groups g gs) = two fixed (chapters_in_group fixed s g) (group_chapters fixed s gs) (below_group s g) (below_groups s gs) (on_group fixed s g) (on_groups fixed s gs)

  on_group : (fixed : WordsSaid) (s : SubjectSaid) (g : GroupSaid) → flat (chapters_in_group fixed s g) ≡ map (at fixed) (below_group s g)
  on_group fixed s (group title options choices values cs) = on_commands fixed s cs

  on_commands : (fixed : WordsSaid) (s : SubjectSaid) (cs : CommandsSaid) → flat (command_chapters fixed s cs) ≡ map (at fixed) (below_commands s cs)
  on_commands fixed s no_commands = refl
  on_commands fixed s (commands c cs) = two fixed (chapter_if_shown fixed s c) (command_chapters fixed s cs) (from_command s c) (below_commands s cs) (on_command fixed s c) (on_commands fixed s cs)

  on_command : (fixed : WordsSaid) (s : SubjectSaid) (c : CommandSaid) → flat (chapter_if_shown fixed s c) ≡ map (at fixed) (from_command s c)
  on_command fixed s (command called help l) =
      shown_or_not fixed (is_shown (command called help l)) (chapter_with fixed (below s (command called help l)) (chapters_on fixed (below s (command called help l)) l))
      (below s (command called help l) ∷ below_level (below s (command called help l)) l)
      (ap (λ x. at fixed (below s (command called help l)) ∷ x) (on_level fixed (below s (command called help l)) l))

pub each_level_has_its_chapter : EachLevelHasItsChapter
unfolding at
each_level_has_its_chapter fixed s = ap (λ x. at fixed s ∷ x) (on_level fixed (in_short s) s.level)

-- ---- a chapter that is pushed

-- after another
abbrev after : WordsSaid → SubjectSaid → ChapterSaid
after fixed s = chapter_with fixed s (chapters_on fixed s s.level)

shown_is : (fixed : WordsSaid) (s : SubjectSaid) (c : CommandSaid) → is_shown c ≡ true → chapter_if_shown fixed s c ≡ after fixed (below s c) ∷ []
shown_is fixed s (command called help l) e = ap (λ b. if b then after fixed (below s (command called help l)) ∷ [] else []) e

said_shown : {A : Type 0} (c : Command A) → (out-Command A c).hidden ≡ false → is_shown (command_said c) ≡ true
said_shown c h = ap is_shown (open-Command c) ∙ ap not h

level_under : {A : Type 0} (s : SubjectSaid) (c : Command A) → level_said (out-Command A c).level ≡ (below s (command_said c)).level
level_under s c = sym (ap (λ d. (below s d).level) (open-Command c))

pub chapter_put : {A X : Type 0} (see : X → ChapterSaid) (fixed : WordsSaid) (s t : SubjectSaid) (c : Command A) (none own : List X) (made : X) (old new : List X) → (out-Command A c).hidden ≡ false → t ≡ below s (command_said c)
    → none ≡ [] → map see own ≡ map see none ++ chapters_on fixed t (level_said (out-Command A c).level) → see made ≡ chapter_with fixed t (map see own) → new ≡ old ++ made ∷ []
    → map see new ≡ map see old ++ chapter_if_shown fixed s (command_said c)
chapter_put {A} see fixed s t c none own made old new h led empty lower is pushed =
    let whole : map see own ≡ chapters_on fixed (below s (command_said c)) (below s (command_said c)).level =
    lower ∙ ap (λ xs. map see xs ++ chapters_on fixed t (level_said (out-Command A c).level)) empty
    ∙ ap (λ x. chapters_on fixed x (level_said (out-Command A c).level)) led ∙ ap (chapters_on fixed (below s (command_said c))) (level_under s c)
    in
    let own_is : see made ≡ after fixed (below s (command_said c)) =
    is ∙ ap (λ x. chapter_with fixed x (map see own)) led ∙ ap (chapter_with fixed (below s (command_said c))) whole
    in
    ap (map see) pushed ∙ map-append see old (made ∷ []) ∙ ap (λ x. map see old ++ x ∷ []) own_is ∙ sym (ap (λ x. map see old ++ x) (shown_is fixed s (command_said c) (said_shown c h)))

-- a page whose `about` was taken
pub emptied : (said : PageSaid) → said.about ≡ [] → record said { about = [] } ≡ said
emptied said e = ap (λ (x : List BlockSaid). record said { about = x }) (sym e)
