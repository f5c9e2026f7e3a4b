-- A level of permitted texts, with all levels below it on one page, has permitted texts alone.
use Rattle.std.proofs.Common.{ℕ, zero, suc, ◌-◌, List, [], ◌∷◌, ◌++◌, length, get_or, flat_map, Option, Some, None}
use Rattle.page_model.specs.Content.{Line, BlockSaid, paragraph, code, bullets, TargetSaid, to_page, to_heading, EntrySaid, FormSaid, PartSaid, heading, usage, block, entries, ChapterSaid, chapter, ChaptersSaid, no_chapters, chapters}
use Rattle.page_model.specs.Permitted.{block_texts, chapter_texts, chapters_texts, entry_texts, form_texts, is_permitted, line_texts, part_texts, piece_text, target_texts}
use Rattle.page_model.specs.View.{chapters_in}
use Rattle.page_model.specs.declared.parts.Rank.TheVariants.{Section}
use Rattle.description.specs.Content.{LevelSaid, level, GroupsSaid, no_groups, groups, GroupSaid, group, CommandsSaid, no_commands, commands, CommandSaid, command}
use Rattle.description.specs.Words.{WordsSaid}
use Rattle.description_usage.specs.Usage.{group_list}
use Rattle.description_pages.specs.Chapters.{chapter_from, chapter_if_shown, chapter_with, chapters_in_group, chapters_on, command_chapters, group_chapters, last_name, parts_after}
use Rattle.description_pages.specs.Levels.{PageSaid, SubjectSaid, page_of}
use Rattle.description_pages.specs.Subjects.{below, in_short, is_shown}
use Rattle.description_pages.specs.declared.levels.Depth.TheVariants.{Deep}
use Rattle.description_pages.specs.declared.sections.Detail.TheVariants.{Full}
use Rattle.page_laws.specs.Texts.{command_texts, commands_texts, level_texts}
use Rattle.page_laws.proofs.Each.{Each, each_append, each_if, each_left, each_right}
use Rattle.page_laws.proofs.Clean as clean
use Rattle.page_laws.proofs.Blocks.{BlockIs, LineIs, Permitted, PieceIs}
use Rattle.page_laws.proofs.Usage.{FormIs, GroupIs, each_flat, level_known}
use Rattle.page_laws.proofs.Entries.{CommandIs, EntryIs, TargetIs, WordsAre, command_known}
use Rattle.page_laws.proofs.Pages.{PartIs, SubjectIs, about_left, below_is, in_order_is, page_is, short_is}

-- ---- a level with those below it

abbrev mutual
  pub ChapterIs : ChapterSaid → Type 0
  ChapterIs (chapter title name about parts lower) = Permitted title × Permitted name × Each BlockIs about × Each PartIs parts × ChaptersIs lower

  pub ChaptersIs : ChaptersSaid → Type 0
  ChaptersIs no_chapters = Unit {0}
  ChaptersIs (chapters first others) = ChapterIs first × ChaptersIs others

all_in : (cs : List ChapterSaid) → Each ChapterIs cs → ChaptersIs (chapters_in cs)
all_in [] h = tt
all_in (c ∷ cs) h = (h.0, all_in cs h.1)

each_get : {X : Type 0} (P : X → Type 0) (xs : List X) (n : ℕ) (d : X) → P d → Each P xs → P (get_or xs n d)
each_get P [] n d h k = h
each_get P (x ∷ xs) zero d h k = k.0
each_get P (x ∷ xs) (suc n) d h k = each_get P xs n d h k.1

last_is : (names : List (List ℕ)) → Each Permitted names → Permitted (last_name names)
last_is names h = each_get Permitted names (length names - 1) [] (clean.clean_nil is_permitted) h

module _ (w : WordsSaid) (k : WordsAre w) where
  after_is : (s : SubjectSaid) (h : SubjectIs s) → Each PartIs (parts_after w (page_of w Full Deep s))
  after_is s h =
      let said : PageSaid = page_of w Full Deep s in
      in_order_is w k Full Deep s.names h.names Section (record said { about = [] }) (about_left w k Full Deep s.names h.names said (page_is w k Full Deep s h))

  with_lower : (s : SubjectSaid) → SubjectIs s → (lower : List ChapterSaid) → Each ChapterIs lower → ChapterIs (chapter_with w s lower)
  with_lower s h lower j = let said = page_is w k Full Deep s h in (said.title, last_is s.names h.names, said.about, after_is s h, all_in lower j)

  mutual
    on_level : (s : SubjectSaid) → SubjectIs s → (l : LevelSaid) → Each Permitted (level_texts l) → Each ChapterIs (chapters_on w s l)
    on_level s h (level t r os cs gs ps ms) j =
        let known = level_known (level t r os cs gs ps ms) j in
        each_append ChapterIs (group_chapters w s gs) (command_chapters w s ms) (in_groups s h gs known.2) (of_commands s h ms known.1.commands)

    in_groups : (s : SubjectSaid) → SubjectIs s → (gs : GroupsSaid) → Each GroupIs (group_list gs) → Each ChapterIs (group_chapters w s gs)
    in_groups s h no_groups j = tt
    in_groups s h (groups g gs) j = each_append ChapterIs (chapters_in_group w s g) (group_chapters w s gs) (in_group s h g j.0) (in_groups s h gs j.1)

    in_group : (s : SubjectSaid) → SubjectIs s → (g : GroupSaid) → GroupIs g → Each ChapterIs (chapters_in_group w s g)
    in_group s h (group title os cs ps ms) j = of_commands s h ms j.1.commands

    of_commands : (s : SubjectSaid) → SubjectIs s → (ms : CommandsSaid) → Each Permitted (commands_texts ms) → Each ChapterIs (command_chapters w s ms)
    of_commands s h no_commands j = tt
    of_commands s h (commands m ms) j =
        each_append ChapterIs (chapter_if_shown w s m) (command_chapters w s ms) (of_one s h m (command_known m (each_left Permitted (command_texts m) (commands_texts ms) j)))
        (of_commands s h ms (each_right Permitted (command_texts m) (commands_texts ms) j))

    of_one : (s : SubjectSaid) → SubjectIs s → (m : CommandSaid) → CommandIs m → Each ChapterIs (chapter_if_shown w s m)
    of_one s h (command called help l) j =
        let inner = below_is s (command called help l) h j in
        let lower : List ChapterSaid = chapters_on w (below s (command called help l)) l in
        each_if ChapterIs (is_shown (command called help l)) _ (with_lower (below s (command called help l)) inner lower (on_level (below s (command called help l)) inner l j.level), tt)

  pub chapter_is : (s : SubjectSaid) → SubjectIs s → ChapterIs (chapter_from w s)
  chapter_is s h = with_lower s h (chapters_on w (in_short s) s.level) (on_level (in_short s) (short_is s h) s.level h.level)

-- ---- its texts

line_said : (line : Line) → LineIs line → Each Permitted (line_texts line)
line_said line h = each_flat PieceIs Permitted (λ piece. piece_text piece ∷ []) (λ piece p. (p, tt)) line h

lines_said : (lines : List Line) → Each LineIs lines → Each Permitted (flat_map line_texts lines)
lines_said lines h = each_flat LineIs Permitted line_texts line_said lines h

block_said : (b : BlockSaid) → BlockIs b → Each Permitted (block_texts b)
block_said (paragraph lines) h = lines_said lines h
block_said (code lines) h = h
block_said (bullets items) h = each_flat (Each LineIs) Permitted (flat_map line_texts) lines_said items h

blocks_said : (bs : List BlockSaid) → Each BlockIs bs → Each Permitted (flat_map block_texts bs)
blocks_said bs h = each_flat BlockIs Permitted block_texts block_said bs h

target_said : (target : Option TargetSaid) → TargetIs target → Each Permitted (target_texts target)
target_said None h = tt
target_said (Some (to_page name)) h = (h, tt)
target_said (Some (to_heading title)) h = (h, tt)

entry_said : (e : EntrySaid) → EntryIs e → Each Permitted (entry_texts e)
entry_said e h =
    each_append Permitted (target_texts e.target) _ (target_said e.target h.target)
    (each_append Permitted (flat_map line_texts e.terms) (flat_map block_texts e.body) (lines_said e.terms h.content.0) (blocks_said e.body h.content.1))

form_said : (form : FormSaid) → FormIs form → Each Permitted (form_texts form)
form_said form h = (h.0, lines_said form.items h.1)

part_said : (part : PartSaid) → PartIs part → Each Permitted (part_texts part)
part_said (heading rank title) h = (h, tt)
part_said (usage forms) h = each_flat FormIs Permitted form_texts form_said forms h
part_said (block shown) h = block_said shown h
part_said (entries list) h = each_flat EntryIs Permitted entry_texts entry_said list h

mutual
  pub chapter_said : (c : ChapterSaid) → ChapterIs c → Each Permitted (chapter_texts c)
  chapter_said (chapter title name about parts lower) h = (
    h.0,
    (
      h.1,
      each_append Permitted (flat_map block_texts about ++ flat_map part_texts parts) (chapters_texts lower)
          (each_append Permitted (flat_map block_texts about) (flat_map part_texts parts) (blocks_said about h.2) (each_flat PartIs Permitted part_texts part_said parts h.3)) (chapters_said lower h.4),
    ),
  )

  chapters_said : (cs : ChaptersSaid) → ChaptersIs cs → Each Permitted (chapters_texts cs)
  chapters_said no_chapters h = tt
  chapters_said (chapters first others) h = each_append Permitted (chapter_texts first) (chapters_texts others) (chapter_said first h.0) (chapters_said others h.1)
