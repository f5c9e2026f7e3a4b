use Rattle.std.proofs.Common.{◌≡◌, ◌++◌, drop, map}
use Rattle.description.specs.View.{groups_said}
use Rattle.description_pages.specs.Sections.{group_sections, section_of}
use Rattle.description.specs.Words.{words_said}
use Rattle.description_pages.proofs.sections.push_groups.Given as goal

abbrev pub invariant-loop-group : goal.invariant-loop-group
invariant-loop-group g l =
    map section_of l.sections.items ++ group_sections (words_said l.making.words.now) l.making.detail l.making.depth (map (λ name. name.now) l.making.names.now) (groups_said (drop l.group-index l.groups))
    ≡ map section_of l.initial.sections.items ++ group_sections (words_said l.making.words.now) l.making.detail l.making.depth (map (λ name. name.now) l.making.names.now) (groups_said l.groups)
