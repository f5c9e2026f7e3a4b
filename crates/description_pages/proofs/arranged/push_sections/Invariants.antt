use Rattle.std.proofs.Common.{◌≡◌, ◌++◌, flat_map, map}
use Rattle.page_model.specs.View.{part_of}
use Rattle.description_pages.specs.Arranged.{section_parts}
use Rattle.description_pages.specs.Sections.{section_of}
use Rattle.description_pages.proofs.arranged.push_sections.Given as goal

abbrev pub invariant-loop-section : goal.invariant-loop-section
invariant-loop-section l =
    map part_of l.parts.items ++ flat_map (section_parts l.titles.letters l.titles.rank) (map section_of l.section-iterator.rest.items)
    ≡ map part_of l.fn.parts.items ++ flat_map (section_parts l.titles.letters l.titles.rank) (map section_of l.fn.sections.items)
