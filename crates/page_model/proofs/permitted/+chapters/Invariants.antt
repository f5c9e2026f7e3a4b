use Rattle.std.proofs.Common.{◌≡◌, None, flat_map, map, take}
use Rattle.page_model.specs.Permitted.{chapter_texts, refused_in}
use Rattle.page_model.specs.View.{chapter_of}
use Rattle.page_model.proofs.permitted.+chapters.Given as goal

-- what was looked at is permitted
abbrev pub invariant-refused_in_chapters-loop-one : goal.invariant-refused_in_chapters-loop-one
invariant-refused_in_chapters-loop-one g l = refused_in (flat_map chapter_texts (map chapter_of (take l.one-index l.chapters))) ≡ None
