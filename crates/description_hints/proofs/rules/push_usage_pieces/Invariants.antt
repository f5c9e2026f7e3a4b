use Rattle.std.proofs.Common.{◌≡◌, ◌++◌, flat_map, map, take}
use Rattle.page_model.specs.View.{line_of}
use Rattle.description_hints.specs.Hints.{about_path, usage_piece_hints}
use Rattle.description_hints.specs.View.{holds, path_said, warning_said}
use Rattle.description_hints.proofs.rules.push_usage_pieces.Given as goal

abbrev pub invariant-loop-piece : goal.invariant-loop-piece
invariant-loop-piece l =
    map warning_said l.found.items ≡ map warning_said l.fn.found.items ++ about_path (path_said l.path) (flat_map (usage_piece_hints (holds l.own) (holds l.help_words)) (line_of (take l.piece-index l.pieces)))
