use Rattle.std.proofs.Common.{◌≡◌, ◌++◌, map, string_bytes}
use Rattle.std.specs.Str.Iter.{chars_rest}
use Rattle.bpaf_help.specs.Chapters.{dashed_byte}
use Rattle.bpaf_help.proofs.pages.paths.without_blanks.Given as goal

abbrev pub invariant-loop-character : goal.invariant-loop-character
invariant-loop-character g l = record { written : string_bytes l.dashed ++ map dashed_byte (chars_rest l.character-iterator) ≡ map dashed_byte l.text }
