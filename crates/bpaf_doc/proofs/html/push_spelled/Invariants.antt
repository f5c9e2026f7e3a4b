use Rattle.std.specs.Prelude.{◌++◌, ◌≡◌}
use Rattle.bpaf_doc.proofs.lemmas.Html.Words.{length, string_bytes, flat_map, spelling_of}
use denote.Text.{Utf8}
use denote.Shadow.{shadow}
use Rattle.bpaf_doc.proofs.html.push_spelled.Given as goal

-- what is written and the rest in its spelling are the whole text in its spelling
abbrev pub invariant-loop-at : goal.invariant-loop-at
invariant-loop-at g l = shadow (Utf8 l.rest)
    × (string_bytes l.out ++ flat_map (spelling_of l.language) l.rest ≡ string_bytes l.initial.out ++ flat_map (spelling_of l.language) l.text)

abbrev pub decreases-loop-at : goal.decreases-loop-at
decreases-loop-at g l = length l.rest
