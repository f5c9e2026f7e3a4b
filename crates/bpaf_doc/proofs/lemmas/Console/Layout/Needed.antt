-- The rules of what is light: a line is broken between ordinary chunks with light chunks and
-- marks between them only where the second would pass the width.
use Rattle.std.specs.Prelude.{◌&&◌}
use Rattle.bpaf_doc.proofs.lemmas.Console.Words.{arith, ℕ, Bool, true, false, and_parts, Chunk, is_inked, is_ordinary, event_columns, is_light, is_light_mark}
use Rattle.bpaf_doc.proofs.lemmas.Console.Layout.Reach.{Rule, IsSound, sum_of}

-- an ordinary inked chunk
abbrev pub is_plain : Chunk → Bool
is_plain chunk = is_ordinary chunk && is_inked chunk

abbrev pub light : Rule
light = record { begins = is_plain; follows = is_light; has_chunks = true; takes = event_columns; taken = λ es. sum_of event_columns es }

abbrev pub light_marks : Rule
light_marks = record { begins = is_plain; follows = is_light_mark; has_chunks = false; takes = event_columns; taken = λ es. sum_of event_columns es }

pub light_sound : (width deepest : ℕ) → IsSound width deepest light
light_sound width deepest = grind (arith, and_parts)
