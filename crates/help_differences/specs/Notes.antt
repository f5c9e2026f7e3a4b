-- The other names of a command that a note lists, as `[aliases: put, store]`. It begins and ends on one line.
use Rattle.std.specs.Prelude.{ℕ, ◌-◌, ◌==◌, Bool, List, [], ◌∷◌, bytes_eq, codes, drop, filter, flat_map, length, map, take, if◌then◌else◌}
use Rattle.std.specs.List.{slice_split}
use Rattle.std.specs.Str.{trim}
use Rattle.description.specs.Values.{listed_values}
use Rattle.help_fronts.specs.Words.{is_command}

-- what a note begins with
abbrev pub opening : List ℕ
opening = codes "[aliases: "

abbrev pub begins_note : List ℕ → Bool
begins_note text = bytes_eq (take (length opening) text) opening

-- what stands after the first opening; nothing, if there is none
unfoldable pub after_opening : List ℕ → List ℕ
after_opening [] = []
after_opening (b ∷ bs) = if begins_note (b ∷ bs) then drop (length opening) (b ∷ bs) else after_opening bs

abbrev pub without_last : List (List ℕ) → List (List ℕ)
without_last texts = take (length texts - 1) texts

-- what stands before each `]`, back to the one before it
abbrev pub closed_texts : (line : List ℕ) → List (List ℕ)
closed_texts line = without_last (slice_split (λ b. b == 93) line)

-- what a comma and a blank part, without blanks at its ends, if it could be the name of a command
abbrev pub texts_of_note : (note : List ℕ) → List (List ℕ)
texts_of_note note = filter is_command (map trim (listed_values note))

abbrev pub texts_of_line : (line : List ℕ) → List (List ℕ)
texts_of_line line = flat_map (λ text. texts_of_note (after_opening text)) (closed_texts line)
