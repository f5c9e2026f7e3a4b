-- What signs become in a context: with its apostrophes, at a line start or not.
use Rattle.std.specs.Prelude.{ℕ, Bool, List, ◌++◌, map, take, slice_index}
use Rattle.bpaf_roff.specs.Escaping.{Byte, Sign, byte_text, is_line_start, text_after}
use Rattle.bpaf_roff.specs.Steps.Output.{written}
use Rattle.bpaf_roff.specs.declared.escape.text.Context.{Context}

-- bytes under its label
abbrev pub bytes_in : Context → List ℕ → List Sign
bytes_in context bytes = map (Byte context.label) bytes

-- what signs become
abbrev pub text_in : Context → List Sign → List ℕ
text_in context signs = text_after context.apostrophes (written context.at_line_start) signs

-- whether a line starts after them
abbrev pub ends_in_line_start : Context → List Sign → Bool
ends_in_line_start context signs = is_line_start (written context.at_line_start ++ text_in context signs)

-- what the byte at a place becomes, after those before it
abbrev pub byte_text_in : Context → List ℕ → ℕ → List ℕ
byte_text_in context bytes place =
    let before = text_in context (bytes_in context (take place bytes)) in
    byte_text context.apostrophes (written context.at_line_start ++ before) context.label (slice_index bytes place)
