-- Values of the code, seen as parts of the list.
use Rattle.bpaf_doc.specs.declared.buffer.Part.TheVariants as handed
use Rattle.bpaf_doc.specs.declared.buffer.{Part.Part as Handed, Token.Token}
use Rattle.bpaf_doc.specs.declared.buffer.Token.TheVariants as token
use Rattle.std.specs.Prelude.{◌∷◌}
use Rattle.bpaf_doc.specs.Words.{List, [], ⊤, Part, Text, Start, End}

-- the part that was returned
abbrev pub part_of : Handed → Part
part_of (handed.Text text style) = Text text.now style
part_of (handed.Start block) = Start block
part_of (handed.End block) = End block

-- the token is the start or the end of a block
abbrev pub IsMark : Token → Type 0
IsMark (token.Text bytes style) = ⊥
IsMark _ = ⊤

-- the part that such a mark adds
abbrev pub mark_parts : Token → List Part
mark_parts (token.Text bytes style) = []
mark_parts (token.BlockStart b) = Start b ∷ []
mark_parts (token.BlockEnd b) = End b ∷ []
