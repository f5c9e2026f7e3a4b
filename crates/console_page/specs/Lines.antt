-- Lines with prefixes, and paragraphs that are laid out.
use Rattle.std.specs.Prelude.{ℕ, ◌==◌, Bool, true, false, List, [], ◌∷◌, ◌++◌, codes, replicate}
use Rattle.bpaf_doc.specs.declared.buffer.Style.TheVariants as style
use Rattle.bpaf_doc.specs.Buffer.Writes.{with_text}
use Rattle.bpaf_doc.specs.Console.Exact.{console_page}

abbrev pub blanks : ℕ → List ℕ
blanks count = replicate count 32

-- A text of words as `bpaf_doc` lays out a document of nothing else.
unfoldable pub laid_out : ℕ → List ℕ → List ℕ
laid_out width text = console_page true width (with_text [] text style.Text)

-- a line after a prefix, which an empty line does not have
abbrev pub fronted : List ℕ → List ℕ → List ℕ
fronted front [] = []
fronted front (b ∷ line) = front ++ (b ∷ line)

-- The lines of a text, the first with one prefix and each further one with a second: `first` stands before the next
-- byte, unless that ends the line; after a newline it is the other prefix.
abbrev pub prefixed : List ℕ → List ℕ → List ℕ → List ℕ
prefixed first others [] = []
prefixed first others (b ∷ text) =
    elim (b == 10) [
      | true ↦ 10 ∷ prefixed others others text
      | false ↦ first ++ (b ∷ prefixed [] others text)
    ]

-- an empty line, where one is wanted
abbrev pub parting : Bool → List ℕ
parting true = codes "\n"
parting false = []
