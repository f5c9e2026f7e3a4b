-- What some calls leave, computed.
use Rattle.std.specs.Prelude.{◌≡◌, [], ◌∷◌, codes, refl, Some}
use Rattle.bpaf_doc.specs.declared.buffer.Block.TheVariants as block
use Rattle.bpaf_doc.specs.declared.buffer.Style.TheVariants as style
use Rattle.bpaf_doc.specs.Buffer.FirstLine.{first_line_of}
use Rattle.bpaf_doc.specs.Buffer.Parts.{Text, Start, End}
use Rattle.bpaf_doc.specs.Buffer.Writes.{doc_writes, document_of, em_doc_writes, literal, path_writes, plain, with_text, with_writes}

joined_texts : with_text [] [] style.Text ≡ Text [] style.Text ∷ []
    × document_of (plain (codes "a") ∷ plain (codes "b") ∷ literal (codes "c") ∷ []) ≡ Text (codes "ab") style.Text ∷ Text (codes "c") style.Literal ∷ []
    × with_writes (Text (codes "ab") style.Text ∷ []) (doc_writes (Text (codes "c") style.Text ∷ []))
    ≡ Text (codes "ab") style.Text ∷ Start block.InlineBlock ∷ Text (codes "c") style.Text ∷ End block.InlineBlock ∷ []
joined_texts = (refl, refl, refl)

-- a first plain text without a newline is a title, and the other parts stay
title : document_of (em_doc_writes (Text (codes "Title") style.Text ∷ Text (codes "x") style.Literal ∷ []))
    ≡ Start block.InlineBlock ∷ Text (codes "Title") style.Emphasis ∷ Text (codes "x") style.Literal ∷ End block.InlineBlock ∷ []
title = refl

-- with a newline, what follows it is a section, also where it is empty
section : document_of (em_doc_writes (Text (codes "Title\n") style.Text ∷ Text (codes "x") style.Literal ∷ []))
    ≡ Start block.InlineBlock ∷ Text (codes "Title") style.Emphasis ∷ Start block.Section3 ∷ Text [] style.Text ∷ Text (codes "x") style.Literal ∷ End block.Section3
    ∷ End block.InlineBlock ∷ []
section = refl

-- a first text of another style is not a title
first_texts : document_of (em_doc_writes (Text (codes "x") style.Literal ∷ Text (codes "y") style.Text ∷ []))
    ≡ Start block.InlineBlock ∷ Text (codes "x") style.Literal ∷ Text (codes "y") style.Text ∷ End block.InlineBlock ∷ []
    × first_line_of (Text (codes "one\ntwo") style.Text ∷ Text (codes "z") style.Literal ∷ []) ≡ Some (Text (codes "one") style.Text ∷ [])
    × first_line_of (Text (codes "one") style.Text ∷ Text (codes "z") style.Literal ∷ Start block.Block ∷ [])
    ≡ Some (Text (codes "one") style.Text ∷ Text (codes "z") style.Literal ∷ [])
    × with_writes (Text (codes "my ") style.Literal ∷ []) (path_writes (codes "git" ∷ codes "add" ∷ []))
    ≡ Text (codes "my git") style.Literal ∷ Text (codes " ") style.Text ∷ Text (codes "add") style.Literal ∷ Text (codes " ") style.Text ∷ []
first_texts = (refl, refl, refl, refl)
