-- The documents that the pages of an application write are well nested.
use Rattle.std.specs.Prelude.{ℕ, List, ◌∷◌, [], All}
use Rattle.bpaf_doc.specs.Buffer.Parts.{IsWellNested}
use Rattle.bpaf_doc.specs.Buffer.Writes.{document_of}
use Rattle.bpaf_meta.specs.Content.{Tree, Head}
use Rattle.bpaf_items.specs.Page.NestedTexts.{HasNestedHead, HasNestedTexts}
use Rattle.bpaf_help.specs.Chapters.{Chapter, chapters_of, collected_writes, manual_writes}

-- the texts of a chapter, in its info and in its tree
abbrev pub HasNestedChapter : Chapter → Type 0
HasNestedChapter c = HasNestedHead c.info × HasNestedTexts c.content

-- the same for an application and all its commands
abbrev pub HasNestedPages : (app : List ℕ) → Head → Tree → Type 0
HasNestedPages app i t = All HasNestedChapter (chapters_of (app ∷ []) i t)

abbrev pub CollectedPagesAreNested : Type 0
CollectedPagesAreNested = (app : List ℕ) (t : Tree) (i : Head) → HasNestedPages app i t
    → IsWellNested (document_of (collected_writes app t i))

abbrev pub ManualPagesAreNested : Type 0
ManualPagesAreNested = (app : List ℕ) (t : Tree) (i : Head) → HasNestedPages app i t
    → IsWellNested (document_of (manual_writes app t i))
