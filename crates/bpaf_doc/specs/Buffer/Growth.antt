-- How a document grows, and how far it is at a checkpoint.
use Rattle.std.specs.Prelude.{◌≡◌}
use Rattle.bpaf_doc.specs.Words.{ℕ, List, length, Part, HasUtf8Texts, document_bytes}
use Rattle.bpaf_doc.specs.Buffer.Writes.{Write, with_writes}

-- some writes lead from the first list of parts to the second
abbrev pub Grows : List Part → List Part → Type 0
Grows before now = (writes : List Write) × (now ≡ with_writes before writes)

-- how far a document is: how many parts it has, and how many bytes of text
pub record Reached : Type 0 where
  pub parts : ℕ
  pub bytes : ℕ

-- a checkpoint of a document counts its parts and the bytes of its texts
pub record IsCheckpointOf (document : List Part) (at : Reached) : Type 0 where
  pub parts : at.parts ≡ length document
  pub bytes : at.bytes ≡ length (document_bytes document)
  pub utf8 : HasUtf8Texts document

-- the document was once at this checkpoint, and was only written to since
abbrev pub WasAt : Reached → List Part → Type 0
WasAt at now = (before : List Part) × IsCheckpointOf before at × Grows before now

-- the document is again as it was at the checkpoint
abbrev pub RollsBack : Reached → List Part → List Part → Type 0
RollsBack at now after = (before : List Part) → IsCheckpointOf before at → Grows before now → after ≡ before
