-- Which documents are equal, and which comes first. Parts are compared in order: by kind, then by text, then by style
-- or block.
use Rattle.std.specs.Prelude.{◌↔◌, ◌≡◌}
use Rattle.bpaf_doc.specs.Words.{ℕ, IsTrue, Bool, List, nat_eq, Part, Text, Start, End, part_bytes}
use Rattle.std.specs.Ordering.{nat_cmp, on, then_cmp, eq_of_both}
use Rattle.std.specs.Cmp.Lexicographic.{slice_cmp, pointwise}
use Rattle.std.specs.declared.cmp.Ordering.{Ordering}
use denote.Enum.Declared.{tag_of}
use Rattle.bpaf_doc.specs.contracts.buffer.Style as style
use Rattle.bpaf_doc.specs.contracts.buffer.Block as block

-- texts, starts, ends
abbrev pub kind_number : Part → ℕ
kind_number (Text bytes s) = 0
kind_number (Start b) = 1
kind_number (End b) = 2

-- the place of the style or the block in its declaration
abbrev pub label_number : Part → ℕ
label_number (Text bytes s) = tag_of style.the_type s
label_number (Start b) = tag_of block.the_type b
label_number (End b) = tag_of block.the_type b

abbrev pub same_text : List ℕ → List ℕ → Bool
same_text = pointwise nat_eq

abbrev pub same_part : Part → Part → Bool
same_part = eq_of_both (on kind_number nat_eq) (eq_of_both (on part_bytes same_text) (on label_number nat_eq))

abbrev pub same_document : List Part → List Part → Bool
same_document = pointwise same_part

abbrev pub part_cmp : Part → Part → Ordering
part_cmp = then_cmp (on kind_number nat_cmp) (then_cmp (on part_bytes (slice_cmp nat_cmp)) (on label_number nat_cmp))

abbrev pub document_cmp : List Part → List Part → Ordering
document_cmp = slice_cmp part_cmp

-- two documents are equal exactly where they have the same parts
abbrev pub IsEqualityOfParts : Type 0
IsEqualityOfParts = (ps qs : List Part) → IsTrue (same_document ps qs) ↔ (ps ≡ qs)
