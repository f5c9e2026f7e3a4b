-- What a loop over the parts keeps of the page that it writes.
use Rattle.std.specs.Prelude.{◌+◌, ◌∷◌, ◌≡◌, ◌≤◌}
use Rattle.bpaf_doc.proofs.lemmas.Console.Words.{arith, ℕ, Bool, false, List, length, Pairs, Part, hidden_after, Sheet, blank_sheet, pairs_after, part_put, parts_put, no_pairs, tab_stop_from, whole_page}

-- The parts that are left, from this place on, make the page whole.
pub record IsPageLeft (full : Bool) (document : List Part) (whole : Sheet) (index : ℕ) (pairs : Pairs) (hidden : ℕ) (parts : List Part) (page : Sheet) : Type 0 where
  pub same_page : parts_put full document index pairs hidden parts page ≡ whole
  pub in_place : index + length parts ≡ length document
  pub in_range : hidden + length parts ≤ length document

-- before the first part
pub IsPageLeft-all : (full : Bool) (width : ℕ) (document : List Part) (index : ℕ) (pairs : Pairs) (parts : List Part) (page : Sheet)
    → index ≡ 0 → pairs ≡ no_pairs → parts ≡ document → page ≡ blank_sheet width (tab_stop_from 0 false 0 document)
    → IsPageLeft full document (whole_page full width document) index pairs 0 parts page
IsPageLeft-all full width document index pairs parts page counted known all blank = grind arith

-- one part is written
pub IsPageLeft-more : {full : Bool} {document : List Part} {whole : Sheet} {index more : ℕ} {pairs next : Pairs} {hidden after : ℕ} {part : Part} {parts rest : List Part} {page new : Sheet}
    → IsPageLeft full document whole index pairs hidden parts page → parts ≡ part ∷ rest → more ≡ index + 1
    → next ≡ pairs_after document index pairs part → after ≡ hidden_after full hidden part → new ≡ part_put full document index pairs hidden part page
    → IsPageLeft full document whole more next after rest new
IsPageLeft-more left first counted known still wrote = grind arith

pub ruleset page_left = (IsPageLeft-all, IsPageLeft-more)
