-- An HTML page as the code keeps it while it writes one fragment after another. This is internal: `Html/Exact` says
-- what comes out, and that these pages are the same is proved (proofs/lemmas/Html/Exact).
use Rattle.std.specs.Prelude.{if◌then◌else◌, ◌&&◌, ◌++◌, ◌∷◌}
use Rattle.bpaf_doc.specs.Words.{ℕ, Bool, true, false, List, [], flat_map, codes, Block, Chunk, Raw, drop, fold}
use Rattle.bpaf_doc.specs.Html.Fragments.{Fragment, TextStart, Shown, TextEnd, Hidden, Start, End}
use Rattle.bpaf_doc.specs.Html.Page.{escaped_character, is_definition_list}
pub use Rattle.bpaf_doc.specs.Html.Exact.{is_empty, is_header, start_tag, end_tag, opening_tags, closing_tags}

-- the bytes so far, whether there are none or they end in a break, whether the innermost open block is a definition
-- list, and the same for the blocks around it
pub record Written : Type 0 where
  pub bytes : List ℕ
  pub fresh : Bool
  pub in_list : Bool
  pub outer : List Bool

abbrev pub blank_page : Written
blank_page = record { bytes = []; fresh = true; in_list = false; outer = [] }

-- tags, or a text as it is
abbrev pub with_text : Written → List ℕ → Written
with_text p text = record p { bytes = p.bytes ++ text; fresh = p.fresh && is_empty text }

abbrev pub with_break : Written → Written
with_break p = record p { bytes = p.bytes ++ codes "<br>\n"; fresh = true }

abbrev pub with_words : Written → List ℕ → Written
with_words p text = record p { bytes = p.bytes ++ flat_map escaped_character text; fresh = p.fresh && is_empty text }

-- a break before a mark of a header, unless there is one
abbrev pub with_heading : Written → Block → Written
with_heading p b = if is_header b then (if p.fresh then p else with_break p) else p

-- the first of them, or false if there is none
abbrev pub first_or_false : List Bool → Bool
first_or_false [] = false
first_or_false (b ∷ bs) = b

-- a block is closed
abbrev pub closed : Written → Written
closed p = record p { in_list = first_or_false p.outer; outer = drop 1 p.outer }

abbrev pub started : Written → Block → Written
started p b =
    let q : Written = with_text (with_heading p b) (start_tag b p.in_list) in
    record q { in_list = is_definition_list b; outer = q.in_list ∷ q.outer }

abbrev pub ended : Written → Block → Written
ended p b = with_text (with_heading (closed p) b) (end_tag b (first_or_false p.outer))

-- the page after a chunk that is shown
abbrev pub chunk_page : Written → Chunk → Written
chunk_page p (Raw bytes weight) = with_words p bytes
chunk_page p _ = with_break p

-- the page after a fragment
abbrev pub page_after : Written → Fragment → Written
page_after p (TextStart style) = with_text p (opening_tags style)
page_after p (Shown style chunk) = chunk_page p chunk
page_after p (TextEnd style) = with_text p (closing_tags style)
page_after p Hidden = p
page_after p (Start b) = started p b
page_after p (End b) = ended p b

-- the page after some fragments
abbrev pub page_after_all : Written → List Fragment → Written
page_after_all = fold page_after
