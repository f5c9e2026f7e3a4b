-- A markdown text as the code keeps it while it writes one fragment after another. This is internal: `Markdown/Exact`
-- says what comes out, and that these texts are the same is proved (proofs/lemmas/Markdown/Exact).
use Rattle.std.specs.Prelude.{if◌then◌else◌, ◌++◌, ◌+◌, ◌-◌, ◌==◌, ◌^◌}
use Rattle.bpaf_doc.specs.Words.{ℕ, Bool, true, false, List, [], flat_map, codes, nat_lt, min, Style, Block, Chunk, Raw, Paragraph, LineBreak, code_weight, fence_weight, fold}
use Rattle.bpaf_doc.specs.declared.buffer.Block.TheVariants as blocks
use Rattle.bpaf_doc.specs.declared.html.markdown.Item.{Item}
use Rattle.bpaf_doc.specs.declared.html.markdown.Item.TheVariants as items
use Rattle.bpaf_doc.specs.Html.Fragments.{Fragment, TextStart, Shown, TextEnd, Hidden, Start, End}
use Rattle.bpaf_doc.specs.Markdown.Page.{escaped_character, is_term_end}
pub use Rattle.bpaf_doc.specs.Markdown.Exact.{starts_line, starts_paragraph, opening_marks, closing_marks}

-- what the code keeps of an item: whether its dash waits for the next fragment
abbrev pub is_pending : Item → Bool
is_pending items.Pending = true
is_pending _ = false

-- and whether there are blanks in place of its dash
abbrev pub is_empty : Item → Bool
is_empty items.Empty = true
is_empty _ = false

-- The bytes so far; whether a Header was started; whether the last mark of a definition list was a start; whether an
-- item's dash waits for the next fragment, and otherwise whether it is empty; the Mono starts and ends so far; whether
-- a code block is open.
pub record Marked : Type 0 where
  pub bytes : List ℕ
  pub headed : Bool
  pub in_list : Bool
  pub pending : Bool
  pub empty_item : Bool
  pub starts : ℕ
  pub ends : ℕ
  pub in_code : Bool

abbrev pub blank_text : Marked
blank_text =
    record {
      bytes = [];
      headed = false;
      in_list = false;
      pending = false;
      empty_item = false;
      starts = 0;
      ends = 0;
      in_code = false;
    }

abbrev pub put : Marked → List ℕ → Marked
put p text = record p { bytes = p.bytes ++ text }

abbrev pub with_new_line : Marked → Marked
with_new_line p = if starts_line p.bytes then p else put p (codes "\n")

abbrev pub with_blank_line : Marked → Marked
with_blank_line p = if starts_paragraph p.bytes then p else put p (codes "\n\n")

-- the dash of an item that waits for it, or blanks where its term is empty
abbrev pub with_item : Marked → Bool → Marked
with_item p empty =
    if p.pending then record (put p (if empty then codes "  " else codes "- ")) { pending = false; empty_item = empty }
    else p

abbrev pub with_line : Marked → List ℕ → Marked
with_line p text = put (put (put p (codes "  ")) text) (codes "\n")

abbrev pub open_code : Marked → Marked
open_code p = if p.in_code then p else record p { bytes = p.bytes ++ codes "\n\n  ```text\n"; in_code = true }

abbrev pub close_code : Marked → List ℕ → Marked
close_code p fence = if p.in_code then record p { bytes = p.bytes ++ fence; in_code = false } else p

abbrev pub with_words : Marked → List ℕ → Marked
with_words p text =
    put (close_code p (codes "\n  ```\n")) (if nat_lt p.ends p.starts then flat_map escaped_character text else text)

abbrev pub with_raw : Marked → List ℕ → ℕ → Marked
with_raw p text weight =
    if weight == fence_weight then with_line (with_new_line p) text
    else (if weight == code_weight then with_line (open_code p) text else with_words p text)

abbrev pub with_chunk : Marked → Chunk → Marked
with_chunk p (Raw text weight) = with_raw p text weight
with_chunk p Paragraph = put p (if p.in_list then codes "\n\n  " else codes "\n\n")
with_chunk p LineBreak = put p (codes "\n")

abbrev pub text_ended : Marked → Style → Marked
text_ended p style = put (close_code p (codes "  ```\n")) (closing_marks style)

abbrev pub header_started : Marked → Marked
header_started p =
    record (put (with_blank_line p) (if p.headed then codes "## " else codes "# ")) { headed = true }

abbrev pub body_started : Marked → Marked
body_started p =
    put (with_new_line (if p.in_list then put p (if p.empty_item then codes " " else codes " &mdash; ") else p))
    (codes "  ")

-- one more, up to the greatest usize
abbrev pub one_more : ℕ → ℕ
one_more n = min (n + 1) (2 ^ 64 - 1)

abbrev pub started : Marked → Block → Marked
started p blocks.Header = header_started p
started p blocks.Section3 = put p (codes "### ")
started p blocks.Section4 = record (with_new_line p) { pending = true; empty_item = false }
started p blocks.ItemTerm = record (with_new_line p) { pending = true; empty_item = false }
started p blocks.ItemBody = body_started p
started p blocks.DefinitionList = record p { in_list = true }
started p blocks.Block = put p (codes "\n")
started p blocks.Mono = record p { starts = one_more p.starts }
started p _ = p

abbrev pub ended : Marked → Block → Marked
ended p blocks.Header = put p (codes "\n")
ended p blocks.Section2 = put p (codes "\n")
ended p blocks.Section3 = put p (codes "\n")
ended p blocks.Section4 = put p (codes "\n")
ended p blocks.Block = put p (codes "\n")
ended p blocks.ItemBody = put p (if p.in_list then codes "\n" else [])
ended p blocks.DefinitionList = record p { bytes = p.bytes ++ codes "\n"; in_list = false }
ended p blocks.Mono = record p { ends = one_more p.ends }
ended p _ = p

-- what a fragment writes of its own
abbrev pub own_after : Marked → Fragment → Marked
own_after p (TextStart style) = put p (opening_marks style)
own_after p (Shown style chunk) = with_chunk p chunk
own_after p (TextEnd style) = text_ended p style
own_after p Hidden = p
own_after p (Start b) = started p b
own_after p (End b) = ended p b

-- the text after a fragment, and after all of some
abbrev pub marked_after : Marked → Fragment → Marked
marked_after p f = own_after (with_item p (is_term_end f)) f

abbrev pub marked_after_all : Marked → List Fragment → Marked
marked_after_all = fold marked_after
