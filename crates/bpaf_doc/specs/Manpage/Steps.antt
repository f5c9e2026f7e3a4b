-- What an unfinished page holds after each part, as its writer keeps it. This is internal: `Manpage/Exact` says what
-- comes out, and that this comes to it is proved (proofs/lemmas/Manpage/Drafts).
use Rattle.std.specs.Prelude.{if◌then◌else◌, ◌++◌, ◌||◌, ◌∷◌}
use Rattle.bpaf_doc.specs.Words.{ℕ, Bool, false, List, [], Option, Some, None, fold, str_to_ascii_uppercase, Style, Block, Part, Text, Start, End, RoffText, with_written, control_pieces, text_pieces}
use Rattle.bpaf_doc.specs.Manpage.Exact.{name_pieces, closing_pieces}
use Rattle.bpaf_doc.specs.Manpage.Events.{start_name, heading_name, style_name, font_of, is_section, is_start, sets_stripping}

-- the text of the page, whether newlines are stripped, the captured texts since the last end of a section, and whether
-- a text is captured
pub record Draft : Type 0 where
  pub page : RoffText
  pub strips : Bool
  pub heading : List ℕ
  pub captures : Bool

-- a page before the first part of the document
abbrev pub draft_on : RoffText → Bool → Draft
draft_on page strips = record { page = page; strips = strips; heading = []; captures = false }

-- a captured text is kept for the heading, any other is written
abbrev pub after_text : Draft → List ℕ → Style → Draft
after_text draft text how =
    if draft.captures then record draft { heading = draft.heading ++ text }
    else record draft {
      page = with_written draft.page
          (name_pieces (style_name how) ++ text_pieces draft.strips ((font_of how, text) ∷ []));
    }

-- newlines are stripped from the start of a term on, and kept from the end of a term or a body on
abbrev pub strips_after : Part → Bool → Bool
strips_after part strips = if sets_stripping part then is_start (Some part) else strips

abbrev pub after_start : Draft → Block → Draft
after_start draft b =
    record draft {
      page = with_written draft.page (name_pieces (start_name b));
      strips = strips_after (Start b) draft.strips;
      captures = draft.captures || is_section b;
    }

-- a heading is written in capitals
abbrev pub after_section : Draft → List ℕ → Draft
after_section draft name =
    record draft {
      page = with_written draft.page (control_pieces name (str_to_ascii_uppercase draft.heading ∷ []));
      heading = [];
      captures = false;
    }

abbrev pub after_block : Draft → Block → Draft
after_block draft b =
    record draft {
      page = with_written draft.page (closing_pieces b);
      strips = strips_after (End b) draft.strips;
    }

abbrev pub after_end : Draft → Block → Option (List ℕ) → Draft
after_end draft b None = after_block draft b
after_end draft b (Some name) = after_section draft name

abbrev pub after_part : Draft → Part → Draft
after_part draft (Text text how) = after_text draft text how
after_part draft (Start b) = after_start draft b
after_part draft (End b) = after_end draft b (heading_name b)

abbrev pub after_parts : Draft → List Part → Draft
after_parts = fold after_part
