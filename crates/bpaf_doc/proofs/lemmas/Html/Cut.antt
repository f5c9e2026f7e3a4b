-- The snippets that make up a page.
use Rattle.std.specs.Prelude.{if◌then◌else◌, ◌++◌, ◌∷◌, ◌≡◌}
use Rattle.bpaf_doc.proofs.lemmas.Html.Words.{ℕ, Bool, List, [], refl, sym, append_assoc, append-nil, arith, flat_map, filter, reverse, flat_map-append, filter-append, Block, Raw, Paragraph, LineBreak, Fragment, TextStart, Shown, TextEnd, Hidden, Start, End, HtmlSnippet, Break, Newline, snippet_text, open_each, close_each, style_elements, block_elements, is_style_tag, styled_snippets, Put, Of, fragments_in, is_mark_or_fragment, Written, page_after, page_after_all, first_or_false, is_header}
use Rattle.bpaf_doc.specs.declared.buffer.Block.TheVariants as blocks
use Rattle.bpaf_doc.proofs.lemmas.Snippets.{fragments-append}

-- a break before a mark of a header
abbrev pub heading_snippets : Bool → Block → List HtmlSnippet
heading_snippets fresh b = if is_header b then (if fresh then [] else (Put Break ∷ Put Newline ∷ [])) else []

abbrev pub start_newline : Block → List HtmlSnippet
start_newline blocks.Section2 = Put Newline ∷ []
start_newline _ = []

abbrev pub end_newline : Block → List HtmlSnippet
end_newline blocks.ItemTerm = Put Newline ∷ []
end_newline blocks.ItemBody = Put Newline ∷ []
end_newline blocks.DefinitionList = Put Newline ∷ []
end_newline _ = []

abbrev pub start_snippets : Bool → Bool → Block → List HtmlSnippet
start_snippets fresh in_list b = heading_snippets fresh b ++ (Of (Start b) ∷ (open_each (block_elements in_list b) ++ start_newline b))

abbrev pub end_snippets : Bool → Bool → Block → List HtmlSnippet
end_snippets fresh in_list b = heading_snippets fresh b ++ (close_each (block_elements in_list b) ++ (end_newline b ++ Of (End b) ∷ []))

-- the snippets that a fragment adds to a page
abbrev pub snippets_of : Written → Fragment → List HtmlSnippet
snippets_of p (TextStart style) = Of (TextStart style) ∷ open_each (style_elements style)
snippets_of p (Shown style (Raw bytes weight)) = Of (Shown style (Raw bytes weight)) ∷ []
snippets_of p (Shown style Paragraph) = Of (Shown style Paragraph) ∷ Put Break ∷ Put Newline ∷ []
snippets_of p (Shown style LineBreak) = Of (Shown style LineBreak) ∷ Put Break ∷ Put Newline ∷ []
snippets_of p (TextEnd style) = close_each (reverse (style_elements style)) ++ Of (TextEnd style) ∷ []
snippets_of p Hidden = Of Hidden ∷ []
snippets_of p (Start b) = start_snippets p.fresh p.in_list b
snippets_of p (End b) = end_snippets p.fresh (first_or_false p.outer) b

-- and those of all of some
abbrev pub cut_from : Written → List Fragment → List HtmlSnippet
cut_from p [] = []
cut_from p (f ∷ fs) = snippets_of p f ++ cut_from (page_after p f) fs

abbrev pub spelled : List HtmlSnippet → List ℕ
spelled snippets = flat_map snippet_text snippets

-- ---- they spell its bytes

start-spelled : (p : Written) (b : Block) → (page_after p (Start b)).bytes ≡ p.bytes ++ spelled (start_snippets p.fresh p.in_list b)
start-spelled p b = grind (arith, append_assoc)

end-spelled : (p : Written) (b : Block) → (page_after p (End b)).bytes ≡ p.bytes ++ spelled (end_snippets p.fresh (first_or_false p.outer) b)
end-spelled p b = grind (arith, append-nil)

step-spelled : (p : Written) (f : Fragment) → (page_after p f).bytes ≡ p.bytes ++ spelled (snippets_of p f)
step-spelled p f = grind (arith, append-nil, start-spelled, end-spelled)

pub page-spelled : (p : Written) (fs : List Fragment) → (page_after_all p fs).bytes ≡ p.bytes ++ spelled (cut_from p fs)
page-spelled p [] = sym (append-nil p.bytes)
page-spelled p (f ∷ fs) = grind (arith, page-spelled (page_after p f) fs, step-spelled, append_assoc, flat_map-append)

-- ---- what of them stays under a test

pub step-fragments : (p : Written) (f : Fragment) → fragments_in (snippets_of p f) ≡ f ∷ []
step-fragments p f = grind arith

pub cut-fragments : (p : Written) (fs : List Fragment) → fragments_in (cut_from p fs) ≡ fs
cut-fragments p [] = refl
cut-fragments p (f ∷ fs) = grind (arith, cut-fragments (page_after p f) fs, fragments-append, step-fragments)

step-styles : (p : Written) (f : Fragment) → filter (is_mark_or_fragment is_style_tag) (snippets_of p f) ≡ styled_snippets f
step-styles p f = grind arith

pub cut-styles : (p : Written) (fs : List Fragment) → filter (is_mark_or_fragment is_style_tag) (cut_from p fs) ≡ flat_map styled_snippets fs
cut-styles p [] = refl
cut-styles p (f ∷ fs) = grind (arith, cut-styles (page_after p f) fs, filter-append, step-styles)
