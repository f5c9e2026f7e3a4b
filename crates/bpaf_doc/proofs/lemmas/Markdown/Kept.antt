-- What stays of the snippets under a test.
use Rattle.std.specs.Prelude.{if◌then◌else◌, ◌∷◌, ◌≡◌}
use Rattle.bpaf_doc.proofs.lemmas.Markdown.Words.{Bool, false, List, [], arith, filter, flat_map, filter-append, Fragment, Start, Mark, Heading, SecondHeading, ThirdHeading, Dash, LongDash, styled_snippets, is_style_mark, fragments_in, is_mark_or_fragment, Marked, marked_after}
use Rattle.bpaf_doc.specs.declared.buffer.Block.TheVariants as blocks
use Rattle.bpaf_doc.proofs.lemmas.Markdown.Cut.{snippets_of, cut_from, item_marks}
use Rattle.bpaf_doc.proofs.lemmas.Snippets.{fragments-append}

-- the heading or list mark that a fragment writes of its own
abbrev pub own_heading : Marked → Fragment → List Mark
own_heading p (Start blocks.Header) = (if p.headed then SecondHeading else Heading) ∷ []
own_heading p (Start blocks.Section3) = ThirdHeading ∷ []
own_heading p (Start blocks.ItemBody) = if p.in_list then (if p.empty_item then [] else (LongDash ∷ [])) else []
own_heading p f = []

-- the mark of an item that waited for it
abbrev pub item_heading : Bool → Bool → List Mark
item_heading pending empty = if pending then (if empty then [] else (Dash ∷ [])) else []

pub step-fragments : (p : Marked) (f : Fragment) → fragments_in (snippets_of p f) ≡ f ∷ []
step-fragments p f = grind (arith, fragments-append, item_marks)

pub cut-fragments : (p : Marked) (fs : List Fragment) → fragments_in (cut_from p fs) ≡ fs
cut-fragments p [] = item_marks p.pending false
cut-fragments p (f ∷ fs) = grind (arith, cut-fragments (marked_after p f) fs, fragments-append, step-fragments)

step-styles : (p : Marked) (f : Fragment) → filter (is_mark_or_fragment is_style_mark) (snippets_of p f) ≡ styled_snippets f
step-styles p f = grind (arith, filter-append)

pub cut-styles : (p : Marked) (fs : List Fragment) → filter (is_mark_or_fragment is_style_mark) (cut_from p fs) ≡ flat_map styled_snippets fs
cut-styles p [] = grind arith
cut-styles p (f ∷ fs) = grind (arith, cut-styles (marked_after p f) fs, filter-append, step-styles)
