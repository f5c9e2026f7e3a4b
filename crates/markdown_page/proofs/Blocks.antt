-- How blocks and entries are read.
use Rattle.std.proofs.Common.{◌≡◌, ◌≤◌, ◌<◌, ◌+◌, ℕ, zero, suc, max, arith, Bool, true, false, cond, not, ◌&&◌, ◌||◌, List, [], ◌∷◌, ◌++◌, length, refl, sym, ap, ◌∙◌, subst, inl, inr, append-nil, append_assoc}
use Rattle.std.specs.Prelude.{Option, Some, None, codes, map, flat_map, ◌==◌, nat_le, nat_lt, if◌then◌else◌}
use Rattle.std.specs.List.{list_all, onto_first}
use Rattle.std.proofs.lemmas.Bool.{and_parts, and_from, eqb-true, eq-eqb, lt-ltb, le-leb, le-ltb}
use Rattle.std.proofs.lemmas.List.Folds.{list_all-map}
use Rattle.std.proofs.lemmas.List.Splits.{slice_split-cons_no}
use Rattle.page_model.specs.Content.{Line, BlockSaid, paragraph, code, bullets, EntrySaid, TargetSaid}
use Rattle.page_model.specs.Permitted.{are_permitted, has_permitted_content, is_permitted_block, is_permitted_byte, is_permitted_entry, is_permitted_line, leads_to_permitted}
use Rattle.page_model.specs.declared.parts.Rank.{Rank}
use Rattle.page_model.specs.declared.parts.Rank.TheVariants.{Page, Section, Subsection}
use Rattle.markdown_page.specs.Bytes.{graves, is_grave}
use Rattle.markdown_page.specs.Sheet.{Glyph, Said, Heading, Item, Paragraph, Code}
use Rattle.markdown_page.specs.Kept.{block_kept, body_kept, code_byte, code_kept, dash, entry_kept, item_kept, line_kept, line_shown, paragraph_kept, plain, rank_kept, seen, terms_shown}
use Rattle.markdown_page.specs.Exact.{block_text, body_text, code_line, code_text, entry_text, further_line, indent, indented, item_text, line_text, lines_text, longest_of, paragraph_text, rank_text, terms_text, title_text, written}
use Rattle.markdown_page.specs.Reader
use Rattle.markdown_page.specs.Reader.{Between, Broken, FenceLine, Fenced, Filled, HeadingLine, Inlines, ItemLine, Kind, Reading, Stand, TextLine, Within, deeper, fenced_line, fenced_line_in, heading_line, inlines, is_code_byte, is_fence, is_open, is_text_line, item_line, kind_of, line_if, line_of, lines, longest_run, new_paragraph, next_line, on_last, page_of, same_paragraph, stand_after, text_line, whole_page, with_heading, with_line, within}
use Rattle.markdown_page.proofs.Bools.{all_both, bool_cases, not_false, not_true, or_false, weaker}
use Rattle.markdown_page.proofs.Loops.{at_least}
use Rattle.markdown_page.proofs.Fronts.{graves_fence}
use Rattle.markdown_page.proofs.Pieces.{bytes_of}
use Rattle.markdown_page.proofs.Lines.{IsBody, Reads, body_reads, dashed_body, is_in_line, line_body, tail, terms_body, title_begins, title_inlines, title_inside}

-- ---- lines

abbrev page_from : Option Reading → List ℕ → Option (List Said)
page_from read bytes = page_of read (lines bytes)

-- a text that leads a reading on, line by line, whatever follows it
pub record Leads (bytes : List ℕ) (from to : Option Reading) : Type 0 where
  pub reads : (rest : List ℕ) → page_from from (bytes ++ rest) ≡ page_from to rest

pub leads_nothing : {r : Option Reading} → Leads [] r r
leads_nothing = record { reads = λ rest. refl }

pub leads_to : {bytes : List ℕ} {r s t : Option Reading} → s ≡ t → Leads bytes r s → Leads bytes r t
leads_to e p = record { reads = λ rest. p.reads rest ∙ ap (λ x. page_from x rest) e }

pub leads_then : {a b : List ℕ} {r s t : Option Reading} → Leads a r s → Leads b s t → Leads (a ++ b) r t
leads_then {a} {b} {r} p q = record { reads = λ rest. ap (page_from r) (append_assoc a b rest) ∙ p.reads (b ++ rest) ∙ q.reads rest }

pub leads_whole : {bytes : List ℕ} {r s : Option Reading} → Leads bytes r s → page_from r bytes ≡ whole_page s
leads_whole {bytes} {r} p = ap (page_from r) (sym (append-nil bytes)) ∙ p.reads []

split_line : (line rest : List ℕ) → list_all is_in_line line ≡ true → lines ((line ++ codes "\n") ++ rest) ≡ line ∷ lines rest
split_line [] rest h = refl
split_line (b ∷ line) rest h =
    let parts = and_parts (is_in_line b) (list_all is_in_line line) h in
    slice_split-cons_no (λ c. c == 10) b ((line ++ codes "\n") ++ rest) (not_true (b == 10) parts.0) ∙ ap (onto_first b) (split_line line rest parts.1)

step : (r : Option Reading) (line : List ℕ) (test : Bool) (b : ℕ) (more : List (List ℕ))
    → page_of r (line ∷ cond test ([] ∷ more) (onto_first b more)) ≡ page_of (next_line r line) (cond test ([] ∷ more) (onto_first b more))
step r line true b more = refl
step r line false b [] = refl
step r line false b (next ∷ more) = refl

page_after : (r : Option Reading) (line rest : List ℕ) → page_of r (line ∷ lines rest) ≡ page_from (next_line r line) rest
page_after r line [] = refl
page_after r line (b ∷ rest) = step r line (b == 10) b (lines rest)

pub leads_line : (line : List ℕ) (r s : Option Reading) → list_all is_in_line line ≡ true → next_line r line ≡ s → Leads (line ++ codes "\n") r s
leads_line line r s h e = record { reads = λ rest. ap (page_of r) (split_line line rest h) ∙ page_after r line rest ∙ ap (λ x. page_from x rest) e }

-- ---- how many items are open: those of a level, and more

abbrev pub above : ℕ → ℕ → ℕ
above zero more = more
above (suc level) more = suc (above level more)

above_none : (level : ℕ) → above level 0 ≡ level
above_none zero = refl
above_none (suc level) = ap suc (above_none level)

above_one : (level : ℕ) → above level 1 ≡ suc level
above_one zero = refl
above_one (suc level) = ap suc (above_one level)

abbrev pub on : List Said → ℕ → Stand → Option Reading
on said depth stand = Some (record { said = said; depth = depth; stand = stand })

abbrev in_level : ℕ → List ℕ → Within
in_level level line = record { level = level; line = line }

-- a line that begins with another byte than a blank stands in the level that it is indented for
within_front : (depth b : ℕ) (line : List ℕ) → (b == 32) ≡ false → within depth (b ∷ line) ≡ in_level 0 (b ∷ line)
within_front zero b line e = refl
within_front (suc depth) b [] e = refl
within_front (suc depth) b (c ∷ line) e = rw e refl

within_above : (level more b : ℕ) (line : List ℕ) → (b == 32) ≡ false → within (above level more) (indent level ++ b ∷ line) ≡ in_level level (b ∷ line)
within_above zero more b line e = within_front more b line e
within_above (suc level) more b line e = ap deeper (within_above level more b line e)

within_all : (level : ℕ) (line : List ℕ) → within level (indent level ++ line) ≡ in_level level line
within_all zero line = refl
within_all (suc level) line = ap deeper (within_all level line)

abbrev line_there : Reading → Within → Option Reading
line_there read at = line_if read at (kind_of at.line)

-- where a block may begin, a line is read by what it begins
next_there : (said : List Said) (depth : ℕ) (stand : Stand) (level b : ℕ) (line : List ℕ) → is_open stand ≡ true
    → next_line (on said depth stand) (indent level ++ b ∷ line) ≡ line_there (record { said = said; depth = depth; stand = stand }) (within depth (indent level ++ b ∷ line))
next_there said depth Between zero b line o = refl
next_there said depth Between (suc level) b line o = refl
next_there said depth Filled zero b line o = refl
next_there said depth Filled (suc level) b line o = refl
next_there said depth Broken level b line o = absurd cc
next_there said depth (Fenced n lines) level b line o = absurd cc

next_open : (said : List Said) (level more : ℕ) (stand : Stand) (b : ℕ) (line : List ℕ) (kind : Kind) → is_open stand ≡ true → (b == 32) ≡ false → kind_of (b ∷ line) ≡ Some kind
    → next_line (on said (above level more) stand) (indent level ++ b ∷ line) ≡ line_of (record { said = said; depth = above level more; stand = stand }) level (b ∷ line) kind
next_open said level more stand b line kind o e k =
    next_there said (above level more) stand level b line o
    ∙ ap (line_there (record { said = said; depth = above level more; stand = stand })) (within_above level more b line e)
    ∙ ap (line_if (record { said = said; depth = above level more; stand = stand }) (in_level level (b ∷ line))) k

next_broken : (said : List Said) (depth : ℕ) (level b : ℕ) (line : List ℕ)
    → next_line (on said depth Broken) (indent level ++ b ∷ line) ≡ line_there (record { said = said; depth = depth; stand = Broken }) (within depth (indent level ++ b ∷ line))
next_broken said depth zero b line = refl
next_broken said depth (suc level) b line = refl

text_first : (b : ℕ) (line : List ℕ) → is_text_line (b ∷ line) ≡ true → (b == 32) ≡ false
text_first b line h = (or_false (b == 32) (Reader.is_block_mark b) (not_true (b == 32 || Reader.is_block_mark b) (and_parts (not (b == 32 || Reader.is_block_mark b)) (not (Reader.is_numbered false (b ∷ line)) && not (is_fence 0 (b ∷ line))) h).0)).0

text_kind : (line : List ℕ) → is_text_line line ≡ true → kind_of line ≡ Some TextLine
text_kind line h = rw h refl

indent_inside : (level : ℕ) → list_all is_in_line (indent level) ≡ true
indent_inside zero = refl
indent_inside (suc level) = indent_inside level

-- ---- the lines of a paragraph

abbrev in_paragraph : List Said → ℕ → List (List Glyph) → List Said
in_paragraph said level lines = said ++ Paragraph level lines ∷ []

-- a line after this prefix comes after these lines of a paragraph
abbrev TakesLine : Option Reading → List ℕ → List Said → ℕ → List (List Glyph) → Type 0
TakesLine from prefix said level before = (line : List ℕ) (x : Inlines) → Reads line x
    → next_line from (prefix ++ line) ≡ on (in_paragraph said level (before ++ x.shown ∷ [])) level (stand_after x.breaks)

paragraph_takes : (said : List Said) (level more : ℕ) → TakesLine (on said (above level more) Between) (indent level) said level []
paragraph_takes said level more [] x p = let no : false ≡ true = p.text in cc
paragraph_takes said level more (b ∷ line) x p =
    next_open said level more Between b line TextLine refl (text_first b line p.text) (text_kind (b ∷ line) p.text)
    ∙ ap (new_paragraph said level) p.shows

on_last_after : (change : Said → Said) (said : List Said) (last : Said) → on_last change (said ++ last ∷ []) ≡ said ++ change last ∷ []
on_last_after change [] last = refl
on_last_after change (x ∷ []) last = refl
on_last_after change (x ∷ y ∷ said) last = ap (λ xs. x ∷ xs) (on_last_after change (y ∷ said) last)

break_takes : (said : List Said) (level : ℕ) (before : List (List Glyph)) → TakesLine (on (in_paragraph said level before) level Broken) (indent level) said level before
break_takes said level before [] x p = let no : false ≡ true = p.text in cc
break_takes said level before (b ∷ line) x p =
    let read : Reading = record { said = in_paragraph said level before; depth = level; stand = Broken } in
    let same : (level == level) ≡ true = eq-eqb level level refl in
    next_broken (in_paragraph said level before) level level b line
    ∙ ap (line_there read) (within_all level (b ∷ line))
    ∙ ap (line_if read (in_level level (b ∷ line))) (text_kind (b ∷ line) p.text)
    ∙ ap (λ (y : Bool). if y then same_paragraph read (inlines false (b ∷ line)) else None) same
    ∙ ap (same_paragraph read) p.shows
    ∙ ap (λ y. on y level (stand_after x.breaks)) (on_last_after (λ last. with_line last x.shown) said (Paragraph level before))

item_takes : (said : List Said) (level more : ℕ) (stand : Stand) → is_open stand ≡ true
    → TakesLine (on said (above level more) stand) (indent level ++ codes "- ") (said ++ Item level ∷ []) (suc level) []
item_takes said level more stand o line x p =
    let read : Reading = record { said = said; depth = above level more; stand = stand } in
    ap (next_line (Some read)) (append_assoc (indent level) (codes "- ") line)
    ∙ next_open said level more stand 45 (32 ∷ line) (ItemLine line) o refl refl
    ∙ ap (λ (y : Bool). if y then item_line said level line else None) o
    ∙ ap (λ (y : Bool). if y then new_paragraph (said ++ Item level ∷ []) (suc level) (inlines false line) else None) p.text
    ∙ ap (new_paragraph (said ++ Item level ∷ []) (suc level)) p.shows

last_line_is : (prefix line : List ℕ) → prefix ++ (line ++ ([] ++ codes "\n")) ≡ (prefix ++ (line ++ tail false)) ++ codes "\n"
last_line_is prefix line = simp append_assoc

broken_line_is : (prefix line next more last space : List ℕ) → prefix ++ (line ++ ((codes "\\\n" ++ (space ++ next) ++ more) ++ last)) ≡ ((prefix ++ (line ++ tail true)) ++ codes "\n") ++ (space ++ (next ++ (more ++ last)))
broken_line_is prefix line next more last space = simp append_assoc

lines_lead : (from : Option Reading) (prefix : List ℕ) (said : List Said) (level : ℕ) (before : List (List Glyph)) → TakesLine from prefix said level before → list_all is_in_line prefix ≡ true
    → (body : List ℕ) (glyphs : List Glyph) → IsBody body glyphs → (lines : List Line) → list_all is_permitted_line lines ≡ true
    → Leads (prefix ++ lines_text level body (map written lines)) from (on (in_paragraph said level (before ++ seen glyphs ∷ map line_kept lines)) level Filled)
lines_lead from prefix said level before takes inside body glyphs p [] h =
    let line = body_reads body glyphs false p in
    subst (λ x. Leads x from (on (in_paragraph said level (before ++ seen glyphs ∷ [])) level Filled)) (sym (last_line_is prefix (line_text body)))
    (leads_line (prefix ++ (line_text body ++ tail false)) from (on (in_paragraph said level (before ++ seen glyphs ∷ [])) level Filled) (all_both is_in_line prefix (line_text body ++ tail false) inside line.inside) (takes (line_text body ++ tail false) (record { shown = seen glyphs; breaks = false }) line))
lines_lead from prefix said level before takes inside body glyphs p (next ∷ lines) h =
    let parts = and_parts (is_permitted_line next) (list_all is_permitted_line lines) h in
    let line = body_reads body glyphs true p in
    let so_far : List (List Glyph) = before ++ seen glyphs ∷ [] in
    let broken : Option Reading = on (in_paragraph said level so_far) level Broken in
    let whole : Option Reading = on (in_paragraph said level (before ++ seen glyphs ∷ map line_kept (next ∷ lines))) level Filled in
    subst (λ x. Leads x from whole) (sym (broken_line_is prefix (line_text body) (line_text (written next)) (flat_map (further_line level) (map written lines)) (codes "\n") (indent level)))
    (leads_then (leads_line (prefix ++ (line_text body ++ tail true)) from broken (all_both is_in_line prefix (line_text body ++ tail true) inside line.inside) (takes (line_text body ++ tail true) (record { shown = seen glyphs; breaks = true }) line))
    (leads_to (ap (λ y. on (in_paragraph said level y) level Filled) (append_assoc before (seen glyphs ∷ []) (map line_kept (next ∷ lines))))
    (lines_lead broken (indent level) said level so_far (break_takes said level so_far) (indent_inside level) (written next) (line_shown next) (line_body next parts.0) lines parts.1)))

-- ---- blocks

-- A text that leads from a reading to one that has said this, at a place where a block of a level may come.
pub record Comes (bytes : List ℕ) (from : Option Reading) (level : ℕ) (said : List Said) : Type 0 where
  pub more : ℕ
  pub after : Stand
  pub opens : is_open after ≡ true
  pub leads : Leads bytes from (on said (above level more) after)

pub comes_front : {a b : List ℕ} {r s : Option Reading} {level : ℕ} {said : List Said} → Leads a r s → Comes b s level said → Comes (a ++ b) r level said
comes_front p q = record { more = q.more; after = q.after; opens = q.opens; leads = leads_then p q.leads }

pub comes_then : {a b : List ℕ} {r : Option Reading} {level : ℕ} {first said : List Said} (p : Comes a r level first) → Comes b (on first (above level p.more) p.after) level said → Comes (a ++ b) r level said
comes_then p q = comes_front p.leads q

pub comes_to : {a : List ℕ} {r : Option Reading} {level : ℕ} {first said : List Said} → first ≡ said → Comes a r level first → Comes a r level said
comes_to {level = level} e p = record { more = p.more; after = p.after; opens = p.opens; leads = leads_to (ap (λ x. on x (above level p.more) p.after) e) p.leads }

pub comes_nothing : (level more : ℕ) (said : List Said) (stand : Stand) → is_open stand ≡ true → Comes [] (on said (above level more) stand) level said
comes_nothing level more said stand o = record { more = more; after = stand; opens = o; leads = leads_nothing }

-- what holds of each part of a list, one after another
pub each_comes : {X : Type 0} (level : ℕ) (text : X → List ℕ) (kept : X → List Said) (may : X → Bool)
    → ((x : X) (said : List Said) (more : ℕ) (stand : Stand) → may x ≡ true → is_open stand ≡ true → Comes (text x) (on said (above level more) stand) level (said ++ kept x))
    → (xs : List X) (said : List Said) (more : ℕ) (stand : Stand) → list_all may xs ≡ true → is_open stand ≡ true → Comes (flat_map text xs) (on said (above level more) stand) level (said ++ flat_map kept xs)
each_comes level text kept may one [] said more stand h o = comes_to (sym (append-nil said)) (comes_nothing level more said stand o)
each_comes level text kept may one (x ∷ xs) said more stand h o =
    let parts = and_parts (may x) (list_all may xs) h in
    let p = one x said more stand parts.0 o in
    comes_then p (comes_to (append_assoc said (kept x) (flat_map kept xs)) (each_comes level text kept may one xs (said ++ kept x) p.more p.after parts.1 p.opens))

-- an empty line
empty_leads : (said : List Said) (depth : ℕ) (stand : Stand) → is_open stand ≡ true → Leads (codes "\n") (on said depth stand) (on said depth Between)
empty_leads said depth Between o = leads_line [] (on said depth Between) (on said depth Between) refl refl
empty_leads said depth Filled o = leads_line [] (on said depth Filled) (on said depth Between) refl refl
empty_leads said depth Broken o = absurd cc
empty_leads said depth (Fenced n lines) o = absurd cc

paragraph_comes : (level : ℕ) (lines : List Line) (said : List Said) (more : ℕ) (stand : Stand) → list_all is_permitted_line lines ≡ true → is_open stand ≡ true
    → Comes (paragraph_text level lines) (on said (above level more) stand) level (said ++ paragraph_kept level lines)
paragraph_comes level [] said more stand h o = comes_to (sym (append-nil said)) (comes_nothing level more said stand o)
paragraph_comes level (line ∷ lines) said more stand h o =
    let parts = and_parts (is_permitted_line line) (list_all is_permitted_line lines) h in
    let whole : List Said = in_paragraph said level (map line_kept (line ∷ lines)) in
    comes_front (empty_leads said (above level more) stand o)
    (record {
      more = 0;
      after = Filled;
      opens = refl;
      leads = leads_to (ap (λ x. on whole x Filled) (sym (above_none level)))
          (lines_lead (on said (above level more) Between) (indent level) said level [] (paragraph_takes said level more) (indent_inside level) (written line) (line_shown line) (line_body line parts.0) lines parts.1);
    })

-- an item with its first line and others
item_lead : (level : ℕ) (said : List Said) (more : ℕ) (stand : Stand) → is_open stand ≡ true → (body : List ℕ) (glyphs : List Glyph) → IsBody body glyphs → (lines : List Line) → list_all is_permitted_line lines ≡ true
    → Leads (indent level ++ (codes "- " ++ lines_text (suc level) body (map written lines))) (on said (above level more) stand) (on (said ++ Item level ∷ Paragraph (suc level) (seen glyphs ∷ map line_kept lines) ∷ []) (suc level) Filled)
item_lead level said more stand o body glyphs p lines h =
    let shown : List (List Glyph) = seen glyphs ∷ map line_kept lines in
    subst (λ x. Leads x (on said (above level more) stand) (on (said ++ Item level ∷ Paragraph (suc level) shown ∷ []) (suc level) Filled)) (append_assoc (indent level) (codes "- ") (lines_text (suc level) body (map written lines)))
    (leads_to (ap (λ x. on x (suc level) Filled) (append_assoc said (Item level ∷ []) (Paragraph (suc level) shown ∷ [])))
    (lines_lead (on said (above level more) stand) (indent level ++ codes "- ") (said ++ Item level ∷ []) (suc level) [] (item_takes said level more stand o) (all_both is_in_line (indent level) (codes "- ") (indent_inside level) refl) body glyphs p lines h))

item_comes : (level : ℕ) (item : List Line) (said : List Said) (more : ℕ) (stand : Stand) → list_all is_permitted_line item ≡ true → is_open stand ≡ true
    → Comes (item_text level item) (on said (above level more) stand) level (said ++ item_kept level item)
item_comes level [] said more stand h o = comes_to (sym (append-nil said)) (comes_nothing level more said stand o)
item_comes level (line ∷ lines) said more stand h o =
    let parts = and_parts (is_permitted_line line) (list_all is_permitted_line lines) h in
    record {
      more = 1;
      after = Filled;
      opens = refl;
      leads = leads_to (ap (λ x. on (said ++ item_kept level (line ∷ lines)) x Filled) (sym (above_one level))) (item_lead level said more stand o (written line) (line_shown line) (line_body line parts.0) lines parts.1);
    }

-- ---- code

all_graves : (n : ℕ) → list_all is_grave (graves n) ≡ true
all_graves zero = refl
all_graves (suc n) = all_graves n

so_many : (n : ℕ) → length (graves n) ≡ n
so_many zero = refl
so_many (suc n) = ap suc (so_many n)

graves_inside : (n : ℕ) → list_all is_in_line (graves n) ≡ true
graves_inside zero = refl
graves_inside (suc n) = graves_inside n

longest_graves : (n run : ℕ) → longest_run run (graves n) ≡ n + run
longest_graves zero run = let e : run ≡ 0 + run = omega arith in e
longest_graves (suc n) run = longest_graves n (suc run) ∙ (let e : n + suc run ≡ suc n + run = omega arith in e)

fence_kind : (n : ℕ) → 2 ≤ n → kind_of (graves (suc n)) ≡ Some (FenceLine (suc n))
fence_kind n h =
    let line : List ℕ = graves (suc n) in
    let many : nat_le 3 (suc n) ≡ true = le-leb 3 (suc n) (omega arith) in
    let fence : is_fence 0 line ≡ true =
    ap (is_fence 0) (sym (append-nil line)) ∙ graves_fence (suc n) 0 [] ∙ (let e : suc n + 0 ≡ suc n = omega arith in ap (nat_le 3) e) ∙ many in
    let no_text : is_text_line line ≡ false = ap (λ (x : Bool). true && (true && not x)) fence in
    let code_line : (list_all is_grave line && nat_le 3 (length line)) ≡ true = and_from (list_all is_grave line) (nat_le 3 (length line)) (all_graves (suc n)) (ap (nat_le 3) (so_many (suc n)) ∙ many) in
    rw (no_text, code_line) (ap (λ x. Some (FenceLine x)) (so_many (suc n)))

same_run : (run : ℕ) (line : List ℕ) → longest_run run (map code_byte line) ≡ longest_run run line
same_run run [] = refl
same_run run (b ∷ line) = elim (bool_cases (b == 10)) [
  | inl e ↦ let is : b ≡ 10 = eqb-true b 10 e in rw is (ap (max run) (same_run 0 line))
  | inr e ↦ rw e (elim (bool_cases (b == 96)) [ inl g ↦ rw g (same_run (suc run) line) | inr g ↦ rw g (ap (max run) (same_run 0 line)) ])
]

code_byte_inside : (b : ℕ) → is_in_line (code_byte b) ≡ true
code_byte_inside b = elim (bool_cases (b == 10)) [ inl e ↦ rw e refl | inr e ↦ rw e (not_false (b == 10) e) ]

code_inside : (line : List ℕ) → list_all is_in_line (map code_byte line) ≡ true
code_inside [] = refl
code_inside (b ∷ line) = and_from (is_in_line (code_byte b)) (list_all is_in_line (map code_byte line)) (code_byte_inside b) (code_inside line)

indented_inside : (level : ℕ) (line : List ℕ) → list_all is_in_line line ≡ true → list_all is_in_line (indented level line) ≡ true
indented_inside level [] h = refl
indented_inside level (b ∷ line) h = all_both is_in_line (indent level) (b ∷ line) (indent_inside level) h

permitted_code : (low tab newline delete : Bool) → newline ≡ false → not ((low && not (tab || newline)) || delete) ≡ true → (tab || not (low || delete)) ≡ true
permitted_code low true newline delete e h = refl
permitted_code false false newline delete e h = h
permitted_code true false true delete e h = cc
permitted_code true false false delete e h = cc

code_byte_is : (b : ℕ) → is_permitted_byte b ≡ true → is_code_byte (code_byte b) ≡ true
code_byte_is b h = elim (bool_cases (b == 10)) [ inl e ↦ rw e refl | inr e ↦ rw e (permitted_code (nat_lt b 32) (b == 9) (b == 10) (b == 127) e h) ]

code_is : (line : List ℕ) → list_all is_permitted_byte line ≡ true → list_all is_code_byte (map code_byte line) ≡ true
code_is line h = list_all-map is_code_byte code_byte line ∙ weaker is_permitted_byte (λ b. is_code_byte (code_byte b)) code_byte_is line h

-- a line in code
fenced_some : (said : List Said) (depth n : ℕ) (lines : List (List ℕ)) (level b : ℕ) (line : List ℕ)
    → next_line (on said depth (Fenced n lines)) (indent level ++ b ∷ line) ≡ fenced_line_in (record { said = said; depth = depth; stand = Fenced n lines }) n lines (within depth (indent level ++ b ∷ line))
fenced_some said depth n lines zero b line = refl
fenced_some said depth n lines (suc level) b line = refl

next_fenced : (said : List Said) (level n : ℕ) (lines : List (List ℕ)) (b : ℕ) (line : List ℕ)
    → next_line (on said level (Fenced n lines)) (indent level ++ b ∷ line) ≡ fenced_line (record { said = said; depth = level; stand = Fenced n lines }) n lines (b ∷ line)
next_fenced said level n lines b line =
    let read : Reading = record { said = said; depth = level; stand = Fenced n lines } in
    fenced_some said level n lines level b line
    ∙ ap (fenced_line_in read n lines) (within_all level (b ∷ line))
    ∙ ap (λ (x : Bool). if x then fenced_line read n lines (b ∷ line) else None) (eq-eqb level level refl)

fenced_takes : (said : List Said) (level n : ℕ) (before : List (List ℕ)) (line : List ℕ) → longest_run 0 line < n → list_all is_code_byte line ≡ true
    → next_line (on said level (Fenced n before)) (indented level line) ≡ on said level (Fenced n (before ++ line ∷ []))
fenced_takes said level n before [] h may = rw (lt-ltb 0 n h) refl
fenced_takes said level n before (b ∷ line) h may =
    next_fenced said level n before b line
    ∙ ap (λ (x : Bool). if x then on said level (Fenced n (before ++ (b ∷ line) ∷ [])) else (if list_all is_grave (b ∷ line) then on (said ++ Code level before ∷ []) level Between else None)) (and_from (nat_lt (longest_run 0 (b ∷ line)) n) (list_all is_code_byte (b ∷ line)) (lt-ltb (longest_run 0 (b ∷ line)) n h) may)

code_lines_lead : (said : List Said) (level n : ℕ) (before lines : List (List ℕ)) → longest_of lines ≤ n → list_all (list_all is_permitted_byte) lines ≡ true
    → Leads (flat_map (code_line level) lines) (on said level (Fenced (suc n) before)) (on said level (Fenced (suc n) (before ++ map (map code_byte) lines)))
code_lines_lead said level n before [] h may = leads_to (ap (λ x. on said level (Fenced (suc n) x)) (sym (append-nil before))) leads_nothing
code_lines_lead said level n before (line ∷ lines) h may =
    let parts = and_parts (list_all is_permitted_byte line) (list_all (list_all is_permitted_byte) lines) may in
    let shown : List ℕ = map code_byte line in
    let same : longest_run 0 shown ≡ longest_run 0 line = same_run 0 line in
    let few : longest_run 0 shown < suc n = omega arith in
    let others : longest_of lines ≤ n = omega arith in
    leads_then (leads_line (indented level shown) (on said level (Fenced (suc n) before)) (on said level (Fenced (suc n) (before ++ shown ∷ []))) (indented_inside level shown (code_inside line)) (fenced_takes said level (suc n) before shown few (code_is line parts.0)))
    (leads_to (ap (λ x. on said level (Fenced (suc n) x)) (append_assoc before (shown ∷ []) (map (map code_byte) lines))) (code_lines_lead said level n (before ++ shown ∷ []) lines others parts.1))

fence_is : (level n : ℕ) → (indent level ++ graves n) ++ codes "\n" ≡ indent level ++ (graves n ++ codes "\n")
fence_is level n = append_assoc (indent level) (graves n) (codes "\n")

fence_inside : (level n : ℕ) → list_all is_in_line (indent level ++ graves n) ≡ true
fence_inside level n = all_both is_in_line (indent level) (graves n) (indent_inside level) (graves_inside n)

open_leads : (said : List Said) (level n : ℕ) (more : ℕ) → 2 ≤ n → Leads (indent level ++ (graves (suc n) ++ codes "\n")) (on said (above level more) Between) (on said level (Fenced (suc n) []))
open_leads said level n more h =
    subst (λ x. Leads x (on said (above level more) Between) (on said level (Fenced (suc n) []))) (fence_is level (suc n))
    (leads_line (indent level ++ graves (suc n)) (on said (above level more) Between) (on said level (Fenced (suc n) [])) (fence_inside level (suc n))
    (next_open said level more Between 96 (graves n) (FenceLine (suc n)) refl refl (fence_kind n h)))

close_leads : (said : List Said) (level n : ℕ) (lines : List (List ℕ)) → Leads (indent level ++ (graves (suc n) ++ codes "\n")) (on said level (Fenced (suc n) lines)) (on (said ++ Code level lines ∷ []) level Between)
close_leads said level n lines =
    let full : nat_lt (longest_run 0 (graves (suc n))) (suc n) ≡ false =
    ap (λ x. nat_lt x (suc n)) (longest_graves (suc n) 0) ∙ le-ltb (suc n + 0) (suc n) (omega arith) in
    let after : Option Reading = on (said ++ Code level lines ∷ []) level Between in
    subst (λ x. Leads x (on said level (Fenced (suc n) lines)) after) (fence_is level (suc n))
    (leads_line (indent level ++ graves (suc n)) (on said level (Fenced (suc n) lines)) after (fence_inside level (suc n))
    (next_fenced said level (suc n) lines 96 (graves n)
    ∙ ap (λ (x : Bool). if x then on said level (Fenced (suc n) (lines ++ graves (suc n) ∷ [])) else (if list_all is_grave (graves (suc n)) then after else None)) (ap (λ (x : Bool). x && list_all is_code_byte (graves (suc n))) full)
    ∙ ap (λ (x : Bool). if x then after else None) (all_graves (suc n))))

pub code_comes : (level : ℕ) (lines : List (List ℕ)) (said : List Said) (more : ℕ) (stand : Stand) → list_all (list_all is_permitted_byte) lines ≡ true → is_open stand ≡ true
    → Comes (code_text level lines) (on said (above level more) stand) level (said ++ code_kept level lines)
code_comes level lines said more stand h o =
    let shown : List (List ℕ) = map (map code_byte) lines in
    let n : ℕ = longest_of lines in
    let whole : List Said = said ++ Code level shown ∷ [] in
    comes_front (empty_leads said (above level more) stand o)
    (comes_front (open_leads said level n more (at_least lines))
    (comes_front (code_lines_lead said level n [] lines (omega arith) h)
    (record {
      more = 0;
      after = Between;
      opens = refl;
      leads = leads_to (ap (λ x. on whole x Between) (sym (above_none level))) (close_leads said level n shown);
    })))

-- ---- blocks of a level

pub block_comes : (level : ℕ) (shown : BlockSaid) (said : List Said) (more : ℕ) (stand : Stand) → is_permitted_block shown ≡ true → is_open stand ≡ true
    → Comes (block_text level shown) (on said (above level more) stand) level (said ++ block_kept level shown)
block_comes level (paragraph lines) said more stand h o = paragraph_comes level lines said more stand h o
block_comes level (code lines) said more stand h o = code_comes level lines said more stand (weaker are_permitted (list_all is_permitted_byte) bytes_of lines h) o
block_comes level (bullets items) said more stand h o =
    comes_front (empty_leads said (above level more) stand o)
    (each_comes level (item_text level) (item_kept level) (list_all is_permitted_line) (item_comes level) items said more Between h refl)

-- ---- entries

-- what follows the first lines of an entry, in its item
after_first : (said : List Said) (blocks : List BlockSaid) → list_all is_permitted_block blocks ≡ true
    → Comes (flat_map (block_text 1) blocks) (on said 1 Filled) 1 (said ++ flat_map (block_kept 1) blocks)
after_first said blocks h = each_comes 1 (block_text 1) (block_kept 1) is_permitted_block (block_comes 1) blocks said 0 Filled h refl

-- the items that are open in an item are open at the top too
out_of_item : {bytes : List ℕ} {from : Option Reading} {said : List Said} → Comes bytes from 1 said → Comes bytes from 0 said
out_of_item p = record { more = suc p.more; after = p.after; opens = p.opens; leads = p.leads }

entry_parts : (said : List Said) (more : ℕ) (stand : Stand) → is_open stand ≡ true → (body : List ℕ) (glyphs : List Glyph) → IsBody body glyphs → (lines : List Line) (blocks : List BlockSaid) → list_all is_permitted_line lines ≡ true → list_all is_permitted_block blocks ≡ true
    → Comes (codes "- " ++ (lines_text 1 body (map written lines) ++ flat_map (block_text 1) blocks)) (on said more stand) 0 (said ++ Item 0 ∷ Paragraph 1 (seen glyphs ∷ map line_kept lines) ∷ flat_map (block_kept 1) blocks)
entry_parts said more stand o body glyphs p lines blocks h g =
    let first : List Said = Item 0 ∷ Paragraph 1 (seen glyphs ∷ map line_kept lines) ∷ [] in
    comes_front (item_lead 0 said more stand o body glyphs p lines h)
    (comes_to (append_assoc said first (flat_map (block_kept 1) blocks)) (out_of_item (after_first (said ++ first) blocks g)))

body_comes : (name : Option TargetSaid) (terms : List Line) (body : List BlockSaid) (said : List Said) (more : ℕ) (stand : Stand) → list_all is_permitted_line terms ≡ true → list_all is_permitted_block body ≡ true → is_open stand ≡ true
    → Comes (codes "- " ++ body_text (terms_text name terms) body) (on said more stand) 0 (said ++ Item 0 ∷ body_kept (terms_shown name terms) body)
body_comes name terms [] said more stand h g o =
    subst (λ x. Comes (codes "- " ++ x) (on said more stand) 0 (said ++ Item 0 ∷ body_kept (terms_shown name terms) [])) (append-nil (lines_text 1 (terms_text name terms) []))
    (entry_parts said more stand o (terms_text name terms) (terms_shown name terms) (terms_body name terms h) [] [] refl refl)
body_comes name terms (paragraph (line ∷ lines) ∷ blocks) said more stand h g o =
    let parts = and_parts (list_all is_permitted_line (line ∷ lines)) (list_all is_permitted_block blocks) g in
    let first = and_parts (is_permitted_line line) (list_all is_permitted_line lines) parts.0 in
    entry_parts said more stand o (terms_text name terms ++ (dash ++ written line)) (terms_shown name terms ++ (plain dash ++ line_shown line)) (dashed_body name terms line h first.0) lines blocks first.1 parts.1
body_comes name terms (paragraph [] ∷ blocks) said more stand h g o = entry_parts said more stand o (terms_text name terms) (terms_shown name terms) (terms_body name terms h) [] blocks refl g
body_comes name terms (code lines ∷ blocks) said more stand h g o = entry_parts said more stand o (terms_text name terms) (terms_shown name terms) (terms_body name terms h) [] (code lines ∷ blocks) refl g
body_comes name terms (bullets items ∷ blocks) said more stand h g o = entry_parts said more stand o (terms_text name terms) (terms_shown name terms) (terms_body name terms h) [] (bullets items ∷ blocks) refl g

pub entry_comes : (entry : EntrySaid) (said : List Said) (more : ℕ) (stand : Stand) → is_permitted_entry entry ≡ true → is_open stand ≡ true
    → Comes (entry_text entry) (on said more stand) 0 (said ++ entry_kept entry)
entry_comes entry said more stand h o =
    let content = and_parts (leads_to_permitted entry.target) (has_permitted_content entry) h in
    let parts = and_parts (list_all is_permitted_line entry.terms) (list_all is_permitted_block entry.body) content.1 in
    comes_front (empty_leads said more stand o) (body_comes entry.target entry.terms entry.body said more Between parts.0 parts.1 refl)

-- ---- headings

heading_takes : (said : List Said) (rank : ℕ) (text : List ℕ) → list_all is_permitted_byte text ≡ true
    → heading_line said 0 rank (title_text text) ≡ on (said ++ Heading rank (seen (plain text)) ∷ []) 0 Between
heading_takes said rank text h =
    ap (λ (x : Bool). if not x then with_heading said rank (inlines true (title_text text)) else None) (title_begins text)
    ∙ ap (with_heading said rank) (title_inlines text h)

-- a heading, after the marks of its rank
marked_leads : (marks : List ℕ) (said : List Said) (depth rank : ℕ) (text : List ℕ) → list_all is_permitted_byte text ≡ true → list_all is_in_line marks ≡ true
    → next_line (on said depth Between) (marks ++ title_text text) ≡ heading_line said 0 rank (title_text text)
    → Leads (marks ++ (title_text text ++ codes "\n")) (on said depth Between) (on (said ++ Heading rank (seen (plain text)) ∷ []) 0 Between)
marked_leads marks said depth rank text h i e =
    let after : Option Reading = on (said ++ Heading rank (seen (plain text)) ∷ []) 0 Between in
    subst (λ x. Leads x (on said depth Between) after) (append_assoc marks (title_text text) (codes "\n"))
    (leads_line (marks ++ title_text text) (on said depth Between) after (all_both is_in_line marks (title_text text) i (title_inside text h)) (e ∙ heading_takes said rank text h))

pub title_leads : (text : List ℕ) → list_all is_permitted_byte text ≡ true → Leads (codes "# " ++ (title_text text ++ codes "\n")) (on [] 0 Between) (on (Heading 1 (seen (plain text)) ∷ []) 0 Between)
title_leads text h = marked_leads (codes "# ") [] 0 1 text h refl (next_open [] 0 0 Between 35 (32 ∷ title_text text) (HeadingLine 1 (title_text text)) refl refl refl)

rank_leads : (rank : Rank) (said : List Said) (depth : ℕ) (stand : Stand) (text : List ℕ) → list_all is_permitted_byte text ≡ true → is_open stand ≡ true
    → Leads (rank_text rank ++ (title_text text ++ codes "\n")) (on said depth stand) (on (said ++ Heading (rank_kept rank) (seen (plain text)) ∷ []) 0 Between)
rank_leads Page said depth stand text h o =
    leads_then (empty_leads said depth stand o)
    (marked_leads (codes "# ") said depth 1 text h refl (next_open said 0 depth Between 35 (32 ∷ title_text text) (HeadingLine 1 (title_text text)) refl refl refl))
rank_leads Section said depth stand text h o =
    leads_then (empty_leads said depth stand o)
    (marked_leads (codes "## ") said depth 2 text h refl (next_open said 0 depth Between 35 (35 ∷ 32 ∷ title_text text) (HeadingLine 2 (title_text text)) refl refl refl))
rank_leads Subsection said depth stand text h o =
    leads_then (empty_leads said depth stand o)
    (marked_leads (codes "### ") said depth 3 text h refl (next_open said 0 depth Between 35 (35 ∷ 35 ∷ 32 ∷ title_text text) (HeadingLine 3 (title_text text)) refl refl refl))

pub heading_comes : (rank : Rank) (text : List ℕ) (said : List Said) (more : ℕ) (stand : Stand) → list_all is_permitted_byte text ≡ true → is_open stand ≡ true
    → Comes (rank_text rank ++ (title_text text ++ codes "\n")) (on said more stand) 0 (said ++ Heading (rank_kept rank) (seen (plain text)) ∷ [])
heading_comes rank text said more stand h o = record { more = 0; after = Between; opens = refl; leads = rank_leads rank said more stand text h o }
