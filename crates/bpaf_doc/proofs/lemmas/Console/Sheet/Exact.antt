-- The page that the code writes is the page as a function of the document: the walk over its marks, and the whole.
use Rattle.std.specs.Prelude.{if◌then◌else◌, ◌&&◌, ◌++◌, ◌+◌, ◌-◌, ◌<◌, ◌==◌, ◌^◌, ◌∷◌, ◌≡◌, ◌≤◌}
use Rattle.bpaf_doc.proofs.lemmas.Console.Words.{common_steps, length-drop, length-reverse, take_at, nat_tests, Pairs, Block, Style, Part, Text, Start, End, Chunk, Raw, Paragraph, LineBreak, columns, chunks_of, has_some, is_hidden, shown_chunks, through_paragraph, margin, is_skipped, skips_pair, tab_stop, Shift, Indent, Level, part_shift, saturated, PageSoFar, console_page, hidden_after, Sheet, blank_sheet, enumerate_from, console_text, sym, ap, arith, inl, inr, ◌∙◌, ℕ, zero, suc, Bool, true, false, not, List, [], length, take, drop, reverse, refl, slice_get, Some, IfOk, Result, String, string_bytes, is_start_of, is_section4}
use Rattle.bpaf_doc.proofs.lemmas.Console.Hiding.{Counts, Counts-more, is_hidden-Counts}
use Rattle.bpaf_doc.proofs.lemmas.Console.Layout.Back.{by_test, by_cases}
use Rattle.bpaf_doc.proofs.lemmas.Console.Layout.Turned.{reverse_cons}
use Rattle.bpaf_doc.proofs.lemmas.Console.Margins.{top, stack_at, stack_at-more, shifted, shift_at, shift_at-shown, margin-le, margin-indent, margin-level, tab_stop-le}
use Rattle.bpaf_doc.proofs.lemmas.Console.Pairs.{KnowsPairs-more, knows_start, skips_is, KnowsPairs}
use Rattle.bpaf_doc.proofs.lemmas.Splitter.Pieces.{IsGood}
use Rattle.bpaf_doc.proofs.lemmas.Console.Sheet.Whole.{get_from_drop, drop_next, Each, text_good}
use Rattle.bpaf_doc.proofs.lemmas.Console.Tabs.{widest_from, walk}
use Rattle.bpaf_doc.specs.declared.buffer.Block.TheVariants as blocks
use Rattle.bpaf_doc.specs.Console.Steps.Page as page
use Rattle.bpaf_doc.specs.Console.Steps.Text as whole
use Rattle.bpaf_doc.specs.Console.Exact as exact

-- ---- the stack, newest first

get_last : (xs : List ℕ) (m : ℕ) → slice_get (xs ++ m ∷ []) (length xs) ≡ Some m
get_last [] m = refl
get_last (x ∷ xs) m = get_last xs m

length_turned : (m : ℕ) (ms : List ℕ) → length (reverse (m ∷ ms)) - 1 ≡ length (reverse ms)
length_turned m ms = let a : length (reverse (m ∷ ms)) ≡ length (m ∷ ms) = length-reverse (m ∷ ms) in let b : length (reverse ms) ≡ length ms = length-reverse ms in omega arith

-- ---- the chunks of a text that are written

-- the chunks of a text that are written
abbrev pub written_of : Bool → List Chunk → List Chunk
written_of full [] = []
written_of full (Raw bytes weight ∷ chunks) = Raw bytes weight ∷ written_of full chunks
written_of full (LineBreak ∷ chunks) = LineBreak ∷ written_of full chunks
written_of full (Paragraph ∷ chunks) = Paragraph ∷ (if full then written_of full chunks else [])

written_all : (chunks : List Chunk) → written_of true chunks ≡ chunks
written_all [] = refl
written_all (x ∷ chunks) = grind (arith, written_all chunks)

take_more : (k : ℕ) (x : Chunk) (xs : List Chunk) → take (1 + k + 1) (x ∷ xs) ≡ x ∷ take (k + 1) xs
take_more k x xs = let e : 1 + k + 1 ≡ suc (k + 1) = omega arith in rw e refl

written_brief : (chunks : List Chunk) → written_of false chunks ≡ through_paragraph chunks
written_brief (x ∷ chunks) = grind (arith, written_brief chunks, take_more)
written_brief _ = refl

-- ---- the parts

take_next : (parts : List Part) (k : ℕ) (part : Part) (rest : List Part) → drop k parts ≡ part ∷ rest → take (k + 1) parts ≡ take k parts ++ part ∷ []
take_next (p ∷ parts) (suc k) part rest e = let next : suc k + 1 ≡ suc (k + 1) = omega arith in rw next (ap (λ ps. p ∷ ps) (take_next parts k part rest e))
take_next (p ∷ parts) zero part rest e = grind arith
take_next [] (suc k) part rest e = grind arith
take_next [] zero part rest e = grind arith

small : (document : List Part) → length document < 2 ^ 59 → length document < 2 ^ 64
small document few = omega arith

-- what the start and the end of a block keep
opened_keeps : (b : Block) (adjacent : Bool) (s : Sheet) → ((page.opened b adjacent s).tab_stop ≡ s.tab_stop) × ((page.opened b adjacent s).width ≡ s.width) × ((page.opened b adjacent s).page ≡ exact.start_put b s.page)
unfolding page.opened
opened_keeps b adjacent s = grind arith

closed_keeps : (b : Block) (s : Sheet)
    → ((page.closed b s).tab_stop ≡ s.tab_stop) × ((page.closed b s).width ≡ s.width) × ((page.closed b s).page ≡ exact.end_put b s.page) × ((page.closed b s).margins ≡ take (length s.margins - 1) s.margins)
unfolding page.closed
closed_keeps b s = (refl, refl, refl, refl)

module _ (full : Bool) (document : List Part) (few : length document < 2 ^ 59) where
  -- these parts are left, from this place on
  pub record Walk (index : ℕ) (parts : List Part) (pairs : Pairs) (hidden : ℕ) (s : Sheet) : Type 0 where
    pub here : drop index document ≡ parts
    pub tab : s.tab_stop ≡ tab_stop document
    pub margins : s.margins ≡ reverse (stack_at document index)
    pub knows : KnowsPairs document index pairs
    pub counts : full ≡ false → Counts hidden (take index document)
    pub open_all : full ≡ true → hidden ≡ 0

  module _ (index : ℕ) (part : Part) (rest : List Part) (pairs : Pairs) (hidden : ℕ) (s : Sheet) (w : Walk index (part ∷ rest) pairs hidden s) where
    -- the margin fits a usize
    fits : margin document index ≤ 18446744073709551615
    fits = let n : length (drop index document) ≡ length (part ∷ rest) = ap length w.here in omega (arith, length-drop index document, margin-le document index, few)

    there : slice_get document index ≡ Some part
    there = get_from_drop document index part rest w.here

    walk_on : (next : Pairs) (t : Sheet) → KnowsPairs document (index + 1) next → t.tab_stop ≡ s.tab_stop → t.margins ≡ reverse (shifted (shift_at document index part) (stack_at document index))
        → Walk (index + 1) rest next (hidden_after full hidden part) t
    walk_on next t knows tab margins = record {
      here = drop_next document index part rest w.here;
      tab = tab ∙ w.tab;
      margins = margins ∙ ap reverse (sym (stack_at-more document index part rest w.here));
      knows = knows;
      counts = λ f. rw (f, take_next document index part rest w.here) (Counts-more hidden (take index document) part (w.counts f));
      open_all = λ t. grind (arith, w.open_all t);
    }

    -- the margins stay
    walk_still : (next : Pairs) (t : Sheet) → KnowsPairs document (index + 1) next → t.tab_stop ≡ s.tab_stop → t.margins ≡ s.margins → shift_at document index part ≡ Level
        → Walk (index + 1) rest next (hidden_after full hidden part) t
    walk_still next t knows tab margins level = grind (arith, walk_on next t knows tab)

  -- a text
  module _ (index : ℕ) (rest : List Part) (bytes : List ℕ) (style : Style) (pairs : Pairs) (hidden : ℕ) (s : Sheet) (w : Walk index (Text bytes style ∷ rest) pairs hidden s) where
    pub text_level : page.margin_of s ≡ saturated (margin document index)
    text_level =
        grind (arith, length_turned, reverse_cons, get_last, w.margins) ∙ sym (margin-level document index (Text bytes style) rest w.here (grind arith))
        ∙ (let in_range : margin document index ≤ 18446744073709551615 = fits index (Text bytes style) rest pairs hidden s w in omega arith)

    walk_text : (t : Sheet) → t.tab_stop ≡ s.tab_stop → t.margins ≡ s.margins → Walk (index + 1) rest pairs (hidden_after full hidden (Text bytes style)) t
    walk_text t tab margins =
        walk_still index (Text bytes style) rest pairs hidden s w pairs t text_knows tab margins (grind arith) where
          text_knows : KnowsPairs document (index + 1) pairs
          text_knows = grind (arith, KnowsPairs-more document index pairs, there index (Text bytes style) rest pairs hidden s w)

    hiding_is : full ≡ false → is_hidden (take index document) ≡ not (hidden == 0)
    hiding_is f = is_hidden-Counts hidden (take index document) (w.counts f)

    -- the chunks that are shown, where the text is
    pub shown_is : (hidden == 0) ≡ true → shown_chunks full (take index document) bytes ≡ written_of full (chunks_of bytes)
    shown_is h = grind (arith, written_all, hiding_is, written_brief)

    pub hidden_is : (hidden == 0) ≡ false → shown_chunks full (take index document) bytes ≡ []
    hidden_is h = grind (arith, nat_tests, hiding_is)

  -- what the start of a block does to the stack
  opened_margins : (index : ℕ) (b : Block) (adjacent : Bool) (s : Sheet) (stack : List ℕ) → s.margins ≡ reverse stack → s.tab_stop ≡ tab_stop document
      → adjacent ≡ (is_start_of is_section4 (Start b) && skips_pair document index) → ((n : ℕ) → part_shift document index (Start b) ≡ Indent n → top stack + n ≤ 18446744073709551615)
      → (page.opened b adjacent s).margins ≡ reverse (shifted (part_shift document index (Start b)) stack)
  unfolding page.opened
  opened_margins index b adjacent s stack m t a fits = grind (arith, common_steps, length_turned, get_last, reverse_cons, tab_stop-le)

  -- a start
  module _ (index : ℕ) (rest : List Part) (b : Block) (pairs : Pairs) (hidden : ℕ) (s : Sheet) (w : Walk index (Start b ∷ rest) pairs hidden s) where
    abbrev next : Pairs
    next = whole.pairs_at document index b pairs

    start_known : KnowsPairs document (index + 1) next × (whole.is_adjacent b next ≡ (is_start_of is_section4 (Start b) && skips_pair document index))
    start_known = knows_start document (small document few) index b pairs (there index (Start b) rest pairs hidden s w) w.knows

    pub start_skips : whole.skips next index b ≡ is_skipped document index
    start_skips = skips_is document (small document few) index b next start_known.0 (inl (there index (Start b) rest pairs hidden s w))

    walk_start : is_skipped document index ≡ false → Walk (index + 1) rest next (hidden_after full hidden (Start b)) (page.opened b (whole.is_adjacent b next) s)
    walk_start e =
        let shift : shift_at document index (Start b) ≡ part_shift document index (Start b) = shift_at-shown document index (Start b) e in
        let most : margin document index ≤ 18446744073709551615 = fits index (Start b) rest pairs hidden s w in
        let within : (n : ℕ) → part_shift document index (Start b) ≡ Indent n → top (stack_at document index) + n ≤ 18446744073709551615 = λ n i.
        (let is : margin document index ≡ top (stack_at document index) + n = margin-indent document index (Start b) rest w.here n (shift ∙ i) in omega arith) in
        walk_on index (Start b) rest pairs hidden s w next (page.opened b (whole.is_adjacent b next) s) start_known.0 (opened_keeps b (whole.is_adjacent b next) s).0
        (opened_margins index b (whole.is_adjacent b next) s (stack_at document index) w.margins w.tab start_known.1 within ∙ ap (λ (x : Shift). reverse (shifted x (stack_at document index))) (sym shift))

    walk_any_start : Walk (index + 1) rest next (hidden_after full hidden (Start b)) (if whole.skips next index b then s else page.opened b (whole.is_adjacent b next) s)
    walk_any_start =
        by_test (Walk (index + 1) rest next (hidden_after full hidden (Start b))) (whole.skips next index b) s (page.opened b (whole.is_adjacent b next) s)
        (λ e. walk_still index (Start b) rest pairs hidden s w next s start_known.0 refl refl (rw (sym start_skips ∙ e) refl)) (λ e. walk_start (sym start_skips ∙ e))

  -- an end
  module _ (index : ℕ) (rest : List Part) (b : Block) (pairs : Pairs) (hidden : ℕ) (s : Sheet) (w : Walk index (End b ∷ rest) pairs hidden s) where
    end_knows : KnowsPairs document (index + 1) pairs
    end_knows = grind (arith, KnowsPairs-more document index pairs, there index (End b) rest pairs hidden s w)

    pub end_skips : whole.skips pairs index b ≡ is_skipped document index
    end_skips = skips_is document (small document few) index b pairs end_knows (inr (there index (End b) rest pairs hidden s w))

    walk_end : is_skipped document index ≡ false → Walk (index + 1) rest pairs (hidden_after full hidden (End b)) (page.closed b s)
    walk_end e =
        grind (arith, walk_on index (End b) rest pairs hidden s w pairs (page.closed b s), end_knows, closed_keeps b s, length_turned, reverse_cons, take_at, shift_at-shown document index (End b) e)

    walk_any_end : Walk (index + 1) rest pairs (hidden_after full hidden (End b)) (if whole.skips pairs index b then s else page.closed b s)
    walk_any_end =
        by_test (Walk (index + 1) rest pairs (hidden_after full hidden (End b))) (whole.skips pairs index b) s (page.closed b s)
        (λ e. walk_still index (End b) rest pairs hidden s w pairs s end_knows refl refl (rw (sym end_skips ∙ e) refl)) (λ e. walk_end (sym end_skips ∙ e))

  tab_is : whole.tab_stop_from 0 false 0 document ≡ tab_stop document
  tab_is =
      let stop : widest_from 0 false 0 document + 4 ≡ tab_stop document = ap (λ n. n + 4) (walk document [] document 0 refl) ∙ omega arith in
      let most : tab_stop document ≤ 28 = tab_stop-le document in omega (arith, same_walk document 0 false 0) where
        same_walk : (parts : List Part) (widest : ℕ) (in_term : Bool) (term : ℕ) → whole.tab_stop_from widest in_term term parts ≡ saturated (widest_from widest in_term term parts + 4)
        same_walk [] widest in_term term = refl
        same_walk (Text bytes style ∷ parts) widest in_term term = same_walk parts widest in_term (if in_term then saturated (term + columns bytes) else term)
        same_walk (Start blocks.ItemTerm ∷ parts) widest in_term term = same_walk parts widest true 0
        same_walk (End blocks.ItemTerm ∷ parts) widest in_term term = same_walk parts (whole.wider_term widest term) false term
        same_walk (_ ∷ parts) widest in_term term = same_walk parts widest in_term term

  pub walk_begins : (width : ℕ) → Walk 0 document whole.no_pairs 0 (blank_sheet width (whole.tab_stop_from 0 false 0 document))
  walk_begins width = grind (arith, tab_is)

  -- any part
  pub walk_part : (index : ℕ) (rest : List Part) (part : Part) (pairs : Pairs) (hidden : ℕ) (s : Sheet) → Walk index (part ∷ rest) pairs hidden s
      → Walk (index + 1) rest (whole.pairs_after document index pairs part) (hidden_after full hidden part) (whole.part_put full document index pairs hidden part s)
  walk_part index rest (Text bytes style) pairs hidden s w =
      by_test (Walk (index + 1) rest pairs (hidden_after full hidden (Text bytes style))) (hidden == 0) _ _
      (λ h. walk_text index rest bytes style pairs hidden s w (page.text_put full (chunks_of bytes) s) refl refl) (λ h. walk_text index rest bytes style pairs hidden s w s refl refl)
  walk_part index rest (Start b) pairs hidden s w = walk_any_start index rest b pairs hidden s w
  walk_part index rest (End b) pairs hidden s w = walk_any_end index rest b pairs hidden s w

-- ---- a Raw chunk

is_empty : (text : List ℕ) → (length text == 0) ≡ not (has_some text)
is_empty text = grind (arith, nat_tests)

raw_is : (width level : ℕ) (bytes : List ℕ) (weight : ℕ) (p : PageSoFar) → page.columns_of bytes weight ≡ columns bytes → page.raw_put width level bytes weight p ≡ exact.raw_put width level bytes weight p
unfolding page.raw_put
raw_is width level bytes weight p e = grind (arith, common_steps, is_empty)

text_is : (full : Bool) (width level : ℕ) (chunks : List Chunk) (p : PageSoFar) → Each IsGood chunks → page.chunks_put width level full chunks p ≡ exact.chunks_put width level (written_of full chunks) p
text_is full width level [] p good = refl
text_is full width level (x ∷ chunks) p good = grind (arith, text_is full width level chunks, raw_is, by_cases, nat_tests)

-- ---- the parts

module _ (full : Bool) (document : List Part) (width : ℕ) (few : length document < 2 ^ 59) where
  text_part : (index : ℕ) (rest : List Part) (bytes : List ℕ) (style : Style) (pairs : Pairs) (hidden : ℕ) (s : Sheet) → Walk full document few index (Text bytes style ∷ rest) pairs hidden s
      → s.width ≡ width → (whole.part_put full document index pairs hidden (Text bytes style) s).page ≡ exact.part_put full width document index (Text bytes style) s.page
  text_part index rest bytes style pairs hidden s w wide =
      by_test (λ x. x.page ≡ exact.part_put full width document index (Text bytes style) s.page) (hidden == 0) (page.text_put full (chunks_of bytes) s) s
      (λ h. rw (wide, text_level full document few index rest bytes style pairs hidden s w, shown_is full document few index rest bytes style pairs hidden s w h)
      (text_is full width (exact.saturated (margin document index)) (chunks_of bytes) s.page (text_good bytes)))
      (λ h. rw (hidden_is full document few index rest bytes style pairs hidden s w h) refl)

  part_same : (index : ℕ) (rest : List Part) (part : Part) (pairs : Pairs) (hidden : ℕ) (s : Sheet) → Walk full document few index (part ∷ rest) pairs hidden s → s.width ≡ width
      → (whole.part_put full document index pairs hidden part s).page ≡ exact.part_put full width document index part s.page
  part_same index rest (Text bytes style) pairs hidden s w wide = text_part index rest bytes style pairs hidden s w wide
  part_same index rest (Start b) pairs hidden s w wide = grind (arith, start_skips full document few index rest b pairs hidden s w, opened_keeps)
  part_same index rest (End b) pairs hidden s w wide = grind (arith, end_skips full document few index rest b pairs hidden s w, closed_keeps)

  parts_same : (parts : List Part) (index : ℕ) (pairs : Pairs) (hidden : ℕ) (s : Sheet) → Walk full document few index parts pairs hidden s → s.width ≡ width
      → (whole.parts_put full document index pairs hidden parts s).page ≡ exact.parts_put full width document (enumerate_from index parts) s.page
  parts_same [] index pairs hidden s w wide = refl
  parts_same (part ∷ parts) index pairs hidden s w wide =
      parts_same parts (index + 1) (whole.pairs_after document index pairs part) (hidden_after full hidden part) (whole.part_put full document index pairs hidden part s)
      (walk_part full document few index parts part pairs hidden s w) ((grind (arith, opened_keeps, closed_keeps)) ∙ wide)
      ∙ ap (exact.parts_put full width document (enumerate_from (index + 1) parts)) (part_same index parts part pairs hidden s w wide)

  text_page : console_text full width document ≡ console_page full width document
  text_page = ap exact.finished (parts_same document 0 whole.no_pairs 0 (blank_sheet width (whole.tab_stop_from 0 false 0 document)) (walk_begins full document few width) refl)

-- what the exact page keeps to, the answer of a call that writes it does
pub IfOk-page : (P : List ℕ → Type 0) {Z E : Type 0} (full : Bool) (width : ℕ) (document : List Part) → length document < 2 ^ 59
    → P (console_page full width document) → (r : Result (String Z) E) → IfOk r (λ text. string_bytes text ≡ console_text full width document) → IfOk r (λ text. P (string_bytes text))
IfOk-page P full width document few holds r same = grind (arith, text_page)
