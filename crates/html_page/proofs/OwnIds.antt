-- The ids of a page are distinct.
use Rattle.std.proofs.Common.{◌≡◌, ℕ, ◌+◌, ◌<◌, ◌≤◌, ◌^◌, Bool, true, false, cond, List, [], ◌∷◌, ◌++◌, bytes_eq, count_by, flat_map, fold, length, map, Option, Some, None, refl, sym, ap, ap₂, ◌∙◌, subst, inl, inr, ⊎_elim, arith, append_assoc, append-nil, length-append}
use Rattle.std.proofs.lemmas.Grind.{flat_map-append, fold-append}
use Rattle.std.proofs.lemmas.List.{length-map, map-append}
use Rattle.std.proofs.lemmas.List.Sums.{count_by-le-length}
use Rattle.std.proofs.lemmas.Slice.Eq.{bytes_eq-Decides}
use Rattle.page_model.specs.Content.{TargetSaid, to_page, to_heading, EntrySaid, PartSaid, heading, usage, block, entries, ChapterSaid, chapter, ChaptersSaid, no_chapters, chapters}
use Rattle.html_page.specs.Ids.{chapter_id, times}
use Rattle.html_page.specs.Laws.{IdsAreDistinct, addresses_in, all_led_to, ids_in, is_parted, titles_below, titles_in}
use Rattle.html_page.specs.Page.{Before, counted, entry_words, id_after, word_with_id}
use Rattle.html_page.specs.Promises.{page_tree}
use Rattle.html_page.specs.View.{FrameSaid}
use Rattle.html_page.proofs.Among.{Among, Each, among_either, each_among, each_from, each_mapped, each_weaker}
use Rattle.html_page.proofs.Apart.{Apart, Distinct, distinct_append, distinct_test, each_test, test_distinct}
use Rattle.html_page.proofs.Attributes.{page_ids}
use Rattle.html_page.proofs.Carried.{chapter_ids, chapters_ids, entries_ids, page_gives, part_ids, parts_ids, term_ids}
use Rattle.html_page.proofs.IdForms.{Tail, entry_numbered, heading_numbered, heading_tail, heading_told, title_of_id, word_or_heading, word_tail, word_told}

-- ---- what has an id in a chapter, beside the chapter itself

pub data Named : Type 0 where
  of_word : List ℕ → Named
  of_heading : List ℕ → Named

abbrev same : Named → Named → Bool
same (of_word v) (of_word w) = bytes_eq v w
same (of_heading v) (of_heading w) = bytes_eq v w
same (of_word v) (of_heading w) = false
same (of_heading v) (of_word w) = false

itself : (n : Named) → same n n ≡ true
itself (of_word w) = (bytes_eq-Decides w w).1 refl
itself (of_heading w) = (bytes_eq-Decides w w).1 refl

abbrev entry_named : EntrySaid → List Named
entry_named e = map of_word (entry_words e)

abbrev part_named : PartSaid → List Named
part_named (heading rank text) = of_heading text ∷ []
part_named (usage forms) = []
part_named (block shown) = []
part_named (entries listed) = flat_map entry_named listed

-- each with how many before it are the same
abbrev with_counts : (before : List Named) → List Named → List (Named × ℕ)
with_counts before [] = []
with_counts before (n ∷ ns) = (n, count_by (same n) before) ∷ with_counts (before ++ n ∷ []) ns

counted_append : (before ns ms : List Named) → with_counts before (ns ++ ms) ≡ with_counts before ns ++ with_counts (before ++ ns) ms
counted_append before [] ms = ap (λ b. with_counts b ms) (sym (append-nil before))
counted_append before (n ∷ ns) ms =
    ap (λ rest. (n, count_by (same n) before) ∷ rest) (counted_append (before ++ n ∷ []) ns ms ∙ ap (λ b. with_counts (before ++ n ∷ []) ns ++ with_counts b ms) (append_assoc before (n ∷ []) ns))

-- ---- a count by texts, and one by what is named

abbrev words_in : List Named → List (List ℕ)
words_in [] = []
words_in (of_word w ∷ ns) = w ∷ words_in ns
words_in (of_heading w ∷ ns) = words_in ns

abbrev headings_in : List Named → List (List ℕ)
headings_in [] = []
headings_in (of_word w ∷ ns) = headings_in ns
headings_in (of_heading w ∷ ns) = w ∷ headings_in ns

words_append : (ns ms : List Named) → words_in (ns ++ ms) ≡ words_in ns ++ words_in ms
words_append [] ms = refl
words_append (of_word w ∷ ns) ms = ap (λ ws. w ∷ ws) (words_append ns ms)
words_append (of_heading w ∷ ns) ms = words_append ns ms

headings_append : (ns ms : List Named) → headings_in (ns ++ ms) ≡ headings_in ns ++ headings_in ms
headings_append [] ms = refl
headings_append (of_word w ∷ ns) ms = headings_append ns ms
headings_append (of_heading w ∷ ns) ms = ap (λ ws. w ∷ ws) (headings_append ns ms)

mapped_words : (ws : List (List ℕ)) → words_in (map of_word ws) ≡ ws
mapped_words [] = refl
mapped_words (w ∷ ws) = ap (λ vs. w ∷ vs) (mapped_words ws)

mapped_headings : (ws : List (List ℕ)) → headings_in (map of_word ws) ≡ []
mapped_headings [] = refl
mapped_headings (w ∷ ws) = mapped_headings ws

times_words : (w : List ℕ) (ns : List Named) (n : ℕ) → fold (λ n x. n + cond (bytes_eq w x) 1 0) n (words_in ns) ≡ fold (λ n x. n + cond (same (of_word w) x) 1 0) n ns
times_words w [] n = refl
times_words w (of_word v ∷ ns) n = times_words w ns (n + cond (bytes_eq w v) 1 0)
times_words w (of_heading v ∷ ns) n = times_words w ns n ∙ ap (λ m. fold (λ n x. n + cond (same (of_word w) x) 1 0) m ns) (let none : n ≡ n + 0 = omega arith in none)

times_headings : (w : List ℕ) (ns : List Named) (n : ℕ) → fold (λ n x. n + cond (bytes_eq w x) 1 0) n (headings_in ns) ≡ fold (λ n x. n + cond (same (of_heading w) x) 1 0) n ns
times_headings w [] n = refl
times_headings w (of_word v ∷ ns) n = times_headings w ns n ∙ ap (λ m. fold (λ n x. n + cond (same (of_heading w) x) 1 0) m ns) (let none : n ≡ n + 0 = omega arith in none)
times_headings w (of_heading v ∷ ns) n = times_headings w ns (n + cond (bytes_eq w v) 1 0)

-- ---- the ids of a chapter

abbrev tail_of : Named × ℕ → List ℕ
tail_of (of_word w, k) = word_tail w k
tail_of (of_heading w, k) = heading_tail w k

abbrev id_of : (title : List ℕ) → Named × ℕ → List ℕ
id_of title n = chapter_id title ++ tail_of n

abbrev before_in : List Named → Before
before_in ns = record { words = words_in ns; headings = headings_in ns }

module _ (title : List ℕ) where
  word_named : (before : List Named) (w : List ℕ) → id_after title (words_in before) w ∷ [] ≡ map (id_of title) (with_counts before (of_word w ∷ []))
  word_named before w = ap (λ id. id ∷ []) (entry_numbered title w (times w (words_in before)) ∙ ap (λ k. chapter_id title ++ word_tail w k) (times_words w before 0))

  target_named : (before : List Named) (word : List ℕ) (target : Option TargetSaid) → term_ids title (words_in before) word target ≡ map (id_of title) (with_counts before (map of_word (word_with_id word target)))
  target_named before word None = word_named before word
  target_named before word (Some (to_page name)) = word_named before word
  target_named before word (Some (to_heading other)) = refl

  words_after : (before : List Named) (e : EntrySaid) → words_in before ++ entry_words e ≡ words_in (before ++ entry_named e)
  words_after before e = sym (words_append before (entry_named e) ∙ ap (λ ws. words_in before ++ ws) (mapped_words (entry_words e)))

  entries_counted : (before : List Named) (es : List EntrySaid) → entries_ids title (words_in before) es ≡ map (id_of title) (with_counts before (flat_map entry_named es))
  entries_counted before [] = refl
  entries_counted before (e ∷ es) =
      ap₂ (λ xs ys. xs ++ ys) (target_named before e.word e.target) (ap (λ ws. entries_ids title ws es) (words_after before e) ∙ entries_counted (before ++ entry_named e) es)
      ∙ sym (map-append (id_of title) (with_counts before (entry_named e)) (with_counts (before ++ entry_named e) (flat_map entry_named es)))
      ∙ sym (ap (map (id_of title)) (counted_append before (entry_named e) (flat_map entry_named es)))

  part_counted : (before : List Named) (part : PartSaid) → part_ids title (before_in before) part ≡ map (id_of title) (with_counts before (part_named part))
  part_counted before (heading rank text) = ap (λ id. id ∷ []) (heading_numbered title text (times text (headings_in before)) ∙ ap (λ k. chapter_id title ++ heading_tail text k) (times_headings text before 0))
  part_counted before (usage forms) = refl
  part_counted before (block shown) = refl
  part_counted before (entries listed) = entries_counted before listed

  listed_words : (es : List EntrySaid) → words_in (flat_map entry_named es) ≡ flat_map entry_words es
  listed_words [] = refl
  listed_words (e ∷ es) = words_append (entry_named e) (flat_map entry_named es) ∙ ap₂ (λ xs ys. xs ++ ys) (mapped_words (entry_words e)) (listed_words es)

  listed_headings : (es : List EntrySaid) → headings_in (flat_map entry_named es) ≡ []
  listed_headings [] = refl
  listed_headings (e ∷ es) = headings_append (entry_named e) (flat_map entry_named es) ∙ ap₂ (λ xs ys. xs ++ ys) (mapped_headings (entry_words e)) (listed_headings es)

  both_in : (before : List Named) (ns : List Named) (ws hs : List (List ℕ)) → words_in ns ≡ ws → headings_in ns ≡ hs → record { words = words_in before ++ ws; headings = headings_in before ++ hs } ≡ before_in (before ++ ns)
  both_in before ns ws hs e f =
      ap₂ (λ ws hs. record { words = ws; headings = hs }) (sym (words_append before ns ∙ ap (λ vs. words_in before ++ vs) e)) (sym (headings_append before ns ∙ ap (λ vs. headings_in before ++ vs) f))

  part_after : (before : List Named) (part : PartSaid) → counted (before_in before) part ≡ before_in (before ++ part_named part)
  part_after before (heading rank text) = ap (λ ws. record { words = ws; headings = headings_in before ++ text ∷ [] }) (sym (append-nil (words_in before))) ∙ both_in before (of_heading text ∷ []) [] (text ∷ []) refl refl
  part_after before (usage forms) = ap before_in (sym (append-nil before))
  part_after before (block shown) = ap before_in (sym (append-nil before))
  part_after before (entries listed) =
      ap (λ hs. record { words = words_in before ++ flat_map entry_words listed; headings = hs }) (sym (append-nil (headings_in before)))
      ∙ both_in before (flat_map entry_named listed) (flat_map entry_words listed) [] (listed_words listed) (listed_headings listed)

  parts_counted : (before : List Named) (parts : List PartSaid) → parts_ids title (before_in before) parts ≡ map (id_of title) (with_counts before (flat_map part_named parts))
  parts_counted before [] = refl
  parts_counted before (part ∷ parts) =
      ap₂ (λ xs ys. xs ++ ys) (part_counted before part) (ap (λ b. parts_ids title b parts) (part_after before part) ∙ parts_counted (before ++ part_named part) parts)
      ∙ sym (map-append (id_of title) (with_counts before (part_named part)) (with_counts (before ++ part_named part) (flat_map part_named parts)))
      ∙ sym (ap (map (id_of title)) (counted_append before (part_named part) (flat_map part_named parts)))

-- ---- counts are distinct

count_more : (p : Named → Bool) (before : List Named) (n : Named) → count_by p (before ++ n ∷ []) ≡ count_by p before + cond (p n) 1 0
count_more p before n = fold-append (λ n x. n + cond (p x) 1 0) 0 before (n ∷ [])

at_least : (before : List Named) (ns : List Named) → Each (λ (p : Named × ℕ). count_by (same p.0) before ≤ p.1) (with_counts before ns)
at_least before [] = tt
at_least before (n ∷ ns) = (
  omega arith,
  each_weaker (λ (p : Named × ℕ). count_by (same p.0) (before ++ n ∷ []) ≤ p.1) (λ (p : Named × ℕ). count_by (same p.0) before ≤ p.1) (λ p h. let more = count_more (same p.0) before n in omega arith)
      (with_counts (before ++ n ∷ []) ns) (at_least (before ++ n ∷ []) ns),
)

below : (before : List Named) (ns : List Named) → Each (λ (p : Named × ℕ). p.1 < length before + length ns) (with_counts before ns)
below before [] = tt
below before (n ∷ ns) =
    let most = count_by-le-length (same n) before in
    let longer = length-append before (n ∷ []) in (
      omega arith,
      each_weaker (λ (p : Named × ℕ). p.1 < length (before ++ n ∷ []) + length ns) (λ (p : Named × ℕ). p.1 < length before + length (n ∷ ns)) (λ p h. omega arith)
          (with_counts (before ++ n ∷ []) ns) (below (before ++ n ∷ []) ns),
    )

counts_distinct : (before ns : List Named) → Distinct (with_counts before ns)
counts_distinct before [] = tt
counts_distinct before (n ∷ ns) = (no, counts_distinct (before ++ n ∷ []) ns) where
  no : Among (with_counts (before ++ n ∷ []) ns) (n, count_by (same n) before) → ⊥
  no a =
      let least : count_by (same n) (before ++ n ∷ []) ≤ count_by (same n) before =
      each_among (λ (p : Named × ℕ). count_by (same p.0) (before ++ n ∷ []) ≤ p.1) (with_counts (before ++ n ∷ []) ns) (at_least (before ++ n ∷ []) ns) (n, count_by (same n) before) a in
      let more : count_by (same n) (before ++ n ∷ []) ≡ count_by (same n) before + 1 = count_more (same n) before n ∙ ap (λ b. count_by (same n) before + cond b 1 0) (itself n) in
      absurd (omega arith)

-- ---- ids are distinct

cancel : {X : Type 0} (a b c : List X) → a ++ b ≡ a ++ c → b ≡ c
cancel [] b c e = e
cancel (x ∷ a) b c e = let inner : a ++ b ≡ a ++ c = cc in cancel a b c inner

abbrev Small : Named × ℕ → Type 0
Small p = p.1 + 1 < 2 ^ 64

tails_told : (p q : Named × ℕ) → Small p → Small q → tail_of p ≡ tail_of q → p ≡ q
tails_told (of_word v, j) (of_word w, k) sp sq e = let parts = word_told v w j k sp sq e in ap₂ (λ x y. (of_word x, y)) parts.0 parts.1
tails_told (of_heading v, j) (of_heading w, k) sp sq e = let parts = heading_told v w j k sp sq e in ap₂ (λ x y. (of_heading x, y)) parts.0 parts.1
tails_told (of_word v, j) (of_heading w, k) sp sq e = absurd (word_or_heading v w j k sp e)
tails_told (of_heading v, j) (of_word w, k) sp sq e = absurd (word_or_heading w v k j sq (sym e))

is_tail : (p : Named × ℕ) → Tail (tail_of p)
is_tail (of_word w, k) = (refl, refl)
is_tail (of_heading w, k) = (refl, refl)

no_tail : (p : Named × ℕ) → [] ≡ tail_of p → ⊥
no_tail (of_word w, k) e = cc
no_tail (of_heading w, k) e = cc

module _ (title : List ℕ) where
  found : (p : Named × ℕ) (qs : List (Named × ℕ)) → Small p → Each Small qs → Among (map (id_of title) qs) (id_of title p) → Among qs p
  found p [] sp sq a = a
  found p (q ∷ qs) sp sq (inl e) = inl (tails_told p q sp sq.0 (cancel (chapter_id title) (tail_of p) (tail_of q) e))
  found p (q ∷ qs) sp sq (inr a) = inr (found p qs sp sq.1 a)

  ids_distinct : (ps : List (Named × ℕ)) → Each Small ps → Distinct ps → Distinct (map (id_of title) ps)
  ids_distinct [] small h = tt
  ids_distinct (p ∷ ps) small h = (λ a. h.0 (found p ps small.0 small.1 a), ids_distinct ps small.1 h.1)

  not_own : (ps : List (Named × ℕ)) → Among (map (id_of title) ps) (chapter_id title) → ⊥
  not_own [] a = a
  not_own (p ∷ ps) (inl e) = no_tail p (cancel (chapter_id title) [] (tail_of p) (append-nil (chapter_id title) ∙ e))
  not_own (p ∷ ps) (inr a) = not_own ps a

-- ---- a chapter

abbrev own_ids : List ℕ × List Named → List (List ℕ)
own_ids (title, ns) = chapter_id title ∷ map (id_of title) (with_counts [] ns)

counted_length : (before ns : List Named) → length (with_counts before ns) ≡ length ns
counted_length before [] = refl
counted_length before (n ∷ ns) = let rest = counted_length (before ++ n ∷ []) ns in omega arith

own_distinct : (c : List ℕ × List Named) → length (own_ids c) < 2 ^ 64 → Distinct (own_ids c)
own_distinct (title, ns) few = (not_own title (with_counts [] ns), ids_distinct title (with_counts [] ns) small (counts_distinct [] ns)) where
  small : Each Small (with_counts [] ns)
  small =
      let many = counted_length [] ns in
      let mapped : length (map (id_of title) (with_counts [] ns)) ≡ length (with_counts [] ns) = length-map (with_counts [] ns) (id_of title) in
      each_weaker (λ (p : Named × ℕ). p.1 < 0 + length ns) Small (λ p h. omega arith) (with_counts [] ns) (below [] ns)

abbrev HasTitle : List ℕ → List ℕ → Type 0
HasTitle title id = (tail : List ℕ) × Tail tail × (id ≡ chapter_id title ++ tail)

own_titled : (c : List ℕ × List Named) → Each (HasTitle c.0) (own_ids c)
own_titled (title, ns) =
    (([], tt, sym (append-nil (chapter_id title))), each_mapped (HasTitle title) (id_of title) (with_counts [] ns) (each_from (λ p. HasTitle title (id_of title p)) (with_counts [] ns) (λ p a. (tail_of p, is_tail p, refl))))

-- ---- chapters

abbrev IsParted : List ℕ × List Named → Type 0
IsParted c = is_parted c.0 ≡ true

-- an id of one of them has its title
titled_among : (cs : List (List ℕ × List Named)) → Each IsParted cs → (id : List ℕ) → Among (flat_map own_ids cs) id → (title : List ℕ) × Among (map (λ c. c.0) cs) title × (is_parted title ≡ true) × HasTitle title id
titled_among [] parted id a = absurd a
titled_among (c ∷ cs) parted id a = ⊎_elim first (λ b. later (titled_among cs parted.1 id b)) (among_either (own_ids c) (flat_map own_ids cs) id a) where
  first : Among (own_ids c) id → (title : List ℕ) × Among (map (λ c. c.0) (c ∷ cs)) title × (is_parted title ≡ true) × HasTitle title id
  first b = (c.0, inl refl, parted.0, each_among (HasTitle c.0) (own_ids c) (own_titled c) id b)

  later : (title : List ℕ) × Among (map (λ c. c.0) cs) title × (is_parted title ≡ true) × HasTitle title id → (title : List ℕ) × Among (map (λ c. c.0) (c ∷ cs)) title × (is_parted title ≡ true) × HasTitle title id
  later rest = (rest.0, inr rest.1, rest.2, rest.3)

-- both parts of a list are few
parts_few : {X : Type 0} (xs ys : List X) (n : ℕ) → length (xs ++ ys) < n → (length xs < n) × (length ys < n)
parts_few xs ys n h = let all = length-append xs ys in let left : length xs < n = omega arith in let right : length ys < n = omega arith in (left, right)

all_distinct : (cs : List (List ℕ × List Named)) → Each IsParted cs → Distinct (map (λ c. c.0) cs) → length (flat_map own_ids cs) < 2 ^ 64 → Distinct (flat_map own_ids cs)
all_distinct [] parted distinct few = tt
all_distinct (c ∷ cs) parted distinct few =
    let each = parts_few (own_ids c) (flat_map own_ids cs) (2 ^ 64) few in
    distinct_append (own_ids c) (flat_map own_ids cs) (own_distinct c each.0) (all_distinct cs parted.1 distinct.1 each.1) no where
      no : Apart (own_ids c) (flat_map own_ids cs)
      no id a b =
          let mine = each_among (HasTitle c.0) (own_ids c) (own_titled c) id a in
          let other = titled_among cs parted.1 id b in
          let told = title_of_id c.0 other.0 mine.0 other.3.0 parted.0 other.2 mine.1 other.3.1 (sym mine.2 ∙ other.3.2) in
          distinct.0 (subst (Among (map (λ c. c.0) cs)) (sym told.0) other.1)

-- those of a page, in order
abbrev mutual
  listed : ChapterSaid → List (List ℕ × List Named)
  listed (chapter title name about parts below) = (title, flat_map part_named parts) ∷ listed_below below

  listed_below : ChaptersSaid → List (List ℕ × List Named)
  listed_below no_chapters = []
  listed_below (chapters first others) = listed first ++ listed_below others

mutual
  ids_listed : (c : ChapterSaid) → chapter_ids c ≡ flat_map own_ids (listed c)
  ids_listed (chapter title name about parts below) = ap₂ (λ xs ys. (chapter_id title ∷ xs) ++ ys) (parts_counted title [] parts) (all_listed below)

  all_listed : (cs : ChaptersSaid) → chapters_ids cs ≡ flat_map own_ids (listed_below cs)
  all_listed no_chapters = refl
  all_listed (chapters first others) = ap₂ (λ xs ys. xs ++ ys) (ids_listed first) (all_listed others) ∙ sym (flat_map-append own_ids (listed first) (listed_below others))

mutual
  titles_listed : (c : ChapterSaid) → titles_in c ≡ map (λ p. p.0) (listed c)
  titles_listed (chapter title name about parts below) = ap (λ ts. title ∷ ts) (titles_below_listed below)

  titles_below_listed : (cs : ChaptersSaid) → titles_below cs ≡ map (λ p. p.0) (listed_below cs)
  titles_below_listed no_chapters = refl
  titles_below_listed (chapters first others) = ap₂ (λ xs ys. xs ++ ys) (titles_listed first) (titles_below_listed others) ∙ sym (map-append (λ p. p.0) (listed first) (listed_below others))

each_of_map : {X Y : Type 0} (P : Y → Type 0) (f : X → Y) (xs : List X) → Each P (map f xs) → Each (λ x. P (f x)) xs
each_of_map P f [] h = tt
each_of_map P f (x ∷ xs) h = (h.0, each_of_map P f xs h.1)

-- ---- the page

-- of what a page gives, whatever its links are
ids_on_page : (frame : FrameSaid) (top : ChapterSaid) → ids_in (page_tree frame top) ≡ chapter_ids top
ids_on_page frame top =
    let any : (xs : List (List ℕ)) → Each (λ x. Unit {0}) xs = λ xs. each_from (λ x. Unit {0}) xs (λ x a. tt) in
    let p = page_gives (λ x. Unit {0}) frame top (any (addresses_in top)) (any (chapter_ids top)) (any (all_led_to top)) in
    page_ids frame top p.balanced ∙ p.ids

pub ids_are_distinct : IdsAreDistinct
ids_are_distinct frame top titles few =
    let same : ids_in (page_tree frame top) ≡ flat_map own_ids (listed top) = ids_on_page frame top ∙ ids_listed top in
    let parted : Each IsParted (listed top) = each_of_map (λ t. is_parted t ≡ true) (λ p. p.0) (listed top) (subst (Each (λ t. is_parted t ≡ true)) (titles_listed top) (each_test is_parted (titles_in top) titles.0)) in
    let apart : Distinct (map (λ p. p.0) (listed top)) = subst Distinct (titles_listed top) (distinct_test (titles_in top) titles.1) in
    test_distinct (ids_in (page_tree frame top)) (subst Distinct (sym same) (all_distinct (listed top) parted apart (subst (λ ids. length ids < 2 ^ 64) same few)))
