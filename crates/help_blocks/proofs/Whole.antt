-- Blocks that begin as the rules say, with an end for each.
use Rattle.std.proofs.Common.{◌≡◌, ℕ, zero, suc, ◌+◌, ◌-◌, ◌<◌, ◌≤◌, Bool, true, List, [], ◌∷◌, ◌++◌, All, Option, None, Some, drop, get_or, length, map, reverse, refl, sym, ap, ◌∙◌, arith}
use Rattle.std.specs.List.{AllPass}
use Rattle.std.proofs.lemmas.List.{get_or-drop, get_or-take, get_or_append_left, get_or_default, length-reverse, length-take, reverse-append, reverse-reverse}
use Rattle.std.proofs.lemmas.List.Elements.{All-cons, All-nil}
use Rattle.std.proofs.Math.Seq.{get_or-append_seam}
use Rattle.help_blocks.specs.declared.cut.Block.{Block}
use Rattle.help_blocks.specs.declared.place.Kind.{Kind}
use Rattle.help_blocks.specs.declared.place.Open.{Open}
use Rattle.help_blocks.specs.declared.shape.Shape.{Shape}
use Rattle.help_blocks.specs.Above.{Line, open_block, opened_by, place_of}
use Rattle.help_blocks.specs.Blocks.{FollowOn, Pair, lines_of, pairs, read, start_of, started, starts}
use Rattle.help_blocks.specs.Steps.{with_line}
use Rattle.help_blocks.specs.Laws.{EachLineIsInABlock, is_empty_line, is_usage_kind, is_usage_line, lines_below}
use Rattle.help_blocks.specs.Rules.{begun, is_title_kind}
use Rattle.help_blocks.specs.Shapes.{shape_of}
use Rattle.help_blocks.proofs.Deeper.{titles_end}
use Rattle.help_blocks.proofs.Usages.{AllBegin, begin_lengthened, begin_pushed, begin_same, usage_begun}
use Rattle.help_blocks.proofs.Titles.{AllEnd, Ends, ends_with_line, is_last_title, is_open_title, last_lengthened, last_pushed, no_further}
use Rattle.help_blocks.proofs.Read.{follow-to, follow-with_line, some-begun, starts-with_line}

abbrev blocks_of : List Line → List Block
blocks_of [] = []
blocks_of (l ∷ ls) = with_line (blocks_of ls) (length ls) l.begun

begin_there : (ls : List Line) → map start_of (blocks_of ls) ≡ starts ls
begin_there [] = refl
begin_there (l ∷ ls) = starts-with_line (blocks_of ls) (length ls) l.begun ∙ ap (λ ss. ss ++ started (length ls) l.begun) (begin_there ls)

follow_on : (ps : List Pair) → FollowOn 0 (blocks_of (read ps)) (length (read ps))
follow_on [] = refl
follow_on (p ∷ ps) = follow-to 0 (length (read ps) + 1) (length (read (p ∷ ps))) (blocks_of (read (p ∷ ps))) (omega arith) (follow-with_line (length (read ps)) (blocks_of (read ps)) _ (some-begun ps p.here p.next) (follow_on ps))

read_all : (ps : List Pair) → length (read ps) ≡ length ps
read_all [] = refl
read_all (p ∷ ps) = let h = read_all ps in omega arith

pair_each : (lines : List (List ℕ)) → length (pairs lines) ≡ length lines
pair_each [] = refl
pair_each (l ∷ ls) = let h = pair_each ls in omega arith

-- ---- titles

no_pair : Pair
no_pair = record { here = shape_of []; next = shape_of [] }

in_order : (p : Pair) (ps : List Pair) → reverse (p ∷ ps) ≡ reverse ps ++ p ∷ []
in_order p ps = reverse-append (p ∷ []) ps

module _ (f : Shape → Bool) where
  -- what a line looks like, of those that are read
  abbrev at : (last_first : List Pair) → ℕ → Bool
  at ps i = f (get_or (reverse ps) i no_pair).here

  above_same : (p : Pair) (ps : List Pair) (i : ℕ) → i < length (read ps) → at (p ∷ ps) i ≡ at ps i
  above_same p ps i h =
      let size = length-reverse ps in
      let all = read_all ps in
      ap (λ qs. f (get_or qs i no_pair).here) (in_order p ps) ∙ ap (λ (q : Pair). f q.here) (get_or_append_left (reverse ps) (p ∷ []) no_pair i (omega (arith, h, size, all)))

  last_there : (p : Pair) (ps : List Pair) → at (p ∷ ps) (length (read ps)) ≡ f p.here
  last_there p ps =
      ap (λ i. at (p ∷ ps) i) (read_all ps ∙ sym (length-reverse ps)) ∙ ap (λ qs. f (get_or qs (length (reverse ps)) no_pair).here) (in_order p ps)
      ∙ ap (λ (q : Pair). f q.here) (get_or-append_seam (reverse ps) p [] no_pair)

abbrev empty_at : (last_first : List Pair) → ℕ → Bool
empty_at = at (λ s. s.is_empty)

abbrev usage_at : (last_first : List Pair) → ℕ → Bool
usage_at = at (λ s. s.is_usage)

last_is : (ps : List Pair) → is_last_title (blocks_of (read ps)) ≡ is_open_title (open_block (read ps))
last_is [] = refl
last_is (p ∷ ps) = by (begun (place_of (read ps)) p.here p.next) (last_is ps) where
  by : (k : Option Kind) → is_last_title (blocks_of (read ps)) ≡ is_open_title (open_block (read ps))
      → is_last_title (with_line (blocks_of (read ps)) (length (read ps)) k) ≡ is_open_title (opened_by k p.here (open_block (read ps)))
  by None h = last_lengthened (blocks_of (read ps)) (length (read ps) + 1) ∙ h
  by (Some k) h = last_pushed (blocks_of (read ps)) _

below_title : (above : List Line) (here next : Shape) (o : Option Open) → open_block above ≡ o → is_open_title o ≡ true → begun (place_of above) here next ≡ None → here.is_empty ≡ true
below_title above here next None e h n = cc
below_title above here next (Some t) e h n = titles_end above t here next e h n

all_end : (ps : List Pair) → AllEnd (empty_at ps) (blocks_of (read ps))
all_end [] = tt
all_end (p ∷ ps) =
    ends_with_line (empty_at ps) (empty_at (p ∷ ps)) (length (read ps)) (above_same (λ s. s.is_empty) p ps) (blocks_of (read ps)) (begun (place_of (read ps)) p.here p.next) (follow_on ps)
    (λ n h. last_there (λ s. s.is_empty) p ps ∙ below_title (read ps) p.here p.next (open_block (read ps)) refl (sym (last_is ps) ∙ h) n) (all_end ps)

pair_at : (lines : List (List ℕ)) (i : ℕ) → i < length lines → (get_or (pairs lines) i no_pair).here.is_empty ≡ is_empty_line (get_or lines i [])
unfolding shape_of
pair_at [] i h = absurd (omega (arith, h))
pair_at (l ∷ ls) zero h = refl
pair_at (l ∷ ls) (suc i) h = pair_at ls i (omega (arith, h))

empty_in : (lines : List (List ℕ)) (i : ℕ) → i < length lines → empty_at (reverse (pairs lines)) i ≡ is_empty_line (get_or lines i [])
empty_in lines i h = ap (λ ps. (get_or ps i no_pair).here.is_empty) (reverse-reverse (pairs lines)) ∙ pair_at lines i h

-- ---- usages

all_begin : (ps : List Pair) → AllBegin (usage_at ps) (blocks_of (read ps))
all_begin [] = tt
all_begin (p ∷ ps) = by (begun (place_of (read ps)) p.here p.next) refl (begin_same (usage_at ps) (usage_at (p ∷ ps)) (length (read ps)) (above_same (λ s. s.is_usage) p ps) 0 (blocks_of (read ps)) (follow_on ps) (all_begin ps)) where
  by : (k : Option Kind) → begun (place_of (read ps)) p.here p.next ≡ k → AllBegin (usage_at (p ∷ ps)) (blocks_of (read ps)) → AllBegin (usage_at (p ∷ ps)) (with_line (blocks_of (read ps)) (length (read ps)) k)
  by None e h = begin_lengthened (usage_at (p ∷ ps)) (blocks_of (read ps)) (length (read ps) + 1) h
  by (Some k) e h = begin_pushed (usage_at (p ∷ ps)) (blocks_of (read ps)) _ (λ u. last_there (λ s. s.is_usage) p ps ∙ usage_begun (place_of (read ps)) p.here p.next k e u) h

usage_pair_at : (lines : List (List ℕ)) (i : ℕ) → i < length lines → (get_or (pairs lines) i no_pair).here.is_usage ≡ is_usage_line (get_or lines i [])
unfolding shape_of
usage_pair_at [] i h = absurd (omega (arith, h))
usage_pair_at (l ∷ ls) zero h = refl
usage_pair_at (l ∷ ls) (suc i) h = usage_pair_at ls i (omega (arith, h))

usage_in : (lines : List (List ℕ)) (i : ℕ) → i < length lines → usage_at (reverse (pairs lines)) i ≡ is_usage_line (get_or lines i [])
usage_in lines i h = ap (λ ps. (get_or ps i no_pair).here.is_usage) (reverse-reverse (pairs lines)) ∙ usage_pair_at lines i h

abbrev Uses : (lines : List (List ℕ)) → Block → Type 0
Uses lines b = is_usage_kind b.kind ≡ true → is_usage_line (get_or lines b.first []) ≡ true

every_usage : (lines : List (List ℕ)) (first : ℕ) (bs : List Block) → FollowOn first bs (length lines) → AllBegin (usage_at (reverse (pairs lines))) bs → All (Uses lines) bs
every_usage lines first [] h begin = All-nil (Uses lines)
every_usage lines first (b ∷ bs) h begin =
    let below = no_further b.end (length lines) bs h.2 in
    All-cons (Uses lines) b bs (λ e. sym (usage_in lines b.first (omega (arith, h.1, below))) ∙ begin.0 e) (every_usage lines b.end bs h.2 begin.1)

-- the lines below the first of a block, one by one
one_block : (lines : List (List ℕ)) (b : Block) → b.first < b.end → b.end ≤ length lines → Ends (empty_at (reverse (pairs lines))) b → is_title_kind b.kind ≡ true → AllPass is_empty_line (lines_below lines b)
one_block lines b some within ends e k d h =
    let i : ℕ = b.first + 1 + k in
    let m : ℕ = b.end - (b.first + 1) in
    let below : List (List ℕ) = drop (b.first + 1) lines in
    let size = length-take m below in
    let near : k < m = omega (arith, h, size) in
    let far : i < length lines = omega (arith, near, within) in
    ap is_empty_line (get_or-take m below k d near ∙ get_or-drop (b.first + 1) lines k d ∙ get_or_default lines i d [] far) ∙ sym (empty_in lines i far) ∙ ends e i (omega arith) (omega (arith, near))

every_block : (lines : List (List ℕ)) (first : ℕ) (bs : List Block) → FollowOn first bs (length lines) → AllEnd (empty_at (reverse (pairs lines))) bs → All (λ b. is_title_kind b.kind ≡ true → AllPass is_empty_line (lines_below lines b)) bs
every_block lines first [] h ends = All-nil (λ (b : Block). is_title_kind b.kind ≡ true → AllPass is_empty_line (lines_below lines b))
every_block lines first (b ∷ bs) h ends =
    All-cons (λ b. is_title_kind b.kind ≡ true → AllPass is_empty_line (lines_below lines b)) b bs (one_block lines b h.1 (no_further b.end (length lines) bs h.2) ends.0) (every_block lines b.end bs h.2 ends.1)

pub each_line_is_in_a_block : EachLineIsInABlock
each_line_is_in_a_block lines =
    let size = read_all (reverse (pairs lines)) ∙ length-reverse (pairs lines) ∙ pair_each lines in
    let bs : List Block = blocks_of (lines_of lines) in
    let follow : FollowOn 0 bs (length lines) = follow-to 0 (length (lines_of lines)) (length lines) bs size (follow_on (reverse (pairs lines))) in
    (bs, record { begun = begin_there (lines_of lines); follow = follow; titles = every_block lines 0 bs follow (all_end (reverse (pairs lines))); usages = every_usage lines 0 bs follow (all_begin (reverse (pairs lines))) })
