-- Texts without a block.
use Rattle.std.proofs.Common.{◌≡◌, ℕ, suc, ◌+◌, Bool, true, false, cond, List, [], ◌∷◌, ◌++◌, map, take, drop, replicate, refl, sym, ap, ◌∙◌, arith}
use Rattle.std.specs.Prelude.{not, ◌&&◌, ◌||◌, nat_le, if◌then◌else◌}
use Rattle.std.specs.List.{before_first, list_all, list_any, position_or_len, prefix_len, slice_split}
use Rattle.std.proofs.lemmas.Bool.{and_parts}
use Rattle.std.proofs.lemmas.Bool.Decides.{nat_tests}
use Rattle.description_texts.specs.Texts.{begins_fence, block_of_kind, block_said, blanks, has_marker, has_none, is_empty, is_fence, is_newline, kind_of, lines_more, more_of, some_code, text_blocks, with_blank_front}
use Rattle.description_texts.specs.TextsCut.{cut}
use Rattle.description_texts.specs.TextsInside.{is_blank, is_quote, is_white}
use Rattle.description_texts.specs.TextsView.{opens, says_nothing}
use Rattle.description_texts.specs.declared.texts.lines.Kind.{Kind}
use Rattle.description_texts.specs.declared.texts.lines.Kind.TheVariants.{Blank, Fence, Code, Item, Plain}
use Rattle.description_texts.proofs.TextsCuts.{cut_first}

-- lines that belong to no block
abbrev pub quiet : (in_fence : Bool) → List (List ℕ) → Bool
quiet in_fence [] = true
quiet in_fence (line ∷ lines) = says_nothing in_fence line && quiet (opens in_fence line) lines

-- ---- a line and what its tabs become

no_quote : (b : ℕ) → is_white b ≡ true → is_quote b ≡ false
no_quote b h = grind (arith, nat_tests)

no_blank : (b : ℕ) → is_white b ≡ false → is_blank b ≡ false
no_blank b h = grind (arith, nat_tests)

no_fence : (b : ℕ) (line : List ℕ) → is_quote b ≡ false → is_fence (b ∷ line) ≡ false
no_fence b line h = ap (λ (q : Bool). nat_le 3 (cond q (1 + prefix_len is_quote line) 0) && not (list_any is_quote (drop (cond q (1 + prefix_len is_quote line) 0) (b ∷ line)))) h

no_front : (b : ℕ) (line : List ℕ) → is_quote b ≡ false → begins_fence (b ∷ line) ≡ false
no_front b line h = ap (λ (q : Bool). nat_le 3 (cond q (1 + prefix_len is_quote line) 0)) h

front_white : (b : ℕ) (line : List ℕ) → is_white b ≡ true → with_blank_front (b ∷ line) ≡ 32 ∷ with_blank_front line
front_white b line h =
    let n : ℕ = prefix_len is_white line in
    let len : cond (is_white b) (1 + n) 0 ≡ suc n = ap (λ (q : Bool). cond q (1 + n) 0) h ∙ omega arith in
    ap (λ k. replicate k 32 ++ drop k (b ∷ line)) len

front_other : (b : ℕ) (line : List ℕ) → is_white b ≡ false → with_blank_front (b ∷ line) ≡ b ∷ line
front_other b line h = ap (λ (q : Bool). replicate (cond q (1 + prefix_len is_white line) 0) 32 ++ drop (cond q (1 + prefix_len is_white line) 0) (b ∷ line)) h

begins_if : (white : Bool) (b : ℕ) (line : List ℕ) → is_white b ≡ white → begins_fence (with_blank_front (b ∷ line)) ≡ begins_fence (b ∷ line)
begins_if true b line e = ap begins_fence (front_white b line e) ∙ sym (no_front b line (no_quote b e))
begins_if false b line e = ap begins_fence (front_other b line e)

begins_seen : (line : List ℕ) → begins_fence (with_blank_front line) ≡ begins_fence line
begins_seen [] = refl
begins_seen (b ∷ line) = begins_if (is_white b) b line refl

fence_seen_if : (white : Bool) (b : ℕ) (line : List ℕ) → is_white b ≡ white → is_fence (with_blank_front (b ∷ line)) ≡ is_fence (b ∷ line)
fence_seen_if true b line e = ap is_fence (front_white b line e) ∙ sym (no_fence b line (no_quote b e))
fence_seen_if false b line e = ap is_fence (front_other b line e)

fence_seen : (line : List ℕ) → is_fence (with_blank_front line) ≡ is_fence line
fence_seen [] = refl
fence_seen (b ∷ line) = fence_seen_if (is_white b) b line refl

blank_if : (white : Bool) (b : ℕ) (line : List ℕ) → is_white b ≡ white → list_all is_blank (with_blank_front line) ≡ list_all is_white line → list_all is_blank (with_blank_front (b ∷ line)) ≡ list_all is_white (b ∷ line)
blank_if true b line e more = ap (list_all is_blank) (front_white b line e) ∙ more ∙ sym (ap (λ (q : Bool). q && list_all is_white line) e)
blank_if false b line e more = ap (list_all is_blank) (front_other b line e) ∙ ap (λ (q : Bool). q && list_all is_blank line) (no_blank b e) ∙ sym (ap (λ (q : Bool). q && list_all is_white line) e)

blank_seen : (line : List ℕ) → list_all is_blank (with_blank_front line) ≡ list_all is_white line
blank_seen [] = refl
blank_seen (b ∷ line) = blank_if (is_white b) b line refl (blank_seen line)

white_no_fence : (line : List ℕ) → list_all is_white line ≡ true → is_fence line ≡ false
white_no_fence [] h = refl
white_no_fence (b ∷ line) h = no_fence b line (no_quote b (and_parts (is_white b) (list_all is_white line) h).0)

-- ---- what is said of lines

abbrev said : List (List ℕ) → Bool
said lines = has_none (cut lines_more block_said lines)

-- the same of a first line of this kind and those below it
abbrev said_of : Kind → List ℕ → List (List ℕ) → Bool
said_of k line lines = has_none (block_of_kind k line (take (more_of k lines) lines) ++ cut lines_more block_said (drop (more_of k lines) lines))

said_first : (line : List ℕ) (lines : List (List ℕ)) → said (line ∷ lines) ≡ said_of (kind_of line) line lines
said_first line lines = ap has_none (cut_first lines_more block_said line lines)

kind_blank : (line : List ℕ) → list_all is_blank line ≡ true → kind_of line ≡ Blank
unfolding kind_of
kind_blank line h = ap (λ (a : Bool). if a then Blank else if is_fence line then Fence else if nat_le 4 (blanks line) then Code else if has_marker (drop (blanks line) line) then Item else Plain) h

kind_fence : (line : List ℕ) → list_all is_blank line ≡ false → is_fence line ≡ true → kind_of line ≡ Fence
unfolding kind_of
kind_fence line h g =
    ap (λ (a : Bool). if a then Blank else if is_fence line then Fence else if nat_le 4 (blanks line) then Code else if has_marker (drop (blanks line) line) then Item else Plain) h
    ∙ ap (λ (a : Bool). if a then Fence else if nat_le 4 (blanks line) then Code else if has_marker (drop (blanks line) line) then Item else Plain) g

other_said : (c d : Bool) (line : List ℕ) (lines : List (List ℕ)) → said_of (if c then Code else if d then Item else Plain) line lines ≡ false
other_said true d line lines = refl
other_said false true line lines = refl
other_said false false line lines = refl

kind_other : (line : List ℕ) (lines : List (List ℕ)) → list_all is_blank line ≡ false → is_fence line ≡ false → said_of (kind_of line) line lines ≡ false
unfolding kind_of
kind_other line lines h g =
    ap (λ (a : Bool). said_of (if a then Blank else if is_fence line then Fence else if nat_le 4 (blanks line) then Code else if has_marker (drop (blanks line) line) then Item else Plain) line lines) h
    ∙ ap (λ (a : Bool). said_of (if a then Fence else if nat_le 4 (blanks line) then Code else if has_marker (drop (blanks line) line) then Item else Plain) line lines) g
    ∙ other_said (nat_le 4 (blanks line)) (has_marker (drop (blanks line) line)) line lines

-- the first line below a fence
fence_if : (ends : Bool) (fence line : List ℕ) (lines : List (List ℕ)) → begins_fence line ≡ ends → said_of Fence fence (line ∷ lines) ≡ (ends && said lines)
fence_if true fence line lines e =
    let none : position_or_len begins_fence (line ∷ lines) ≡ 0 = ap (λ (b : Bool). cond (not b) (1 + position_or_len begins_fence lines) 0) e in
    ap (λ n. has_none (some_code (before_first begins_fence (take (suc n) (line ∷ lines))) ++ cut lines_more block_said (drop (suc n) (line ∷ lines)))) none
    ∙ ap (λ (b : Bool). has_none (some_code (take (cond (not b) 1 0) (line ∷ [])) ++ cut lines_more block_said lines)) e
fence_if false fence line lines e =
    let n : ℕ = position_or_len begins_fence lines in
    let inner : List (List ℕ) = take (suc n) lines in
    let m : ℕ = position_or_len begins_fence inner in
    let some : position_or_len begins_fence (line ∷ lines) ≡ suc n = ap (λ (b : Bool). cond (not b) (1 + n) 0) e ∙ omega arith in
    let first : position_or_len begins_fence (line ∷ inner) ≡ suc m = ap (λ (b : Bool). cond (not b) (1 + m) 0) e ∙ omega arith in
    ap (λ k. has_none (some_code (before_first begins_fence (take (suc k) (line ∷ lines))) ++ cut lines_more block_said (drop (suc k) (line ∷ lines)))) some
    ∙ ap (λ k. has_none (some_code (take k (line ∷ inner)) ++ cut lines_more block_said (drop (suc n) lines))) first

fence_first : (fence line : List ℕ) (lines : List (List ℕ)) → quiet false lines ≡ said (map with_blank_front lines) → quiet true (line ∷ lines) ≡ said_of Fence fence (map with_blank_front (line ∷ lines))
fence_first fence line lines more =
    ap (λ (b : Bool). b && quiet false lines) (sym (begins_seen line))
    ∙ ap (λ (b : Bool). begins_fence (with_blank_front line) && b) more
    ∙ sym (fence_if (begins_fence (with_blank_front line)) fence (with_blank_front line) (map with_blank_front lines) refl)

step : (white fence : Bool) (line : List ℕ) (rest : List (List ℕ)) → list_all is_white line ≡ white → is_fence line ≡ fence → quiet false rest ≡ said (map with_blank_front rest)
    → quiet true rest ≡ said_of Fence (with_blank_front line) (map with_blank_front rest) → quiet false (line ∷ rest) ≡ said (map with_blank_front (line ∷ rest))
step true fence line rest w f plain fenced =
    let seen : List (List ℕ) = map with_blank_front rest in
    ap (λ (x : Bool). (x || is_fence line) && quiet (is_fence line) rest) w
    ∙ ap (λ (y : Bool). quiet y rest) (white_no_fence line w)
    ∙ plain
    ∙ sym (said_first (with_blank_front line) seen ∙ ap (λ k. said_of k (with_blank_front line) seen) (kind_blank (with_blank_front line) (blank_seen line ∙ w)))
step false true line rest w f plain fenced =
    let seen : List (List ℕ) = map with_blank_front rest in
    ap (λ (x : Bool). (x || is_fence line) && quiet (is_fence line) rest) w
    ∙ ap (λ (y : Bool). y && quiet y rest) f
    ∙ fenced
    ∙ sym (said_first (with_blank_front line) seen ∙ ap (λ k. said_of k (with_blank_front line) seen) (kind_fence (with_blank_front line) (blank_seen line ∙ w) (fence_seen line ∙ f)))
step false false line rest w f plain fenced =
    let seen : List (List ℕ) = map with_blank_front rest in
    ap (λ (x : Bool). (x || is_fence line) && quiet (is_fence line) rest) w
    ∙ ap (λ (y : Bool). y && quiet y rest) f
    ∙ sym (said_first (with_blank_front line) seen ∙ kind_other (with_blank_front line) seen (blank_seen line ∙ w) (fence_seen line ∙ f))

quiet_said : (lines : List (List ℕ)) → quiet false lines ≡ said (map with_blank_front lines)
quiet_said [] = refl
quiet_said (line ∷ []) = step (list_all is_white line) (is_fence line) line [] refl refl refl refl
quiet_said (line ∷ next ∷ lines) = step (list_all is_white line) (is_fence line) line (next ∷ lines) refl refl (quiet_said (next ∷ lines)) (fence_first (with_blank_front line) next lines (quiet_said lines))

pub empty_said : (text : List ℕ) → quiet false (slice_split is_newline text) ≡ is_empty text
unfolding text_blocks
empty_said text = quiet_said (slice_split is_newline text)

-- ---- a step over a line

and_true : (b : Bool) → (b && true) ≡ b
and_true true = refl
and_true false = refl

module _ (in_fence whole : Bool) (text line after : List ℕ) (is : slice_split is_newline text ≡ line ∷ slice_split is_newline after) (so_far : quiet in_fence (slice_split is_newline text) ≡ whole) where
  pub quiet_next : (next : Bool) → says_nothing in_fence line ≡ true → next ≡ opens in_fence line → quiet next (slice_split is_newline after) ≡ whole
  quiet_next next h e =
      ap (λ (q : Bool). quiet q (slice_split is_newline after)) e
      ∙ sym (ap (λ (x : Bool). x && quiet (opens in_fence line) (slice_split is_newline after)) h)
      ∙ ap (quiet in_fence) (sym is)
      ∙ so_far

  pub said_there : says_nothing in_fence line ≡ false → false ≡ whole
  said_there h = sym (ap (quiet in_fence) is ∙ ap (λ (x : Bool). x && quiet (opens in_fence line) (slice_split is_newline after)) h) ∙ so_far

pub last_line : (in_fence whole : Bool) (text : List ℕ) → slice_split is_newline text ≡ text ∷ [] → quiet in_fence (slice_split is_newline text) ≡ whole → says_nothing in_fence text ≡ whole
last_line in_fence whole text is w = sym (and_true (says_nothing in_fence text)) ∙ ap (quiet in_fence) (sym is) ∙ w
