-- A title is one line, and a usage begins with the word.
use Rattle.std.proofs.Common.{◌≡◌, ℕ, zero, suc, ◌+◌, ◌-◌, ◌<◌, ◌≤◌, Bool, true, false, cond, List, [], ◌∷◌, All, IsAscii, drop, get_or, length, map, take, refl, sym, ap, ◌∙◌, subst, arith, drop-cons}
use Rattle.std.specs.Prelude.{◌==◌, encode_utf8_all}
use Rattle.std.specs.Char.{is_whitespace}
use Rattle.std.specs.List.{AllPass, suffix_len}
use Rattle.std.specs.Str.{drop_trailing_whitespace, skip_leading_whitespace, trim_end, trim_start}
use Rattle.std.proofs.lemmas.Bool.Decides.{nat_tests}
use Rattle.std.proofs.lemmas.List.Elements.{All-head, All-tail}
use Rattle.std.proofs.lemmas.List.Sums.{suffix_len_is}
use Rattle.std.proofs.lemmas.Str.{chars-IsAscii}
use Rattle.std.proofs.lemmas.Str.Ascii.{IsAscii-cons, IsAscii-nil}
use Rattle.help_blocks.specs.declared.cut.Block.{Block}
use Rattle.help_blocks.specs.Blocks.{FollowOn, lines_of, starts}
use Rattle.help_blocks.specs.Laws.{EachLineIsInABlock, is_empty_line, is_usage_kind, is_usage_line, lines_below}
use Rattle.help_blocks.specs.Looks as looks
use Rattle.help_blocks.specs.Rules.{is_title_kind}
use Rattle.drafts.specs.Passages.{PassageSaid, first_line, inked, is_blank, lines_between, passages}
use Rattle.drafts.specs.Places.{is_empty, is_title}
use Rattle.drafts.proofs.Blocks.{cut, cut_all}
use Rattle.drafts.proofs.Roles.{title_kind}

-- ---- an empty line is blank

small : (c : ℕ) → looks.is_blank c ≡ true → c < 128
small c h = grind (arith, nat_tests)

white : (c : ℕ) → looks.is_blank c ≡ true → is_whitespace c ≡ true
white c h = grind (arith, nat_tests)

abbrev IsWhite : (line : List ℕ) → Type 0
IsWhite line = IsAscii line × (skip_leading_whitespace line ≡ [])

all_white : (line : List ℕ) → is_empty_line line ≡ true → IsWhite line
all_white [] h = (IsAscii-nil, refl)
all_white (c ∷ cs) h = by (looks.is_blank c) refl h (all_white cs) where
  by : (b : Bool) → looks.is_blank c ≡ b → looks.is_empty (cond b (looks.text cs) (c ∷ cs)) ≡ true → (is_empty_line cs ≡ true → IsWhite cs) → IsWhite (c ∷ cs)
  by true e h more =
      let rest = more h in
      (IsAscii-cons c cs (small c e) rest.0, ap (λ w. cond w (skip_leading_whitespace cs) (c ∷ cs)) (white c e) ∙ rest.1)
  by false e h more = cc

start_is_empty : (line : List ℕ) → IsWhite line → trim_start line ≡ []
unfolding trim_start
start_is_empty line w = ap (λ cs. encode_utf8_all (skip_leading_whitespace cs)) (chars-IsAscii line w.0) ∙ ap encode_utf8_all w.1

nothing_trimmed : trim_end [] ≡ []
unfolding trim_end
nothing_trimmed = ap (λ cs. encode_utf8_all (drop_trailing_whitespace cs)) (chars-IsAscii [] IsAscii-nil)

blank : (line : List ℕ) → is_empty_line line ≡ true → is_blank line ≡ true
blank line h = ap (λ t. length (trim_end t) == 0) (start_is_empty line (all_white line h)) ∙ ap (λ t. length t == 0) nothing_trimmed

-- ---- the lines of a title

abbrev pub OneLine : (lines : List (List ℕ)) → Type 0
OneLine lines = is_empty lines ≡ false → (line : List ℕ) × (lines ≡ line ∷ [])

-- blank lines below one
one_left : (l : List ℕ) (below : List (List ℕ)) → AllPass is_blank below → OneLine (inked (l ∷ below))
one_left l below h some = by (is_blank l) refl where
  passes : (b : Bool) → is_blank l ≡ b → (k : ℕ) → cond b 0 1 ≤ k → k < length (l ∷ below) → is_blank (get_or (l ∷ below) k []) ≡ true
  passes true e zero low high = e
  passes false e zero low high = absurd (omega (arith, low))
  passes b e (suc k) low high = h k [] (omega (arith, high))

  by : (b : Bool) → is_blank l ≡ b → (line : List ℕ) × (inked (l ∷ below) ≡ line ∷ [])
  by true e =
      let all = suffix_len_is is_blank (l ∷ below) 0 [] (omega arith) (passes true e) (λ none. absurd (omega (arith, none))) in
      let none : length (l ∷ below) - suffix_len is_blank (l ∷ below) ≡ 0 = omega (arith, all) in
      absurd (cc)
  by false e =
      let all = suffix_len_is is_blank (l ∷ below) 1 [] (omega arith) (passes false e) (λ one. e) in
      let one : length (l ∷ below) - suffix_len is_blank (l ∷ below) ≡ 1 = omega (arith, all) in
      (l, ap (λ n. take n (l ∷ below)) one)

all_blank : (ls : List (List ℕ)) → AllPass is_empty_line ls → AllPass is_blank ls
all_blank ls h k d low = blank (get_or ls k d) (h k d low)

block_lines : (lines : List (List ℕ)) (b : Block) → b.first < b.end → b.end ≤ length lines → lines_between b.first b.end lines ≡ get_or lines b.first [] ∷ lines_below lines b
block_lines lines b some within =
    let m : ℕ = b.end - (b.first + 1) in
    let long : b.end - b.first ≡ suc m = omega (arith, some) in
    let next : suc b.first ≡ b.first + 1 = omega arith in
    ap (take (b.end - b.first)) (drop-cons lines b.first [] (omega (arith, some, within))) ∙ ap (λ n. take n (get_or lines b.first [] ∷ drop (suc b.first) lines)) long
    ∙ ap (λ n. get_or lines b.first [] ∷ take m (drop n lines)) next

block_is_line : (lines : List (List ℕ)) (b : Block) → b.first < b.end → b.end ≤ length lines → AllPass is_empty_line (lines_below lines b) → OneLine (inked (lines_between b.first b.end lines))
block_is_line lines b some within below =
    subst (λ ls. OneLine (inked ls)) (sym (block_lines lines b some within)) (one_left (get_or lines b.first []) (lines_below lines b) (all_blank (lines_below lines b) below))

first_taken : (n : ℕ) (l : List ℕ) (below : List (List ℕ)) → is_empty (take n (l ∷ below)) ≡ false → first_line (take n (l ∷ below)) ≡ l
first_taken zero l below h = cc
first_taken (suc n) l below h = refl

usage_begins : (lines : List (List ℕ)) (b : Block) → b.first < b.end → b.end ≤ length lines → is_usage_line (get_or lines b.first []) ≡ true
    → is_empty (inked (lines_between b.first b.end lines)) ≡ false → is_usage_line (first_line (inked (lines_between b.first b.end lines))) ≡ true
usage_begins lines b some within h =
    let l = get_or lines b.first [] in
    let below = lines_below lines b in
    subst (λ ls. is_empty (inked ls) ≡ false → is_usage_line (first_line (inked ls)) ≡ true) (sym (block_lines lines b some within))
    (λ e. ap is_usage_line (first_taken (length (l ∷ below) - suffix_len is_blank (l ∷ below)) l below e) ∙ h)

-- a title is one line, and a usage begins with the word
pub record IsBegun (p : PassageSaid) : Type 0 where
  pub title : is_title p.kind ≡ true → OneLine p.lines
  pub usage : is_usage_kind p.kind ≡ true → is_empty p.lines ≡ false → is_usage_line (first_line p.lines) ≡ true

abbrev pub AllBegun : List PassageSaid → Type 0
AllBegun [] = Unit {0}
AllBegun (p ∷ ps) = IsBegun p × AllBegun ps

no_further : (first end : ℕ) (bs : List Block) → FollowOn first bs end → first ≤ end
no_further first end [] h = omega (arith, h)
no_further first end (b ∷ bs) h = let below = no_further b.end end bs h.2 in omega (arith, h.0, h.1, below)

abbrev IsALine : (lines : List (List ℕ)) → Block → Type 0
IsALine lines b = is_title_kind b.kind ≡ true → AllPass is_empty_line (lines_below lines b)

abbrev Uses : (lines : List (List ℕ)) → Block → Type 0
Uses lines b = is_usage_kind b.kind ≡ true → is_usage_line (get_or lines b.first []) ≡ true

each_block : (lines : List (List ℕ)) (first : ℕ) (bs : List Block) → FollowOn first bs (length lines) → All (IsALine lines) bs → All (Uses lines) bs → AllBegun (map (cut lines) bs)
each_block lines first [] h titles usages = tt
each_block lines first (b ∷ bs) h titles usages =
    let within = no_further b.end (length lines) bs h.2 in (
      record {
        title = λ e. block_is_line lines b h.1 within (All-head (IsALine lines) b bs titles (ap is_title_kind (title_kind b.kind e)));
        usage = λ e. usage_begins lines b h.1 within (All-head (Uses lines) b bs usages e);
      },
      each_block lines b.end bs h.2 (All-tail (IsALine lines) b bs titles) (All-tail (Uses lines) b bs usages),
    )

pub all_begun : EachLineIsInABlock → (lines : List (List ℕ)) → AllBegun (passages lines)
all_begun in_blocks lines =
    let there = in_blocks lines in
    subst AllBegun (cut_all lines there.0 (starts (lines_of lines)) there.1.begun there.1.follow) (each_block lines 0 there.0 there.1.follow there.1.titles there.1.usages)
