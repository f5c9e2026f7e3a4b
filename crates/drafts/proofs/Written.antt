-- Each line of a help text is in one section of its draft, and written there.
use Rattle.std.proofs.Common.{Contains, ◌≡◌, ℕ, Bool, true, false, cond, List, [], ◌∷◌, ◌++◌, All, IsUtf8, codes, count_by, drop, filter, flat_map, map, refl, subst, sym, ap, ◌∙◌, arith}
use Rattle.std.specs.Char.{is_not_whitespace}
use Rattle.std.specs.Str.{trim}
use Rattle.std.proofs.lemmas.Grind.{flat_map-append}
use Rattle.std.proofs.lemmas.List.Elements.{All-append, All-cons, All-head, All-nil, All-tail}
use Rattle.std.proofs.lemmas.Str.{chars-IsAscii}
use Rattle.std.proofs.lemmas.Str.Ascii.{IsAscii-nil}
use Rattle.help_blocks.specs.Laws.{EachLineIsInABlock}
use Rattle.toml_pieces.specs.Toml.{text_at, word_at}
use Rattle.shown_letters.specs.Terminal.{shown_letters}
use Rattle.drafts.specs.Drafts.{after_role, below_title, draft_of, gathered, is_in, placed_text, spaced, taken_from}
use Rattle.drafts.specs.Entries.{entry_table}
use Rattle.drafts.specs.Free.{Has, none_taken}
use Rattle.drafts.specs.Laws.{letters, piece_letters, title_after}
use Rattle.drafts.specs.Passages.{PassageSaid, first_line, lines_in as lines_of, passages}
use Rattle.drafts.specs.Places.{PlacedSaid, TakenSaid, is_title, is_usage_role, nothing_above, nothing_taken, placed, taken_after}
use Rattle.drafts.specs.Sections.{HaveLetters, IsDraftOf, IsUsageOf, IsWrittenAs, Section, forms_of, text_keys, title_at, usage_text}
use Rattle.drafts.specs.Sections as written
use Rattle.drafts.specs.Strays.{options_in, strays}
use Rattle.drafts.specs.Texts.{empty_piece, passage_pieces}
use Rattle.drafts.specs.Usages.{forms, is_inked as has_letters, line_forms, usage_pieces}
use Rattle.drafts.specs.declared.drafted.Text.{Text}
use Rattle.drafts.specs.declared.drafted.Text.TheVariants as text
use Rattle.drafts.specs.declared.places.Role.{Role}
use Rattle.drafts.specs.declared.places.Role.TheVariants as role
use Rattle.drafts.proofs.KeptLetters.{one_more, texts_are_whole}
use Rattle.drafts.proofs.Lines.{lines_are_utf8}
use Rattle.drafts.proofs.Placing.{each_is_placed}
use Rattle.drafts.proofs.Roles.{AllFit, IsTitle, all_fit}
use Rattle.drafts.proofs.Sections.{N, both, counted, lines_for, lines_in, no_topic, own_lines, section, text_of as text_in, sections, sections_are_draft, table_sections, topic_lines, usage_lines}
use Rattle.drafts.proofs.Names.{AllTaken, IsTaken, all_taken}
use Rattle.drafts.proofs.Titles.{AllBegun, IsBegun, OneLine, all_begun}
use Rattle.drafts.proofs.Whole.{FollowIn, each_line_is_placed, passages_follow}

-- ---- passages of UTF-8, of which titles are one line

abbrev AreFine : List PlacedSaid → Type 0
AreFine [] = Unit {0}
AreFine (p ∷ ps) = IsBegun p.passage × All IsUtf8 p.passage.lines × AreFine ps

first_part : (xs ys : List (List ℕ)) → All IsUtf8 (xs ++ ys) → All IsUtf8 xs × All IsUtf8 ys
first_part [] ys all = (All-nil IsUtf8, all)
first_part (x ∷ xs) ys all =
    let rest = first_part xs ys (All-tail IsUtf8 x (xs ++ ys) all) in
    (All-cons IsUtf8 x xs (All-head IsUtf8 x (xs ++ ys) all) rest.0, rest.1)

fine : (lines : List (List ℕ)) (ps : List PlacedSaid) → FollowIn lines (map (λ p. p.passage) ps) → AllBegun (map (λ p. p.passage) ps) → All IsUtf8 lines → AreFine ps
fine lines [] follow titles utf8 = tt
fine lines (p ∷ ps) follow titles utf8 =
    let here = first_part p.passage.lines (follow.0 ++ follow.1) (subst (All IsUtf8) follow.2 utf8) in
    (titles.0, here.0, fine follow.1 ps follow.4 titles.1 (first_part follow.0 follow.1 here.1).1)

fine_below : (ps : List PlacedSaid) → AreFine ps → AreFine (below_title ps)
fine_below [] h = tt
fine_below (p ∷ ps) h = by (is_title p.passage.kind) (fine_below ps h.2) where
  by : (b : Bool) → AreFine (below_title ps) → AreFine (cond b [] (p ∷ below_title ps))
  by true more = tt
  by false more = (h.0, h.1, more)

-- ---- texts

no_letters : letters [] ≡ []
no_letters = ap (filter is_not_whitespace) (chars-IsAscii [] IsAscii-nil)

without_first : (t : Text) (ps : List PlacedSaid) → flat_map piece_letters (gathered t ps) ≡ flat_map piece_letters (flat_map (spaced t) ps)
without_first t [] = refl
without_first t (p ∷ ps) = by (is_in t p.role) (without_first t ps) where
  by : (b : Bool) → flat_map piece_letters (drop 1 (flat_map (spaced t) ps)) ≡ flat_map piece_letters (flat_map (spaced t) ps)
      → flat_map piece_letters (drop 1 (cond b (empty_piece ∷ passage_pieces p.passage) [] ++ flat_map (spaced t) ps)) ≡ flat_map piece_letters (cond b (empty_piece ∷ passage_pieces p.passage) [] ++ flat_map (spaced t) ps)
  by true more = ap (λ ls. ls ++ flat_map piece_letters (passage_pieces p.passage ++ flat_map (spaced t) ps)) (sym no_letters)
  by false more = more

spaced_letters : (t : Text) (ps : List PlacedSaid) → AreFine ps → HaveLetters (lines_for t ps) (flat_map (spaced t) ps)
spaced_letters t [] h = refl
spaced_letters t (p ∷ ps) h = by (is_in t p.role) (spaced_letters t ps h.2) where
  by : (b : Bool) → HaveLetters (lines_for t ps) (flat_map (spaced t) ps)
      → HaveLetters (cond b p.passage.lines [] ++ lines_for t ps) (cond b (empty_piece ∷ passage_pieces p.passage) [] ++ flat_map (spaced t) ps)
  by true more =
      ap (λ ls. ls ++ flat_map piece_letters (passage_pieces p.passage ++ flat_map (spaced t) ps)) no_letters ∙ flat_map-append piece_letters (passage_pieces p.passage) (flat_map (spaced t) ps)
      ∙ one_more (flat_map piece_letters (passage_pieces p.passage)) (flat_map letters p.passage.lines) (flat_map piece_letters (flat_map (spaced t) ps)) (flat_map letters (lines_for t ps)) (texts_are_whole p.passage h.1) more
      ∙ sym (flat_map-append letters p.passage.lines (lines_for t ps))
  by false more = more

gathered_letters : (t : Text) (ps : List PlacedSaid) → AreFine ps → HaveLetters (lines_for t ps) (gathered t ps)
gathered_letters t ps h = without_first t ps ∙ spaced_letters t ps h

in_key : (key : List ℕ) (t : Text) (ps : List PlacedSaid) → Contains text_keys key → AreFine ps → IsWrittenAs (lines_for t ps) (text_at key (gathered t ps))
in_key key t ps one h = written.value_of key (gathered t ps) one refl (gathered_letters t ps h)

-- ---- the usage

-- the lines of each usage
abbrev each_usage : List PlacedSaid → List (List (List ℕ))
each_usage [] = []
each_usage (p ∷ ps) = cond (is_usage_role p.role) (p.passage.lines ∷ []) [] ++ each_usage ps

usage_lines_are : (ps : List PlacedSaid) → usage_lines ps ≡ flat_map (λ own. own) (each_usage ps)
usage_lines_are [] = refl
usage_lines_are (p ∷ ps) = by (is_usage_role p.role) (usage_lines_are ps) where
  by : (b : Bool) → usage_lines ps ≡ flat_map (λ own. own) (each_usage ps) → cond b p.passage.lines [] ++ usage_lines ps ≡ flat_map (λ own. own) (cond b (p.passage.lines ∷ []) [] ++ each_usage ps)
  by true more = ap (λ ls. p.passage.lines ++ ls) more
  by false more = more

forms_are : (ps : List PlacedSaid) → forms ps ≡ flat_map forms_of (each_usage ps)
forms_are [] = refl
forms_are (p ∷ ps) = by (is_usage_role p.role) (forms_are ps) where
  by : (b : Bool) → forms ps ≡ flat_map forms_of (each_usage ps) → cond b (filter has_letters (line_forms p.passage.lines)) [] ++ forms ps ≡ flat_map forms_of (cond b (p.passage.lines ∷ []) [] ++ each_usage ps)
  by true more = ap (λ fs. forms_of p.passage.lines ++ fs) more
  by false more = more

usage_role : (r : Role) → is_usage_role r ≡ true → r ≡ role.Usage
usage_role role.Usage e = refl
usage_role role.Nothing e = cc
usage_role role.About e = cc
usage_role role.Header e = cc
usage_role role.Footer e = cc
usage_role role.Topic e = cc
usage_role role.InTopic e = cc
usage_role role.Group e = cc
usage_role role.Usual e = cc
usage_role role.Entry e = cc
usage_role role.Member e = cc
usage_role role.LeftOut e = cc

usages_begin : (title : Role) (ps : List PlacedSaid) → AllFit title ps → AreFine ps → All IsUsageOf (each_usage ps)
usages_begin title [] fit h = All-nil IsUsageOf
usages_begin title (p ∷ ps) fit h =
    All-append IsUsageOf (cond (is_usage_role p.role) (p.passage.lines ∷ []) []) (each_usage ps) (by (is_usage_role p.role) refl) (usages_begin (title_after title p) ps fit.1 h.2) where
      by : (b : Bool) → is_usage_role p.role ≡ b → All IsUsageOf (cond b (p.passage.lines ∷ []) [])
      by true e = let u = fit.0.usage (usage_role p.role e) in All-cons IsUsageOf p.passage.lines [] (h.0.usage u.0 u.1) (All-nil IsUsageOf)
      by false e = All-nil IsUsageOf

usage_is : (ps : List PlacedSaid) → text_at (codes "usage") (usage_pieces (forms ps)) ≡ usage_text (each_usage ps)
usage_is ps = ap (λ fs. text_at (codes "usage") (usage_pieces fs)) (forms_are ps)

in_usage : (title : Role) (ps : List PlacedSaid) → AllFit title ps → AreFine ps → IsWrittenAs (usage_lines ps) (text_at (codes "usage") (usage_pieces (forms ps)))
in_usage title ps fit h = written.usages (each_usage ps) (usages_begin title ps fit h) (usage_lines_are ps) (usage_is ps)

-- ---- tables and comments

title_line : (p : PlacedSaid) → (is_title p.passage.kind ≡ true → OneLine p.passage.lines) → IsTitle p.passage → (line : List ℕ) × (p.passage.lines ≡ line ∷ [])
title_line p one title = one title.0 title.1

table_written : (title : Role) (t : TakenSaid) (has : Has) (p : PlacedSaid) (ps : List PlacedSaid) → AllFit title (p ∷ ps) → IsTaken t has p → AreFine (p ∷ ps) → IsWrittenAs (own_lines p.role p.passage ps) (placed_text has p.role p.passage ps)
table_written title t has p ps fit taken h = by p.role refl where
  by : (r : Role) → p.role ≡ r → IsWrittenAs (own_lines r p.passage ps) (placed_text has r p.passage ps)
  by role.Nothing e = written.nothing refl refl
  by role.Usage e = written.nothing refl refl
  by role.About e = written.nothing refl refl
  by role.Header e = written.nothing refl refl
  by role.Footer e = written.nothing refl refl
  by role.InTopic e = written.nothing refl refl
  by role.Topic e =
      let one = title_line p h.0.title (fit.0.topic e) in
      written.topic one.0 (topic_lines ps) (gathered text.Topic (below_title ps)) (ap (λ ls. ls ++ topic_lines ps) one.1)
      (ap (λ ls. title_at (codes "topic") (first_line ls) ++ text_at (codes "text") (gathered text.Topic (below_title ps))) one.1) (gathered_letters text.Topic (below_title ps) (fine_below ps h.2))
  by role.Group e = let one = title_line p h.0.title (fit.0.group e) in written.group one.0 one.1 (ap (λ ls. title_at (codes "group") (first_line ls)) one.1)
  by role.Usual e = let one = title_line p h.0.title (fit.0.usual e) in written.usual_title one.0 one.1 (ap (λ ls. codes "\n# " ++ (trim (first_line ls) ++ codes "\n")) one.1)
  by role.Entry e = written.entry t false p.passage refl (taken.entry e) (ap (λ h. entry_table h false p.passage) taken.same)
  by role.Member e = written.entry t true p.passage refl (taken.member e) (ap (λ h. entry_table h true p.passage) taken.same)
  by role.LeftOut e = written.left_out_lines refl

abbrev Written : Section → Type 0
Written s = IsWrittenAs s.lines s.text

tables_written : (title : Role) (t : TakenSaid) (has : Has) (ps : List PlacedSaid) → AllFit title ps → AllTaken t has ps → AreFine ps → All Written (table_sections has ps)
tables_written title t has [] fit taken h = All-nil Written
tables_written title t has (p ∷ ps) fit taken h =
    let after = after_role has p.role p.passage in
    All-cons Written (section (own_lines p.role p.passage ps) (placed_text has p.role p.passage ps)) (table_sections after ps) (table_written title t has p ps fit taken.0 h)
    (tables_written (title_after title p) (taken_after t p.passage) after ps fit.1 taken.1 h.2)

-- ---- the whole

all_written : (title : Role) (t : TakenSaid) (ps : List PlacedSaid) → AllFit title ps → AllTaken t none_taken ps → AreFine ps → All Written (sections ps)
all_written title t ps fit taken h =
    let about = section (lines_for text.About ps) (text_at (codes "about") (gathered text.About ps)) in
    let usage = section (usage_lines ps) (text_at (codes "usage") (usage_pieces (forms ps))) in
    let header = section (lines_for text.Header ps) (text_at (codes "header") (gathered text.Header ps)) in
    let footer = section (lines_for text.Footer ps) (text_at (codes "footer") (gathered text.Footer ps)) in
    let tables = table_sections none_taken ps in
    All-cons Written about (usage ∷ header ∷ footer ∷ tables) (in_key (codes "about") text.About ps (0, omega arith, refl) h)
    (All-cons Written usage (header ∷ footer ∷ tables) (in_usage title ps fit h)
    (All-cons Written header (footer ∷ tables) (in_key (codes "header") text.Header ps (1, omega arith, refl) h)
    (All-cons Written footer tables (in_key (codes "footer") text.Footer ps (2, omega arith, refl) h) (tables_written title t none_taken ps fit taken h))))

same_number : (test : List ℕ → Bool) (t : Role) (ps : List PlacedSaid) → (t ≡ role.Topic → ⊥) → AllFit t ps → N test (lines_in (sections ps)) ≡ N test (flat_map (λ p. p.passage.lines) ps)
same_number test t ps none fit =
    let about = lines_for text.About ps in
    let usage = usage_lines ps in
    let header = lines_for text.Header ps in
    let footer = lines_for text.Footer ps in
    let rest = lines_in (table_sections none_taken ps) in
    let above : N test (topic_lines ps) ≡ 0 = ap (N test) (no_topic t ps none fit) in
    omega (arith, both test about (usage ++ (header ++ (footer ++ rest))), both test usage (header ++ (footer ++ rest)), both test header (footer ++ rest), both test footer rest, above, counted test t none_taken ps fit)

same_section : (ls ms : List (List ℕ)) (t u : List ℕ) → ls ≡ ms → t ≡ u → section ls t ≡ section ms u
same_section ls ms t u l e = ap (λ k. section k t) l ∙ ap (section ms) e

pub is_draft : EachLineIsInABlock → (lines : List (List ℕ)) (name : List ℕ) → All IsUtf8 lines → IsDraftOf lines (draft_of (placed (passages lines)) name)
is_draft in_blocks lines name utf8 =
    let ps = placed (passages lines) in
    let same : passages lines ≡ map (λ p. p.passage) ps = sym (each_is_placed (passages lines)) in
    let fit = all_fit (passages lines) in
    let follow = subst (FollowIn lines) same (passages_follow in_blocks lines) in
    let are_fine = fine lines ps follow (subst AllBegun same (all_begun in_blocks lines)) utf8 in
    record {
      name = name;
      sections = sections ps;
      usages = each_usage ps;
      has = taken_from none_taken ps;
      whole = sections_are_draft ps name ∙ ap (λ fs. word_at (codes "name") name ++ (text_in (sections ps) ++ strays (taken_from none_taken ps) (options_in (taken_from none_taken ps) fs))) (forms_are ps);
      once = λ test. same_number test role.Nothing ps (λ e. cc) fit ∙ ap (count_by test) (each_line_is_placed in_blocks lines);
      written = all_written role.Nothing nothing_taken ps fit (all_taken nothing_taken none_taken nothing_above (passages lines) refl) are_fine;
      used = (1, omega arith, same_section (usage_lines ps) (flat_map (λ own. own) (each_usage ps)) _ (usage_text (each_usage ps)) (usage_lines_are ps) (usage_is ps));
    }

-- step by step
pub whole_draft : EachLineIsInABlock → (printed shown text name : List ℕ) (ls : List (List ℕ)) (ps : List PassageSaid) (qs : List PlacedSaid) → IsUtf8 shown → shown ≡ shown_letters printed → ls ≡ lines_of shown
    → ps ≡ passages ls → qs ≡ placed ps → text ≡ draft_of qs name → IsDraftOf (lines_of (shown_letters printed)) text
whole_draft in_blocks printed shown text name ls ps qs utf8 s l p q t =
    let from : qs ≡ placed (passages (lines_of shown)) = q ∙ ap placed (p ∙ ap passages l) in
    subst (λ u. IsDraftOf (lines_of u) text) s
    (subst (IsDraftOf (lines_of shown)) (sym (t ∙ ap (λ rs. draft_of rs name) from)) (is_draft in_blocks (lines_of shown) name (lines_are_utf8 shown utf8)))
