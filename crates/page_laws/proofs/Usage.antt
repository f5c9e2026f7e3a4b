-- The usage of a level with permitted texts has permitted texts alone: its items,
-- and the forms of a text that stands in their place.
use Rattle.std.proofs.Common.{◌≡◌, ◌⊎◌, ℕ, zero, suc, ◌-◌, ◌<◌, ◌≤◌, Bool, true, false, cond, List, [], ◌∷◌, ◌++◌, length, get_or, take, drop, reverse, map, codes, flat_map, filter, Option, Some, None, refl, sym, ap, ◌∙◌, subst, arith, inl, inr, encode_utf8, nat_lt, true≢false}
use Rattle.std.specs.Prelude.{if◌then◌else◌, ◌==◌, ◌&&◌, ◌||◌, not, unwrap_or, bytes_eq, option_and_then, option_map}
use Rattle.std.specs.List.{find, list_all, prefix_len, slice_get, suffix_len, slice_split}
use Rattle.std.specs.Str.{IsUtf8}
use Rattle.std.proofs.lemmas.Bool.{and_from, and_parts}
use Rattle.std.proofs.lemmas.Bool.Decides.{nat_tests}
use Rattle.std.proofs.lemmas.List.{get_or-reverse, length-take}
use Rattle.std.proofs.lemmas.List.Sums.{prefix_len_passes, suffix_len-le-length}
use Rattle.std.proofs.lemmas.Slice.Eq.{bytes_eq-Decides}
use Rattle.std.proofs.lemmas.Str.{IsCharBoundary-from_take}
use Rattle.page_model.specs.Content.{Piece, words, literal, value, link, page, Line, FormSaid}
use Rattle.page_model.specs.Permitted.{is_permitted, piece_text}
use Rattle.description.specs.Content.{short, long, both, SpellingSaid, named, syntax, OptSaid, ChoiceSaid, PositionalSaid, TopicSaid, TextsSaid, LevelSaid, level, GroupsSaid, no_groups, groups, GroupSaid, group, CommandsSaid}
use Rattle.description.specs.Words.{WordsSaid}
use Rattle.description_usage.specs.Forms.{after_colon, blank_for_tab, bracket_of, depths, form_text, given_forms, is_empty, is_lone, is_stand_in, level_text, line_form, line_forms, line_parts, open_after, part_line, parts_form, restored, restored_piece, shaped, shaped_after, stand_in, text_forms, untabbed, usage_forms, without_lead}
use Rattle.description_usage.specs.Lines.{joined}
use Rattle.description_usage.specs.Margins.{is_margin, without_back, without_front, without_margins}
use Rattle.description_usage.specs.Names.{is_bare, long_line, short_line, shown_value, value_after, value_piece}
use Rattle.description_usage.specs.Syntax.{begins, first_way, is_closing, is_dash, is_metavar, is_name, is_negated, is_one_name, is_opening, is_outside, is_same, is_separator, is_word_byte, names_after, onto_parts, onto_stretches, parts, parts_after, pieces_after, shown_line, stretch_names, stretch_pieces, stretches, syntax_line, syntax_names, syntax_word, way_of, ways, without_dashes, word_piece, word_pieces}
use Rattle.description_usage.specs.Usage.{called, called_spelling, choice_items, command_items, dots, dots_line, enclosed, group_items, group_list, group_positionals, in_round, in_square, level_shows_command, member_items, option_item, option_items, plain_item, positional_item, positional_items, positionals_after, repeated_value, shown_options, shown_positionals, strict_item, strict_value, usage_items}
use Rattle.page_laws.proofs.Each.{Each, each_append, each_if, each_left, each_right, each_weaker}
use Rattle.page_laws.specs.Texts.{choice_texts, commands_texts, group_texts, groups_texts, level_texts, option_texts, own_texts, positional_texts, spelling_texts, text_of, topic_texts}
use Rattle.page_laws.proofs.Clean.{Clean, Halves, Parts, back_again, clean_append, clean_before, clean_after_front, clean_drop, clean_low, clean_mapped, clean_weaker, cut_before, cut_after, cut_out, each_part, each_split, is_low, new_part, next, onto_part}
use Rattle.page_laws.proofs.Clean as clean
use Rattle.page_laws.proofs.Blocks.{LineIs, Permitted, PieceIs, each_changed}

-- ---- stretches and parts of a text

same_either : (x y : Bool) → is_same x y ≡ false → (x ≡ true) ⊎ (y ≡ true)
same_either true y h = inl refl
same_either false true h = inr refl
same_either false false h = absurd (true≢false h)

module _ (good : ℕ → Bool) where
  module _ (test : ℕ → Bool) (ascii : (c : ℕ) → test c ≡ true → c < 128) where
    between : (p : List ℕ) (b c : ℕ) (cs : List ℕ) → (test b ≡ true) ⊎ (test c ≡ true) → Clean good ((p ++ b ∷ []) ++ c ∷ cs) → Halves good (p ++ b ∷ []) (c ∷ cs)
    between p b c cs (inl e) h = cut_after good p b (c ∷ cs) (ascii b e) (back_again good p b (c ∷ cs) h)
    between p b c cs (inr e) h = cut_before good (p ++ b ∷ []) c cs (ascii c e) h

    stretch_by : (p : List ℕ) (b c : ℕ) (cs : List ℕ) (ss : List (List ℕ)) (t : Bool) → is_same (test b) (test c) ≡ t → Parts good (p ++ b ∷ []) ((c ∷ cs) ∷ ss)
        → Parts good p (if t then (b ∷ c ∷ cs) ∷ ss else (b ∷ []) ∷ (c ∷ cs) ∷ ss)
    stretch_by p b c cs ss true e h = (back_again good p b (c ∷ cs) h.0, h.1)
    stretch_by p b c cs ss false e h = let cut = between p b c cs (same_either (test b) (test c) e) h.0 in (cut.front, (cut.back, h.1))

    stretch_step : (p : List ℕ) (b : ℕ) (ss : List (List ℕ)) → Parts good (p ++ b ∷ []) ss → Parts good p (onto_stretches test b ss)
    stretch_step p b [] h = (h, tt)
    stretch_step p b ([] ∷ ss) h = (clean.whole good (p ++ b ∷ []) h.0, h.1)
    stretch_step p b ((c ∷ cs) ∷ ss) h = stretch_by p b c cs ss (is_same (test b) (test c)) refl h

    stretches_after : (p text : List ℕ) → Clean good (p ++ text) → Parts good p (stretches test text)
    stretches_after p [] h = clean.whole good p h
    stretches_after p (b ∷ text) h = stretch_step p b (stretches test text) (stretches_after (p ++ b ∷ []) text (next good p b text h))

    each_stretch : (text : List ℕ) → Clean good text → Each (Clean good) (stretches test text)
    each_stretch text h = each_part good (stretches test text) (stretches_after [] text h)

  part_step : (is_cut : Bool) (p : List ℕ) (b : ℕ) (text : List ℕ) (ps : List (List ℕ)) → (is_cut ≡ true → b < 128) → ((r : List ℕ) → Clean good (r ++ text) → Parts good r ps) → Clean good (p ++ b ∷ text) → Parts good p (onto_parts is_cut b ps)
  part_step true p b text ps small after h = let cut = cut_out good p b text (small refl) h in new_part good p ps cut.front (after [] cut.back)
  part_step false p b text ps small after h = onto_part good p b ps (after (p ++ b ∷ []) (next good p b text h))

  mark_small : (mark b : ℕ) (outside : Bool) → mark < 128 → (b == mark && outside) ≡ true → b < 128
  mark_small mark b outside small h = grind (arith, and_parts, nat_tests)

  parts_from : (mark : ℕ) → mark < 128 → (before p text : List ℕ) → Clean good (p ++ text) → Parts good p (parts_after mark before text)
  parts_from mark small before p [] h = (h, tt)
  parts_from mark small before p (b ∷ text) h =
      part_step (b == mark && is_outside before) p b text (parts_after mark (before ++ b ∷ []) text) (mark_small mark b (is_outside before) small) (λ r k. parts_from mark small (before ++ b ∷ []) r text k) h

  parts_are : (mark : ℕ) → mark < 128 → (text : List ℕ) → Clean good text → Each (Clean good) (parts mark text)
  parts_are mark small text h = each_part good (parts mark text) (parts_from mark small [] [] text h)

  -- ---- the line of a syntax

  abbrev Pieces : Line → Type 0
  Pieces = Each (λ piece. Clean good (piece_text piece))

  separator_ascii : (b : ℕ) → is_separator b ≡ true → b < 128
  separator_ascii b h = grind (arith, nat_tests)

  word_ascii : (b : ℕ) → is_word_byte b ≡ true → b < 128
  word_ascii b h = grind (arith, nat_tests)

  word_by : (t : Bool) (word : List ℕ) → Clean good word → Clean good (piece_text (if t then value word else words word))
  word_by true word h = h
  word_by false word h = h

  words_are : (text : List ℕ) → Clean good text → Pieces (word_pieces text)
  words_are text h = each_changed (Clean good) (λ piece. Clean good (piece_text piece)) word_piece (λ word k. word_by (is_metavar word) word k) (stretches is_word_byte text) (each_stretch is_word_byte word_ascii text h)

  stretch_are : (t : Bool) (text : List ℕ) → Clean good text → Pieces (if t then literal text ∷ [] else word_pieces text)
  stretch_are true text h = (h, tt)
  stretch_are false text h = words_are text h

  pieces_are : (before : List ℕ) (texts : List (List ℕ)) → Each (Clean good) texts → Pieces (pieces_after before texts)
  pieces_are before [] h = tt
  pieces_are before (text ∷ texts) h =
      each_append (λ piece. Clean good (piece_text piece)) (stretch_pieces before text) (pieces_after (before ++ text) texts) (stretch_are (is_name before text || is_negated before text) text h.0) (pieces_are (before ++ text) texts h.1)

  pub syntax_is : (text : List ℕ) → Clean good text → Pieces (syntax_line text)
  syntax_is text h = pieces_are [] (stretches is_separator text) (each_stretch is_separator separator_ascii text h)

-- ---- margins

margin_ascii : (b : ℕ) → is_margin b ≡ true → b < 128
margin_ascii b h = grind (arith, nat_tests)

front_is : (text : List ℕ) → Permitted text → Permitted (without_front text)
front_is text h = clean_after_front is_permitted is_margin margin_ascii text (prefix_len is_margin text) (omega arith) h

last_passes : (test : ℕ → Bool) (text : List ℕ) → length text - suffix_len test text < length text → test (get_or text (length text - suffix_len test text) 0) ≡ true
last_passes test text less =
    let n = suffix_len test text in
    let le : n ≤ length text = suffix_len-le-length test text in
    let passes : test (get_or (reverse text) (n - 1) 0) ≡ true = prefix_len_passes test (reverse text) (n - 1) 0 (omega arith) in
    let turned : get_or (reverse text) (n - 1) 0 ≡ get_or text (length text - 1 - (n - 1)) 0 = get_or-reverse text (n - 1) 0 (omega arith) in
    let place : length text - 1 - (n - 1) ≡ length text - n = omega arith in
    sym (ap test (turned ∙ ap (λ k. get_or text k 0) place)) ∙ passes

back_is : (text : List ℕ) → Permitted text → Permitted (without_back text)
back_is text h = clean_before is_permitted is_margin margin_ascii text (length text - suffix_len is_margin text) (omega arith) (last_passes is_margin text) h

pub margins_are : (text : List ℕ) → Permitted text → Permitted (without_margins text)
margins_are text h = back_is (without_front text) (front_is text h)

-- ---- a syntax

pub ways_are : (text : List ℕ) → Permitted text → Each Permitted (ways text)
ways_are text h = each_changed Permitted Permitted without_margins margins_are (parts 44 text) (parts_are is_permitted 44 (omega arith) text h)

found_by : {X : Type 0} (P : X → Type 0) (d x : X) (t : Bool) (found : Option X) → P x → P (unwrap_or found d) → P (unwrap_or (cond t (Some x) found) d)
found_by P d x true found h k = h
found_by P d x false found h k = k

found_is : {X : Type 0} (P : X → Type 0) (test : X → Bool) (d : X) → P d → (xs : List X) → Each P xs → P (unwrap_or (find test xs) d)
found_is P test d h [] k = h
found_is P test d h (x ∷ xs) k = found_by P d x (test x) (find test xs) k.0 (found_is P test d h xs k.1)

first_is : (all : List (List ℕ)) → Each Permitted all → Permitted (first_way all)
first_is [] h = clean.clean_nil is_permitted
first_is (way ∷ others) h = h.0

pub shown_is : (text : List ℕ) → Permitted text → LineIs (shown_line text)
shown_is text h =
    let all = ways_are text h in
    syntax_is is_permitted (way_of (ways text)) (found_is Permitted (λ way. not (is_one_name way)) (first_way (ways text)) (first_is (ways text) all) (ways text) all)

-- ---- what a syntax is called

dash_ascii : (b : ℕ) → is_dash b ≡ true → b < 128
dash_ascii b h = grind (arith, nat_tests)

names_are : (before : List ℕ) (texts : List (List ℕ)) → Each Permitted texts → Each Permitted (names_after before texts)
names_are before [] h = tt
names_are before (text ∷ texts) h =
    each_append Permitted (stretch_names before text) (names_after (before ++ text) texts) (each_if Permitted (is_outside before && (is_name before text || is_negated before text)) (text ∷ []) (h.0, tt))
    (names_are (before ++ text) texts h.1)

first_name_is : (names : List (List ℕ)) (text : List ℕ) → Each Permitted names → Permitted text → Permitted (unwrap_or (option_map without_dashes (slice_get names 0)) text)
first_name_is [] text h k = k
first_name_is (name ∷ names) text h k = clean_after_front is_permitted is_dash dash_ascii name (prefix_len is_dash name) (omega arith) h.0

pub syntax_word_is : (text : List ℕ) → Permitted text → Permitted (syntax_word text)
syntax_word_is text h =
    let all = each_stretch is_permitted is_separator (separator_ascii is_permitted) text h in
    first_name_is (syntax_names text) text (names_are [] (stretches is_separator text) all) h

-- ---- names and values

pub fixed : (text : List ℕ) → list_all (is_low is_permitted) text ≡ true → Permitted text
fixed = clean_low is_permitted

value_by : (t : Bool) (word : List ℕ) → Permitted word → Permitted (if t then word else codes "<" ++ (word ++ codes ">"))
value_by true word h = h
value_by false word h = clean_append is_permitted (codes "<") (word ++ codes ">") (fixed (codes "<") refl) (clean_append is_permitted word (codes ">") h (fixed (codes ">") refl))

pub value_is : (word : List ℕ) → Permitted word → Permitted (shown_value word)
value_is word h = value_by (is_bare word) word h

-- a text that may be left out
abbrev pub GivenIs : Option (List ℕ) → Type 0
GivenIs o = Each Permitted (text_of o)

after_is : (between : List ℕ) → Permitted between → (word : Option (List ℕ)) → GivenIs word → LineIs (value_after between word)
after_is between b None h = tt
after_is between b (Some word) h = (b, (value_is word h.0, tt))

pub short_is : (c : ℕ) (word : Option (List ℕ)) → Permitted (encode_utf8 c) → GivenIs word → LineIs (short_line c word)
short_is c word h k = (clean_append is_permitted (codes "-") (encode_utf8 c) (fixed (codes "-") refl) h, after_is (codes " ") (fixed (codes " ") refl) word k)

pub long_is : (name : List ℕ) (word : Option (List ℕ)) → Permitted name → GivenIs word → LineIs (long_line name word)
long_is name word h k = (clean_append is_permitted (codes "--") name (fixed (codes "--") refl) h, after_is (codes "=") (fixed (codes "=") refl) word k)

-- ---- what is known of the parts of a level

pub each_of_flat : {X Y : Type 0} (P : Y → Type 0) (f : X → List Y) (xs : List X) → Each P (flat_map f xs) → Each (λ x. Each P (f x)) xs
each_of_flat P f [] h = tt
each_of_flat P f (x ∷ xs) h = (each_left P (f x) (flat_map f xs) h, each_of_flat P f xs (each_right P (f x) (flat_map f xs) h))

pub each_flat : {X Y : Type 0} (P : X → Type 0) (Q : Y → Type 0) (f : X → List Y) → ((x : X) → P x → Each Q (f x)) → (xs : List X) → Each P xs → Each Q (flat_map f xs)
each_flat P Q f k [] h = tt
each_flat P Q f k (x ∷ xs) h = each_append Q (f x) (flat_map f xs) (k x h.0) (each_flat P Q f k xs h.1)

kept_by : {X : Type 0} (P : X → Type 0) (t : Bool) (x : X) (xs : List X) → P x → Each P xs → Each P (cond t (x ∷ xs) xs)
kept_by P true x xs h k = (h, k)
kept_by P false x xs h k = k

pub each_kept : {X : Type 0} (P : X → Type 0) (test : X → Bool) (xs : List X) → Each P xs → Each P (filter test xs)
each_kept P test [] h = tt
each_kept P test (x ∷ xs) h = kept_by P (test x) x (filter test xs) h.0 (each_kept P test xs h.1)

pub record OptIs (o : OptSaid) : Type 0 where
  pub spelling : Each Permitted (spelling_texts o.spelling)
  pub value : GivenIs o.value
  pub default : GivenIs o.default
  pub values : GivenIs o.values
  pub help : GivenIs o.help
  pub env : GivenIs o.env

pub option_known : (o : OptSaid) → Each Permitted (option_texts o) → OptIs o
option_known o h =
    let h1 = each_right Permitted (spelling_texts o.spelling) (text_of o.value ++ (text_of o.default ++ (text_of o.values ++ (text_of o.help ++ text_of o.env)))) h in
    let h2 = each_right Permitted (text_of o.value) (text_of o.default ++ (text_of o.values ++ (text_of o.help ++ text_of o.env))) h1 in
    let h3 = each_right Permitted (text_of o.default) (text_of o.values ++ (text_of o.help ++ text_of o.env)) h2 in
    let h4 = each_right Permitted (text_of o.values) (text_of o.help ++ text_of o.env) h3 in
    record {
      spelling = each_left Permitted (spelling_texts o.spelling) (text_of o.value ++ (text_of o.default ++ (text_of o.values ++ (text_of o.help ++ text_of o.env)))) h;
      value = each_left Permitted (text_of o.value) (text_of o.default ++ (text_of o.values ++ (text_of o.help ++ text_of o.env))) h1;
      default = each_left Permitted (text_of o.default) (text_of o.values ++ (text_of o.help ++ text_of o.env)) h2;
      values = each_left Permitted (text_of o.values) (text_of o.help ++ text_of o.env) h3;
      help = each_left Permitted (text_of o.help) (text_of o.env) h4;
      env = each_right Permitted (text_of o.help) (text_of o.env) h4;
    }

abbrev pub ChoiceIs : ChoiceSaid → Type 0
ChoiceIs c = Each OptIs c.options

pub record PositionalIs (p : PositionalSaid) : Type 0 where
  pub value : Permitted p.value
  pub default : GivenIs p.default
  pub values : GivenIs p.values
  pub help : GivenIs p.help

pub positional_known : (p : PositionalSaid) → Each Permitted (positional_texts p) → PositionalIs p
positional_known p h =
    let rest = each_right Permitted (text_of p.default) (text_of p.values ++ text_of p.help) h.1 in
    record { value = h.0; default = each_left Permitted (text_of p.default) (text_of p.values ++ text_of p.help) h.1; values = each_left Permitted (text_of p.values) (text_of p.help) rest; help = each_right Permitted (text_of p.values) (text_of p.help) rest }

pub options_known : (os : List OptSaid) → Each Permitted (flat_map option_texts os) → Each OptIs os
options_known os h = each_weaker (λ o. Each Permitted (option_texts o)) OptIs option_known os (each_of_flat Permitted option_texts os h)

pub choices_known : (cs : List ChoiceSaid) → Each Permitted (flat_map choice_texts cs) → Each ChoiceIs cs
choices_known cs h = each_weaker (λ c. Each Permitted (choice_texts c)) ChoiceIs (λ c. options_known c.options) cs (each_of_flat Permitted choice_texts cs h)

pub positionals_known : (ps : List PositionalSaid) → Each Permitted (flat_map positional_texts ps) → Each PositionalIs ps
positionals_known ps h = each_weaker (λ p. Each Permitted (positional_texts p)) PositionalIs positional_known ps (each_of_flat Permitted positional_texts ps h)

-- ---- items

dots_are : (repeated : Bool) → Permitted (dots repeated)
dots_are true = fixed (codes "...") refl
dots_are false = clean.clean_nil is_permitted

square_is : (repeated : Bool) (inside : Line) → LineIs inside → LineIs (in_square repeated inside)
square_is repeated inside h =
    (fixed (codes "[") refl, each_append PieceIs inside (words (codes "]" ++ dots repeated) ∷ []) h (clean_append is_permitted (codes "]") (dots repeated) (fixed (codes "]") refl) (dots_are repeated), tt))

round_is : (repeated : Bool) (inside : Line) → LineIs inside → LineIs (in_round repeated inside)
round_is repeated inside h =
    (fixed (codes "(") refl, each_append PieceIs inside (words (codes ")" ++ dots repeated) ∷ []) h (clean_append is_permitted (codes ")") (dots repeated) (fixed (codes ")") refl) (dots_are repeated), tt))

enclosed_is : (required repeated apart : Bool) (inside : Line) → LineIs inside → LineIs (enclosed required repeated apart inside)
enclosed_is false repeated apart inside h = square_is repeated inside h
enclosed_is true repeated true inside h = round_is repeated inside h
enclosed_is true repeated false inside h = h

called_is : (spelling : SpellingSaid) (word : Option (List ℕ)) → Each Permitted (spelling_texts spelling) → GivenIs word → LineIs (called_spelling spelling word)
called_is (named (short c)) word h k = short_is c word h.0 k
called_is (named (long name)) word h k = long_is name word h.0 k
called_is (named (both c name)) word h k = short_is c word h.0 k
called_is (syntax text) word h k = shown_is text h.0

option_called : (o : OptSaid) → OptIs o → LineIs (called o)
option_called o h = called_is o.spelling o.value h.spelling h.value

item_is : (required repeated : Bool) (o : OptSaid) → OptIs o → LineIs (option_item required repeated o)
item_is required repeated o h = enclosed_is required repeated _ (called o) (option_called o h)

lines_unless : (t : Bool) (lines : List Line) → Each LineIs lines → Each LineIs (if t then [] else lines)
lines_unless true lines h = tt
lines_unless false lines h = h

option_items_are : (o : OptSaid) → OptIs o → Each LineIs (option_items o)
option_items_are o h = lines_unless o.hidden (option_item o.required o.repeated o ∷ []) (item_is o.required o.repeated o h, tt)

-- one line of some, with a permitted text between two
pub joined_is : (between : List ℕ) → Permitted between → (lines : List Line) → Each LineIs lines → LineIs (joined between lines)
joined_is between b [] h = tt
joined_is between b (line ∷ lines) h = each_append PieceIs line _ h.0 (each_flat LineIs PieceIs (λ other. words between ∷ other) (λ other k. (b, k)) lines h.1)

members_are : (required : Bool) (os : List OptSaid) → Each OptIs os → Each LineIs (member_items required os)
members_are required [] h = tt
members_are required (o ∷ []) h = (item_is required false o h.0, tt)
members_are required (o ∷ p ∷ os) h =
    (enclosed_is required false true _ (joined_is (codes " | ") (fixed (codes " | ") refl) (map called (o ∷ p ∷ os)) (each_changed OptIs LineIs called option_called (o ∷ p ∷ os) h)), tt)

choice_items_are : (c : ChoiceSaid) → ChoiceIs c → Each LineIs (choice_items c)
choice_items_are c h = members_are c.required (shown_options c.options) (each_kept OptIs (λ o. not o.hidden) c.options h)

dots_line_is : (repeated : Bool) → LineIs (dots_line repeated)
dots_line_is true = (fixed (codes "...") refl, tt)
dots_line_is false = tt

repeated_is : (p : PositionalSaid) → PositionalIs p → LineIs (repeated_value p)
repeated_is p h = (value_is p.value h.value, dots_line_is p.repeated)

line_if : (t : Bool) (x y : Line) → LineIs x → LineIs y → LineIs (if t then x else y)
line_if true x y h k = h
line_if false x y h k = k

strict_value_is : (p : PositionalSaid) → PositionalIs p → LineIs (strict_value p)
strict_value_is p h = (fixed (codes "--") refl, (fixed (codes " ") refl, repeated_is p h))

strict_is : (p : PositionalSaid) → PositionalIs p → LineIs (strict_item p)
strict_is p h = line_if p.required (strict_value p) (in_square false (strict_value p)) (strict_value_is p h) (square_is false (strict_value p) (strict_value_is p h))

plain_is : (p : PositionalSaid) → PositionalIs p → LineIs (plain_item p)
plain_is p h = line_if p.required (repeated_value p) (in_square p.repeated (value_piece p.value ∷ [])) (repeated_is p h) (square_is p.repeated (value_piece p.value ∷ []) (value_is p.value h.value, tt))

positional_is : (before : List PositionalSaid) (p : PositionalSaid) → PositionalIs p → LineIs (positional_item before p)
positional_is before p h = line_if _ (strict_item p) (plain_item p) (strict_is p h) (plain_is p h)

positionals_are : (before ps : List PositionalSaid) → Each PositionalIs ps → Each LineIs (positionals_after before ps)
positionals_are before [] h = tt
positionals_are before (p ∷ ps) h = (positional_is before p h.0, positionals_are (before ++ p ∷ []) ps h.1)

positional_items_are : (ps : List PositionalSaid) → Each PositionalIs ps → Each LineIs (positional_items ps)
positional_items_are ps h = positionals_are [] (shown_positionals ps) (each_kept PositionalIs (λ p. not p.hidden) ps h)

command_items_are : (word : List ℕ) (required shown : Bool) → Permitted word → Each LineIs (command_items word required shown)
command_items_are word required true h = (enclosed_is required false false _ (h, (fixed (codes " ...") refl, tt)), tt)
command_items_are word required false h = tt

-- ---- a level

abbrev pub TopicIs : TopicSaid → Type 0
TopicIs t = Permitted t.title × Permitted t.text

pub record OwnIs (t : TextsSaid) : Type 0 where
  pub about : GivenIs t.about
  pub header : GivenIs t.header
  pub footer : GivenIs t.footer
  pub usage : GivenIs t.usage
  pub topics : Each TopicIs t.topics

topic_known : (t : TopicSaid) → Each Permitted (topic_texts t) → TopicIs t
topic_known t h = (h.0, h.1.0)

own_known : (t : TextsSaid) → Each Permitted (own_texts t) → OwnIs t
own_known t h =
    let topics : List (List ℕ) = flat_map topic_texts t.topics in
    let h1 = each_right Permitted (text_of t.about) (text_of t.header ++ (text_of t.footer ++ (text_of t.usage ++ topics))) h in
    let h2 = each_right Permitted (text_of t.header) (text_of t.footer ++ (text_of t.usage ++ topics)) h1 in
    let h3 = each_right Permitted (text_of t.footer) (text_of t.usage ++ topics) h2 in
    record {
      about = each_left Permitted (text_of t.about) (text_of t.header ++ (text_of t.footer ++ (text_of t.usage ++ topics))) h;
      header = each_left Permitted (text_of t.header) (text_of t.footer ++ (text_of t.usage ++ topics)) h1;
      footer = each_left Permitted (text_of t.footer) (text_of t.usage ++ topics) h2;
      usage = each_left Permitted (text_of t.usage) topics h3;
      topics = each_weaker (λ (topic : TopicSaid). Each Permitted (topic_texts topic)) TopicIs topic_known t.topics (each_of_flat Permitted topic_texts t.topics (each_right Permitted (text_of t.usage) topics h3));
    }

-- the lists of a level or of a group
pub record ListsAre (os : List OptSaid) (cs : List ChoiceSaid) (ps : List PositionalSaid) (ms : CommandsSaid) : Type 0 where
  pub options : Each OptIs os
  pub choices : Each ChoiceIs cs
  pub positionals : Each PositionalIs ps
  pub commands : Each Permitted (commands_texts ms)

abbrev pub GroupIs : GroupSaid → Type 0
GroupIs (group title os cs ps ms) = Permitted title × ListsAre os cs ps ms

abbrev pub LevelIs : LevelSaid → Type 0
LevelIs (level t r os cs gs ps ms) = OwnIs t × ListsAre os cs ps ms × Each GroupIs (group_list gs)

group_known : (g : GroupSaid) → Each Permitted (group_texts g) → GroupIs g
group_known (group title os cs ps ms) h =
    let h1 = each_right Permitted (flat_map option_texts os) (flat_map choice_texts cs ++ (flat_map positional_texts ps ++ commands_texts ms)) h.1 in
    let h2 = each_right Permitted (flat_map choice_texts cs) (flat_map positional_texts ps ++ commands_texts ms) h1 in (
      h.0,
      record {
        options = options_known os (each_left Permitted (flat_map option_texts os) (flat_map choice_texts cs ++ (flat_map positional_texts ps ++ commands_texts ms)) h.1);
        choices = choices_known cs (each_left Permitted (flat_map choice_texts cs) (flat_map positional_texts ps ++ commands_texts ms) h1);
        positionals = positionals_known ps (each_left Permitted (flat_map positional_texts ps) (commands_texts ms) h2);
        commands = each_right Permitted (flat_map positional_texts ps) (commands_texts ms) h2;
      },
    )

groups_known : (gs : GroupsSaid) → Each Permitted (groups_texts gs) → Each GroupIs (group_list gs)
groups_known no_groups h = tt
groups_known (groups g gs) h = (group_known g (each_left Permitted (group_texts g) (groups_texts gs) h), groups_known gs (each_right Permitted (group_texts g) (groups_texts gs) h))

pub level_known : (l : LevelSaid) → Each Permitted (level_texts l) → LevelIs l
level_known (level t r os cs gs ps ms) h =
    let after_groups : List (List ℕ) = flat_map positional_texts ps ++ commands_texts ms in
    let h1 = each_right Permitted (own_texts t) (flat_map option_texts os ++ (flat_map choice_texts cs ++ (groups_texts gs ++ after_groups))) h in
    let h2 = each_right Permitted (flat_map option_texts os) (flat_map choice_texts cs ++ (groups_texts gs ++ after_groups)) h1 in
    let h3 = each_right Permitted (flat_map choice_texts cs) (groups_texts gs ++ after_groups) h2 in
    let h4 = each_right Permitted (groups_texts gs) after_groups h3 in (
      own_known t (each_left Permitted (own_texts t) (flat_map option_texts os ++ (flat_map choice_texts cs ++ (groups_texts gs ++ after_groups))) h),
      record {
        options = options_known os (each_left Permitted (flat_map option_texts os) (flat_map choice_texts cs ++ (groups_texts gs ++ after_groups)) h1);
        choices = choices_known cs (each_left Permitted (flat_map choice_texts cs) (groups_texts gs ++ after_groups) h2);
        positionals = positionals_known ps (each_left Permitted (flat_map positional_texts ps) (commands_texts ms) h4);
        commands = each_right Permitted (flat_map positional_texts ps) (commands_texts ms) h4;
      },
      groups_known gs (each_left Permitted (groups_texts gs) after_groups h3),
    )

group_items_are : (g : GroupSaid) → GroupIs g → Each LineIs (group_items g)
group_items_are (group title os cs ps ms) h =
    each_append LineIs (flat_map option_items os) (flat_map choice_items cs) (each_flat OptIs LineIs option_items option_items_are os h.1.options) (each_flat ChoiceIs LineIs choice_items choice_items_are cs h.1.choices)

group_positionals_are : (g : GroupSaid) → GroupIs g → Each PositionalIs (group_positionals g)
group_positionals_are (group title os cs ps ms) h = h.1.positionals

pub items_are : (w : WordsSaid) → Permitted w.command → (l : LevelSaid) → LevelIs l → Each LineIs (usage_items w l)
items_are w k (level t r os cs gs ps ms) h =
    let all : List PositionalSaid = flat_map group_positionals (group_list gs) ++ ps in
    let own : List Line = flat_map option_items os ++ flat_map choice_items cs in
    let grouped : List Line = flat_map group_items (group_list gs) in
    each_append LineIs ((own ++ grouped) ++ positional_items all) _
    (each_append LineIs (own ++ grouped) (positional_items all)
    (each_append LineIs own grouped (each_append LineIs (flat_map option_items os) (flat_map choice_items cs) (each_flat OptIs LineIs option_items option_items_are os h.1.options) (each_flat ChoiceIs LineIs choice_items choice_items_are cs h.1.choices))
    (each_flat GroupIs LineIs group_items group_items_are (group_list gs) h.2))
    (positional_items_are all (each_append PositionalIs (flat_map group_positionals (group_list gs)) ps (each_flat GroupIs PositionalIs group_positionals group_positionals_are (group_list gs) h.2) h.1.positionals)))
    (command_items_are w.command r (level_shows_command (level t r os cs gs ps ms)) k)

-- ---- the forms of a text

-- of a line in which brackets in no pair count as letters
abbrev is_shaped : ℕ → Bool
is_shaped c = is_permitted c || is_stand_in c

permitted_shaped : (c : ℕ) → is_permitted c ≡ true → is_shaped c ≡ true
permitted_shaped c h = ap (λ t. t || is_stand_in c) h

small_bracket : (b : ℕ) → (is_opening b || is_closing b) ≡ true → b < 128
small_bracket b h = grind (arith, nat_tests)

bracket_by : (o c x y : Bool) → (if o then x else c && y) ≡ true → (o || c) ≡ true
bracket_by true c x y e = refl
bracket_by false true x y e = refl
bracket_by false false x y e = absurd (true≢false (sym e))

lone_bracket : (opened : List ℕ) (b : ℕ) (after : List ℕ) → is_lone opened b after ≡ true → (is_opening b || is_closing b) ≡ true
lone_bracket opened b after h = bracket_by (is_opening b) (is_closing b) (list_all (nat_lt (length opened)) (depths (open_after opened b) after)) (length (open_after opened b) == length opened) h

stand_low : (b : ℕ) → (is_opening b || is_closing b) ≡ true → is_low is_shaped (stand_in b) ≡ true
stand_low b h = grind (arith, nat_tests)

shaped_step : (t : Bool) (p : List ℕ) (b : ℕ) (text rest : List ℕ) → (t ≡ true → (is_opening b || is_closing b) ≡ true) → ((q : List ℕ) → Clean is_shaped (q ++ text) → Clean is_shaped (q ++ rest)) → Clean is_shaped (p ++ b ∷ text)
    → Clean is_shaped (p ++ (if t then stand_in b else b) ∷ rest)
shaped_step true p b text rest lone after h =
    let cut = cut_out is_shaped p b text (small_bracket b (lone refl)) h in
    clean_append is_shaped p (stand_in b ∷ rest) cut.front (clean_append is_shaped (stand_in b ∷ []) rest (clean_low is_shaped (stand_in b ∷ []) (and_from (is_low is_shaped (stand_in b)) true (stand_low b (lone refl)) refl)) (after [] cut.back))
shaped_step false p b text rest lone after h = back_again is_shaped p b rest (after (p ++ b ∷ []) (next is_shaped p b text h))

shaped_from : (opened p text : List ℕ) → Clean is_shaped (p ++ text) → Clean is_shaped (p ++ shaped_after opened text)
shaped_from opened p [] h = h
shaped_from opened p (b ∷ text) h =
    shaped_step (is_lone opened b text) p b text (shaped_after (open_after opened b) text) (lone_bracket opened b text) (λ q k. shaped_from (open_after opened b) q text k) h

bracket_high : (b : ℕ) → 128 ≤ b → bracket_of b ≡ b
bracket_high b h = grind (arith, nat_tests)

bracket_low : (b : ℕ) → b < 128 → bracket_of b < 128
bracket_low b h = grind (arith, nat_tests)

either_left : (a b : Bool) → (a || b) ≡ true → b ≡ false → a ≡ true
either_left a b h k = grind arith

keeps_high : (c : ℕ) → 9 ≤ c → is_shaped c ≡ true → is_permitted (bracket_of c) ≡ true
keeps_high c h k =
    let same : bracket_of c ≡ c = grind (arith, nat_tests) in
    let none : is_stand_in c ≡ false = grind (arith, nat_tests) in
    ap is_permitted same ∙ either_left (is_permitted c) (is_stand_in c) k none

bracket_keeps : (c : ℕ) → is_shaped c ≡ true → is_permitted (bracket_of c) ≡ true
bracket_keeps zero h = absurd (true≢false (sym h))
bracket_keeps (suc zero) h = refl
bracket_keeps (suc (suc zero)) h = refl
bracket_keeps (suc (suc (suc zero))) h = refl
bracket_keeps (suc (suc (suc (suc zero)))) h = refl
bracket_keeps (suc (suc (suc (suc (suc zero))))) h = refl
bracket_keeps (suc (suc (suc (suc (suc (suc zero)))))) h = refl
bracket_keeps (suc (suc (suc (suc (suc (suc (suc zero))))))) h = refl
bracket_keeps (suc (suc (suc (suc (suc (suc (suc (suc zero)))))))) h = refl
bracket_keeps (suc (suc (suc (suc (suc (suc (suc (suc (suc c))))))))) h = keeps_high (suc (suc (suc (suc (suc (suc (suc (suc (suc c))))))))) (omega arith) h

restored_is : (text : List ℕ) → Clean is_shaped text → Permitted (restored text)
restored_is = clean_mapped bracket_of bracket_high bracket_low is_shaped is_permitted bracket_keeps

piece_restored : (piece : Piece) → Clean is_shaped (piece_text piece) → PieceIs (restored_piece piece)
piece_restored (words text) h = restored_is text h
piece_restored (literal text) h = restored_is text h
piece_restored (value text) h = restored_is text h
piece_restored (link text) h = restored_is text h
piece_restored (page name) h = restored_is name h

part_is : (part : List ℕ) → Clean is_shaped part → LineIs (part_line part)
part_is part h = each_changed (λ piece. Clean is_shaped (piece_text piece)) PieceIs restored_piece piece_restored (syntax_line part) (syntax_is is_shaped part h)

abbrev pub FormIs : FormSaid → Type 0
FormIs form = Permitted form.name × Each LineIs form.items

form_from : (ps : List (List ℕ)) → Each (Clean is_shaped) ps → Each FormIs (parts_form ps)
form_from [] h = tt
form_from (part ∷ others) h = ((restored_is part h.0, each_changed (Clean is_shaped) LineIs part_line part_is others h.1), tt)

line_form_is : (line : List ℕ) → Permitted line → Each FormIs (line_form line)
line_form_is line h =
    let marked = shaped_from [] [] line (clean_weaker is_permitted is_shaped permitted_shaped line h) in
    form_from (line_parts (shaped line)) (each_kept (Clean is_shaped) (λ part. not (is_empty part)) (parts 32 (shaped line)) (parts_are is_shaped 32 (omega arith) (shaped line) marked))

-- ---- a word in front of a line

colon_small : (b : ℕ) (rest : Bool) → (b == 58 && rest) ≡ true → b < 128
colon_small b rest h = grind (arith, and_parts, nat_tests)

colon_by : (t : Bool) (b : ℕ) (bs line : List ℕ) → (t ≡ true → b < 128) → Permitted line → Permitted (b ∷ bs) → Permitted (unwrap_or (if t then Some (without_front bs) else None) line)
colon_by true b bs line small h k = front_is bs (cut_out is_permitted [] b bs (small refl) k).back
colon_by false b bs line small h k = h

colon_is : (rest line : List ℕ) → Permitted line → Permitted rest → Permitted (unwrap_or (after_colon rest) line)
colon_is [] line h k = h
colon_is (b ∷ bs) line h k = colon_by (b == 58 && (is_empty bs || begins (λ c. c == 32) bs)) b bs line (colon_small b (is_empty bs || begins (λ c. c == 32) bs)) h k

rest_is : (word line : List ℕ) → take (length word) line ≡ word → Permitted word → Permitted line → Permitted (drop (length word) line)
rest_is word line e h k =
    let long = length-take (length word) line in
    let same = ap length e in
    clean_drop is_permitted line (length word) (IsCharBoundary-from_take line (length word) k.utf8 (omega arith) (subst IsUtf8 (sym e) h.utf8)) k

lead_by : (t : Bool) (word line : List ℕ) → (t ≡ true → take (length word) line ≡ word) → Permitted word → Permitted line → Permitted (unwrap_or (option_and_then after_colon (if t then Some (drop (length word) line) else None)) line)
lead_by true word line e h k = colon_is (drop (length word) line) line k (rest_is word line (e refl) h k)
lead_by false word line e h k = k

lead_is : (word line : List ℕ) → Permitted word → Permitted line → Permitted (without_lead word line)
lead_is word line h k = lead_by (bytes_eq (take (length word) line) word) word line (bytes_eq-Decides (take (length word) line) word).0 h k

line_forms_are : (w : WordsSaid) → Permitted w.usage → (line : List ℕ) → Permitted line → Each FormIs (line_forms w line)
line_forms_are w h line k =
    let own = lead_is (codes "Usage") (without_margins line) (fixed (codes "Usage") refl) (margins_are line k) in
    line_form_is (form_text w.usage line) (lead_is w.usage (without_lead (codes "Usage") (without_margins line)) h own)

newline_ascii : (b : ℕ) → (b == 10) ≡ true → b < 128
newline_ascii b h = grind (arith, nat_tests)

tab_high : (b : ℕ) → 128 ≤ b → blank_for_tab b ≡ b
tab_high b h = grind (arith, nat_tests)

tab_low : (b : ℕ) → b < 128 → blank_for_tab b < 128
tab_low b h = grind (arith, nat_tests)

tab_by : (t : Bool) (c : ℕ) → is_permitted c ≡ true → is_permitted (if t then 32 else c) ≡ true
tab_by true c h = refl
tab_by false c h = h

text_forms_are : (w : WordsSaid) → Permitted w.usage → (text : List ℕ) → Permitted text → Each FormIs (text_forms w text)
text_forms_are w h text k =
    let spaced = clean_mapped blank_for_tab tab_high tab_low is_permitted is_permitted (λ c. tab_by (c == 9) c) text k in
    each_flat Permitted FormIs (line_forms w) (line_forms_are w h) (slice_split (λ b. b == 10) (untabbed text)) (each_split is_permitted (λ b. b == 10) newline_ascii (untabbed text) spaced)

given_are : (w : WordsSaid) → Permitted w.usage → (text : Option (List ℕ)) → GivenIs text → (own : FormSaid) → FormIs own → Each FormIs (given_forms w text own)
given_are w h None k own o = (o, tt)
given_are w h (Some text) k own o = text_forms_are w h text k.0

usage_given : (l : LevelSaid) → LevelIs l → GivenIs (level_text l)
usage_given (level t r os cs gs ps ms) h = h.0.usage

pub forms_are : (w : WordsSaid) → Permitted w.usage → Permitted w.command → (names : List ℕ) → Permitted names → (l : LevelSaid) → LevelIs l → Each FormIs (usage_forms w names l)
forms_are w h k names n l m = given_are w h (level_text l) (usage_given l m) (record { name = names; items = usage_items w l }) (n, items_are w k l m)
