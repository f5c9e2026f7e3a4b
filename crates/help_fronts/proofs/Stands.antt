-- What is read of a line stands in it.
use Rattle.std.proofs.Common.{◌≡◌, ℕ, Bool, true, false, cond, List, [], ◌∷◌, ◌++◌, All, IfSome, None, Some, ◌==◌, filter, length, map, refl, sym, ap, ◌∙◌, subst, append_assoc}
use Rattle.std.specs.List.{concat}
use Rattle.std.specs.Option.{option_map}
use Rattle.std.proofs.lemmas.List.Elements.{All-cons, All-filter, All-head, All-nil, All-tail}
use Rattle.help_fronts.specs.declared.front.Kind.{Kind}
use Rattle.help_fronts.specs.declared.front.Kind.TheVariants as kind
use Rattle.help_fronts.specs.Pieces.{first_word, pieces, word}
use Rattle.help_fronts.specs.Words.{bare_word, is_name, name, value_text, value_word, without_joints}
use Rattle.help_fronts.specs.Fronts.{CommandSaid, aliases, before_name, begins_front, after_front, belonging, belongs, command_in, command_name, command_said, first_value, from_last, front, front_in, front_said, gap_of, if_parted, is_alias, is_list, is_parted, is_valued, listed, names, only, or_else, other_names, says_more, says_value, values, without_indent}
use Rattle.help_fronts.specs.Lines.{further_words, goes_on, option_words}
use Rattle.help_fronts.specs.Usages.{WordSaid, bare, is_own, joint_after, options_from, usage_words, used, used_with, value_after}
use Rattle.help_fronts.specs.Laws.{CommandsStandInTheirLine, IsCommandOf, IsFrontOf, IsTextOf, IsUsedIn, NamesStandInTheirLine, OptionsStandInTheirLine, UsageOptionsStandInTheirLine}
use Rattle.help_fronts.proofs.Texts.{IsWordIn, all_read, all_within, at_front, bare_word_of, concat_pieces, dropped, joined, listed_are, name_of, nothing, taken, value_after_of, value_text_of, value_word_of, within, without_joints_of, word_of, usage_words_are}

-- ---- a front begins its text

abbrev Begins : (text front : List ℕ) → Type 0
Begins text front = (after : List ℕ) × (text ≡ front ++ after)

one_more : (p : List ℕ) (ps qs : List (List ℕ)) → Begins (concat ps) (concat qs) → Begins (concat (p ∷ ps)) (concat (p ∷ qs))
one_more p ps qs h = (h.0, ap (λ t. p ++ t) h.1 ∙ sym (append_assoc p (concat qs) h.0))

no_more : (ps : List (List ℕ)) → Begins (concat ps) (concat [])
no_more ps = (concat ps, refl)

belonging_begin : (k : Kind) (before : List ℕ) (ps : List (List ℕ)) → Begins (concat ps) (concat (belonging k before ps))
belonging_begin k before [] = no_more []
belonging_begin k before (p ∷ ps) = by (belongs k before (word p) (first_word ps)) (belonging_begin k (word p) ps) where
  by : (t : Bool) → Begins (concat ps) (concat (belonging k (word p) ps)) → Begins (concat (p ∷ ps)) (concat (cond t (p ∷ belonging k (word p) ps) []))
  by true h = one_more p ps (belonging k (word p) ps) h
  by false h = no_more (p ∷ ps)

front_begins : (k : Kind) (ps : List (List ℕ)) → Begins (concat ps) (concat (front k ps))
front_begins k [] = no_more []
front_begins k (p ∷ ps) = by (begins_front k (word p)) where
  by : (t : Bool) → Begins (concat (p ∷ ps)) (concat (cond t (p ∷ belonging k (word p) ps) []))
  by true = one_more p ps (belonging k (word p) ps) (belonging_begin k (word p) ps)
  by false = no_more (p ∷ ps)

front_of : (k : Kind) (text : List ℕ) → IsTextOf text (concat (front k (pieces text)))
front_of k text =
    let begins = front_begins k (pieces text) in
    subst (λ t. IsTextOf t (concat (front k (pieces text)))) (sym begins.1 ∙ concat_pieces text) (at_front (concat (front k (pieces text))) begins.0)

-- ---- what a front says, of words of a line

module _ (line : List ℕ) where
  abbrev Are : List (List ℕ) → Type 0
  Are ts = All (IsTextOf line) ts

  abbrev none : Are []
  none = All-nil (IsTextOf line)

  one_and : (t : List ℕ) (ts : List (List ℕ)) → IsTextOf line t → Are ts → Are (t ∷ ts)
  one_and t ts = All-cons (IsTextOf line) t ts

  first_of : (t : List ℕ) (ts : List (List ℕ)) → Are (t ∷ ts) → IsTextOf line t
  first_of t ts = All-head (IsTextOf line) t ts

  others_of : (t : List ℕ) (ts : List (List ℕ)) → Are (t ∷ ts) → Are ts
  others_of t ts = All-tail (IsTextOf line) t ts

  pub names_are : (ws : List (List ℕ)) → Are ws → Are (names ws)
  names_are ws all = all_read name name_of line (filter is_name ws) (All-filter is_name (IsTextOf line) ws all)

  before_name_are : (ws : List (List ℕ)) → Are ws → Are (before_name ws)
  before_name_are [] all = none
  before_name_are (w ∷ ws) all = by (is_name w) (before_name_are ws (others_of w ws all)) where
    by : (t : Bool) → Are (before_name ws) → Are (cond t [] (w ∷ before_name ws))
    by true below = none
    by false below = one_and w (before_name ws) (first_of w ws all) below

  or_else_are : (ts others : List (List ℕ)) → Are ts → Are others → Are (or_else ts others)
  or_else_are [] others all more = more
  or_else_are (t ∷ ts) others all more = all

  from_last_are : (ws : List (List ℕ)) → Are ws → Are (from_last ws)
  from_last_are [] all = none
  from_last_are (w ∷ ws) all = or_else_are (from_last ws) _ (from_last_are ws (others_of w ws all)) (by (is_valued w ws)) where
    by : (t : Bool) → Are (cond t (w ∷ ws) [])
    by true = all
    by false = none

  values_are : (ws : List (List ℕ)) → Are ws → Are (values ws)
  values_are [] all = none
  values_are (w ∷ ws) all = by (says_value w) (values_are ws (others_of w ws all)) where
    further : List (List ℕ)
    further = filter says_more (before_name ws)

    by : (t : Bool) → Are (values ws) → Are (cond t (value_text w ∷ map without_joints further) (values ws))
    by true below =
        one_and (value_text w) (map without_joints further) (within line w (value_text w) (first_of w ws all) (value_text_of w))
        (all_read without_joints without_joints_of line further (All-filter says_more (IsTextOf line) (before_name ws) (before_name_are ws (others_of w ws all))))
    by false below = below

  value_is : (vs : List (List ℕ)) → Are vs → IfSome (option_map value_word (first_value vs)) (IsTextOf line)
  value_is [] all = tt
  value_is (v ∷ vs) all = within line v (value_word v) (first_of v vs all) (value_word_of v)

  -- the word of each piece of a front
  words_are : (text : List ℕ) → IsTextOf line text → (ps : List (List ℕ)) → IsTextOf text (concat ps) → Are (map word ps)
  words_are text h ps begins = all_read word word_of line ps (all_within line (concat ps) (within line text (concat ps) h begins) ps (joined ps))

  after_is : (text : List ℕ) → IsTextOf line text → (ps : List (List ℕ)) → IsTextOf line (after_front ps text)
  after_is text h ps = within line text (after_front ps text) h (dropped (length (concat ps)) text)

  front_is : (text : List ℕ) → IsTextOf line text → (ps : List (List ℕ)) → IsTextOf text (concat ps) → IsFrontOf line (front_said ps (after_front ps text))
  front_is text h ps begins =
      let after = after_front ps text in
      let words = words_are text h ps begins in
      let valued = values_are (from_last (map word ps)) (from_last_are (map word ps) words) in
      record {
        names = names_are (map word ps) words;
        values = valued;
        value = value_is (values (from_last (map word ps))) valued;
        written = within line text (concat ps) h begins;
        gap = within line after (gap_of after) (after_is text h ps) (taken _ after);
        help = within line after _ (after_is text h ps) (dropped _ after);
      }

  some_front : (text : List ℕ) → IsTextOf line text → (ps : List (List ℕ)) → IsTextOf text (concat ps) → IfSome (front_in ps text) (IsFrontOf line)
  some_front text h [] begins = tt
  some_front text h (p ∷ ps) begins = front_is text h (p ∷ ps) begins

pub options_stand_in_their_line : OptionsStandInTheirLine
options_stand_in_their_line line =
    let text = without_indent line in
    some_front line text (dropped _ line) (front kind.Option (pieces text)) (front_of kind.Option text)

-- ---- commands

module _ (line : List ℕ) where
  only_is : (ws : List (List ℕ)) → Are line ws → IsTextOf line (only ws)
  only_is [] all = nothing line
  only_is (w ∷ []) all = first_of line w [] all
  only_is (w ∷ v ∷ ws) all = nothing line

  aliases_are : (n : List ℕ) (ws : List (List ℕ)) → Are line ws → Are line (aliases (n ∷ ws))
  aliases_are n ws all = by (is_list (only ws)) where
    by : (t : Bool) → Are line (cond t (listed (only ws)) (other_names n ws))
    by true = all_within line (only ws) (only_is ws all) (listed (only ws)) (listed_are (only ws))
    by false = all_read bare_word bare_word_of line _ (All-filter (is_alias n) (IsTextOf line) ws all)

  command_is : (text : List ℕ) → IsTextOf line text → (p : List ℕ) (ps : List (List ℕ)) → IsTextOf text (concat (p ∷ ps)) → IsCommandOf line (command_said (p ∷ ps) (after_front (p ∷ ps) text))
  command_is text h p ps begins =
      let after = after_front (p ∷ ps) text in
      let words = words_are line text h (p ∷ ps) begins in
      let first = first_of line (word p) (map word ps) words in
      let others = others_of line (word p) (map word ps) words in
      record {
        name = within line (word p) (command_name (word p)) first (taken _ (word p));
        aliases = aliases_are (word p) (map word ps) others;
        written = within line text (concat (p ∷ ps)) h begins;
        gap = within line after (gap_of after) (after_is line text h (p ∷ ps)) (taken _ after);
        help = within line after _ (after_is line text h (p ∷ ps)) (dropped _ after);
      }

  if_parted_is : (c : CommandSaid) → IsCommandOf line c → IfSome (if_parted c) (IsCommandOf line)
  if_parted_is c h = by (is_parted c.written c.gap c.help) where
    by : (t : Bool) → IfSome (cond t (Some c) None) (IsCommandOf line)
    by true = h
    by false = tt

  some_command : (text : List ℕ) → IsTextOf line text → (ps : List (List ℕ)) → IsTextOf text (concat ps) → IfSome (command_in ps text) (IsCommandOf line)
  some_command text h [] begins = tt
  some_command text h (p ∷ ps) begins = if_parted_is (command_said (p ∷ ps) (after_front (p ∷ ps) text)) (command_is text h p ps begins)

pub commands_stand_in_their_line : CommandsStandInTheirLine
commands_stand_in_their_line line =
    let text = without_indent line in
    some_command line text (dropped _ line) (front kind.Command (pieces text)) (front_of kind.Command text)

-- ---- names alone

further_are : (line before : List ℕ) (ps : List (List ℕ)) → All (IsTextOf line) ps → All (IsTextOf line) (further_words before ps)
further_are line before [] all = none line
further_are line before (p ∷ ps) all = by (goes_on before (word p) (first_word ps)) (further_are line (word p) ps (others_of line p ps all)) where
  by : (t : Bool) → All (IsTextOf line) (further_words (word p) ps) → All (IsTextOf line) (cond t (word p ∷ further_words (word p) ps) [])
  by true below = one_and line (word p) (further_words (word p) ps) (within line p (word p) (first_of line p ps all) (word_of p)) below
  by false below = none line

option_words_are : (line : List ℕ) (ps : List (List ℕ)) → All (IsTextOf line) ps → All (IsTextOf line) (option_words ps)
option_words_are line [] all = none line
option_words_are line (p ∷ ps) all = by (is_name (word p)) where
  by : (t : Bool) → All (IsTextOf line) (cond t (word p ∷ further_words (word p) ps) [])
  by true = one_and line (word p) (further_words (word p) ps) (within line p (word p) (first_of line p ps all) (word_of p)) (further_are line (word p) ps (others_of line p ps all))
  by false = none line

pub names_stand_in_their_line : NamesStandInTheirLine
names_stand_in_their_line line =
    let text = without_indent line in
    let all : All (IsTextOf text) (pieces text) = subst (λ t. All (IsTextOf t) (pieces text)) (concat_pieces text) (joined (pieces text)) in
    names_are line (option_words (pieces text)) (option_words_are line (pieces text) (all_within line text (dropped _ line) (pieces text) all))

-- ---- options in a usage

used_is : (line : List ℕ) (n : List ℕ) (j : ℕ) (v : List ℕ) → IsTextOf line n → IsTextOf line v → IsUsedIn line (used_with n j v)
used_is line n j v name value = by (length (value_word v) == 0) where
  by : (t : Bool) → IsUsedIn line (cond t (bare n) (record { name = n; joint = j; value = v }))
  by true = record { name = name; value = nothing line }
  by false = record { name = name; value = value }

word_used : (line : List ℕ) (w : WordSaid) → IsWordIn line w → IsUsedIn line (used w)
word_used line w h =
    let value = within line w.after (value_after w.after) h.after (value_after_of w.after) in
    used_is line (name w.text) (joint_after w.after) (without_joints (value_after w.after)) (within line w.text (name w.text) h.text (name_of w.text))
    (within line (value_after w.after) (without_joints (value_after w.after)) value (without_joints_of (value_after w.after)))

options_are : (line before : List ℕ) (ws : List WordSaid) → All (IsWordIn line) ws → All (IsUsedIn line) (options_from before ws)
options_are line before [] all = All-nil (IsUsedIn line)
options_are line before (w ∷ ws) all = by (is_own before w.text) (options_are line w.text ws (All-tail (IsWordIn line) w ws all)) where
  by : (t : Bool) → All (IsUsedIn line) (options_from w.text ws) → All (IsUsedIn line) (cond t (used w ∷ []) [] ++ options_from w.text ws)
  by true below = All-cons (IsUsedIn line) (used w) (options_from w.text ws) (word_used line w (All-head (IsWordIn line) w ws all)) below
  by false below = below

pub usage_options_stand_in_their_line : UsageOptionsStandInTheirLine
usage_options_stand_in_their_line line = options_are line [] (usage_words line) (usage_words_are line)
