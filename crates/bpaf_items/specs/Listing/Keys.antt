-- How a list tells two items apart, which of two keys comes first, and what a key feeds a hasher.
use Rattle.std.specs.Prelude.{◌++◌, ◌↔◌, ◌∷◌, ◌≡◌}
use Rattle.bpaf_items.specs.Words.{ℕ, Bool, List, [], flat_map, Option, Some, None, IsTrue, nat_eq, option_eq, option_cmp, nat_cmp, on, then_cmp, eq_of_both, eq_by_cmp, slice_cmp, IsTotalOrder, Ordering, Part, Text, same_text, same_document, document_cmp, Name, short, long, both, Leaf, any, positional, command, flag, argument}
use Rattle.std.specs.Hash as fed
use Rattle.bpaf_meta.specs.Names.{short_name}
use Rattle.bpaf_items.specs.Listing.ItemList.{Entry, listed}

-- the four classes of keys; a positional and a command share one
pub data Key : Type 0 where
  any_key : (metavar : List Part) → (help : Option (List Part)) → Key
  word_key : List ℕ → (help : Option (List Part)) → Key
  flag_key : Name → (help : Option (List Part)) → Key
  argument_key : Name → (metavar : List ℕ) → (help : Option (List Part)) → Key

-- the key of an item: short command names, environment names and `anywhere` are not in it
abbrev pub key_of : Leaf → Key
key_of (any m a h) = any_key m h
key_of (positional m h) = word_key m h
key_of (command n c h t i) = word_key n h
key_of (flag n s e h) = flag_key n h
key_of (argument n s m e h) = argument_key n m h

-- the key of an entry; marks and notes have none
abbrev pub entry_key : Entry → Option Key
entry_key (listed l) = Some (key_of l)
entry_key e = None

-- ---- what a name and a key say

-- the place of a name's form among Short, Long and Both
abbrev pub name_form_number : Name → ℕ
name_form_number (short c) = 0
name_form_number (long n) = 1
name_form_number (both c n) = 2

abbrev pub name_text : Name → List ℕ
name_text (short c) = []
name_text (long n) = n
name_text (both c n) = n

abbrev pub key_class : Key → ℕ
key_class (any_key m h) = 1
key_class (word_key m h) = 2
key_class (flag_key n h) = 3
key_class (argument_key n m h) = 4

-- the metavar of an Any
abbrev pub key_document : Key → List Part
key_document (any_key m h) = m
key_document k = []

abbrev pub key_name : Key → Option Name
key_name (flag_key n h) = Some n
key_name (argument_key n m h) = Some n
key_name k = None

-- the metavar of a positional or an argument, or the name of a command
abbrev pub key_text : Key → List ℕ
key_text (word_key m h) = m
key_text (argument_key n m h) = m
key_text k = []

abbrev pub key_help : Key → Option (List Part)
key_help (any_key m h) = h
key_help (word_key m h) = h
key_help (flag_key n h) = h
key_help (argument_key n m h) = h

-- ---- equality

abbrev pub same_name : Name → Name → Bool
same_name = eq_of_both (on name_form_number nat_eq)
    (eq_of_both (on short_name (option_eq nat_eq)) (on name_text same_text))

abbrev pub same_help : Option (List Part) → Option (List Part) → Bool
same_help = option_eq same_document

-- of the same class, with the same document, name, text and help, where the class has them
abbrev pub same_key : Key → Key → Bool
same_key = eq_of_both (on key_class nat_eq)
    (eq_of_both (on key_document same_document)
    (eq_of_both (on key_name (option_eq same_name))
    (eq_of_both (on key_text same_text) (on key_help same_help))))

-- ---- order

-- by form, then by character, then by text
abbrev pub name_cmp : Name → Name → Ordering
name_cmp = then_cmp (on name_form_number nat_cmp)
    (then_cmp (on short_name (option_cmp nat_cmp)) (on name_text (slice_cmp nat_cmp)))

-- by class, then by document, name and text, where the class has them, and then by help; no help comes before a help
abbrev pub key_cmp : Key → Key → Ordering
key_cmp = then_cmp (on key_class nat_cmp)
    (then_cmp (on key_document document_cmp)
    (then_cmp (on key_name (option_cmp name_cmp))
    (then_cmp (on key_text (slice_cmp nat_cmp)) (on key_help (option_cmp document_cmp)))))

-- ---- what a key feeds a hasher: its texts, and of its documents the texts without the marks

abbrev pub part_input : Part → List (List ℕ)
part_input (Text bytes s) = bytes ∷ []
part_input _ = []

abbrev pub document_input : List Part → List (List ℕ)
document_input = flat_map part_input

abbrev pub help_input : Option (List Part) → List (List ℕ)
help_input None = []
help_input (Some d) = document_input d

-- the long name where there is one, else the character
abbrev pub name_input : Name → List (List ℕ)
name_input (short c) = fed.char c
name_input (long n) = n ∷ []
name_input (both c n) = n ∷ []

abbrev pub key_input : Key → List (List ℕ)
key_input (any_key m h) = document_input m ++ help_input h
key_input (word_key m h) = (m ∷ []) ++ help_input h
key_input (flag_key n h) = name_input n ++ help_input h
key_input (argument_key n m h) = name_input n ++ (m ∷ []) ++ help_input h

-- ---- laws

-- two keys are equal exactly where they say the same
abbrev pub IsEqualityOfKeys : Type 0
IsEqualityOfKeys = (k l : Key) → IsTrue (same_key k l) ↔ (k ≡ l)

-- the order of keys is total, and finds two keys equal exactly where they are
pub record IsOrderOfKeys : Type 0 where
  pub total : IsTotalOrder key_cmp
  pub tied : (k l : Key) → same_key k l ≡ eq_by_cmp key_cmp k l
