-- What a tree shows: nothing at all, or a set of sequences of symbols.
use Rattle.std.specs.Prelude.{◌≡◌, ℕ, Bool, true, false, ◌&&◌, ◌⊎◌, ◌↔◌, List, [], ◌∷◌, ◌++◌}
use Rattle.bpaf_doc.specs.Buffer.Parts.{Part}
use Rattle.bpaf_meta.specs.Content.{Name, Tree, and_of, or_of, optional, required, adjacent, item, many, subsection, suffix, skip, custom_usage, strict, Trees, no_trees, tree, Leaf, any, positional, command, flag, argument}
use Rattle.bpaf_meta.specs.Meta.Normal.{name_form}

-- what one item or one custom usage document is to a reader of sequences; all commands are one symbol
pub data Symbol : Type 0 where
  the_any : (metavar : List Part) → Symbol
  the_positional : (metavar : List ℕ) → Symbol
  the_command : Symbol
  the_flag : Name → Symbol
  the_argument : Name → (metavar : List ℕ) → Symbol
  the_usage : List Part → Symbol

-- the symbol of an item, with its name as it is picked in usage or outside
abbrev pub symbol_of : (usage : Bool) → Leaf → Symbol
symbol_of u (any m a h) = the_any m
symbol_of u (positional m h) = the_positional m
symbol_of u (command n c h t i) = the_command
symbol_of u (flag n s e h) = the_flag (name_form u n)
symbol_of u (argument n s m e h) = the_argument (name_form u n) m

-- a set of sequences
abbrev pub Language : Type 1
Language = List Symbol → Type 0

-- no sequence; the sequence v alone; the empty sequence or one of P; one of P or of Q
abbrev pub NoSequence : Language
NoSequence w = ⊥

abbrev pub Only : List Symbol → Language
Only v w = w ≡ v

abbrev pub Maybe : Language → Language
Maybe P w = (w ≡ []) ⊎ P w

abbrev pub Either : Language → Language → Language
Either P Q w = P w ⊎ Q w

-- a sequence of P and then one of Q
abbrev pub Joined : Language → Language → Language
Joined P Q w = (front : List Symbol) × (back : List Symbol) × (w ≡ front ++ back) × P front × Q back

-- one or more sequences of P in a row
pub data Repeated (P : List Symbol → Type 0) : List Symbol → Type 0 where
  once : {w : List Symbol} → P w → Repeated P w
  again : {w : List Symbol} → (front back : List Symbol) → w ≡ front ++ back → P front → Repeated P back → Repeated P w

-- P where the test holds, otherwise Q
abbrev pub choice : Bool → Language → Language → Language
choice true P Q = P
choice false P Q = Q

abbrev pub has_no_parts : List Part → Bool
has_no_parts [] = true
has_no_parts (p ∷ d) = false

-- whether a tree has nothing to show, which is so where all its parts are hidden: no item is hidden, and Skip is. In
-- usage a CustomUsage is hidden where its document has no parts
abbrev mutual
  pub is_hidden : (usage : Bool) → Tree → Bool
  is_hidden u (and_of ts) = are_hidden u ts
  is_hidden u (or_of ts) = are_hidden u ts
  is_hidden u (optional t) = is_hidden u t
  is_hidden u (required t) = is_hidden u t
  is_hidden u (adjacent t) = is_hidden u t
  is_hidden u (item l) = false
  is_hidden u (many t) = is_hidden u t
  is_hidden u (subsection t d) = is_hidden u t
  is_hidden u (suffix t d) = is_hidden u t
  is_hidden u skip = true
  is_hidden true (custom_usage t d) = has_no_parts d
  is_hidden false (custom_usage t d) = is_hidden false t
  is_hidden u (strict t) = is_hidden u t

  pub are_hidden : (usage : Bool) → Trees → Bool
  are_hidden u no_trees = true
  are_hidden u (tree t ts) = is_hidden u t && are_hidden u ts

-- the sequences that a tree shows, where it is not hidden
abbrev mutual
  pub Shows : (usage : Bool) → Tree → Language
  Shows u (and_of ts) = ShowsEach u ts
  Shows u (or_of ts) = ShowsOne u ts
  Shows u (optional t) = Maybe (Shows u t)
  Shows u (required t) = Shows u t
  Shows u (adjacent t) = Shows u t
  Shows u (item l) = Only (symbol_of u l ∷ [])
  Shows u (many t) = Repeated (Shows u t)
  Shows u (subsection t d) = Shows u t
  Shows u (suffix t d) = Shows u t
  Shows u skip = NoSequence
  Shows true (custom_usage t d) = Only (the_usage d ∷ [])
  Shows false (custom_usage t d) = Shows false t
  Shows u (strict t) = Shows u t

  -- one sequence of each part that is not hidden, in order
  pub ShowsEach : (usage : Bool) → Trees → Language
  ShowsEach u no_trees = Only []
  ShowsEach u (tree t ts) = choice (is_hidden u t) (ShowsEach u ts) (Joined (Shows u t) (ShowsEach u ts))

  -- a sequence of one part that is not hidden
  pub ShowsOne : (usage : Bool) → Trees → Language
  ShowsOne u no_trees = NoSequence
  ShowsOne u (tree t ts) = choice (is_hidden u t) (ShowsOne u ts) (Either (Shows u t) (ShowsOne u ts))

-- the same sequences are in both sets
abbrev pub Same : Language → Language → Type 0
Same P Q = (w : List Symbol) → P w ↔ Q w

-- one tree is hidden exactly where the other is, and otherwise both show the same sequences
pub record ShowsSame (usage : Bool) (t v : Tree) : Type 0 where
  pub hidden : is_hidden usage t ≡ is_hidden usage v
  pub sequences : is_hidden usage v ≡ false → Same (Shows usage t) (Shows usage v)
