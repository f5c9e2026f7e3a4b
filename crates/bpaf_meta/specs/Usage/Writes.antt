-- What a usage line writes.
use Rattle.std.specs.Prelude.{ℕ, Bool, ◌||◌, if◌then◌else◌, List, [], ◌∷◌, ◌++◌, ◌==◌, chars, codes}
use Rattle.std.specs.Char.{is_ascii_digit}
use Rattle.std.specs.List.{list_all, join_by}
use Rattle.unicode.specs.Binary.{is_uppercase}
use Rattle.bpaf_roff.specs.Bytes as byte
use Rattle.bpaf_doc.specs.declared.buffer.Block.TheVariants as block
use Rattle.bpaf_doc.specs.Buffer.Writes.{Write, plain, literal, metavar, inside, doc_writes}
use Rattle.bpaf_meta.specs.Content.{Name, short, long, both, Tree, and_of, or_of, optional, required, adjacent, item, many, subsection, suffix, skip, custom_usage, strict, Trees, no_trees, tree, Leaf, any, positional, command, flag, argument}
use Rattle.bpaf_meta.specs.Names.{short_text, long_text}
use Rattle.bpaf_meta.specs.Meta.Normal.{normalized}

-- an Uppercase character, an ASCII digit, `-` or `_`
abbrev pub is_bare_character : ℕ → Bool
is_bare_character c = is_uppercase c || is_ascii_digit c || c == byte.dash || c == byte.underscore

-- a metavar that is only bare characters is written as it is, any other between `<` and `>`
abbrev pub metavar_writes : List ℕ → List Write
metavar_writes name =
    if list_all is_bare_character (chars name) then metavar name ∷ []
    else metavar (codes "<") ∷ metavar name ∷ metavar (codes ">") ∷ []

-- the short form of a Short, else the long form
abbrev pub name_writes : Name → List Write
name_writes (short c) = literal (short_text c) ∷ []
name_writes (long n) = literal (long_text n) ∷ []
name_writes (both c n) = literal (long_text n) ∷ []

abbrev pub item_writes : Leaf → List Write
item_writes (any m a h) = doc_writes m
item_writes (positional m h) = metavar_writes m
item_writes (command n c h t i) = metavar (codes "COMMAND ...") ∷ []
item_writes (flag n s e h) = name_writes n
item_writes (argument n s m e h) = name_writes n ++ plain (codes "=") ∷ metavar_writes m

-- the pieces with a plain text between them
abbrev pub separated : List ℕ → List (List Write) → List Write
separated bytes = join_by (λ ws. ws) (plain bytes ∷ [])

-- what a tree in normal form writes
abbrev mutual
  pub tree_writes : Tree → List Write
  tree_writes (and_of ts) = separated (codes " ") (part_writes ts)
  tree_writes (or_of ts) = separated (codes " | ") (part_writes ts)
  tree_writes (optional t) = plain (codes "[") ∷ tree_writes t ++ plain (codes "]") ∷ []
  tree_writes (required t) = plain (codes "(") ∷ tree_writes t ++ plain (codes ")") ∷ []
  tree_writes (adjacent t) = tree_writes t
  tree_writes (item l) = item_writes l
  tree_writes (many t) = tree_writes t ++ plain (codes "...") ∷ []
  tree_writes (subsection t d) = tree_writes t
  tree_writes (suffix t d) = tree_writes t
  tree_writes skip = []
  tree_writes (custom_usage t d) = doc_writes d
  tree_writes (strict t) = literal (codes "--") ∷ plain (codes " ") ∷ tree_writes t

  -- those of each part
  pub part_writes : Trees → List (List Write)
  part_writes no_trees = []
  part_writes (tree t ts) = tree_writes t ∷ part_writes ts

-- `write_meta`: the normal form of the tree, between Mono marks
-- e.g. document_of (usage_writes false (item (argument (both 115 (codes "speed")) [] (codes "file") None None)))
--     ≡ Start block.Mono ∷ Text (codes "--speed") style.Literal ∷ Text (codes "=") style.Text
--     ∷ Text (codes "<file>") style.Metavar ∷ End block.Mono ∷ []
abbrev pub usage_writes : (usage : Bool) → Tree → List Write
usage_writes u t = inside block.Mono (tree_writes (normalized u t))
