-- Laws of the rules.
use Rattle.std.specs.Prelude.{◌≡◌, ℕ, ◌+◌, ◌-◌, ◌<◌, ◌⊎◌, All, Bool, true, false, List, [], drop, get_or, length, map, take, Some, None}
use Rattle.std.specs.List.{AllPass}
use Rattle.help_blocks.specs.declared.cut.Block.{Block}
use Rattle.help_blocks.specs.declared.shape.Shape.{Shape}
use Rattle.help_blocks.specs.declared.place.Kind.{Kind}
use Rattle.help_blocks.specs.declared.place.Kind.TheVariants as kind
use Rattle.help_blocks.specs.declared.place.Open.{Open}
use Rattle.help_blocks.specs.Above.{Line, open_block, place_of}
use Rattle.help_blocks.specs.Blocks.{FollowOn, lines_of, start_of, starts}
use Rattle.help_blocks.specs.Looks.{is_empty, is_usage, text}
use Rattle.help_blocks.specs.Rules.{begun, is_entry, is_title_kind}

-- a line that goes on with an entry is empty, or indented deeper than the entry's first line
abbrev pub HelpIsDeeper : Type 0
HelpIsDeeper = (above : List Line) (entry : Open) (here next : Shape) → open_block above ≡ Some entry → is_entry entry.kind ≡ true
    → begun (place_of above) here next ≡ None → (here.is_empty ≡ true) ⊎ (entry.indent < here.indent)

-- and one that goes on with a title is empty
abbrev pub TitlesEnd : Type 0
TitlesEnd = (above : List Line) (title : Open) (here next : Shape) → open_block above ≡ Some title → is_title_kind title.kind ≡ true
    → begun (place_of above) here next ≡ None → here.is_empty ≡ true

abbrev pub FirstLinesBegin : Type 0
FirstLinesBegin = (here next : Shape) → begun (place_of []) here next ≡ None → ⊥

-- the lines below the first of a block
abbrev pub lines_below : (lines : List (List ℕ)) → Block → List (List ℕ)
lines_below lines b = take (b.end - (b.first + 1)) (drop (b.first + 1) lines)

abbrev pub is_empty_line : (line : List ℕ) → Bool
is_empty_line line = is_empty (text line)

abbrev pub is_usage_line : (line : List ℕ) → Bool
is_usage_line line = is_usage (text line)

abbrev pub is_usage_kind : Kind → Bool
is_usage_kind kind.Usage = true
is_usage_kind _ = false

-- blocks that begin as the rules say: each line is in exactly one, none is empty, a title has empty lines alone below
-- its first, and a usage begins with the word
pub record AreBlocksOf (lines : List (List ℕ)) (bs : List Block) : Type 0 where
  pub begun : map start_of bs ≡ starts (lines_of lines)
  pub follow : FollowOn 0 bs (length lines)
  pub titles : All (λ b. is_title_kind b.kind ≡ true → AllPass is_empty_line (lines_below lines b)) bs
  pub usages : All (λ b. is_usage_kind b.kind ≡ true → is_usage_line (get_or lines b.first []) ≡ true) bs

-- where blocks begin as the rules say, they can end so
abbrev pub EachLineIsInABlock : Type 0
EachLineIsInABlock = (lines : List (List ℕ)) → (bs : List Block) × AreBlocksOf lines bs
