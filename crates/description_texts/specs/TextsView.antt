-- What the steps of the code say.
use Rattle.std.specs.Prelude.{◌≡◌, ◌==◌, ℕ, ◌+◌, ◌<◌, length, slice_index, Bool, false, not, ◌&&◌, ◌||◌, if◌then◌else◌, List, [], ◌∷◌, ◌++◌, flat_map}
use Rattle.std.specs.List.{list_all}
use Rattle.page_model.specs.Content.{BlockSaid}
use Rattle.page_model.specs.View.{line_of}
use Rattle.description_texts.specs.Texts.{begins_fence, block_said, is_fence}
use Rattle.description_texts.specs.TextsInside.{Draft, begins_quote, is_link_front, is_quote, is_white, lone_parts}
use Rattle.description_texts.specs.declared.texts.pieces.Pieces.{Pieces}

-- pieces that are gathered, and the words after them
abbrev pub draft_of : {A : Type 0} → Pieces A → Draft
draft_of gathering = record {
  pieces = line_of gathering.pieces.items;
  words = flat_map (λ text. text.now) gathering.words.items;
}

-- a text that is cut at its first backquote with no other beside it
pub record IsLoneCut (text before after : List ℕ) : Type 0 where
  pub parts : lone_parts text ≡ before ∷ lone_parts after
  pub apart : begins_quote after ≡ false
  pub whole : text ≡ before ++ 96 ∷ after

-- a link in a text, by the place where it begins and the length of its address
pub record IsLinkAt (text : List ℕ) (at len : ℕ) : Type 0 where
  pub opens : slice_index text at ≡ 60
  pub closes : slice_index text (at + 1 + len) ≡ 62
  pub within : at + 1 + len < length text

-- whether a byte stays as it is where it stands, after white space or the start of the line or not
abbrev pub stays_here : ℕ → (after_white : Bool) → Bool
stays_here b after_white = if is_white b then b == 32 && not after_white else not (is_quote b || is_link_front b)

-- whether a line is words with one blank between two, none of which is more than words
abbrev pub says_itself : (after_white : Bool) → List ℕ → Bool
says_itself after_white [] = not after_white
says_itself after_white (b ∷ line) = stays_here b after_white && says_itself (b == 32) line

-- what is said of the lines of a block
abbrev pub own_said : List (List ℕ) → List BlockSaid
own_said [] = []
own_said (first ∷ more) = block_said first more

-- whether a line belongs to no block, in a fence that has no lines so far or not
abbrev pub says_nothing : (in_fence : Bool) → List ℕ → Bool
says_nothing in_fence line = if in_fence then begins_fence line else (list_all is_white line || is_fence line)

-- and whether the next one stands in such a fence
abbrev pub opens : (in_fence : Bool) → List ℕ → Bool
opens in_fence line = not in_fence && is_fence line
