-- How the running ends cut the payload of a document into its parts.
use Rattle.std.specs.Prelude.{if◌then◌else◌, ◌+◌, ◌-◌, ◌<◌, ◌^◌, ◌∷◌, ◌≡◌, ◌≤◌}
use Rattle.bpaf_doc.specs.Words.{ℕ, zero, suc, Bool, false, List, [], length, take, drop, IsUtf8, Style, Part, Text, Start, End}
use Rattle.bpaf_doc.specs.declared.buffer.{Kind.Kind, PartEnd.PartEnd}
use Rattle.bpaf_doc.specs.declared.buffer.Kind.TheVariants as kind
use Rattle.bpaf_doc.specs.Buffer.Writes.{same_style}

-- the part of this kind with these bytes; a mark has none
abbrev pub part_with : Kind → List ℕ → Part
part_with (kind.Text style) bytes = Text bytes style
part_with (kind.Start b) bytes = Start b
part_with (kind.End b) bytes = End b

-- The parts with these ends, where `rest` is the payload from `start` on: each reaches from the previous end to its
-- own.
abbrev pub parts_from : ℕ → List PartEnd → List ℕ → List Part
parts_from start [] rest = []
parts_from start (e ∷ es) rest =
    part_with e.kind (take (e.end - start) rest) ∷ parts_from e.end es (drop (e.end - start) rest)

-- a text may have any number of bytes, and a mark has none
abbrev pub MayTake : Kind → ℕ → Type 0
MayTake (kind.Text style) bytes = Unit {0}
MayTake _ bytes = bytes ≡ 0

-- a part's end is not below the previous end, and lies within the payload, between two characters
pub record IsEnd (start : ℕ) (e : PartEnd) (rest : List ℕ) : Type 0 where
  pub not_below : start ≤ e.end
  pub within : e.end - start ≤ length rest
  pub utf8 : IsUtf8 (take (e.end - start) rest)
  pub taken : MayTake e.kind (e.end - start)

-- each is an end, and the last one is the end of the payload
abbrev pub AreEnds : ℕ → List PartEnd → List ℕ → Type 0
AreEnds start [] rest = rest ≡ []
AreEnds start (e ∷ es) rest = IsEnd start e rest × AreEnds e.end es (drop (e.end - start) rest)

-- where the part at a place starts, if the first one starts at `start`
abbrev pub end_before : ℕ → List PartEnd → ℕ → ℕ
end_before start es zero = start
end_before start [] (suc place) = start
end_before start (e ∷ es) (suc place) = end_before e.end es place

-- a text's end
abbrev pub text_end : Style → ℕ → PartEnd
text_end style end = record { kind = kind.Text style; end = end }

-- a text of this style
abbrev pub is_text_of : Kind → Style → Bool
is_text_of (kind.Text other) style = same_style other style
is_text_of _ style = false

-- a last end, and after it a text that ends here: if the last end is that of a text of the same style, it is replaced
abbrev pub end_then_text : PartEnd → Style → ℕ → List PartEnd
end_then_text e style end = if is_text_of e.kind style then text_end style end ∷ [] else e ∷ text_end style end ∷ []

-- the ends, and after them a text that ends here
abbrev pub with_text_end : List PartEnd → Style → ℕ → List PartEnd
with_text_end [] style end = text_end style end ∷ []
with_text_end (e ∷ []) style end = end_then_text e style end
with_text_end (e ∷ f ∷ es) style end = e ∷ with_text_end (f ∷ es) style end

-- the ends with the last one moved here
abbrev pub with_last_end : List PartEnd → ℕ → List PartEnd
with_last_end [] end = []
with_last_end (e ∷ []) end = record { kind = e.kind; end = end } ∷ []
with_last_end (e ∷ f ∷ es) end = e ∷ with_last_end (f ∷ es) end

-- the end of a part whose text moves from `from` in one payload to `to` in another
abbrev pub moved : ℕ → ℕ → PartEnd → PartEnd
moved from to e = record { kind = e.kind; end = e.end - from + to }

-- the end is not before `from`, and where it moves to fits a `usize`
abbrev pub CanMove : ℕ → ℕ → PartEnd → Type 0
CanMove from to e = (from ≤ e.end) × (e.end - from + to < 2 ^ 64)
