-- What a line has above it: lines that have been read, the nearest first, each
-- with the kind of block that it begins, if any.
use Rattle.std.specs.Prelude.{ℕ, Bool, true, false, ◌&&◌, List, [], ◌∷◌, Option, Some, None, if◌then◌else◌}
use Rattle.help_blocks.specs.declared.shape.Shape.{Shape}
use Rattle.help_blocks.specs.declared.place.Kind.{Kind}
use Rattle.help_blocks.specs.declared.place.Kind.TheVariants as kind
use Rattle.help_blocks.specs.declared.place.Open.{Open}
use Rattle.help_blocks.specs.declared.place.Place.{Place}
use Rattle.help_blocks.specs.declared.subject.Subject.{Subject}
use Rattle.help_blocks.specs.declared.subject.Subject.TheVariants as subject

pub record Line : Type 0 where
  pub shape : Shape
  pub begun : Option Kind

abbrev pub is_value : Kind → Bool
is_value kind.Value = true
is_value _ = false

abbrev pub opened : Kind → Shape → Open
opened k s = record { kind = k; indent = s.indent; is_choice = is_value k && s.is_choice; is_typed = s.is_typed }

abbrev pub opened_by : Option Kind → Shape → (otherwise : Option Open) → Option Open
opened_by (Some k) s o = Some (opened k s)
opened_by None s o = o

-- the block of the nearest line that begins one
abbrev pub open_block : (above : List Line) → Option Open
open_block [] = None
open_block (l ∷ ls) = opened_by l.begun l.shape (open_block ls)

abbrev pub is_title : Option Kind → Bool
is_title (Some kind.Title) = true
is_title _ = false

-- the indent of the nearest title
abbrev pub title_indent : (above : List Line) → Option ℕ
title_indent [] = None
title_indent (l ∷ ls) = if is_title l.begun then Some l.shape.indent else title_indent ls

abbrev pub says : Subject → Bool
says subject.Unsaid = false
says _ = true

-- the subject of the nearest title that says one
abbrev pub nearest_subject : (above : List Line) → Subject
nearest_subject [] = subject.Unsaid
nearest_subject (l ∷ ls) = if is_title l.begun && says l.shape.subject then l.shape.subject else nearest_subject ls

abbrev pub help_by : Option Kind → Shape → (otherwise : Option ℕ) → Option ℕ
help_by (Some k) s o = None
help_by None s o = if s.is_empty then o else Some s.indent

-- the indent of the nearest line that is not empty, if it goes on with a block
abbrev pub help_indent : (above : List Line) → Option ℕ
help_indent [] = None
help_indent (l ∷ ls) = help_by l.begun l.shape (help_indent ls)

-- whether the line right above is empty, or there is none
abbrev pub is_after_blank : (above : List Line) → Bool
is_after_blank [] = true
is_after_blank (l ∷ ls) = l.shape.is_empty

abbrev pub place_of : (above : List Line) → Place
place_of above = record {
  block = open_block above;
  title = title_indent above;
  subject = nearest_subject above;
  help = help_indent above;
  is_after_blank = is_after_blank above;
}
