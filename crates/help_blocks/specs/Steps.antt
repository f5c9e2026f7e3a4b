-- What one more line makes of what is known of those above it, and of the blocks.
use Rattle.std.specs.Prelude.{ℕ, ◌+◌, ◌&&◌, List, [], ◌∷◌, ◌++◌, Option, Some, None, if◌then◌else◌}
use Rattle.help_blocks.specs.declared.shape.Shape.{Shape}
use Rattle.help_blocks.specs.declared.place.Kind.{Kind}
use Rattle.help_blocks.specs.declared.place.Place.{Place}
use Rattle.help_blocks.specs.declared.subject.Subject.{Subject}
use Rattle.help_blocks.specs.declared.cut.Block.{Block}
use Rattle.help_blocks.specs.Above.{is_title, says, opened_by, help_by}

abbrev pub title_after : (title : Option ℕ) → Shape → Option Kind → Option ℕ
title_after title s begun = if is_title begun then Some s.indent else title

abbrev pub subject_after : Subject → Shape → Option Kind → Subject
subject_after subject s begun = if is_title begun && says s.subject then s.subject else subject

abbrev pub help_after : (help : Option ℕ) → Shape → Option ℕ
help_after help s = if s.is_empty then help else Some s.indent

abbrev pub after : Place → Shape → Option Kind → Place
after p s begun = record {
  block = opened_by begun s p.block;
  title = title_after p.title s begun;
  subject = subject_after p.subject s begun;
  help = help_by begun s p.help;
  is_after_blank = s.is_empty;
}

abbrev pub lengthened : List Block → (end : ℕ) → List Block
lengthened [] end = []
lengthened (b ∷ []) end = record b { end = end } ∷ []
lengthened (b ∷ c ∷ bs) end = b ∷ lengthened (c ∷ bs) end

abbrev pub with_line : List Block → (number : ℕ) → Option Kind → List Block
with_line bs n None = lengthened bs (n + 1)
with_line bs n (Some k) = bs ++ (record { kind = k; first = n; end = n + 1 } ∷ [])
