-- What values of the code say.
use Rattle.std.specs.Prelude.{ℕ, Bool, true, false, List, Option, bytes_eq, map}
use Rattle.std.specs.Borrow.{Bor}
use Rattle.std.specs.List.{list_any}
use Rattle.std.specs.Option.{option_map}
use Rattle.drafts.specs.declared.DraftError.{DraftError}
use Rattle.drafts.specs.declared.DraftError.TheVariants as fault
use Rattle.drafts.specs.declared.passages.Passage.{Passage}
use Rattle.drafts.specs.declared.entries.ValueFront.{ValueFront}
use Rattle.drafts.specs.declared.entries.Keys.{Keys}
use Rattle.drafts.specs.declared.free.Words.{Words}
use Rattle.drafts.specs.declared.free.FreeFront.{FreeFront}
use Rattle.help_fronts.specs.View.{said, used_said}
use Rattle.toml_pieces.specs.View.{text_of}
use Rattle.drafts.specs.Free.{FreeSaid, Has}
use Rattle.drafts.specs.declared.taken.Taken.{Taken}
use Rattle.drafts.specs.declared.taken.Marked.{Marked}
use Rattle.drafts.specs.declared.places.Placed.{Placed}
use Rattle.drafts.specs.Places.{MarkedSaid, PlacedSaid, TakenSaid}
use Rattle.drafts.specs.declared.strays.Stray.{Stray}
use Rattle.drafts.specs.Strays.{StraySaid}
use Rattle.drafts.specs.declared.usages.Form.{Form}
use Rattle.drafts.specs.Usages.{FormSaid}
use Rattle.drafts.specs.Passages.{PassageSaid}
use Rattle.drafts.specs.Entries.{ValueSaid}
use Rattle.drafts.specs.declared.notes.Note.{Note}
use Rattle.drafts.specs.declared.notes.Notes.{Notes}
use Rattle.drafts.specs.declared.notes.Cut.{Cut}
use Rattle.drafts.specs.Notes.{CutSaid, NoteSaid, NotesSaid}

abbrev pub passage_said : Passage → PassageSaid
passage_said p = record { kind = p.kind; lines = map (λ line. line.now) p.lines.now }

abbrev pub value_said : ValueFront → ValueSaid
value_said v = record { front = v.front.now; help = v.help.now }

abbrev pub words_of : {A : Type 0} → Keys A → List (List ℕ)
words_of keys = map (λ k. k.now) keys.words.items

abbrev pub keys_said : {A : Type 0} → Option (Keys A) → Option (List (List ℕ))
keys_said keys = option_map words_of keys

-- whether a word is taken
abbrev pub held : {A : Type 0} → Words A → Has
held w word = list_any (λ held. bytes_eq word held.now) w.words.keys

abbrev pub free_said : {A : Type 0} → FreeFront A → FreeSaid
free_said f = record { front = said f.front; is_whole = f.is_whole }

abbrev pub taken_said : {A : Type 0} → Taken A → TakenSaid
taken_said t = record { options = held t.options; commands = held t.commands }

abbrev pub marked_said : Marked → MarkedSaid
marked_said m = record { passage = passage_said m.passage; is_written = m.is_written }

abbrev pub placed_said : Placed → PlacedSaid
placed_said p = record { passage = passage_said p.passage; role = p.role }

abbrev pub form_said : Form → FormSaid
form_said f = record { is_marked = f.is_marked; text = f.text.now }

abbrev pub is_nameless : DraftError → Bool
is_nameless fault.NoName = true
is_nameless (fault.Memory error) = false

abbrev pub stray_said : Stray → StraySaid
stray_said s = record { is_letter = s.is_letter; option = used_said s.option }

abbrev pub split_said : Option (Bor (List ℕ) × Bor (List ℕ)) → Option (List ℕ × List ℕ)
split_said found = option_map (λ p. (p.0.now, p.1.now)) found

abbrev pub note_said : Note → NoteSaid
note_said n = record { kind = n.kind; text = n.text.now }

abbrev pub ended_said : Option (Bor (List ℕ) × Note) → Option (List ℕ × NoteSaid)
ended_said found = option_map (λ p. (p.0.now, note_said p.1)) found

abbrev pub notes_said : Notes → NotesSaid
notes_said n = record {
  preset = text_of n.preset;
  values = text_of n.values;
  env = text_of n.env;
  are_single = n.are_single;
}

abbrev pub cut_said : Cut → CutSaid
cut_said c = record { rest = c.rest.now; notes = notes_said c.notes }
