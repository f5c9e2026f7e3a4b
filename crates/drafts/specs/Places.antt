-- Where each passage of a help text goes.
use Rattle.std.specs.Prelude.{ℕ, ◌==◌, ◌||◌, ◌&&◌, Bool, true, false, not, List, [], ◌∷◌, if◌then◌else◌, length, nat_lt, Option, None, Some}
use Rattle.std.specs.List.{list_all, list_any, slice_index}
use Rattle.std.specs.Str.{trim}
use Rattle.page_model.specs.Permitted.{are_permitted}
use Rattle.help_fronts.specs.Bytes.{is_blank}
use Rattle.help_blocks.specs.declared.place.Kind.{Kind}
use Rattle.help_blocks.specs.declared.place.Kind.TheVariants as kind
use Rattle.drafts.specs.Seen.{is_heading, is_usual, last, title_text}
use Rattle.drafts.specs.Passages.{PassageSaid, first_line}
use Rattle.drafts.specs.Free.{Has, none_taken, with_keys}
use Rattle.drafts.specs.Entries.{entry_keys}
use Rattle.drafts.specs.declared.places.Part.{Part}
use Rattle.drafts.specs.declared.places.Part.TheVariants as part
use Rattle.drafts.specs.declared.places.Role.{Role}
use Rattle.drafts.specs.declared.places.Role.TheVariants as role
use Rattle.drafts.specs.declared.places.Above.{Above}
use Rattle.drafts.specs.declared.places.Sought.{Sought}
use Rattle.drafts.specs.declared.places.Sought.TheVariants as sought

-- ---- which entries are written: those that a description takes with the names that are free

pub record TakenSaid : Type 0 where
  pub options : Has
  pub commands : Has

abbrev pub nothing_taken : TakenSaid
nothing_taken = record { options = none_taken; commands = none_taken }

abbrev pub is_command : Kind → Bool
is_command kind.Command = true
is_command _ = false

abbrev pub taken_by : Kind → TakenSaid → Has
taken_by k t = if is_command k then t.commands else t.options

abbrev pub keys_by : TakenSaid → PassageSaid → Option (List (List ℕ))
keys_by t p = entry_keys (taken_by p.kind t) p

abbrev pub is_given : Option (List (List ℕ)) → Bool
is_given None = false
is_given (Some keys) = true

abbrev pub begins_with_command : List PassageSaid → Bool
begins_with_command [] = false
begins_with_command (p ∷ ps) = is_command p.kind

abbrev pub is_value : Kind → Bool
is_value kind.Value = true
is_value _ = false

-- `{go,stop}` above the commands, which is left out
abbrev pub is_choice_of_commands : PassageSaid → (below : List PassageSaid) → Bool
is_choice_of_commands p below =
    is_value p.kind && (slice_index (trim (first_line p.lines)) 0 == 123 && begins_with_command below)

abbrev pub is_written : TakenSaid → PassageSaid → (below : List PassageSaid) → Bool
is_written t p below = is_given (keys_by t p) && not (is_choice_of_commands p below)

abbrev pub with_entry : Has → Option (List (List ℕ)) → Has
with_entry has None = has
with_entry has (Some keys) = with_keys has keys

abbrev pub taken_with : (is_command : Bool) → Option (List (List ℕ)) → TakenSaid → TakenSaid
taken_with true keys t = record { options = t.options; commands = with_entry t.commands keys }
taken_with false keys t = record { options = with_entry t.options keys; commands = t.commands }

abbrev pub taken_after : TakenSaid → PassageSaid → TakenSaid
taken_after t p = taken_with (is_command p.kind) (keys_by t p) t

pub record MarkedSaid : Type 0 where
  pub passage : PassageSaid
  pub is_written : Bool

abbrev pub marked_from : TakenSaid → List PassageSaid → List MarkedSaid
marked_from t [] = []
marked_from t (p ∷ ps) = record { passage = p; is_written = is_written t p ps } ∷ marked_from (taken_after t p) ps

abbrev pub marked : List PassageSaid → List MarkedSaid
marked ps = marked_from nothing_taken ps

-- ---- what stands below a title

abbrev pub is_title : Kind → Bool
is_title kind.Title = true
is_title _ = false

abbrev pub is_entry : Kind → Bool
is_entry kind.Option = true
is_entry kind.Command = true
is_entry kind.Value = true
is_entry _ = false

abbrev pub is_prose : Kind → Bool
is_prose kind.Text = true
is_prose kind.Code = true
is_prose _ = false

-- whether one that passes the test stands before the next title
abbrev pub has_below : (test : MarkedSaid → Bool) → List MarkedSaid → Bool
has_below test [] = false
has_below test (m ∷ ms) = if is_title m.passage.kind then false else (test m || has_below test ms)

-- three backquotes
abbrev pub is_fence : (text : List ℕ) → Bool
is_fence text = slice_index text 0 == 96 && (slice_index text 1 == 96 && slice_index text 2 == 96)

abbrev pub says : (text : List ℕ) → Bool
says text = nat_lt 0 (length text) && not (is_fence text)

-- a line with something in it that is not the fence of some code
abbrev pub is_said : (line : List ℕ) → Bool
is_said line = says (trim line)

-- what the text of a topic needs
abbrev pub is_body : MarkedSaid → Bool
is_body m = is_prose m.passage.kind && (list_all are_permitted m.passage.lines && list_any is_said m.passage.lines)

abbrev pub is_at : Sought → MarkedSaid → Bool
is_at sought.Entry m = is_entry m.passage.kind
is_at sought.Written m = m.is_written
is_at sought.Body m = is_body m

-- a list is a group if it has a title that is not usual, and an entry that is written
abbrev pub list_part : (title : List ℕ) → List MarkedSaid → Part
list_part title below =
    if (is_heading title && not (is_usual title)) && has_below (is_at sought.Written) below then part.Group
    else part.List

abbrev pub text_part : (title : List ℕ) → List MarkedSaid → Part
text_part title below = if is_heading title && has_below (is_at sought.Body) below then part.Topic else part.Loose

abbrev pub part_below : (title : List ℕ) → List MarkedSaid → Part
part_below title below = if has_below (is_at sought.Entry) below then list_part title below else text_part title below

-- ---- roles, by what stands above

-- above all entries, and not below both a usage and a text about the program
abbrev pub is_about : Above → Bool
is_about a = not a.has_entry && not (a.has_usage && a.has_about)

abbrev pub around_lists : Above → Role
around_lists a = if a.has_entry then role.Footer else role.Header

-- a line with a colon at its end leads to what stands below it
abbrev pub leads_on : (line : List ℕ) → Bool
leads_on line = last (trim line) == 58

-- a text: what is said about the program, or what stands before the first entry, or after it
abbrev pub first_role : (leads_on : Bool) → Above → Role
first_role leads_on a = if is_about a && not leads_on then role.About else around_lists a

-- text at the left edge, below what is indented, ends a topic
abbrev pub is_at_edge : PassageSaid → Bool
is_at_edge p = nat_lt 0 (length (first_line p.lines)) && not (is_blank (slice_index (first_line p.lines) 0))

abbrev pub is_topic : Part → Bool
is_topic part.Topic = true
is_topic _ = false

abbrev pub ends_topic : PassageSaid → Above → Bool
ends_topic p a = (is_topic a.part && a.is_indented) && (is_prose p.kind && is_at_edge p)

abbrev pub text_role : Part → (leads_on : Bool) → Above → Role
text_role part.Topic leads_on a = role.InTopic
text_role part.First leads_on a = first_role leads_on a
text_role _ leads_on a = around_lists a

-- a title that is no heading is a text, and that of a group without members is left out
abbrev pub list_title_role : (title : List ℕ) → Above → Role
list_title_role title a =
    if is_usual title then role.Usual
    else if is_heading title then role.LeftOut
    else around_lists a

abbrev pub title_role : Part → (title : List ℕ) → Above → Role
title_role part.Group title a = role.Group
title_role part.List title a = list_title_role title a
title_role part.Topic title a = role.Topic
title_role _ title a = around_lists a

abbrev pub entry_role : Part → (is_written : Bool) → Role
entry_role p false = role.LeftOut
entry_role part.Group true = role.Member
entry_role _ true = role.Entry

-- `own` is the part that a title begins
abbrev pub kind_role : Kind → (own : Part) → MarkedSaid → Above → Role
kind_role kind.Usage own m a = role.Usage
kind_role kind.Title own m a = title_role own (title_text (first_line m.passage.lines)) a
kind_role kind.Text own m a = text_role own (leads_on (first_line m.passage.lines)) a
kind_role kind.Code own m a = text_role own (leads_on (first_line m.passage.lines)) a
kind_role _ own m a = entry_role a.part m.is_written

abbrev pub is_empty : (lines : List (List ℕ)) → Bool
is_empty lines = length lines == 0

abbrev pub role_in : (own : Part) → MarkedSaid → Above → Role
role_in own m a =
    if is_empty m.passage.lines then role.Nothing
    else if list_all are_permitted m.passage.lines then kind_role m.passage.kind own m a
    else role.LeftOut

-- a text may hold its lines, and there are some
abbrev pub is_kept : PassageSaid → Bool
is_kept p = not (is_empty p.lines) && list_all are_permitted p.lines

abbrev pub title_part : PassageSaid → (below : List MarkedSaid) → Part
title_part p below = if is_kept p then part_below (title_text (first_line p.lines)) below else part.Loose

-- the part that a passage is in or begins
abbrev pub own_part : MarkedSaid → (below : List MarkedSaid) → Above → Part
own_part m below a =
    if is_title m.passage.kind then title_part m.passage below
    else if ends_topic m.passage a then part.Loose
    else a.part

abbrev pub role_of : MarkedSaid → (below : List MarkedSaid) → Above → Role
role_of m below a = role_in (own_part m below a) m a

abbrev pub is_about_role : Role → Bool
is_about_role role.About = true
is_about_role _ = false

abbrev pub is_usage_role : Role → Bool
is_usage_role role.Usage = true
is_usage_role _ = false

-- what a topic has before text at the edge may end it
abbrev pub is_indented_body : MarkedSaid → Bool
is_indented_body m = is_body m && not (is_at_edge m.passage)

abbrev pub above_after : (own : Part) → Role → MarkedSaid → Above → Above
above_after own r m a = record {
  part = own;
  has_usage = a.has_usage || is_usage_role r;
  has_about = a.has_about || is_about_role r;
  has_entry = a.has_entry || is_entry m.passage.kind;
  is_indented = not (is_title m.passage.kind) && (a.is_indented || is_indented_body m);
}

abbrev pub above_with : MarkedSaid → (below : List MarkedSaid) → Above → Above
above_with m below a = above_after (own_part m below a) (role_of m below a) m a

abbrev pub nothing_above : Above
nothing_above = record { part = part.First; has_usage = false; has_about = false; has_entry = false; is_indented = false }

pub record PlacedSaid : Type 0 where
  pub passage : PassageSaid
  pub role : Role

abbrev pub placed_from : Above → List MarkedSaid → List PlacedSaid
placed_from a [] = []
placed_from a (m ∷ ms) = record { passage = m.passage; role = role_of m ms a } ∷ placed_from (above_with m ms a) ms

-- each passage of a help text, with its one role
abbrev pub placed : List PassageSaid → List PlacedSaid
placed ps = placed_from nothing_above (marked ps)
