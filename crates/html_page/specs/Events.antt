-- What is said of a page, one thing after another. Each is what a call on the page adds, with the fault of that call.
use Rattle.std.specs.Prelude.{ℕ, List, [], ◌∷◌, ◌++◌, fold, codes, Option, Some, None}
use Rattle.web_page.specs.Tree.{none}
use Rattle.web_page.specs.Reader.{Draft, with_element, with_start}
use Rattle.web_page.specs.Calls.{attribute, child_fault, end_fault, id_fault, link_fault, text_fault, with_end, with_text}
use Rattle.web_page.specs.declared.elements.Child.TheVariants.{Inner}
use Rattle.web_page.specs.declared.elements.Element.{Element}
use Rattle.web_page.specs.declared.elements.Tag.TheVariants.{A, Br, Of}
use Rattle.web_page.specs.declared.errors.PageError.{PageError}

-- the start of an element, of one with an id, or of a link; a text; a line break;
-- or the end of the element that was started last
pub data Event : Type 0 where
  start : Element → Event
  start_with_id : Element → (id : List ℕ) → Event
  start_link : (target : List ℕ) → Event
  say : List ℕ → Event
  break_line : Event
  end : Event

abbrev pub with_event : Draft → Event → Draft
with_event draft (start e) = with_start draft (Of e) []
with_event draft (start_with_id e id) = with_start draft (Of e) (attribute (codes "id") id)
with_event draft (start_link target) = with_start draft A (attribute (codes "href") target)
with_event draft (say bytes) = with_text draft bytes
with_event draft break_line = with_element draft Br [] none
with_event draft end = with_end draft

-- a page after all of them, in order
abbrev pub with_events : Draft → List Event → Draft
with_events = fold with_event

-- ---- faults

abbrev pub event_fault : Draft → Event → Option PageError
event_fault draft (start e) = child_fault draft (Inner (Of e))
event_fault draft (start_with_id e id) = id_fault draft e id
event_fault draft (start_link target) = link_fault draft target
event_fault draft (say bytes) = text_fault draft bytes
event_fault draft break_line = child_fault draft (Inner Br)
event_fault draft end = end_fault draft

-- the first of two faults, if there is one
abbrev pub first_fault : Option PageError → Option PageError → Option PageError
first_fault (Some fault) next = Some fault
first_fault None next = next

-- the first fault of all of them, each on the page that those before it leave
abbrev pub events_fault : Draft → List Event → Option PageError
events_fault draft [] = None
events_fault draft (event ∷ events) = first_fault (event_fault draft event) (events_fault (with_event draft event) events)

-- ---- elements

abbrev pub inside : Element → List Event → List Event
inside e content = start e ∷ content ++ end ∷ []

abbrev pub inside_with_id : Element → (id : List ℕ) → List Event → List Event
inside_with_id e id content = start_with_id e id ∷ content ++ end ∷ []

abbrev pub link : (target : List ℕ) → List Event → List Event
link target content = start_link target ∷ content ++ end ∷ []

-- a link to the element of this id
abbrev pub link_to : (id : List ℕ) → List Event → List Event
link_to id content = link (codes "#" ++ id) content

-- an element that holds a text alone
abbrev pub text_in : Element → List ℕ → List Event
text_in e bytes = inside e (say bytes ∷ [])
