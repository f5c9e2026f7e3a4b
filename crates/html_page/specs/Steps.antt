-- What the steps of the code leave. Internal: no promise cites it.
pub mod Counts
pub mod View
use Rattle.std.specs.Prelude.{◌≡◌, List, fold, Option, Some, None, Result, Ok, Err}
use Rattle.web_page.specs.Reader.{Draft}
use Rattle.web_page.specs.declared.errors.PageError.{PageError}
use Rattle.web_page.specs.declared.errors.PageError.TheVariants.{Refused}
use Rattle.html_page.specs.Events.{Event, event_fault, with_event}

-- a page so far, or the fault of what was said last
pub data Outcome : Type 0 where
  so_far : Draft → Outcome
  failed : PageError → Outcome

abbrev pub told : Option PageError → Draft → Outcome
told None draft = so_far draft
told (Some fault) draft = failed fault

abbrev pub told_of : Outcome → Event → Outcome
told_of (so_far draft) event = told (event_fault draft event) (with_event draft event)
told_of (failed fault) event = failed fault

unfoldable pub step : Outcome → Event → Outcome
step outcome event = told_of outcome event

-- what is said on a page, one thing after another, up to the first fault
abbrev pub said : Draft → List Event → Outcome
said draft events = fold step (so_far draft) events

-- what an error says of an outcome: a refusal says nothing
abbrev pub blamed_of : PageError → Outcome → Outcome
blamed_of (Refused refused) outcome = failed (Refused refused)
blamed_of error outcome = outcome

unfoldable pub blamed : PageError → Outcome → Outcome
blamed error outcome = blamed_of error outcome

-- a call said these things of a page, in order, or failed at one of them, or for want of memory
abbrev pub Puts : {T : Type 0} → (old : Draft) → List Event → (new : Draft) → Result T PageError → Type 0
Puts old events new (Ok made) = so_far new ≡ said old events
Puts old events new (Err error) = blamed error (said old events) ≡ failed error
