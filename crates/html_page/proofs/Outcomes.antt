-- What calls say of a page, one after another.
use Rattle.std.proofs.Common.{◌≡◌, List, [], ◌∷◌, ◌++◌, fold, refl, sym, ap, ◌∙◌, arith, append_assoc, append-nil, Option, Some, None, Result, Ok, Err, OnOk, IfErr, inl, inr}
use Rattle.std.specs.Prelude.{alloc_error, ◌⊎◌}
use Rattle.std.proofs.lemmas.Grind.{fold-append}
use Rattle.std.proofs.lemmas.List.{drop_more}
use Rattle.web_page.specs.Reader.{Draft}
use Rattle.web_page.specs.Calls.{FailsOnlyBy}
use Rattle.web_page.specs.declared.errors.PageError.{PageError}
use Rattle.web_page.specs.declared.errors.PageError.TheVariants as errors
use Rattle.web_page.specs.declared.errors.PageError.TheVariants.{Refused}
use Rattle.html_page.specs.Events.{Event, event_fault, events_fault, first_fault, with_event, with_events}
use Rattle.html_page.specs.Steps.{Outcome, so_far, failed, Puts, blamed, said, step, told}

-- ---- errors

pub blamed_refused : (error : PageError) (outcome : Outcome) → error ≡ Refused alloc_error → blamed error outcome ≡ failed error
unfolding blamed
blamed_refused error outcome e = rw e refl

blamed_fault : (error : PageError) (outcome : Outcome) → outcome ≡ failed error → blamed error outcome ≡ failed error
unfolding blamed
blamed_fault errors.Language outcome e = e
blamed_fault errors.Title outcome e = e
blamed_fault errors.Style outcome e = e
blamed_fault errors.Character outcome e = e
blamed_fault errors.Id outcome e = e
blamed_fault errors.Misplaced outcome e = e
blamed_fault errors.NoInk outcome e = e
blamed_fault (errors.Refused refused) outcome e = refl

pub blamed_cases : (error : PageError) (outcome : Outcome) → blamed error outcome ≡ failed error → (error ≡ Refused alloc_error) ⊎ (outcome ≡ failed error)
unfolding blamed
blamed_cases errors.Language outcome e = inr e
blamed_cases errors.Title outcome e = inr e
blamed_cases errors.Style outcome e = inr e
blamed_cases errors.Character outcome e = inr e
blamed_cases errors.Id outcome e = inr e
blamed_cases errors.Misplaced outcome e = inr e
blamed_cases errors.NoInk outcome e = inr e
blamed_cases (errors.Refused refused) outcome e = inl refl

-- ---- one call

step_opened : (d : Draft) (event : Event) → step (so_far d) event ≡ told (event_fault d event) (with_event d event)
unfolding step
step_opened d event = refl

pub puts_one : {T : Type 0} (d0 d1 : Draft) (event : Event) (r : Result T PageError) → OnOk r (d1 ≡ with_event d0 event) → FailsOnlyBy (event_fault d0 event) r → Puts d0 (event ∷ []) d1 r
puts_one d0 d1 event r ok fails = by (event_fault d0 event) refl r ok fails where
  by : {T : Type 0} (f : Option PageError) → event_fault d0 event ≡ f → (r : Result T PageError) → OnOk r (d1 ≡ with_event d0 event) → FailsOnlyBy f r → Puts d0 (event ∷ []) d1 r
  by None e (Ok made) ok fails = sym (step_opened d0 event ∙ ap (λ f. told f (with_event d0 event)) e ∙ ap so_far (sym ok))
  by None e (Err error) ok fails = blamed_refused error (said d0 (event ∷ [])) fails
  by (Some fault) e (Ok made) ok fails = absurd cc
  by (Some fault) e (Err error) ok fails =
      let same : error ≡ fault = cc in
      blamed_fault error (said d0 (event ∷ [])) (step_opened d0 event ∙ ap (λ f. told f (with_event d0 event)) e ∙ ap failed (sym same))

-- ---- one after another

failed_stays : (error : PageError) (events : List Event) → fold step (failed error) events ≡ failed error
unfolding step
failed_stays error [] = refl
failed_stays error (event ∷ events) = failed_stays error events

pub blamed_more : (error : PageError) (outcome : Outcome) (events : List Event) → blamed error outcome ≡ failed error → blamed error (fold step outcome events) ≡ failed error
blamed_more error outcome events e = elim (blamed_cases error outcome e) [
  | inl refused ↦ blamed_refused error (fold step outcome events) refused
  | inr same ↦ blamed_fault error (fold step outcome events) (ap (λ o. fold step o events) same ∙ failed_stays error events)
]

pub blamed_step : (error : PageError) (outcome : Outcome) (event : Event) → blamed error outcome ≡ failed error → blamed error (step outcome event) ≡ failed error
blamed_step error outcome event e = blamed_more error outcome (event ∷ []) e

pub ruleset putting = (blamed_step, blamed_more, blamed_refused, fold-append, append_assoc, append-nil, drop_more)

-- ---- the whole

said_next : (d0 : Draft) (event : Event) (events : List Event) (f : Option PageError) → event_fault d0 event ≡ f → said d0 (event ∷ events) ≡ fold step (told f (with_event d0 event)) events
said_next d0 event events f e = ap (λ o. fold step o events) (step_opened d0 event ∙ ap (λ f. told f (with_event d0 event)) e)

-- what is said after an event is known, where the event has no fault
pub said_drafted : (d0 d1 : Draft) (events : List Event) → so_far d1 ≡ said d0 events → d1 ≡ with_events d0 events
said_drafted d0 d1 [] e = cc
said_drafted d0 d1 (event ∷ events) e = by (event_fault d0 event) refl (said_drafted (with_event d0 event) d1 events) where
  by : (f : Option PageError) → event_fault d0 event ≡ f → (so_far d1 ≡ said (with_event d0 event) events → d1 ≡ with_events (with_event d0 event) events) → d1 ≡ with_events (with_event d0 event) events
  by None h next = next (e ∙ said_next d0 event events None h)
  by (Some fault) h next =
      let stopped : so_far d1 ≡ failed fault = e ∙ said_next d0 event events (Some fault) h ∙ failed_stays fault events in
      absurd cc

pub said_faultless : (d0 d1 : Draft) (events : List Event) → so_far d1 ≡ said d0 events → events_fault d0 events ≡ None
said_faultless d0 d1 [] e = refl
said_faultless d0 d1 (event ∷ events) e = by (event_fault d0 event) refl (said_faultless (with_event d0 event) d1 events) where
  by : (f : Option PageError) → event_fault d0 event ≡ f → (so_far d1 ≡ said (with_event d0 event) events → events_fault (with_event d0 event) events ≡ None)
      → first_fault (event_fault d0 event) (events_fault (with_event d0 event) events) ≡ None
  by None h next = ap (λ f. first_fault f (events_fault (with_event d0 event) events)) h ∙ next (e ∙ said_next d0 event events None h)
  by (Some fault) h next =
      let stopped : so_far d1 ≡ failed fault = e ∙ said_next d0 event events (Some fault) h ∙ failed_stays fault events in
      absurd cc

pub said_faulty : (error : PageError) (d0 : Draft) (events : List Event) → said d0 events ≡ failed error → events_fault d0 events ≡ Some error
said_faulty error d0 [] e = absurd cc
said_faulty error d0 (event ∷ events) e = by (event_fault d0 event) refl (said_faulty error (with_event d0 event) events) where
  by : (f : Option PageError) → event_fault d0 event ≡ f → (said (with_event d0 event) events ≡ failed error → events_fault (with_event d0 event) events ≡ Some error)
      → first_fault (event_fault d0 event) (events_fault (with_event d0 event) events) ≡ Some error
  by None h next = ap (λ f. first_fault f (events_fault (with_event d0 event) events)) h ∙ next (sym (said_next d0 event events None h) ∙ e)
  by (Some fault) h next =
      let stopped : failed error ≡ failed fault = sym e ∙ said_next d0 event events (Some fault) h ∙ failed_stays fault events in
      let same : error ≡ fault = cc in
      ap (λ f. first_fault f (events_fault (with_event d0 event) events)) h ∙ ap Some (sym same)
