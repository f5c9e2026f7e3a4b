-- A page that is begun, filled and finished.
use Rattle.std.proofs.Common.{◌≡◌, List, refl, sym, ap, ◌∙◌, Option, Some, None, Result, Ok, Err, IsErrAnd, inl, inr, subst}
use Rattle.std.specs.Prelude.{alloc_error, ◌⊎◌}
use Rattle.web_page.specs.Reader.{Draft}
use Rattle.web_page.specs.Calls.{FailsOnlyBy, finish_fault}
use Rattle.web_page.specs.declared.errors.PageError.{PageError}
use Rattle.web_page.specs.declared.errors.PageError.TheVariants.{Refused}
use Rattle.html_page.specs.Events.{Event, events_fault, first_fault, with_events}
use Rattle.html_page.specs.Promises.{FailsBy}
use Rattle.html_page.specs.Steps.{blamed, failed, said, so_far}
use Rattle.html_page.proofs.Outcomes.{blamed_cases, said_drafted, said_faultless, said_faulty}

-- an error that is passed on
pub handed_on : {T : Type 0} (fault : Option PageError) (r : Result T PageError) (error : PageError) → IsErrAnd r (λ other. other ≡ error) → (error ≡ Refused alloc_error) ⊎ (fault ≡ Some error) → FailsBy fault r
handed_on fault (Ok made) error same fails = absurd same
handed_on fault (Err other) error same fails = subst (λ e. (e ≡ Refused alloc_error) ⊎ (fault ≡ Some e)) (sym same) fails

pub head_is_fine : {T : Type 0} (head : Option PageError) (made : T) → FailsOnlyBy head (Ok made) → head ≡ None
head_is_fine None made fails = refl
head_is_fine (Some fault) made fails = absurd cc

-- of the page that was begun
pub put_on : (d0 begun d1 : Draft) (events : List Event) → d0 ≡ begun → so_far d1 ≡ said d0 events → so_far d1 ≡ said begun events
put_on d0 begun d1 events is put = put ∙ ap (λ d. said d events) is

pub blamed_on : (d0 begun : Draft) (events : List Event) (error : PageError) → d0 ≡ begun → blamed error (said d0 events) ≡ failed error → blamed error (said begun events) ≡ failed error
blamed_on d0 begun events error is put = sym (ap (λ d. blamed error (said d events)) is) ∙ put

pub body_fails : (head next : Option PageError) (d0 : Draft) (events : List Event) (error : PageError) → head ≡ None → blamed error (said d0 events) ≡ failed error
    → (error ≡ Refused alloc_error) ⊎ (first_fault head (first_fault (events_fault d0 events) next) ≡ Some error)
body_fails head next d0 events error fine e = elim (blamed_cases error (said d0 events) e) [
  | inl refused ↦ inl refused
  | inr same ↦ inr (ap (λ f. first_fault f (first_fault (events_fault d0 events) next)) fine ∙ ap (λ f. first_fault f next) (said_faulty error d0 events same))
]

end_fails : {T : Type 0} (fault : Option PageError) (r : Result T PageError) → FailsOnlyBy fault r → FailsBy fault r
end_fails None (Ok made) fails = refl
end_fails None (Err error) fails = inl fails
end_fails (Some fault) (Ok made) fails = absurd cc
end_fails (Some fault) (Err error) fails = let same : error ≡ fault = cc in inr (ap Some (sym same))

fails_same : {T : Type 0} (f g : Option PageError) (r : Result T PageError) → f ≡ g → FailsBy f r → FailsBy g r
fails_same f g (Ok made) e fine = sym e ∙ fine
fails_same f g (Err error) e (inl refused) = inl refused
fails_same f g (Err error) e (inr is) = inr (sym e ∙ is)

pub whole_fails : {T : Type 0} (head : Option PageError) (d0 d1 : Draft) (events : List Event) (r : Result T PageError) → head ≡ None → so_far d1 ≡ said d0 events → FailsOnlyBy (finish_fault d1) r
    → FailsBy (first_fault head (first_fault (events_fault d0 events) (finish_fault (with_events d0 events)))) r
whole_fails head d0 d1 events r fine put fails =
    fails_same (finish_fault d1) (first_fault head (first_fault (events_fault d0 events) (finish_fault (with_events d0 events)))) r
    (ap finish_fault (said_drafted d0 d1 events put)
    ∙ sym (ap (λ f. first_fault f (first_fault (events_fault d0 events) (finish_fault (with_events d0 events)))) fine
    ∙ ap (λ f. first_fault f (finish_fault (with_events d0 events))) (said_faultless d0 d1 events put)))
    (end_fails (finish_fault d1) r fails)
