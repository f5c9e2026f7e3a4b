-- Why a page is not made, and that one that is made has no fault.
use Rattle.std.proofs.Common.{◌≡◌, ◌⊎◌, inl, arith, refl, IfErr, IfOk, Option, Some, None, Result, Ok, Err}
use Rattle.std.specs.Prelude.{alloc_error}
use Rattle.web_page.specs.declared.errors.PageError.{PageError}
use Rattle.web_page.specs.declared.errors.PageError.TheVariants.{Refused}
use Rattle.html_page.specs.Promises as html
use Rattle.page_model.specs.Faults.{FailsOnlyBy}
use Rattle.page_model.specs.declared.fault.PageFault.{PageFault}
use Rattle.command_pages.specs.Pages.{MayFailBy}

-- a medium that fails as it says
pub failing : {T : Type 0} (fault : Option PageFault) (result : Result T PageFault) → FailsOnlyBy fault result → MayFailBy fault result
failing fault (Ok t) fails = tt
failing None (Err error) fails = inl fails
failing (Some f) (Err error) fails = grind (fails, arith)

pub permitted : {T : Type 0} (fault : Option PageFault) (result : Result T PageFault) → FailsOnlyBy fault result → IfOk result (λ _. fault ≡ None)
permitted None (Ok t) fails = refl
permitted None (Err error) fails = tt
permitted (Some f) (Ok t) fails = absurd cc
permitted (Some f) (Err error) fails = tt

-- a page in HTML that fails as it says
pub failing_html : {T : Type 0} (fault : Option PageError) (result : Result T PageError) → html.FailsBy fault result → IfErr result (λ error. (error ≡ Refused alloc_error) ⊎ (fault ≡ Some error))
failing_html fault (Ok t) fails = tt
failing_html fault (Err error) fails = fails

pub permitted_html : {T : Type 0} (fault : Option PageError) (result : Result T PageError) → html.FailsBy fault result → IfOk result (λ _. fault ≡ None)
permitted_html fault (Ok t) fails = fails
permitted_html fault (Err error) fails = tt
