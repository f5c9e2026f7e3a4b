-- Where the commands of a page lead, and why a page is not made.
use Rattle.std.proofs.Common.{◌≡◌, ◌⊎◌, inl, inr, ℕ, ◌+◌, ◌<◌, List, drop, get_or, length, Option, Some, None, Result, IfErr, refl, sym, ap, ◌∙◌, arith}
use Rattle.std.specs.Prelude.{alloc_error, option_and_then, option_map}
use Rattle.std.specs.Borrow.{Bor}
use Rattle.page_model.specs.declared.fault.PageFault.{PageFault}
use Rattle.page_model.specs.declared.fault.PageFault.TheVariants as writing
use Rattle.web_page.specs.declared.errors.PageError.{PageError}
use Rattle.web_page.specs.declared.errors.PageError.TheVariants as making
use Rattle.description.specs.Content.{DescriptionSaid, CommandSaid}
use Rattle.description_pages.specs.Levels.{SubjectSaid}
use Rattle.description_pages.specs.Subjects.{below, command_named, led_to}
use Rattle.clidoc_engine.specs.declared.faults.Fault.{Fault}
use Rattle.clidoc_engine.specs.Chosen.{commands_of, words_said}
use Rattle.clidoc_engine.specs.Faults.{IfNoCommand, IfNoPage, fault_of_medium, fault_of_page}
use Rattle.clidoc_engine.specs.Inputs.{Describes}
use Rattle.command_pages.specs.Pages.{level_at}
use Rattle.clidoc_engine.specs.Rendering.{IsUnwritable}
use Rattle.clidoc_engine.specs.Runs.{HasNoCommand, HasUnwritablePage}
use Rattle.clidoc_engine.specs.Steps.{IsLost, IsNoCommand, IsUnmade}
use Rattle.clidoc_engine.specs.Words.{PageSaid}
use Rattle.clidoc_engine.proofs.Gathered.{next_word}

then_below : (words : List (List ℕ)) (s t : SubjectSaid) (o : Option CommandSaid) → Some t ≡ option_map (below s) o → led_to words t ≡ option_and_then (λ m. led_to words (below s m)) o
then_below words s t None e = grind (e, arith)
then_below words s t (Some m) e = grind (e, arith)

then_nowhere : (words : List (List ℕ)) (s : SubjectSaid) (o : Option CommandSaid) → None ≡ option_map (below s) o → None ≡ option_and_then (λ m. led_to words (below s m)) o
then_nowhere words s None e = refl
then_nowhere words s (Some m) e = grind (e, arith)

module _ (words : List (Bor (List ℕ))) (i : ℕ) (s : SubjectSaid) (x d : Bor (List ℕ)) (at : x ≡ get_or words i d) (h : i < length words) where
  first : led_to (words_said (drop i words)) s ≡ option_and_then (λ m. led_to (words_said (drop (i + 1) words)) (below s m)) (command_named x.now s.level)
  first = ap (λ ws. led_to ws s) (next_word words i d h) ∙ ap (λ y. option_and_then (λ m. led_to (words_said (drop (i + 1) words)) (below s m)) (command_named y.now s.level)) (sym at)

  pub led_on : (t : SubjectSaid) → Some t ≡ option_map (below s) (command_named x.now s.level) → led_to (words_said (drop (i + 1) words)) t ≡ led_to (words_said (drop i words)) s
  led_on t e = then_below (words_said (drop (i + 1) words)) s t (command_named x.now s.level) e ∙ sym first

  pub led_nowhere : None ≡ option_map (below s) (command_named x.now s.level) → led_to (words_said (drop i words)) s ≡ None
  led_nowhere e = first ∙ sym (then_nowhere (words_said (drop (i + 1) words)) s (command_named x.now s.level) e)

pub lost : (commands : List (List ℕ)) (d : DescriptionSaid) (fault : Fault) → IsNoCommand fault → level_at commands d ≡ None → IsLost commands d fault
lost commands d fault h3 h4 = grind arith

-- ---- a page that is not made

pub lost_unmade : (p : PageSaid) (d : DescriptionSaid) (fault : Fault) → IsLost (commands_of p) d fault → IsUnmade p d fault
lost_unmade p d fault h3 = grind arith

pub unmade : {T : Type 0} (p : PageSaid) (d : DescriptionSaid) (r : Result T Fault) → IfErr r (IsLost (commands_of p) d) → IfErr r (IsUnmade p d)
unmade p d r h3 = grind (arith, lost_unmade)

unwritten_as : (p : PageSaid) (d : DescriptionSaid) (fault : Option PageError) (error : PageError) → (error ≡ making.Refused alloc_error) ⊎ (fault ≡ Some error) → ¬ (error ≡ making.Refused alloc_error) → (fault ≡ Some error → IsUnwritable p d error) → IsUnwritable p d error
unwritten_as p d fault error (inl refused) other unwritable = absurd (other refused)
unwritten_as p d fault error (inr same) other unwritable = unwritable same

pub unwritten_html : (p : PageSaid) (d : DescriptionSaid) (fault : Option PageError) (error : PageError) → (error ≡ making.Refused alloc_error) ⊎ (fault ≡ Some error) → (fault ≡ Some error → IsUnwritable p d error) → IsUnmade p d (fault_of_page error)
unwritten_html p d fault error fails unwritable = grind (arith, unwritten_as)

pub unwritten : (p : PageSaid) (d : DescriptionSaid) (fault : Option PageFault) (error : PageFault) → (error ≡ writing.Refused alloc_error) ⊎ (fault ≡ Some error) → (fault ≡ Some writing.Character → IsUnwritable p d making.Character) → IsUnmade p d (fault_of_medium error)
unwritten p d fault (writing.Refused e) fails unwritable = tt
unwritten p d fault writing.Character (inl refused) unwritable = grind (refused, arith)
unwritten p d fault writing.Character (inr same) unwritable = unwritable same

lost_command : (p : PageSaid) (file text : List ℕ) (d : DescriptionSaid) (fault : Fault) → Describes file text d → IsUnmade p d fault → IfNoCommand fault (HasNoCommand p file text)
lost_command p file text d fault h4 h5 = grind arith

pub lost_page : {T : Type 0} (p : PageSaid) (file text : List ℕ) (d : DescriptionSaid) (r : Result T Fault) → Describes file text d → IfErr r (IsUnmade p d) → IfErr r (λ fault. IfNoCommand fault (HasNoCommand p file text))
lost_page p file text d r h4 h5 = grind (arith, lost_command)

no_page : (p : PageSaid) (file text : List ℕ) (d : DescriptionSaid) (fault : Fault) → Describes file text d → IsUnmade p d fault → IfNoPage fault (λ error. HasUnwritablePage p error file text)
no_page p file text d fault h4 h5 = grind arith

pub not_made : {T : Type 0} (p : PageSaid) (file text : List ℕ) (d : DescriptionSaid) (r : Result T Fault) → Describes file text d → IfErr r (IsUnmade p d) → IfErr r (λ fault. IfNoPage fault (λ error. HasUnwritablePage p error file text))
not_made p file text d r h4 h5 = grind (arith, no_page)
