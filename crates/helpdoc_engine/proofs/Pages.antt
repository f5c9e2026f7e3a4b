-- The promises of the renderers make pages.
use Rattle.std.specs.Prelude.{◌≡◌, ℕ, true, false, List, Result, Ok, Err, IfOk, String, string_bytes}
use Rattle.std.proofs.Common.{subst, sym, ◌∙◌}
use Rattle.std.proofs.lemmas.List.{append-nil}
use Rattle.std.proofs.lemmas.Str.{IsUtf8-string_bytes}
use Rattle.bpaf_doc.specs.Buffer.Parts.{Part, IsWellNested}
use Rattle.bpaf_doc.specs.Html.Page.{IsHtmlOf, IsHtmlPageOf}
use Rattle.helpdoc_engine.specs.declared.words.Form.{Form}
use Rattle.helpdoc_engine.specs.Rendering.{IsPage, IsRendering, page_bytes}

-- a text for which both hold is a page
pub page_of_text : {A : Type 0} (title : List (List ℕ)) (form : Form) (document : List Part) (text : String A)
    → IsRendering title form document (string_bytes text) → string_bytes text ≡ page_bytes title form document → IsPage title form document (string_bytes text)
page_of_text title form document text rendering exact = record { utf8 = IsUtf8-string_bytes text; rendering = rendering; exact = exact }

-- and so is what a renderer returns
pub page_of_answer : {A E : Type 0} (title : List (List ℕ)) (form : Form) (document : List Part) (result : Result (String A) E)
    → IfOk result (λ text. IsRendering title form document (string_bytes text)) → IfOk result (λ text. string_bytes text ≡ page_bytes title form document)
    → IfOk result (λ text. IsPage title form document (string_bytes text))
page_of_answer title form document (Ok text) rendering exact = page_of_text title form document text rendering exact
page_of_answer title form document (Err error) rendering exact = tt

-- without a style sheet the page of a well-nested document is the HTML alone
pub html_alone : (document : List Part) (answer : List ℕ) → IsWellNested document → (IsWellNested document → IsHtmlPageOf document true false answer) → IsHtmlOf document true answer
html_alone document answer nested promise =
    let page = promise nested in
    subst (λ bs. IsHtmlOf document true bs) (sym (page.2 ∙ append-nil page.0)) page.1

pub html_of_answer : {A E : Type 0} (document : List Part) (result : Result (String A) E) → IsWellNested document
    → IfOk result (λ text. IsWellNested document → IsHtmlPageOf document true false (string_bytes text)) → IfOk result (λ text. IsHtmlOf document true (string_bytes text))
html_of_answer document (Ok text) nested promise = html_alone document (string_bytes text) nested promise
html_of_answer document (Err error) nested promise = tt
