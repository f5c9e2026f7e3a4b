-- A level that follows another on its page.
use Rattle.std.proofs.Common.{◌≡◌, List, [], ◌∷◌, ◌++◌, ap, ◌∙◌, append_assoc}
use Rattle.page_model.specs.Content.{PartSaid, heading}
use Rattle.page_model.specs.declared.parts.Rank.TheVariants.{Page}
use Rattle.description_pages.specs.Levels.{PageSaid}

-- its title was put, and then the parts of its page
pub below_put : (parts_of : PageSaid → List PartSaid) (old titled new : List PartSaid) (page said : PageSaid) → page ≡ said → titled ≡ old ++ heading Page page.title ∷ [] → new ≡ titled ++ parts_of page → new ≡ old ++ heading Page said.title ∷ parts_of said
below_put parts_of old titled new page said is one all =
    all ∙ ap (λ parts. parts ++ parts_of page) one ∙ append_assoc old (heading Page page.title ∷ []) (parts_of page)
    ∙ ap (λ p. old ++ heading Page p.title ∷ parts_of p) is
