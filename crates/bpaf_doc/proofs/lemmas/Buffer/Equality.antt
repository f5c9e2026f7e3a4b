-- Equal documents have the same parts.
use Rattle.std.specs.Prelude.{◌∷◌, ◌≡◌}
use Rattle.bpaf_doc.proofs.lemmas.Buffer.Words.{arith, Bool, true, List, subst, Part}
use Rattle.std.specs.Cmp.Lexicographic.{pointwise}
use Rattle.std.proofs.lemmas.Bool.{eqb-true, and_parts}
use Rattle.bpaf_doc.specs.Buffer.Equality.{IsEqualityOfParts, same_document, same_part}
use Rattle.bpaf_doc.specs.Buffer.Steps.Order.{documents_equiv}

pointwise_is : {X : Type 0} (same : X → X → Bool) → ((x y : X) → same x y ≡ true → x ≡ y) → (xs ys : List X) → pointwise same xs ys ≡ true → xs ≡ ys
pointwise_is same tells (x ∷ xs) (y ∷ ys) h = grind (arith, pointwise_is same tells xs ys, and_parts)
pointwise_is same tells z u h = grind arith

same_part_is : (p q : Part) → same_part p q ≡ true → p ≡ q
same_part_is p q h = grind (arith, and_parts, pointwise_is, eqb-true)

pub equality_of_parts : IsEqualityOfParts
equality_of_parts ps qs = (λ h. pointwise_is same_part same_part_is ps qs h, λ e. subst (λ rs. same_document ps rs ≡ true) e (documents_equiv.refl ps))
