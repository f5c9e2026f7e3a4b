-- The laws of the equality and the order of documents, which their implementations cite.
use Rattle.std.specs.Prelude.{◌≡◌}
use Rattle.bpaf_doc.specs.Words.{refl, List, Part, part_bytes}
use Rattle.std.specs.Ordering.{eq_by_cmp, as_partial_cmp}
use Rattle.std.specs.Cmp.Lexicographic.{lists_ties, texts_ties}
use Rattle.std.specs.Cmp.{IsEquivalence, IsTotalOrder, IsPartialOrder, partial_order_from_agreeing_total, unsigned_ties}
use Rattle.std.proofs.lemmas.Cmp.{lists_equiv, and_equiv, on_equiv, nat_eq_equiv, nat_list_eq_equiv, lists_total, then_total, on_total, nat_cmp_total, nat_list_cmp_total}
use Rattle.bpaf_roff.proofs.lemmas.Ties.{both_orders_tied}
use Rattle.bpaf_doc.specs.Buffer.Equality.{kind_number, label_number, same_part, same_document, part_cmp, document_cmp}

pub documents_equiv : IsEquivalence same_document
documents_equiv =
    lists_equiv (and_equiv (on_equiv kind_number nat_eq_equiv)
    (and_equiv (on_equiv part_bytes nat_list_eq_equiv) (on_equiv label_number nat_eq_equiv)))

pub documents_total : IsTotalOrder document_cmp
documents_total =
    lists_total (then_total (on_total kind_number nat_cmp_total)
    (then_total (on_total part_bytes nat_list_cmp_total) (on_total label_number nat_cmp_total)))

part_tied : (x y : Part) → same_part x y ≡ eq_by_cmp part_cmp x y
part_tied =
    both_orders_tied _ _ _ _ (λ x y. unsigned_ties (kind_number x) (kind_number y))
    (both_orders_tied _ _ _ _ (λ x y. texts_ties (part_bytes x) (part_bytes y))
    (λ x y. unsigned_ties (label_number x) (label_number y)))

-- the order agrees with equality
pub documents_tied : (ps qs : List Part) → same_document ps qs ≡ eq_by_cmp document_cmp ps qs
documents_tied = lists_ties part_cmp part_tied

pub documents_partial : IsPartialOrder same_document (as_partial_cmp document_cmp)
documents_partial = partial_order_from_agreeing_total document_cmp documents_total (λ x y. refl) documents_tied
