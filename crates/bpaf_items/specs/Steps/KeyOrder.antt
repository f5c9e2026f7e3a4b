-- The laws of the equality, the order and the hash of keys, which their implementations cite.
use Rattle.std.specs.Prelude.{◌&&◌, ◌≡◌}
use Rattle.bpaf_items.specs.Words.{ℕ, Bool, true, List, Option, Some, None, nat_eq, refl, nat_cmp, eq_by_cmp, as_partial_cmp, bytes_decides, texts_ties, options_total, IsEquivalence, IsTotalOrder, IsPartialOrder, partial_order_from_agreeing_total, eq_by_cmp_equiv, unsigned_ties, unsigned_Decides, first_so, second_so, Part, same_document, same_text, document_cmp, Name, short, long, both}
use Rattle.std.proofs.Common.{ap, sym, subst}
use Rattle.std.proofs.lemmas.Cmp.{then_total, on_total, nat_cmp_total, nat_list_cmp_total}
use Rattle.bpaf_roff.proofs.lemmas.Ties.{options_tied, both_orders_tied}
use Rattle.bpaf_doc.specs.Buffer.Steps.Order.{documents_total, documents_tied}
use Rattle.bpaf_doc.proofs.lemmas.Buffer.Equality.{equality_of_parts}
use Rattle.bpaf_meta.specs.Names.{short_name}
use Rattle.bpaf_items.specs.Listing.Keys.{Key, any_key, word_key, flag_key, argument_key, name_form_number, name_text, name_cmp, same_name, same_help, key_class, key_document, key_name, key_text, key_help, key_input, key_cmp, same_key}

names_total : IsTotalOrder name_cmp
names_total = then_total (on_total name_form_number nat_cmp_total)
    (then_total (on_total short_name (options_total nat_cmp_total)) (on_total name_text nat_list_cmp_total))

pub keys_total : IsTotalOrder key_cmp
keys_total =
    then_total (on_total key_class nat_cmp_total)
    (then_total (on_total key_document documents_total)
    (then_total (on_total key_name (options_total names_total))
    (then_total (on_total key_text nat_list_cmp_total) (on_total key_help (options_total documents_total)))))

names_tied : (n m : Name) → same_name n m ≡ eq_by_cmp name_cmp n m
names_tied =
    both_orders_tied _ _ _ _ (λ n m. unsigned_ties (name_form_number n) (name_form_number m))
    (both_orders_tied _ _ _ _ (λ n m. options_tied nat_eq nat_cmp unsigned_ties (short_name n) (short_name m))
    (λ n m. texts_ties (name_text n) (name_text m)))

-- the order agrees with equality
pub keys_tied : (k l : Key) → same_key k l ≡ eq_by_cmp key_cmp k l
keys_tied =
    both_orders_tied _ _ _ _ (λ k l. unsigned_ties (key_class k) (key_class l))
    (both_orders_tied _ _ _ _ (λ k l. documents_tied (key_document k) (key_document l))
    (both_orders_tied _ _ _ _ (λ k l. options_tied same_name name_cmp names_tied (key_name k) (key_name l))
    (both_orders_tied _ _ _ _ (λ k l. texts_ties (key_text k) (key_text l))
    (λ k l. options_tied same_document document_cmp documents_tied (key_help k) (key_help l)))))

pub keys_equiv : IsEquivalence same_key
keys_equiv = subst (λ (eq : Key → Key → Bool). IsEquivalence eq) (λ i k l. sym (keys_tied k l) i)
    (eq_by_cmp_equiv keys_total)

pub keys_partial : IsPartialOrder same_key (as_partial_cmp key_cmp)
keys_partial = partial_order_from_agreeing_total key_cmp keys_total (λ k l. refl) keys_tied

-- ---- equal keys say the same, and so feed a hasher the same

pub texts_are : (xs ys : List ℕ) → same_text xs ys ≡ true → xs ≡ ys
texts_are xs ys = (bytes_decides xs ys).0

names_are : (n m : Name) → same_name n m ≡ true → n ≡ m
names_are (short c) (short d) h = ap short ((unsigned_Decides c d).0 (first_so (nat_eq c d) true h))
names_are (long n) (long m) h = ap long (texts_are n m h)
names_are (both c n) (both d m) h =
    cc ((unsigned_Decides c d).0 (first_so (nat_eq c d) _ h), texts_are n m (second_so (nat_eq c d) _ h))
names_are n m h = cc

helps_are : (h i : Option (List Part)) → same_help h i ≡ true → h ≡ i
helps_are (Some d) (Some e) h = ap Some ((equality_of_parts d e).0 h)
helps_are None None h = refl
helps_are h i e = cc

pub keys_are : (k l : Key) → same_key k l ≡ true → k ≡ l
keys_are (any_key m h) (any_key n i) e =
    cc ((equality_of_parts m n).0 (first_so (same_document m n) _ e), helps_are h i (second_so (same_document m n) _ e))
keys_are (word_key m h) (word_key n i) e =
    cc (texts_are m n (first_so (same_text m n) _ e), helps_are h i (second_so (same_text m n) _ e))
keys_are (flag_key m h) (flag_key n i) e =
    cc (names_are m n (first_so (same_name m n) _ e), helps_are h i (second_so (same_name m n) _ e))
keys_are (argument_key m v h) (argument_key n w i) e =
    let rest = second_so (same_name m n) (same_text v w && same_help h i) e in
    cc (
      names_are m n (first_so (same_name m n) _ e),
      texts_are v w (first_so (same_text v w) _ rest),
      helps_are h i (second_so (same_text v w) _ rest),
    )
keys_are k l e = cc

pub key_fed : (k l : Key) → same_key k l ≡ true → key_input k ≡ key_input l
key_fed k l e = ap key_input (keys_are k l e)
