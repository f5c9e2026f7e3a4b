-- Keys are equal exactly where they say the same, and so are types.
use Rattle.std.proofs.Common.{◌≡◌, true, subst, arith}
use Rattle.std.proofs.lemmas.Bool.{eqb-true}
use denote.Enum.Bare.{tag_one}
use Rattle.bpaf_items.specs.declared.meta_help.entry.HiTy.{HiTy}
use Rattle.bpaf_items.specs.contracts.meta_help.entry.HiTy as hity
use Rattle.bpaf_items.specs.Listing.Keys.{same_key, IsEqualityOfKeys, IsOrderOfKeys}
use Rattle.bpaf_items.specs.Steps.KeyOrder.{keys_are, keys_equiv, keys_total, keys_tied}
use Rattle.bpaf_items.specs.Listing.Falls.{same_type}
use Rattle.bpaf_items.specs.Listing.ListLaws.{IsEqualityOfTypes}

pub equality_of_keys : IsEqualityOfKeys
equality_of_keys k l = (λ h. keys_are k l h, λ e. subst (λ m. same_key k m ≡ true) e (keys_equiv.refl k))

pub order_of_keys : IsOrderOfKeys
order_of_keys = record { total = keys_total; tied = keys_tied }

type_itself : (k : HiTy) → same_type k k ≡ true
type_itself k = grind arith

pub equality_of_types : IsEqualityOfTypes
equality_of_types j k = (λ h. tag_one hity.the_type tt j k (eqb-true _ _ h), λ e. subst (λ m. same_type j m ≡ true) e (type_itself j))
