-- Keys are compared by what they say.
use Rattle.std.proofs.Common.{◌≡◌, refl, Some, None}
use Rattle.description.specs.declared.options.Name.TheVariants as name
use Rattle.description_pages.specs.Keys.{key_said, same_key}
use Rattle.description_pages.specs.declared.keys.EntryKey.{EntryKey}
use Rattle.description_pages.specs.declared.keys.EntryKey.TheVariants as key
use Rattle.description_pages.specs.contracts.keys.EntryKeyPartialEq.TheImpl.{ghosts}

pub keys_agree : (k l : EntryKey) → ghosts.eq k l ≡ same_key (key_said k) (key_said l)
keys_agree (key.Names (name.Short c) None) (key.Names (name.Short d) None) = refl
keys_agree (key.Names (name.Short c) None) (key.Names (name.Short d) (Some w)) = refl
keys_agree (key.Names (name.Short c) (Some v)) (key.Names (name.Short d) None) = refl
keys_agree (key.Names (name.Short c) (Some v)) (key.Names (name.Short d) (Some w)) = refl
keys_agree (key.Names (name.Short c) v) (key.Names (name.Long u) w) = refl
keys_agree (key.Names (name.Short c) v) (key.Names (name.Both d u) w) = refl
keys_agree (key.Names (name.Long t) v) (key.Names (name.Short d) w) = refl
keys_agree (key.Names (name.Long t) None) (key.Names (name.Long u) None) = refl
keys_agree (key.Names (name.Long t) None) (key.Names (name.Long u) (Some w)) = refl
keys_agree (key.Names (name.Long t) (Some v)) (key.Names (name.Long u) None) = refl
keys_agree (key.Names (name.Long t) (Some v)) (key.Names (name.Long u) (Some w)) = refl
keys_agree (key.Names (name.Long t) v) (key.Names (name.Both d u) w) = refl
keys_agree (key.Names (name.Both c t) v) (key.Names (name.Short d) w) = refl
keys_agree (key.Names (name.Both c t) v) (key.Names (name.Long u) w) = refl
keys_agree (key.Names (name.Both c t) None) (key.Names (name.Both d u) None) = refl
keys_agree (key.Names (name.Both c t) None) (key.Names (name.Both d u) (Some w)) = refl
keys_agree (key.Names (name.Both c t) (Some v)) (key.Names (name.Both d u) None) = refl
keys_agree (key.Names (name.Both c t) (Some v)) (key.Names (name.Both d u) (Some w)) = refl
keys_agree (key.Names n v) (key.Syntax m) = refl
keys_agree (key.Names n v) (key.Word m) = refl
keys_agree (key.Names n v) (key.Command m) = refl
keys_agree (key.Syntax n) (key.Names m w) = refl
keys_agree (key.Syntax n) (key.Syntax m) = refl
keys_agree (key.Syntax n) (key.Word m) = refl
keys_agree (key.Syntax n) (key.Command m) = refl
keys_agree (key.Word n) (key.Names m w) = refl
keys_agree (key.Word n) (key.Syntax m) = refl
keys_agree (key.Word n) (key.Word m) = refl
keys_agree (key.Word n) (key.Command m) = refl
keys_agree (key.Command n) (key.Names m w) = refl
keys_agree (key.Command n) (key.Syntax m) = refl
keys_agree (key.Command n) (key.Word m) = refl
keys_agree (key.Command n) (key.Command m) = refl
