-- The names of files that are written before they take their places.
use Rattle.std.specs.Prelude.{codes, ℕ, List, ◌++◌}
use Rattle.hex.specs.Hex.{encode_lower}

-- a dot, the name of the place, a dot, what was drawn in hexadecimal digits, and `.new`
abbrev pub beside_name : (place drawn : List ℕ) → List ℕ
beside_name place drawn = codes "." ++ place ++ codes "." ++ encode_lower drawn ++ codes ".new"
