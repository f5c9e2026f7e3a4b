-- What the code knows of a byte, by how many brackets are open around it.
use Rattle.std.specs.Prelude.{ℕ, ◌==◌, nat_lt, Bool, ◌&&◌, if◌then◌else◌}
use Rattle.description_usage.specs.Forms.{stand_in}
use Rattle.description_usage.specs.Syntax.{is_closing, is_opening}

-- how many are open before a byte and after it, and the fewest after a later one
abbrev pub is_lone_at : ℕ → (before after lowest : ℕ) → Bool
is_lone_at b before after lowest = if is_opening b then nat_lt before lowest else is_closing b && after == before

abbrev pub shaped_byte : ℕ → (before after lowest : ℕ) → ℕ
shaped_byte b before after lowest = if is_lone_at b before after lowest then stand_in b else b
