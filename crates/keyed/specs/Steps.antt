-- What private functions say of the parts of a text that is read.
use Rattle.std.specs.Prelude.{◌≡◌, ℕ, List, ◌∷◌, Some, string_bytes, ⊤}
use Rattle.toml_parser.specs.Lexical.{Read}
use Rattle.toml.specs.Data.{Data, Items}
use Rattle.toml_parser.specs.Strings.{recursion_limit}
use Rattle.toml.specs.Tables.{Nodes, Document, Expression}
use Rattle.toml.specs.Parse.{val, items, members, expression, lines}
use Rattle.keyed.specs.declared.entries.Entry.{Entry}
use Rattle.keyed.specs.declared.entries.Line.{Line}
use Rattle.keyed.specs.declared.entries.Line.TheVariants.{Header, Pair}
use Rattle.keyed.specs.Places.{ReadsEntry, ReadsInside}

-- where something is read, this follows it
abbrev pub Ends : {A : Type 0} → Read A → List ℕ → Type 0
Ends {A} read rest = (p : A × List ℕ) → read ≡ Some p → rest ≡ p.1

-- something is read
abbrev pub IsRead : {A : Type 0} → Read A → Type 0
IsRead {A} read = (p : A × List ℕ) × (read ≡ Some p)

-- the text is the end of an array, of an inline table and of a document
abbrev pub EndsArray : (List ℕ → Read Data) → List ℕ → Type 0
EndsArray val text = (n : ℕ) × (found : Items) × IsRead (items val n found text)

abbrev pub EndsTable : (List ℕ → Read Data) → List ℕ → Type 0
EndsTable val text = (n : ℕ) × (found : Nodes) × IsRead (members val n found text)

abbrev pub EndsDocument : List ℕ → Type 0
EndsDocument text = (n : ℕ) × (doc : Document) × (final : Document) × (lines n doc text ≡ Some final)

-- the entry stands there, and so in a bracket
abbrev pub Stands : Entry → Type 0
Stands e = ReadsEntry (string_bytes e.closing) e.from.now e.following.now

abbrev pub StandsInside : Entry → Type 0
StandsInside e = (bracket : ℕ) × (outer : List ℕ) × (string_bytes e.closing ≡ bracket ∷ outer)
    × ReadsInside bracket e.from.now e.following.now

-- the value of a pair is read, where the line is
abbrev pub HasValue : List ℕ → Line → Type 0
HasValue text (Header key is_array) = ⊤
HasValue text (Pair key value) = IsRead (expression text) → IsRead (val recursion_limit value.now)

-- a pair with this value stands there, and this follows it
abbrev pub HasEntry : List ℕ → List ℕ → List ℕ → Type 0
HasEntry text following value = ((e : Expression) × (expression text ≡ Some (e, following))) × IsRead (val recursion_limit value)

-- the line stands there, and this follows it
abbrev pub HasLine : List ℕ → List ℕ → Line → Type 0
HasLine text following line = ((e : Expression) × (expression text ≡ Some (e, following))) × HasValue text line
