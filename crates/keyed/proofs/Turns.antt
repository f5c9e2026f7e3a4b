-- What a text that is read says of its parts, a turn of the grammar at a time.
use Rattle.std.proofs.Common.{◌≡◌, ℕ, zero, suc, ◌-◌, ◌<◌, true, false, ◌==◌, List, [], length, drop, Option, Some, None, option_map, refl, sym, ap, ◌∙◌, arith}
use Rattle.std.proofs.Common.{slice_index, Result, Ok, Err, IfOk, IfSome, Bor, ◌∷◌, ◌++◌, ◌+◌, take, string_bytes, inl, inr}
use Rattle.std.proofs.lemmas.Option.{none-some, same_Some, cond_some, option_and_then_some, IfSome_then}
use Rattle.std.specs.Option.{MatchOption}
use Rattle.std.specs.Str.Pattern.{FindsTextSuffix}
use Rattle.toml_parser.specs.Lexical.{Read, first, skip_blank}
use Rattle.toml_parser.specs.Strings.{Key, quoted, starts_string}
use Rattle.toml_parser.specs.Numbers.{unquoted}
use Rattle.toml_parser.specs.declared.scalar.Scalar.{Scalar}
use Rattle.toml_parser.specs.declared.error.ParseError.{ParseError}
use Rattle.toml.specs.Data.{Data, Items, no_items, Members, string, push_item}
use Rattle.toml_parser.specs.Lexical.{skip_ws}
use Rattle.toml_parser.specs.Strings.{recursion_limit}
use Rattle.toml.specs.Tables.{Nodes, no_nodes, put, Document, Expression, std_table, array_table, define, close}
use Rattle.toml.specs.Parse.{header_key}
use Rattle.toml.specs.Parse.{read_map, scalar_data, atom, val, after_element, key_equals, keyval, items, members, ends_line, expression, line, lines, skip_bom, parse_document}
use Rattle.toml.proofs.Turns.{val_open_array, val_open_table}
use Rattle.keyed.specs.Steps.{Ends, EndsArray, EndsTable, EndsDocument, Stands, StandsInside}
use Rattle.keyed.specs.declared.entries.Entry.{Entry}
use Rattle.std.specs.declared.alloc.AllocError.{AllocError}

pub ends_there : {A : Type 0} (read : Read A) (q : A × List ℕ) → read ≡ Some q → Ends read q.1
ends_there read q e = λ p h. ap (λ z. z.1) (same_Some q p (sym e ∙ h))

pub read_map_some : {A B : Type 0} (f : A → B) (r : Read A) (p : B × List ℕ) → read_map f r ≡ Some p
    → (x : A) × (r ≡ Some (x, p.1)) × (f x ≡ p.0)
read_map_some f None p e = absurd (none-some p e)
read_map_some f (Some q) p e =
    let s = same_Some (f q.0, q.1) p e in
    (q.0, ap (λ z. Some (q.0, z.1)) s, ap (λ z. z.0) s)

pub atom_quoted : (text t rest : List ℕ) → starts_string text ≡ true → quoted text ≡ Some (t, rest) → atom text ≡ Some (string t, rest)
unfolding atom
atom_quoted text t rest here read = rw (here, read)

pub atom_unquoted : (text : List ℕ) (x : Scalar) (rest : List ℕ) → starts_string text ≡ false → unquoted text ≡ Some (x, rest)
    → atom text ≡ Some (scalar_data x, rest)
unfolding atom
atom_unquoted text x rest other read = rw (other, read)

pub items_turn : (val : List ℕ → Read Data) (m : ℕ) (found : Items) (text : List ℕ) (p : Items × List ℕ)
    → items val m found text ≡ Some p → (first (skip_blank text) == 93) ≡ false
    → (d : Data) × (after : List ℕ) × (next : List ℕ) × (val (skip_blank text) ≡ Some (d, after))
    × (after_element 93 after ≡ Some next) × (items val (m - 1) (push_item found d) next ≡ Some p)
unfolding items
items_turn val zero found text p read other = absurd (none-some p read)
items_turn val (suc m) found text p read other =
    let less : suc m - 1 ≡ m = omega arith in
    option_and_then_some _ (val (skip_blank text)) p (rw other at read) λ v is more.
    option_and_then_some _ (after_element 93 v.1) p more λ next element rest.
    (v.0, v.1, next, is, element, rw less rest)

pub items_stop : (val : List ℕ → Read Data) (m : ℕ) (found : Items) (text : List ℕ) (p : Items × List ℕ)
    → items val m found text ≡ Some p → (first (skip_blank text) == 93) ≡ true → drop 1 (skip_blank text) ≡ p.1
unfolding items
items_stop val zero found text p read closing = absurd (none-some p read)
items_stop val (suc m) found text p read closing = ap (λ z. z.1) (same_Some (found, drop 1 (skip_blank text)) p (rw closing at read))

pub keyval_turn : (val : List ℕ → Read Data) (text : List ℕ) (p : (Key × Data) × List ℕ) → keyval val text ≡ Some p
    → (k : Key) × (value : List ℕ) × (d : Data) × (key_equals text ≡ Some (k, value)) × (val value ≡ Some (d, p.1))
keyval_turn val text p read =
    option_and_then_some _ (key_equals text) p read λ k is more.
    let (d, value, _) = read_map_some (λ d. (k.0, d)) (val k.1) p more in
    (k.0, k.1, d, is, value)

pub members_turn : (val : List ℕ → Read Data) (m : ℕ) (found : Nodes) (text : List ℕ) (p : Members × List ℕ)
    → members val m found text ≡ Some p → (first (skip_blank text) == 125) ≡ false
    → (e : Key × Data) × (after : List ℕ) × (more : Nodes) × (next : List ℕ) × (keyval val (skip_blank text) ≡ Some (e, after))
    × (after_element 125 after ≡ Some next) × (members val (m - 1) more next ≡ Some p)
unfolding members
members_turn val zero found text p read other = absurd (none-some p read)
members_turn val (suc m) found text p read other =
    let less : suc m - 1 ≡ m = omega arith in
    option_and_then_some _ (keyval val (skip_blank text)) p (rw other at read) λ e is more.
    option_and_then_some _ (put e.0.0 e.0.1 found) p more λ new edit then.
    option_and_then_some _ (after_element 125 e.1) p then λ next element rest.
    (e.0, e.1, new, next, is, element, rw less rest)

pub members_stop : (val : List ℕ → Read Data) (m : ℕ) (found : Nodes) (text : List ℕ) (p : Members × List ℕ)
    → members val m found text ≡ Some p → (first (skip_blank text) == 125) ≡ true → drop 1 (skip_blank text) ≡ p.1
unfolding members
members_stop val zero found text p read closing = absurd (none-some p read)
members_stop val (suc m) found text p read closing = ap (λ z. z.1) (same_Some (close found, drop 1 (skip_blank text)) p (rw closing at read))

-- a value that is an array or an inline table
pub array_read : (depth : ℕ) (text : List ℕ) (p : Data × List ℕ) → 0 < depth → (first text == 91) ≡ true → val depth text ≡ Some p
    → (x : Items) × (items (val (depth - 1)) (length text) no_items (drop 1 text) ≡ Some (x, p.1))
array_read depth text p some here read =
    let (x, is, _) = read_map_some _ _ p (sym (val_open_array depth text some here) ∙ read) in (x, is)

pub table_read : (depth : ℕ) (text : List ℕ) (p : Data × List ℕ) → 0 < depth → (first text == 91) ≡ false → (first text == 123) ≡ true
    → val depth text ≡ Some p → (x : Members) × (members (val (depth - 1)) (length text) no_nodes (drop 1 text) ≡ Some (x, p.1))
table_read depth text p some other here read =
    let (x, is, _) = read_map_some _ _ p (sym (val_open_table depth text some other here) ∙ read) in (x, is)

-- what follows the inside of a bracket follows the value
pub array_ends : (r : Result (Bor (List ℕ)) ParseError) (depth : ℕ) (s inner : List ℕ) → 0 < depth → (first s == 91) ≡ true → inner ≡ drop 1 s
    → IfOk r (λ rest. (n : ℕ) (found : Items) → Ends (items (val (depth - 1)) n found inner) rest.now)
    → IfOk r (λ rest. Ends (val depth s) rest.now)
array_ends (Ok rest) depth s inner some here same h = λ p read.
    let (x, is) = array_read depth s p some here read in
    h (length s) no_items (x, p.1) (rw same is)
array_ends (Err e) depth s inner some here same h = h

pub table_ends : (r : Result (Bor (List ℕ)) ParseError) (depth : ℕ) (s inner : List ℕ) → 0 < depth → (first s == 91) ≡ false → (first s == 123) ≡ true
    → inner ≡ drop 1 s → IfOk r (λ rest. (n : ℕ) (found : Nodes) → Ends (members (val (depth - 1)) n found inner) rest.now)
    → IfOk r (λ rest. Ends (val depth s) rest.now)
table_ends (Ok rest) depth s inner some other here same h = λ p read.
    let (x, is) = table_read depth s p some other here read in
    h (length s) no_nodes (x, p.1) (rw same is)
table_ends (Err e) depth s inner some other here same h = h

-- a turn in an array, in an inline table and in a document
pub array_turn : (val : List ℕ → Read Data) (text : List ℕ) → EndsArray val text → (first (skip_blank text) == 93) ≡ false
    → (d : Data) × (after : List ℕ) × (next : List ℕ) × (val (skip_blank text) ≡ Some (d, after))
    × (after_element 93 after ≡ Some next) × EndsArray val next
array_turn reads text (n, found, r) other =
    let (d, after, next, is, element, then) = items_turn reads n found text r.0 r.1 other in
    (d, after, next, is, element, (n - 1, push_item found d, (r.0, then)))

pub table_turn : (val : List ℕ → Read Data) (text : List ℕ) → EndsTable val text → (first (skip_blank text) == 125) ≡ false
    → (e : Key × Data) × (after : List ℕ) × (next : List ℕ) × (keyval val (skip_blank text) ≡ Some (e, after))
    × (after_element 125 after ≡ Some next) × EndsTable val next
table_turn reads text (n, found, r) other =
    let (e, after, more, next, is, element, then) = members_turn reads n found text r.0 r.1 other in
    (e, after, next, is, element, (n - 1, more, (r.0, then)))

-- headers and pairs
pub array_header : (text : List ℕ) (q : Key × List ℕ) → (first text == 91) ≡ true → (slice_index text 1 == 91) ≡ true
    → header_key (drop 2 text) ≡ Some q → (first q.1 == 93) ≡ true → expression text ≡ Some ((q.0, array_table), drop 1 q.1)
unfolding expression
array_header text q a b read closing = rw (a, b, read, closing)

pub table_header : (text : List ℕ) (q : Key × List ℕ) → (first text == 91) ≡ true → (slice_index text 1 == 91) ≡ false
    → header_key (drop 1 text) ≡ Some q → expression text ≡ Some ((q.0, std_table), q.1)
unfolding expression
table_header text q a b read = rw (a, b, read)

pub pair_turn : (text : List ℕ) (p : Expression × List ℕ) → (first text == 91) ≡ false → expression text ≡ Some p
    → (k : Key) × (value : List ℕ) × (d : Data) × (key_equals text ≡ Some (k, value)) × (val recursion_limit value ≡ Some (d, p.1))
unfolding expression
pair_turn text p other read =
    let (e, is, _) = read_map_some _ (keyval (val recursion_limit) text) p (rw other at read) in
    keyval_turn (val recursion_limit) text (e, p.1) is

-- what stands where an entry was found
pub element_stands : (e : Entry) (n : ℕ) (text rest : List ℕ) (d : Data) → e.from.now ≡ text → e.following.now ≡ rest
    → string_bytes e.closing ≡ 93 ∷ [] → val n text ≡ Some (d, rest) → StandsInside e
element_stands e n text rest d from following closing is = (93, [], closing, inl (n, d, refl, rw (from, following) is))

pub pair_stands : (e : Entry) (n : ℕ) (text rest : List ℕ) (x : Key × Data) → e.from.now ≡ text → e.following.now ≡ rest
    → string_bytes e.closing ≡ 125 ∷ [] → keyval (val n) text ≡ Some (x, rest) → StandsInside e
pair_stands e n text rest x from following closing is = (125, [], closing, inr (n, x, refl, rw (from, following) is))

pub line_stands : (e : Entry) (text rest : List ℕ) (x : Expression) → e.from.now ≡ text → e.following.now ≡ rest
    → string_bytes e.closing ≡ [] → expression text ≡ Some (x, rest) → Stands e
line_stands e text rest x from following closing is = rw (closing, from, following) (x, is)

pub inside_stands : (e : Entry) → StandsInside e → Stands e
inside_stands e (bracket, outer, is, reads) = rw is reads

-- the same of an entry that may have been found, by a premise of it
pub found_by : (S : Entry → Type 0) {P Q : Type 0} (r : Result (Option Entry) ParseError)
    → IfOk r (λ found. IfSome found (λ e. Q → S e)) → (P → Q) → IfOk r (λ found. IfSome found (λ e. P → S e))
found_by S (Ok None) h f = tt
found_by S (Ok (Some e)) h f = λ p. h (f p)
found_by S (Err e) h f = h

pub closed_by : {P Q : Type 0} (r : Result (Option Entry) ParseError) (inner : Option Entry)
    → IfOk r (λ found. IfSome found (λ e. IfSome inner StandsInside → StandsInside e)) → IfSome inner (λ e. Q → StandsInside e)
    → (P → Q) → IfOk r (λ found. IfSome found (λ e. P → StandsInside e))
closed_by (Ok None) inner h i f = tt
closed_by (Ok (Some e)) inner h i f = λ p. h (IfSome_then inner i (λ x k. k (f p)))
closed_by (Err e) inner h i f = h

-- the same of a text that is a document
pub front_by : (S : List ℕ → Type 0) {Q : Type 0} (text : List ℕ) (r : Result (Option (Bor (List ℕ))) AllocError)
    → IfOk r (λ found. IfSome found (λ front. Q → S front.now)) → ((ms : Members) → parse_document text ≡ Some ms → Q)
    → IfOk r (λ found. IfSome found (λ front. (ms : Members) → parse_document text ≡ Some ms → S front.now))
front_by S text (Ok None) h f = tt
front_by S text (Ok (Some front)) h f = λ ms read. h (f ms read)
front_by S text (Err e) h f = h

-- a text without its end
pub suffix_cut : (s p : List ℕ) (r : Option (Bor (List ℕ))) (lacks : Type 0)
    → MatchOption r lacks (λ x. (n : ℕ) × FindsTextSuffix p s (Some n) × (x.now ≡ take (length s - n) s) × (length x.now + n ≡ length s))
    → IfSome r (λ front. s ≡ front.now ++ p)
suffix_cut s p None lacks h = tt
suffix_cut s p (Some x) lacks h = h.1.1 ∙ ap (λ l. l ++ p) (sym h.2)

-- documents
pub line_turn : (text : List ℕ) (p : Expression × List ℕ) → line text ≡ Some p → expression text ≡ Some p
unfolding line
line_turn text p read =
    option_and_then_some _ (expression text) p read λ e is ends.
    is ∙ ap Some (cond_some (ends_line (skip_ws e.1)) e p ends).1

pub lines_turn : (m : ℕ) (doc final : Document) (text : List ℕ) → lines m doc text ≡ Some final → (length (skip_blank text) == 0) ≡ false
    → (e : Expression) × (after : List ℕ) × (next : Document) × (expression (skip_blank text) ≡ Some (e, after)) × (lines (m - 1) next after ≡ Some final)
unfolding lines
lines_turn zero doc final text read other = absurd (none-some final read)
lines_turn (suc m) doc final text read other =
    let less : suc m - 1 ≡ m = omega arith in
    option_and_then_some _ (line (skip_blank text)) final (rw other at read) λ e is more.
    option_and_then_some _ (define doc e.0) final more λ next step rest.
    (e.0, e.1, next, line_turn (skip_blank text) e is, rw less rest)

ends_of : (text : List ℕ) (ms : Members) (o : Option Document) → o ≡ lines (suc (length text)) (no_nodes, []) (skip_bom text)
    → option_map (λ doc. close doc.0) o ≡ Some ms → EndsDocument (skip_bom text)
ends_of text ms None same read = absurd (none-some ms read)
ends_of text ms (Some doc) same read = (suc (length text), (no_nodes, []), doc, sym same)

pub document_turn : (text : List ℕ) (ms : Members) → parse_document text ≡ Some ms → EndsDocument (skip_bom text)
unfolding parse_document
document_turn text ms read = ends_of text ms (lines (suc (length text)) (no_nodes, []) (skip_bom text)) refl read

pub document_more : (text : List ℕ) → EndsDocument text → (length (skip_blank text) == 0) ≡ false
    → (e : Expression) × (after : List ℕ) × (expression (skip_blank text) ≡ Some (e, after)) × EndsDocument after
document_more text (n, doc, final, read) other =
    let (e, after, next, is, rest) = lines_turn n doc final text read other in
    (e, after, is, (n - 1, next, final, rest))
