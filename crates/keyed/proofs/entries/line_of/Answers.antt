use Rattle.std.proofs.Common.{◌≡◌, ◌==◌, true, false, slice_index, sym, ap, ◌∙◌, arith}
use Rattle.std.proofs.lemmas.Grind.{common_steps}
use Rattle.std.proofs.lemmas.Option.{same_Some}
use Rattle.toml_parser.specs.Lexical.{first}
use Rattle.toml_parser.specs.Reading.{key_view}
use Rattle.toml.specs.Parse.{expression}
use Rattle.keyed.proofs.Turns.{array_header, ends_there, pair_turn, table_header}
use Rattle.keyed.proofs.entries.line_of.Goals as goal

pub returns-then-first-ne91-clause-end : goal.returns-then-first-ne91-clause-end
returns-then-first-ne91-clause-end c p read =
    let other : (first c.args.s.now == 91) ≡ false = grind (arith, common_steps) in
    let (k, value, d, is_key, is_value) = pair_turn c.args.s.now p other read in
    let same : c.in_ok-key.value.now ≡ value = ap (λ z. z.1) (same_Some _ (k, value) (sym c.in_ok-key.ensures.value ∙ is_key)) in
    c.in_ok-following.ensures.end (d, p.1) (rw same is_value)

pub returns-then-first-ne91-clause-value : goal.returns-then-first-ne91-clause-value
returns-then-first-ne91-clause-value c r =
    let other : (first c.args.s.now == 91) ≡ false = grind (arith, common_steps) in
    let (k, value, d, is_key, is_value) = pair_turn c.args.s.now r.0 other r.1 in
    let same : c.in_ok-key.value.now ≡ value = ap (λ z. z.1) (same_Some _ (k, value) (sym c.in_ok-key.ensures.value ∙ is_key)) in
    ((d, r.0.1), rw same is_value)

pub returns-then-byte_at-ne91-clause-end : goal.returns-then-byte_at-ne91-clause-end
returns-then-byte_at-ne91-clause-end c =
    let s = c.args.s.now in
    let a : (first s == 91) ≡ true = grind (arith, common_steps) in
    let b : (slice_index s 1 == 91) ≡ false = grind (arith, common_steps) in
    ends_there (expression s) _ (table_header s (key_view c.in_ok-key-2.key, c.in_ok-key-2.rest.now) a b (rw c.skip.ensures.rest at c.in_ok-key-2.ensures.value))

pub returns-clause-end : goal.returns-clause-end
returns-clause-end c p read =
    let s = c.args.s.now in
    let a : (first s == 91) ≡ true = grind (arith, common_steps) in
    let b : (slice_index s 1 == 91) ≡ true = grind (arith, common_steps) in
    let closing : (first c.in_ok-key-3.rest.now == 93) ≡ true = grind (arith, common_steps) in
    let here = array_header s (key_view c.in_ok-key-3.key, c.in_ok-key-3.rest.now) a b (rw c.skip-2.ensures.rest at c.in_ok-key-3.ensures.value) closing in
    c.skip-3.ensures.rest ∙ ends_there (expression s) _ here p read
