use Rattle.std.specs.Prelude.{◌-◌, ◌≡◌, ◌≤◌}
use Rattle.bpaf_doc.proofs.lemmas.Buffer.Words.{ℕ, List, length, string_bytes, arith, IsCharBoundary-from_take, PartEnd, end_before, parts_from}
use Rattle.bpaf_doc.proofs.lemmas.Buffer.Ends.{AreEnds-drop, IsUtf8-AreEnds, IsUtf8-before, end_before-bounds, length-parts_from, parts_from-drop}
use Rattle.bpaf_doc.proofs.buffer.Doc.parts_after.Goals as goal

-- the count is within the ends
within : (es : List PartEnd) (bytes : List ℕ) (count : ℕ) → count ≤ length (parts_from 0 es bytes) → count ≤ length es
within es bytes count le = omega (arith, le, length-parts_from 0 es bytes)

pub start_of-start-requires : goal.start_of-start-requires
start_of-start-requires g c = grind (arith, within)

pub split_at-requires : goal.split_at-requires
split_at-requires g c =
    let doc = c.self.inside in
    let bytes = string_bytes doc.payload in
    let start = end_before 0 doc.ends.items c.args.count in
    let whole : start - 0 ≡ start = omega arith in
    rw (c.as_str.ensures.value, c.start_of-start.ensures, c.as_slice.ensures.value)
    (IsCharBoundary-from_take bytes start (IsUtf8-AreEnds 0 doc.ends.items bytes c.self.invariant) (omega (arith, (end_before-bounds 0 doc.ends.items bytes c.args.count c.self.invariant).1))
    (rw whole at (IsUtf8-before 0 doc.ends.items bytes c.args.count c.self.invariant)))

pub split_at-requires-2 : goal.split_at-requires-2
split_at-requires-2 g c = grind (arith, within)

pub invariant_of-result : goal.invariant_of-result
invariant_of-result g c =
    let doc = c.self.inside in
    let bytes = string_bytes doc.payload in
    let start = end_before 0 doc.ends.items c.args.count in
    let whole : start - 0 ≡ start = omega arith in
    rw (c.split_at.ensures.back, c.split_at-2.ensures.back, c.as_str.ensures.value, c.as_slice-2.ensures.value, c.start_of-start.ensures, c.as_slice.ensures.value)
    (rw whole at (AreEnds-drop 0 doc.ends.items bytes c.args.count (within doc.ends.items bytes c.args.count (rw c.self.view_is c.requires)) c.self.invariant))

pub returns : goal.returns
returns g c =
    let doc = c.self.inside in
    let bytes = string_bytes doc.payload in
    let start = end_before 0 doc.ends.items c.args.count in
    let whole : start - 0 ≡ start = omega arith in
    rw (c.split_at.ensures.back, c.split_at-2.ensures.back, c.as_str.ensures.value, c.as_slice-2.ensures.value, c.start_of-start.ensures, c.as_slice.ensures.value, ← c.self.view_is)
    (rw whole at (parts_from-drop 0 doc.ends.items bytes c.args.count c.self.invariant))
