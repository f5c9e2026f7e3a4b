use Rattle.std.specs.Prelude.{◌-◌, ◌≡◌}
use Rattle.bpaf_doc.proofs.lemmas.Buffer.Words.{sym, subst, arith, string_bytes, IsCharBoundary-from_take, Grows, IsCheckpointOf}
use Rattle.bpaf_doc.proofs.lemmas.Buffer.Ends.{IsUtf8-AreEnds}
use Rattle.bpaf_doc.proofs.lemmas.Buffer.RollBack.{is_cut}
use Rattle.bpaf_doc.proofs.buffer.Doc.roll_back.Goals as goal

pub truncate-requires : goal.truncate-requires
truncate-requires g c =
    let doc = c.self.inside in
    let to = c.to.inside in
    let payload = string_bytes doc.payload in
    let before = c.requires.0 in
    let was = subst (λ at. IsCheckpointOf before at) (sym c.to.view_is) c.requires.1 in
    let cut = is_cut doc.ends.items payload before _ c.self.invariant was (subst (λ now. Grows before now) (sym c.self.view_is) c.requires.2) in
    let whole : to.bytes - 0 ≡ to.bytes = omega arith in
    let front = rw whole at (IsUtf8-AreEnds 0 _ _ cut.are) in
    let boundary = IsCharBoundary-from_take payload to.bytes (IsUtf8-AreEnds 0 doc.ends.items payload c.self.invariant) (omega (arith, cut.within)) front in
    λ _. (boundary.0, λ _. boundary.1)

pub invariant_of-self : goal.invariant_of-self
invariant_of-self g c =
    let doc = c.self.inside in
    let to = c.to.inside in
    let payload = string_bytes doc.payload in
    let before = c.requires.0 in
    let was = subst (λ at. IsCheckpointOf before at) (sym c.to.view_is) c.requires.1 in
    let cut = is_cut doc.ends.items payload before _ c.self.invariant was (subst (λ now. Grows before now) (sym c.self.view_is) c.requires.2) in
    let whole : to.bytes - 0 ≡ to.bytes = omega arith in
    rw (c.move_last_end.ensures, c.truncate.ensures.bytes, c.truncate-2.ensures.items, was.parts) (rw whole at cut.are)

pub returns : goal.returns
returns g c = λ before is_of grows.
    let doc = c.self.inside in
    let to = c.to.inside in
    let payload = string_bytes doc.payload in
    let was = subst (λ at. IsCheckpointOf before at) (sym c.to.view_is) is_of in
    let cut = is_cut doc.ends.items payload before _ c.self.invariant was (subst (λ now. Grows before now) (sym c.self.view_is) grows) in
    let whole : to.bytes - 0 ≡ to.bytes = omega arith in
    rw (c.move_last_end.ensures, c.truncate.ensures.bytes, c.truncate-2.ensures.items, was.parts) (rw whole at cut.shows)
