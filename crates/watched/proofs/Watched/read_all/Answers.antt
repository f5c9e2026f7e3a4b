use Rattle.std.proofs.Common.{◌≡◌, ◌++◌, refl, rules, take}
use Rattle.std.proofs.KnownBytes.{Consumes-trans}
use Rattle.watched.specs.Calls.{none, more}
use Rattle.watched.proofs.Stops.{refused_stops}
use Rattle.watched.proofs.Watched.read_all.Goals as goal

pub loop-bytes-init : goal.loop-bytes-init
loop-bytes-init g c = (refl, search rules, none c.new-bytes.ensures.items refl)

pub loop-bytes-preserved : goal.loop-bytes-preserved
loop-bytes-preserved g c =
    let bytes = c.loop-bytes.bytes.items in
    let given = take c.in-Ok.taken c.read.new.buf in
    let items : c.extend_from_slice.new.self.items ≡ bytes ++ given = search rules in (
      search rules,
      rw items (Consumes-trans _ _ _ bytes given c.loop-bytes.invariant.1 c.in-Ok.ensures.bytes.0),
      more bytes c.loop-bytes.self.end c.in-Ok.taken c.read.new.buf c.loop-bytes.invariant.2 c.in-Ok.ensures.called (search rules) items,
    )

pub returns-in_err-extend_from_slice-in-Ok-clause-stops : goal.returns-in_err-extend_from_slice-in-Ok-clause-stops
returns-in_err-extend_from_slice-in-Ok-clause-stops g c =
    let bytes = c.loop-bytes.bytes.items in
    refused_stops g.R.Source.reads c.args.self.now.end (bytes ++ take c.in-Ok.taken c.read.new.buf) c.read.new.self.end c.from_residual.result c.from_residual.ensures.1
    (more bytes c.loop-bytes.self.end c.in-Ok.taken c.read.new.buf c.loop-bytes.invariant.2 c.in-Ok.ensures.called (search rules) refl)
