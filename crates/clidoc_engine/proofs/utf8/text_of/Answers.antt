use Rattle.std.proofs.Common.{◌∙◌, ap}
use Rattle.std.specs.Str.{valid_up_to}
use Rattle.clidoc_engine.proofs.Valid.{valid_front}
use Rattle.clidoc_engine.proofs.utf8.text_of.Goals as goal

pub slice_bounds-place_after-end : goal.slice_bounds-place_after-end
slice_bounds-place_after-end g c =
    valid_front c.args.bytes.items c.as_bytes.result.now c.valid_up_to-valid.result (c.as_bytes.ensures ∙ ap (λ bytes. bytes.items) c.in-Err.ensures.err)
    (c.valid_up_to-valid.ensures ∙ ap valid_up_to c.utf8_error.ensures ∙ c.in-Err.ensures.valid_len)
