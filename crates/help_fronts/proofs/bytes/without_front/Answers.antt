use Rattle.std.proofs.Common.{◌∙◌, ap}
use Rattle.std.specs.List.{prefix_len}
use Rattle.help_fronts.specs.Bytes.{is_in}
use Rattle.help_fronts.proofs.Boundaries.{after_class}
use Rattle.help_fronts.proofs.bytes.without_front.Goals as goal

pub range_from-requires : goal.range_from-requires
range_from-requires c = λ positive. after_class c.args.class c.args.text.now c.front_len.result (c.front_len.ensures ∙ ap (prefix_len (is_in c.args.class)) c.as_bytes.ensures.value) c.utf8.text
