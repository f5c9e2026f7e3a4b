use Rattle.std.proofs.Common.{◌∙◌, ap}
use Rattle.std.specs.Char.{is_ascii_alphabetic}
use Rattle.std.specs.List.{prefix_len}
use Rattle.drafts.proofs.Boundaries.{after_letters}
use Rattle.drafts.proofs.usages.after_word.Goals as goal

pub range_from-requires : goal.range_from-requires
range_from-requires c = λ positive. after_letters c.args.text.now c.letters_len.result (c.letters_len.ensures ∙ ap (prefix_len is_ascii_alphabetic) c.as_bytes.ensures.value) c.utf8.text
