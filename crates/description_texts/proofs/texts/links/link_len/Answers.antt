use Rattle.std.proofs.Common.{◌+◌, ap, ◌∙◌}
use Rattle.std.proofs.lemmas.List.{take_rest}
use Rattle.description_texts.specs.TextsInside.{address_len}
use Rattle.description_texts.proofs.TextsLinks.{link_there}
use Rattle.description_texts.proofs.texts.links.link_len.Goals as goal

pub returns-then-bytes-at-eq60-clause-there : goal.returns-then-bytes-at-eq60-clause-there
returns-then-bytes-at-eq60-clause-there c = λ some.
    link_there c.args.bytes.now c.args.at c.address_len.result c.if-bytes-at-eq60.true (c.address_len.ensures ∙ ap address_len (take_rest c.args.bytes.now (c.args.at + 1))) some
