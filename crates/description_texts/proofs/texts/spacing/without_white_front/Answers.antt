use Rattle.description_texts.proofs.TextsBounds.{after_white}
use Rattle.description_texts.proofs.texts.spacing.without_white_front.Goals as goal

pub range_from-requires : goal.range_from-requires
range_from-requires c = λ _. rw c.white_len.ensures (after_white c.args.text.now c.utf8.text)
