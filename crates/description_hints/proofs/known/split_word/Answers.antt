use Rattle.description_hints.proofs.Words.{word_cut}
use Rattle.description_hints.proofs.known.split_word.Goals as goal

pub returns-then-len-text : goal.returns-then-len-text
returns-then-len-text c = word_cut c.args.text.now c.word_len-len.result c.word_len-len.ensures c.if-len-text.true
