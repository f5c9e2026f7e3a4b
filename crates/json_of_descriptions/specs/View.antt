-- A fixed word as it is said.
use Rattle.json_of_descriptions.specs.Descriptions.{WordSaid, word_of}
use Rattle.json_of_descriptions.specs.declared.words.Word.{Word}

abbrev pub word_said : Word → WordSaid
word_said w = word_of w.key.now w.usual.now w.word.now
