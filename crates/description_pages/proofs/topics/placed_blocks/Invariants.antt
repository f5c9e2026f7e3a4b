use Rattle.std.proofs.Common.{◌≡◌, [], drop, map}
use Rattle.std.specs.Prelude.{fold}
use Rattle.page_model.specs.View.{block_of}
use Rattle.description.specs.View.{topic_said}
use Rattle.description_pages.specs.Topics.{and_block, placed_blocks}
use Rattle.description.specs.Words.{words_said}
use Rattle.description_pages.proofs.topics.placed_blocks.Given as goal

abbrev pub invariant-loop-topic : goal.invariant-loop-topic
invariant-loop-topic l =
    fold and_block (map block_of l.blocks.items) (placed_blocks (words_said l.making.words.now) l.making.detail l.place (map topic_said (drop l.topic-index l.topics)))
    ≡ fold and_block [] (placed_blocks (words_said l.making.words.now) l.making.detail l.place (map topic_said l.topics))
