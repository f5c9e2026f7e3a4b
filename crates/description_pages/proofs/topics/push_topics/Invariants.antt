use Rattle.std.proofs.Common.{◌≡◌, ◌++◌, drop, map}
use Rattle.description.specs.View.{topic_said}
use Rattle.description_pages.specs.Sections.{section_of}
use Rattle.description_pages.specs.Topics.{own_sections}
use Rattle.description.specs.Words.{words_said}
use Rattle.description_pages.proofs.topics.push_topics.Given as goal

abbrev pub invariant-loop-topic : goal.invariant-loop-topic
invariant-loop-topic l =
    map section_of l.sections.items ++ own_sections (words_said l.making.words.now) l.making.detail (map topic_said (drop l.topic-index l.topics))
    ≡ map section_of l.initial.sections.items ++ own_sections (words_said l.making.words.now) l.making.detail (map topic_said l.topics)
