use Rattle.page_model.specs.View.{chapter_of}
use Rattle.description.specs.Words.{words_said}
use Rattle.description_pages.specs.LevelsView.{subject_of}
use Rattle.description_pages.proofs.ChapterParts.{chapter_put}
use Rattle.description_pages.proofs.chapters.+chapters.Goals as goal

pub push_command-returns : goal.push_command-returns
push_command-returns g t c =
    chapter_put chapter_of (words_said c.args.words.now) (subject_of c.args.above) (subject_of c.in_ok-subject.subject) c.args.command.now c.new-own.result.items c.push_level.new.lower.items c.in_ok-chapter_with.field-0 c.args.lower.now.items c.push.new.self.items
    c.if-command.false c.in_ok-subject.ensures c.new-own.ensures.items c.in_ok-push_level.ensures c.in_ok-chapter_with.ensures c.in_ok-push.ensures.items
