use Rattle.std.proofs.Common.{ap, ◌∙◌}
use Rattle.std.proofs.lemmas.List.{map-append}
use Rattle.description_toml.specs.Described.Steps.{words_of}
use Rattle.description_toml.proofs.Distinct.{kept_new, kept_old}
use Rattle.description_toml.proofs.decode.taken.put_distinct.Goals as goal
use Rattle.description_toml.proofs.decode.taken.put_distinct.Goals.{then-branch+in_ok-push, else-branch}

pub loop-text-preserved : goal.loop-text-preserved
loop-text-preserved g c =
    let before = words_of c.args.words.now.items in
    let kept = words_of c.loop-text.words.items in
    elim c.if-branch.branch [
      | then-branch+in_ok-push w ↦
          kept_new before kept c.loop-text.seen.keys c.insert.new.self.keys c.args.texts.now c.loop-text.text-index _ c.in_ok-insert.field-0 c.loop-text-test.true c.loop-text.invariant c.in_ok-insert.ensures.added c.in_ok-insert.ensures.updates.0
          (words_of c.if-branch.words.items) w.if-branch.true (ap (λ v. words_of v.items) w.words-is ∙ ap words_of w.in_ok-push.ensures.items ∙ map-append (λ t. t.now) c.loop-text.words.items _)
      | else-branch w ↦
          let same = kept_old before kept c.loop-text.seen.keys c.insert.new.self.keys c.args.texts.now c.loop-text.text-index _ c.in_ok-insert.field-0 c.loop-text-test.true c.loop-text.invariant c.in_ok-insert.ensures.added c.in_ok-insert.ensures.updates.0
          w.if-branch.false in
          (ap (λ v. words_of v.items) w.words-is ∙ same.0, same.1)
    ]
