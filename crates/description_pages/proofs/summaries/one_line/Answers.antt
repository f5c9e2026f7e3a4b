use Rattle.std.proofs.Common.{◌≡◌, [], ◌-◌, take, ap, ◌∙◌}
use Rattle.page_model.specs.View.{line_of, piece_of}
use Rattle.description_pages.specs.Summaries.{without_stop}
use Rattle.description_texts.specs.TextsInside.{gathered}
use Rattle.description_pages.proofs.Shortened.{none_taken, stop_taken}
use Rattle.description_pages.proofs.summaries.one_line.Goals as goal
use Rattle.description_pages.proofs.summaries.one_line.Goals.{in-Some+in_ok-push_last, in_default}

pub returns : goal.returns
returns c =
    elim c.match-pop.branch [
      | in-Some+in_ok-push_last w ↦
          ap (λ v. line_of v.items) w.line-is
          ∙ stop_taken piece_of c.in_ok-line.line.items c.pop.new.self.items w.push_last.new.line.items w.in-Some.last w.in-Some.ensures.items w.in_ok-push_last.ensures
          ∙ ap without_stop (c.in_ok-line.ensures ∙ ap (λ xs. gathered (line_of xs)) c.as_slice.ensures.value ∙ ap gathered c.in_ok-whole.ensures)
      | in_default w ↦
          let none : c.pop.new.self.items ≡ [] = w.in_default.ensures.rest ∙ ap (λ n. take (n - 1) c.in_ok-line.line.items) w.in_default.ensures.cases.0 in
          ap (λ v. line_of v.items) w.line-is
          ∙ none_taken piece_of c.in_ok-line.line.items c.pop.new.self.items w.in_default.ensures.items none
          ∙ ap without_stop (c.in_ok-line.ensures ∙ ap (λ xs. gathered (line_of xs)) c.as_slice.ensures.value ∙ ap gathered c.in_ok-whole.ensures)
    ]
