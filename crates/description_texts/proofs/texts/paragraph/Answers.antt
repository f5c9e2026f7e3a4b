use Rattle.std.proofs.Common.{◌≡◌, ◌++◌, ◌+◌, ◌<◌, ℕ, List, [], ◌∷◌, Bor, drop, get_or, length, map, take, ap, ◌∙◌, arith}
use Rattle.std.specs.Prelude.{not}
use Rattle.std.specs.List.{position_or_len}
use Rattle.std.proofs.lemmas.List.{map-append, take_rest}
use Rattle.std.proofs.lemmas.List.Sums.{prefix_len-le-length}
use Rattle.page_model.specs.View.{line_of}
use Rattle.description_texts.specs.Texts.{begins_blank, line_more, line_said}
use Rattle.description_texts.specs.TextsCut.{cut}
use Rattle.description_texts.specs.TextsInside.{shown_line}
use Rattle.description_texts.proofs.TextsCuts.{at_most, cut_at, prefix_seen}
use Rattle.description_texts.proofs.texts.paragraph.Goals as goal

pub loop-at-preserved : goal.loop-at-preserved
loop-at-preserved c =
    let lines : List (Bor (List ℕ)) = c.args.lines.now in
    let d : Bor (List ℕ) = record { ref_ptr = (0, 0); now = [] } in
    let at = c.loop-at.at in
    let n = c.unbroken_len-more.result in
    let below : List (Bor (List ℕ)) = drop (at + 1) lines in
    let within : at < length lines = omega arith in
    let rest = take_rest lines (at + 1) in
    let found : n ≡ position_or_len (λ (line : Bor (List ℕ)). begins_blank line.now) below = c.unbroken_len-more.ensures ∙ ap (position_or_len (λ (line : Bor (List ℕ)). begins_blank line.now)) rest in
    let line = c.in_ok-shown_line.ensures ∙ ap (λ (more : List (Bor (List ℕ))). shown_line (get_or lines at d).now (map (λ line. line.now) (take n more))) rest in
    record {
      within = at_most line_more line_said (λ (line : Bor (List ℕ)). line.now) lines at d within n _ found (prefix_len-le-length (λ (line : Bor (List ℕ)). not (begins_blank line.now)) below);
      found = cut_at line_more line_said (λ (line : Bor (List ℕ)). line.now) lines at d within n (map (λ line. line_of line.items) c.loop-at.found.items) (map (λ line. line_of line.items) c.push.new.self.items) (cut line_more line_said (map (λ line. line.now) lines))
          (found ∙ prefix_seen (λ line. not (begins_blank line)) (λ (line : Bor (List ℕ)). line.now) below)
          (ap (map (λ line. line_of line.items)) c.in_ok-push.ensures.items ∙ map-append (λ line. line_of line.items) c.loop-at.found.items (c.in_ok-shown_line.field-0 ∷ []) ∙ ap (λ l. map (λ line. line_of line.items) c.loop-at.found.items ++ l ∷ []) line)
          c.loop-at.invariant.found;
    }
