use Rattle.std.proofs.Common.{◌≡◌, ◌++◌, ◌+◌, ◌<◌, ℕ, List, [], Bor, drop, get_or, length, map, take, ap, ◌∙◌, arith}
use Rattle.std.specs.List.{prefix_len}
use Rattle.std.proofs.lemmas.List.{take_rest}
use Rattle.std.proofs.lemmas.List.Sums.{prefix_len-le-length}
use Rattle.page_model.specs.View.{line_of}
use Rattle.description_texts.specs.Texts.{is_plain, item_said, plain_more}
use Rattle.description_texts.specs.TextsCut.{cut}
use Rattle.description_texts.proofs.TextsCuts.{at_most, cut_at, prefix_seen}
use Rattle.description_texts.proofs.texts.items.Goals as goal

pub loop-at-preserved : goal.loop-at-preserved
loop-at-preserved c =
    let lines : List (Bor (List ℕ)) = c.args.lines.now in
    let d : Bor (List ℕ) = record { ref_ptr = (0, 0); now = [] } in
    let at = c.loop-at.at in
    let n = c.plain_len-more.result in
    let below : List (Bor (List ℕ)) = drop (at + 1) lines in
    let within : at < length lines = omega arith in
    let rest = take_rest lines (at + 1) in
    let found : n ≡ prefix_len (λ (line : Bor (List ℕ)). is_plain line.now) below = c.plain_len-more.ensures ∙ ap (prefix_len (λ (line : Bor (List ℕ)). is_plain line.now)) rest in
    record {
      within = at_most plain_more item_said (λ (line : Bor (List ℕ)). line.now) lines at d within n _ found (prefix_len-le-length (λ (line : Bor (List ℕ)). is_plain line.now) below);
      found = cut_at plain_more item_said (λ (line : Bor (List ℕ)). line.now) lines at d within n (map (λ item. map (λ line. line_of line.items) item.items) c.loop-at.found.items) (map (λ item. map (λ line. line_of line.items) item.items) c.push_item.new.found.items) (cut plain_more item_said (map (λ line. line.now) lines))
          (found ∙ prefix_seen is_plain (λ (line : Bor (List ℕ)). line.now) below)
          (c.in_ok-push_item.ensures ∙ ap (λ (more : List (Bor (List ℕ))). map (λ item. map (λ line. line_of line.items) item.items) c.loop-at.found.items ++ item_said (get_or lines at d).now (map (λ line. line.now) (take n more))) rest)
          c.loop-at.invariant.found;
    }
