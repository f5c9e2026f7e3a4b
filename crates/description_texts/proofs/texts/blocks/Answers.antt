use Rattle.std.proofs.Common.{◌≡◌, ◌++◌, ◌+◌, ◌<◌, ℕ, List, [], Bor, drop, get_or, length, map, min, ap, ◌∙◌, arith}
use Rattle.std.proofs.lemmas.List.{take_rest}
use Rattle.page_model.specs.View.{block_of}
use Rattle.description_texts.specs.Texts.{block_said, lines_more, text_blocks}
use Rattle.description_texts.specs.TextsCut.{cut}
use Rattle.description_texts.specs.TextsView.{own_said}
use Rattle.description_texts.proofs.TextsCuts.{cut_at_within, own_part, within_all}
use Rattle.description_texts.proofs.texts.blocks.Goals as goal

pub loop-at-init : goal.loop-at-init
unfolding text_blocks
loop-at-init c = record {
  within = omega arith;
  found =
      ap (λ xs. map block_of xs ++ cut lines_more block_said (map (λ line. line.now) c.as_slice-lines.result.now)) c.new-found.ensures.items
      ∙ ap (λ lines. cut lines_more block_said (map (λ line. line.now) lines)) c.as_slice-lines.ensures.value
      ∙ ap (cut lines_more block_said) c.in_ok-lines.ensures;
}

pub loop-at-preserved : goal.loop-at-preserved
loop-at-preserved c =
    let lines : List (Bor (List ℕ)) = c.as_slice-lines.result.now in
    let d : Bor (List ℕ) = record { ref_ptr = (0, 0); now = [] } in
    let at = c.loop-at.at in
    let n = c.lines_more-more.result in
    let below : List (Bor (List ℕ)) = drop (at + 1) lines in
    let within : at < length lines = omega arith in
    let rest = take_rest lines (at + 1) in
    let found : n ≡ min (lines_more (get_or lines at d).now (map (λ (line : Bor (List ℕ)). line.now) below)) (length below) =
    c.lines_more-more.ensures ∙ ap (λ (more : List (Bor (List ℕ))). min (lines_more (get_or lines at d).now (map (λ (line : Bor (List ℕ)). line.now) more)) (length more)) rest in
    record {
      within = within_all lines at n _ within found;
      found = cut_at_within lines_more block_said (λ (line : Bor (List ℕ)). line.now) lines at d within n (map block_of c.loop-at.found.items) (map block_of c.push_block.new.found.items) (text_blocks c.args.text.now)
          found
          (c.in_ok-push_block.ensures ∙ ap (λ (own : List (Bor (List ℕ))). map block_of c.loop-at.found.items ++ own_said (map (λ line. line.now) own)) (own_part lines at n d within))
          c.loop-at.invariant.found;
    }
