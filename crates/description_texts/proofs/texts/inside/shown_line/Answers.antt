use Rattle.std.proofs.Common.{◌≡◌, ◌++◌, ◌∙◌, ap, map, arith}
use Rattle.std.specs.Prelude.{flat_map}
use Rattle.std.proofs.lemmas.List.{take_all}
use Rattle.std.proofs.lemmas.Result.{IfOk-weaker}
use Rattle.page_model.specs.View.{line_of}
use Rattle.description_texts.specs.TextsInside.{further_pieces, line_pieces, nothing, shown_line, whole, with_pieces}
use Rattle.description_texts.specs.TextsView.{draft_of}
use Rattle.description_texts.proofs.TextsPieces.{line_put}
use Rattle.description_texts.proofs.texts.inside.shown_line.Goals as goal

pub loop-line-preserved : goal.loop-line-preserved
loop-line-preserved c =
    line_put (λ line. line.now) c.args.first.now c.args.more.now (draft_of c.loop-line.pieces) (draft_of c.push_words.new.pieces) (draft_of c.push_line-in-loop-line.new.pieces) c.loop-line.line-index _ (omega arith) c.loop-line.invariant c.in_ok-push_words.ensures c.in_ok-push_line-2.ensures

pub returns : goal.returns
unfolding shown_line
returns c =
    let first = c.args.first.now in
    let more = c.args.more.now in
    let all = take_all c.loop-line.line-index more (omega arith) in
    IfOk-weaker c.finished.result (λ line. line_of line.items ≡ whole (draft_of c.loop-line.pieces)) (λ line. line_of line.items ≡ shown_line first (map (λ line. line.now) more))
    (λ line e. e ∙ ap whole c.loop-line.invariant ∙ ap (λ lines. whole (with_pieces nothing (line_pieces first ++ flat_map further_pieces (map (λ line. line.now) lines)))) all)
    c.finished.ensures
