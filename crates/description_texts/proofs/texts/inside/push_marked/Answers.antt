use Rattle.std.proofs.Common.{◌∙◌, ap, rules}
use Rattle.std.proofs.lemmas.Result.{on_ok_weaker}
use Rattle.description_texts.specs.TextsInside.{by_turns, line_pieces, lone_parts, with_pieces}
use Rattle.description_texts.specs.TextsView.{draft_of}
use Rattle.description_texts.proofs.TextsPieces.{pair_put, rest_put}
use Rattle.description_texts.proofs.texts.inside.push_marked.Goals as goal

pub loop-pair-init : goal.loop-pair-init
unfolding line_pieces
loop-pair-init c = record {
  utf8 = search rules;
  written = ap (λ text. with_pieces (draft_of c.args.pieces.now) (by_turns (lone_parts text))) c.in_ok-rest.ensures;
}

pub loop-pair-preserved : goal.loop-pair-preserved
loop-pair-preserved c =
    let pair = c.in-Some.pair in
    record {
      utf8 = search rules;
      written =
          pair_put (draft_of c.loop-pair.pieces) (draft_of c.push_links.new.pieces) (draft_of c.push_quoted.new.pieces) c.loop-pair.rest.now pair.before.now pair.inner.now pair.after.now c.in-Some.ensures.0 c.in_ok-push_links.ensures c.in_ok-push_quoted.ensures
          ∙ c.loop-pair.invariant.written;
    }

pub returns : goal.returns
returns c =
    on_ok_weaker c.push_links-2.result (rest_put (draft_of c.loop-pair.pieces) (draft_of c.push_links-2.new.pieces) (with_pieces (draft_of c.args.pieces.now) (line_pieces c.args.line.now)) c.loop-pair.rest.now c.in_default.ensures c.loop-pair.invariant.written) c.push_links-2.ensures
