use Rattle.std.proofs.Common.{◌≡◌, ◌++◌, ◌∷◌, ◌∙◌, ap, refl, rules, sym}
use Rattle.std.specs.List.{concat}
use Rattle.help_fronts.specs.Pieces.{pieces}
use Rattle.help_fronts.specs.Fronts.{belonging}
use Rattle.help_fronts.proofs.Ends.{end_more, front_whole, pieces_done, pieces_more, whole_end, words_more}
use Rattle.help_fronts.proofs.front.push_words.Goals as goal

pub loop-piece-init : goal.loop-piece-init
loop-piece-init g c = record {
  last_utf8 = search rules;
  rest_utf8 = search rules;
  is_end = whole_end c.args.after.now;
  written = sym (ap (λ f. f ++ concat (belonging c.args.kind c.args.before.now (pieces c.args.after.now))) (front_whole c.args.after.now));
  words = refl;
}

pub loop-piece-preserved : goal.loop-piece-preserved
loop-piece-preserved g c =
    let piece = c.in-Some.piece.now in
    let others = c.in-Some.others.now in
    let first : belonging c.args.kind c.loop-piece.last.now (pieces c.loop-piece.rest.now) ≡ piece ∷ belonging c.args.kind c.word-last.result.now (pieces others) =
    c.in-Some.ensures.belonging ∙ ap (λ w. piece ∷ belonging c.args.kind w (pieces others)) (sym c.word-last.ensures) in
    record {
      last_utf8 = search rules;
      rest_utf8 = search rules;
      is_end = end_more c.args.after.now c.loop-piece.rest.now piece others c.loop-piece.invariant.is_end c.in-Some.ensures.whole;
      written = pieces_more c.args.after.now c.loop-piece.rest.now piece others c.loop-piece.invariant.is_end c.in-Some.ensures.whole _ _ _ first c.loop-piece.invariant.written;
      words = words_more _ _ _ c.word-last.result piece _ _ _ first c.in_ok-push.ensures.items c.word-last.ensures c.loop-piece.invariant.words;
    }

pub returns-clause-rest : goal.returns-clause-rest
returns-clause-rest g c = pieces_done c.args.after.now c.loop-piece.rest.now _ _ c.loop-piece.invariant.is_end c.in_default.ensures.belonging c.loop-piece.invariant.written
