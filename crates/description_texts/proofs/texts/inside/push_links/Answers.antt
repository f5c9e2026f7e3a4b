use Rattle.std.proofs.Common.{◌∙◌, rules}
use Rattle.std.proofs.lemmas.Result.{on_ok_weaker}
use Rattle.description_texts.specs.TextsInside.{links, with_pieces}
use Rattle.description_texts.specs.TextsView.{draft_of}
use Rattle.description_texts.proofs.TextsPieces.{link_put, words_put}
use Rattle.description_texts.proofs.texts.inside.push_links.Goals as goal

pub loop-link-preserved : goal.loop-link-preserved
loop-link-preserved c =
    let link = c.in-Some.link in
    record {
      utf8 = search rules;
      written =
          link_put (draft_of c.loop-link.pieces) (draft_of c.push_words.new.pieces) (draft_of c.push_apart.new.pieces) c.loop-link.rest.now link.before.now link.address.now link.after.now c.in-Some.ensures.0 c.in_ok-push_words.ensures c.in_ok-push_apart.ensures
          ∙ c.loop-link.invariant.written;
    }

pub returns : goal.returns
returns c =
    on_ok_weaker c.push_words-2.result (words_put (draft_of c.loop-link.pieces) (draft_of c.push_words-2.new.pieces) (with_pieces (draft_of c.args.pieces.now) (links c.args.text.now)) c.loop-link.rest.now c.in_default.ensures c.loop-link.invariant.written) c.push_words-2.ensures
