use Rattle.std.proofs.Common.{◌≡◌, true, ap, sym, ◌∙◌}
use Rattle.std.proofs.lemmas.Result.{on_ok_weaker}
use Rattle.description_texts.specs.TextsView.{draft_of, says_itself}
use Rattle.description_texts.proofs.TextsItself.{itself_put}
use Rattle.description_texts.proofs.texts.inside.push_line.Goals as goal

pub returns-then-says_itself : goal.returns-then-says_itself
returns-then-says_itself c =
    let itself : says_itself true c.args.line.now ≡ true = ap (says_itself true) (sym c.as_bytes.ensures.value) ∙ sym c.says_itself.ensures ∙ c.if-says_itself.true in
    on_ok_weaker c.push_words.result (λ put. put ∙ itself_put (draft_of c.args.pieces.now) c.args.line.now itself) c.push_words.ensures
