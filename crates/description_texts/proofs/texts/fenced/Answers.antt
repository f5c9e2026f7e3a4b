use Rattle.std.proofs.Common.{◌∷◌, [], map, take, ap, sym, ◌∙◌}
use Rattle.page_model.specs.Content.{code}
use Rattle.description_texts.specs.Texts.{some_code}
use Rattle.description_texts.proofs.TextsLines.{code_none, code_some, inner_seen}
use Rattle.description_texts.proofs.texts.fenced.Goals as goal

pub returns-then-is_empty : goal.returns-then-is_empty
returns-then-is_empty c =
    let more = c.args.more.now in
    sym (ap some_code (inner_seen (λ line. line.now) more ∙ ap (λ n. map (λ line. line.now) (take n more)) (sym c.fenced_len.ensures))
    ∙ code_none (λ line. line.now) (take c.fenced_len.result more) (sym c.is_empty.ensures ∙ c.if-is_empty.true))

pub returns : goal.returns
returns c =
    let more = c.args.more.now in
    ap (λ lines. code (map (λ line. line.now) lines) ∷ []) c.in_ok-from_slice.ensures.items
    ∙ sym (ap some_code (inner_seen (λ line. line.now) more ∙ ap (λ n. map (λ line. line.now) (take n more)) (sym c.fenced_len.ensures))
    ∙ code_some (λ line. line.now) (take c.fenced_len.result more) (sym c.is_empty.ensures ∙ c.if-is_empty.false))
