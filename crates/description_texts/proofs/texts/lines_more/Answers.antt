use Rattle.std.proofs.Common.{false, ◌∙◌, ap, length, map, min, suc}
use Rattle.std.specs.Prelude.{not}
use Rattle.std.proofs.lemmas.List.Sums.{prefix_len-le-length}
use Rattle.description_texts.specs.Texts.{begins_fence, code_more, is_plain, list_more, more_of}
use Rattle.description_texts.proofs.TextsCuts.{prefix_seen}
use Rattle.description_texts.proofs.TextsLines.{all_within, code_within, list_within}
use Rattle.description_texts.proofs.texts.lines_more.Goals as goal

pub returns-in-Fence : goal.returns-in-Fence
returns-in-Fence c =
    let below = c.args.below.now in
    c.fence_len.ensures
    ∙ ap (λ n. min (suc n) (length below)) (prefix_seen (λ line. not (begins_fence line)) (λ line. line.now) below)
    ∙ ap (λ k. min (more_of k (map (λ line. line.now) below)) (length below)) c.in-Fence.ensures

pub returns-in-Code : goal.returns-in-Code
returns-in-Code c =
    let below = c.args.below.now in
    let seen = map (λ line. line.now) below in
    all_within (λ line. line.now) below c.code_len.result (code_more seen) c.code_len.ensures (code_within seen)
    ∙ ap (λ k. min (more_of k seen) (length below)) c.in-Code.ensures

pub returns-in-Item : goal.returns-in-Item
returns-in-Item c =
    let below = c.args.below.now in
    let seen = map (λ line. line.now) below in
    all_within (λ line. line.now) below c.list_len.result (list_more false seen) c.list_len.ensures (list_within false seen)
    ∙ ap (λ k. min (more_of k seen) (length below)) c.in-Item.ensures

pub returns-in-Plain : goal.returns-in-Plain
returns-in-Plain c =
    let below = c.args.below.now in
    let seen = map (λ line. line.now) below in
    all_within (λ line. line.now) below c.plain_len.result _ (c.plain_len.ensures ∙ prefix_seen is_plain (λ line. line.now) below) (prefix_len-le-length is_plain seen)
    ∙ ap (λ k. min (more_of k seen) (length below)) c.in-Plain.ensures
