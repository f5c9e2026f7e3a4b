use Rattle.std.specs.Prelude.{◌∷◌, ◌≡◌}
use Rattle.bpaf_items.proofs.Words.{[], rules, ap, sym, ◌∙◌, take, flat_map, take_all, text, with_text, Grows-then, Grows-by}
use Rattle.bpaf_items.proofs.Page.Leaving.{text_next, joined-all}
use Rattle.bpaf_items.proofs.meta_help.pieces.put_joined.Goals as goal

pub returns-in_err-write_str-2 : goal.returns-in_err-write_str-2
returns-in_err-write_str-2 g c =
    let so_far = Grows-by c.args.doc.now c.loop-text.doc (text (flat_map (λ t. t.now) (take c.loop-text.text-index c.args.texts.now)) c.args.style ∷ []) c.loop-text.invariant.written in
    (Grows-then _ _ _ so_far (Grows-by _ _ [] c.in_err-write_str-2.ensures.err), search rules)

pub loop-text-preserved : goal.loop-text-preserved
loop-text-preserved g c = record {
  in_range = search rules;
  written = text_next c.args.texts.now c.loop-text.text-index _ c.args.doc.now c.loop-text.doc c.write_str-in-loop-text.new.self c.args.style (search rules) c.loop-text.invariant.written c.in_ok-write_str-2.ensures.ok;
}

pub returns : goal.returns
returns g c =
    let all : flat_map (λ t. t.now) (take c.loop-text.text-index c.args.texts.now) ≡ flat_map (λ t. t.now) c.args.texts.now = ap (flat_map (λ t. t.now)) (take_all c.loop-text.text-index c.args.texts.now (search rules)) in
    let e = c.loop-text.invariant.written ∙ ap (λ bytes. with_text c.args.doc.now bytes c.args.style) (all ∙ sym (joined-all c.args.texts.now)) in
    (Grows-by _ _ (text _ c.args.style ∷ []) e, e)
