use Rattle.std.proofs.Common.{◌++◌, [], ◌∷◌, flat_map, map, sym, ap, ◌∙◌}
use Rattle.page_model.specs.Permitted.{block_texts, level_texts, part_texts, refused_in}
use Rattle.page_model.specs.View.{block_of, part_of}
use Rattle.page_model.specs.declared.parts.Chapter.{out-Chapter}
use Rattle.page_model.proofs.Refused.{both_found, open-Chapter}
use Rattle.page_model.proofs.permitted.refused_in_level.Goals as goal

pub returns : goal.returns
returns g c =
    let level = out-Chapter _ c.args.chapter.now in
    let names = both_found c.refused.result c.refused-2.result c.first_of-names.result (level.title.now ∷ []) (level.name.now ∷ []) c.first_of-names.ensures c.refused.ensures c.refused-2.ensures in
    let content = both_found c.refused_in_blocks.result c.refused_in_parts.result c.first_of-content.result (flat_map block_texts (map block_of level.about.items)) (flat_map part_texts (map part_of level.parts.items)) c.first_of-content.ensures
    (c.refused_in_blocks.ensures ∙ ap (λ list. refused_in (flat_map block_texts (map block_of list))) c.as_slice.ensures.value)
    (c.refused_in_parts.ensures ∙ ap (λ list. refused_in (flat_map part_texts (map part_of list))) c.as_slice-2.ensures.value) in
    both_found c.first_of-names.result c.first_of-content.result c.first_of.result (level.title.now ∷ (level.name.now ∷ [])) (flat_map block_texts (map block_of level.about.items) ++ flat_map part_texts (map part_of level.parts.items)) c.first_of.ensures names content
    ∙ ap (λ said. refused_in (level_texts said)) (sym (open-Chapter c.args.chapter.now))
