use Rattle.std.proofs.Common.{◌≡◌, ℕ, ◌+◌, ◌++◌, ◌∙◌, ◌⊎◌, inl, inr, ap, subst, sym, List, drop, map, refl, string_bytes, arith, rules, Box}
use Rattle.std.specs.Result.{OnOk}
use Rattle.std.proofs.lemmas.List.{at_drop_more}
use Rattle.bpaf_meta.specs.View.{tree_of, trees_of}
use Rattle.bpaf_meta.specs.declared.item.Item.{the_lemmas}
use Rattle.bpaf_meta.specs.declared.meta.Meta.{Meta}
use Rattle.bpaf_meta.specs.declared.meta.Meta.TheVariants.{Optional, Required, Adjacent, Many, Subsection, Suffix, CustomUsage, Strict}
use Rattle.bpaf_doc.specs.declared.buffer.Doc.{Doc}
use Rattle.bpaf_items.proofs.Steps.Fronts.{front_whole, front_then, append_turn}
use Rattle.bpaf_help.specs.Chapters.{command_chapters, part_chapters}
use Rattle.bpaf_help.specs.View.{chapter_of}
use Rattle.bpaf_help.proofs.pages.sections.+append.Goals as goal

pub append_parts-loop-part-init : goal.append_parts-loop-part-init
append_parts-loop-part-init g t c = record { chapters = cc; front = front_whole _; path = refl }

pub append_parts-returns-in_err-append_commands-clause-front : goal.append_parts-returns-in_err-append_commands-clause-front
append_parts-returns-in_err-append_commands-clause-front g t c = front_then _ c.loop-part.sections.items _ c.loop-part.invariant.front c.append_commands.ensures.front

pub append_parts-loop-part-preserved : goal.append_parts-loop-part-preserved
append_parts-loop-part-preserved g t c =
    let parts = c.deref-part-items.result.now in
    let i = c.loop-part.part-index in
    let part = c.part-item.result in
    let path = map string_bytes c.args.path.now.items in
    let e = at_drop_more (λ (ms : List (Meta g.row.A.Denot)). part_chapters path (trees_of ms)) parts i part (omega arith) in
    let own : map chapter_of c.append_commands.new.sections.items ≡ map chapter_of c.loop-part.sections.items ++ command_chapters path (tree_of part) =
    c.in_ok-append_commands.ensures.ok ∙ ap (λ names. map chapter_of c.loop-part.sections.items ++ command_chapters (map string_bytes names) (tree_of part)) c.loop-part.invariant.path in
    record {
      chapters = append_turn (map chapter_of c.loop-part.sections.items) (map chapter_of c.append_commands.new.sections.items) (command_chapters path (tree_of part)) (part_chapters path (trees_of (drop (i + 1) parts))) (map chapter_of c.args.sections.now.items ++ part_chapters path (trees_of c.args.parts.now.items)) (part_chapters path (trees_of (drop i parts))) own (e ∙ ap (λ m. command_chapters path (tree_of m) ++ part_chapters path (trees_of (drop (i + 1) parts))) (sym c.part-item.is)) c.loop-part.invariant.chapters;
      front = front_then _ c.loop-part.sections.items _ c.loop-part.invariant.front c.append_commands.ensures.front;
      path = c.append_commands.ensures.path ∙ c.loop-part.invariant.path;
    }

-- a tree around another one has its commands
chapters_inside : {A : Type 0} (path : List (List ℕ)) (m : Meta A) (inner : Box (Meta A) A) → (m ≡ Optional inner) ⊎ ((m ≡ Required inner) ⊎ ((m ≡ Adjacent inner) ⊎ ((m ≡ Many inner) ⊎ (((d : Box (Doc A) A) × (m ≡ Subsection inner d)) ⊎ (((d : Box (Doc A) A) × (m ≡ Suffix inner d)) ⊎ (((d : Box (Doc A) A) × (m ≡ CustomUsage inner d)) ⊎ (m ≡ Strict inner))))))) → command_chapters path (tree_of m) ≡ command_chapters path (tree_of inner.value)
chapters_inside path m inner (inl e) = search (rules, the_lemmas, e)
chapters_inside path m inner (inr (inl e)) = search (rules, the_lemmas, e)
chapters_inside path m inner (inr (inr (inl e))) = search (rules, the_lemmas, e)
chapters_inside path m inner (inr (inr (inr (inl e)))) = search (rules, the_lemmas, e)
chapters_inside path m inner (inr (inr (inr (inr (inl e))))) = search (rules, the_lemmas, e.1)
chapters_inside path m inner (inr (inr (inr (inr (inr (inl e)))))) = search (rules, the_lemmas, e.1)
chapters_inside path m inner (inr (inr (inr (inr (inr (inr (inl e))))))) = search (rules, the_lemmas, e.1)
chapters_inside path m inner (inr (inr (inr (inr (inr (inr (inr e))))))) = search (rules, the_lemmas, e)

pub append_commands-returns-in-Optional-clause-ok : goal.append_commands-returns-in-Optional-clause-ok
append_commands-returns-in-Optional-clause-ok g t c =
    let path = map string_bytes c.args.path.now.items in
    subst (λ own. OnOk c.append_commands.result (map chapter_of c.append_commands.new.sections.items ≡ map chapter_of c.args.sections.now.items ++ own))
    (ap (λ m. command_chapters path (tree_of m)) c.deref-in-Optional.ensures ∙ sym (chapters_inside path c.args.meta.now c.in-Optional.inner c.in-Optional.is))
    c.append_commands.ensures.ok

pub append_commands-returns-in-Optional-clause-front : goal.append_commands-returns-in-Optional-clause-front
append_commands-returns-in-Optional-clause-front g t c = c.append_commands.ensures.front

pub append_commands-returns-in-Optional-clause-path : goal.append_commands-returns-in-Optional-clause-path
append_commands-returns-in-Optional-clause-path g t c = c.append_commands.ensures.path
