use Rattle.std.proofs.Common.{◌≡◌, ◌⊎◌, Box, arith}
use Rattle.bpaf_doc.specs.declared.buffer.Doc.{Doc}
use Rattle.bpaf_meta.specs.Meta.Misplaced.{first_item}
use Rattle.bpaf_meta.specs.View.{tree_of}
use Rattle.bpaf_meta.specs.declared.item.Item.{the_lemmas}
use Rattle.bpaf_meta.specs.declared.meta.Meta.{Meta}
use Rattle.bpaf_meta.specs.declared.meta.Meta.TheVariants.{Optional, Required, Adjacent, Many, Subsection, Suffix, CustomUsage, Strict}
use Rattle.bpaf_meta.proofs.meta.Meta.+first_item.Goals as goal

around : {A : Type 0} (m : Meta A) (inner : Box (Meta A) A)
    → (m ≡ Optional inner) ⊎ ((m ≡ Required inner) ⊎ ((m ≡ Adjacent inner) ⊎ ((m ≡ Many inner) ⊎ (((d : Box (Doc A) A) × (m ≡ Subsection inner d)) ⊎ (((d : Box (Doc A) A) × (m ≡ Suffix inner d)) ⊎ (((d : Box (Doc A) A) × (m ≡ CustomUsage inner d)) ⊎ (m ≡ Strict inner)))))))
    → first_item (tree_of inner.value) ≡ first_item (tree_of m)
around m inner h = grind (arith, the_lemmas)

pub returns-in-Optional : goal.returns-in-Optional
returns-in-Optional g t c = grind (arith, around c.args.self.now c.in-Optional.inner c.in-Optional.is)
