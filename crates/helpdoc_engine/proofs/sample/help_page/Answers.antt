use Rattle.std.proofs.Common.{◌≡◌, rules, ap, ◌∙◌}
use Rattle.std.specs.Prelude.{map, string_bytes}
use Rattle.bpaf_meta.specs.Content.{skip}
use Rattle.bpaf_meta.specs.declared.meta.Meta.{Skip, the_lemmas}
use Rattle.bpaf_meta.specs.View.{head_of, tree_of}
use Rattle.bpaf_items.specs.Page.EnvTexts.{texts_in}
use Rattle.helpdoc_engine.specs.Faults.{fault_of}
use Rattle.helpdoc_engine.proofs.SamplePages.{sample_help_is, help_page_fault, only_memory}
use Rattle.helpdoc_engine.proofs.sample.help_page.Goals as goal

view_skip : (A : Type 0) → tree_of {A = A} Skip ≡ skip
view_skip A = search (rules, the_lemmas)

pub returns-clause-document : goal.returns-clause-document
returns-clause-document g c =
    sample_help_is (map string_bytes c.deref.result.now) (head_of c.args.info.now) (tree_of c.args.tree.now) (tree_of Skip) (texts_in c.new-texts.result) c.in_ok-render_help.field-0
    (ap (map string_bytes) c.deref.ensures.value ∙ c.in_ok-path.ensures) c.requires.info c.requires.tree (view_skip _) c.in_ok-render_help.ensures.answer

pub returns-in_err-render_help-clause-fault : goal.returns-in_err-render_help-clause-fault
returns-in_err-render_help-clause-fault g c =
    let error = c.in_err-render_help.field-0.0 in
    only_memory c.from_residual-in_err-render_help.result (fault_of error) c.from_residual-in_err-render_help.ensures.1
    (help_page_fault (map string_bytes c.deref.result.now) (head_of c.args.info.now) (tree_of c.args.tree.now) (tree_of Skip) (texts_in c.new-texts.result) error c.requires.tree c.in_err-render_help.ensures.answer)
