-- The parts of a help page, one after another.
use Rattle.std.specs.Prelude.{◌++◌, ◌≡◌}
use Rattle.bpaf_items.proofs.Words.{rules, ℕ, Bool, List, ap, ◌∙◌, refl, subst, Result, arith, OnOk, OnErr, Part, IsWellNested, Write, inside, with_writes, Tree, Head, head, head_of, Entry, item_list, Texts, doc_within, groups_writes, help_page_writes, usage_line_writes, KeepsNested, footer_writes, front_writes, Leaves}
use Rattle.bpaf_doc.specs.declared.buffer.Block.TheVariants as block
use Rattle.bpaf_meta.specs.declared.meta_help.Info.{Info, the_lemmas}
use Rattle.bpaf_items.proofs.Page.Leaving.{leaves_third}

pub footer_is : {A : Type 0} (i : Info A) → doc_within block.Block i.footer ≡ footer_writes (head_of i)
footer_is i = search (rules, the_lemmas)

pub front_is : {A : Type 0} (path : List (List ℕ)) (i : Info A) (t : Tree)
    → (doc_within block.Block i.descr ++ inside block.Block (usage_line_writes path i.usage t)) ++ doc_within block.Block i.header ≡ front_writes path (head_of i) t
front_is path i t = search (rules, the_lemmas)

page_writes : (path : List (List ℕ)) (i : Head) (t help : Tree) (included : Bool) (texts : Texts)
    → (front_writes path i t ++ groups_writes included texts (item_list t ++ item_list help)) ++ footer_writes i ≡ help_page_writes path i t help included texts
page_writes path (head descr header footer usage own) t help included texts = refl

pub page_leaves : {T E : Type 0} (r : Result T E) (path : List (List ℕ)) (i : Head) (t help : Tree) (included : Bool) (texts : Texts) (items : List Entry) (before above listed now : List Part)
    → items ≡ item_list t ++ item_list help → above ≡ with_writes before (front_writes path i t) → listed ≡ with_writes above (groups_writes included texts items) → Leaves r listed now (footer_writes i)
    → Leaves r before now (help_page_writes path i t help included texts)
page_leaves r path i t help included texts items before above listed now same is_above is_listed footer =
    subst (Leaves r before now) (page_writes path i t help included texts)
    (leaves_third r before above listed now (front_writes path i t) (groups_writes included texts (item_list t ++ item_list help)) (footer_writes i)
    is_above (is_listed ∙ ap (λ es. with_writes above (groups_writes included texts es)) same) footer)

pub nested_after : {T E : Type 0} (r : Result T E) (before now : List Part) (ws : List Write) → OnOk r (now ≡ with_writes before ws) → OnErr r (now ≡ before) → KeepsNested ws → IsWellNested before → IsWellNested now
nested_after r before now ws h4 h5 h6 h7 = grind arith
