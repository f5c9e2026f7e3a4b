-- What one level of a tree or an item says, in terms of what is inside.
use Rattle.std.proofs.Common.{◌≡◌, ℕ, List, Option, Box, Vec, rules}
use Rattle.std.specs.Borrow.{Bor}
use Rattle.bpaf_doc.specs.Buffer.Parts.{Part}
use Rattle.bpaf_meta.specs.Content.{command, and_of, or_of, many, required}
use Rattle.bpaf_meta.specs.Meta.Steps.Forms.{form_of, forms_of}
use Rattle.bpaf_meta.specs.View.{tree_of, trees_of, leaf_of, head_of}
use Rattle.bpaf_meta.specs.declared.item.Item.{Command, the_lemmas}
use Rattle.bpaf_meta.specs.declared.meta.Meta.{Meta, Or}
use Rattle.bpaf_meta.specs.declared.meta.form.Form as forms
use Rattle.bpaf_meta.specs.declared.meta_help.Info.{Info}

pub view-Command : {A : Type 0} (name : Bor (List ℕ)) (short : Option ℕ) (help : Option (List Part)) (meta : Box (Meta A) A) (info : Box (Info A) A) → leaf_of (Command name short help meta info) ≡ command name.now short help (tree_of meta.value) (head_of info.value)
view-Command name short help meta info = search (rules, the_lemmas)

pub view-Or : {A : Type 0} (v : Vec (Meta A) A) → tree_of (Or v) ≡ or_of (trees_of v.items)
view-Or v = search (rules, the_lemmas)

pub form-And : {A : Type 0} (v : Vec (forms.Form A) A) → form_of (forms.And v) ≡ and_of (forms_of v.items)
form-And v = search (rules, forms.the_lemmas)

pub form-Or : {A : Type 0} (v : Vec (forms.Form A) A) → form_of (forms.Or v) ≡ or_of (forms_of v.items)
form-Or v = search (rules, forms.the_lemmas)

pub form-Many : {A : Type 0} (b : Box (forms.Form A) A) → form_of (forms.Many b) ≡ many (form_of b.value)
form-Many b = search (rules, forms.the_lemmas)

pub form-Required : {A : Type 0} (b : Box (forms.Form A) A) → form_of (forms.Required b) ≡ required (form_of b.value)
form-Required b = search (rules, forms.the_lemmas)
