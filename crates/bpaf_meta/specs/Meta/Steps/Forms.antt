-- What a tree in normal form over borrowed items says.
use Rattle.std.specs.Prelude.{List, map}
use Rattle.bpaf_meta.specs.Content.{Tree, and_of, or_of, optional, required, item, many, skip, custom_usage, strict, Trees}
use Rattle.bpaf_meta.specs.View.{leaf_of, trees_in}
use Rattle.bpaf_meta.specs.Meta.Normal.{item_form}
use Rattle.bpaf_meta.specs.declared.meta.form.Form.{Form, Form-F, fold-Form}

-- one level, where the inner ones are already seen
abbrev pub form_step : {A : Type 0} → Form-F A Tree → Tree
form_step (Form-F.And v) = and_of (trees_in v.items)
form_step (Form-F.Or v) = or_of (trees_in v.items)
form_step (Form-F.Optional b) = optional b.value
form_step (Form-F.Required b) = required b.value
form_step (Form-F.Item i short) = item (item_form short (leaf_of i.now))
form_step (Form-F.Many b) = many b.value
form_step Form-F.Skip = skip
form_step (Form-F.CustomUsage b d) = custom_usage b.value d.now
form_step (Form-F.Strict b) = strict b.value

abbrev pub form_of : {A : Type 0} → Form A → Tree
form_of {A} = fold-Form A Tree form_step

abbrev pub forms_of : {A : Type 0} → List (Form A) → Trees
forms_of fs = trees_in (map form_of fs)
