use Rattle.std.proofs.Common.{◌++◌, ◌∙◌, ap, drop, map, string_bytes}
use Rattle.std.specs.Prelude.{codes}
use Rattle.std.proofs.lemmas.Result.{on_ok_weaker}
use Rattle.toml_pieces.specs.Toml.{table, word_at}
use Rattle.drafts.specs.Entries.{help_at, table_name, value_flags, value_front, value_name, value_table}
use Rattle.drafts.specs.View.{passage_said, value_said}
use Rattle.drafts.specs.declared.notes.Subject.TheVariants as subject
use Rattle.drafts.proofs.Puts.{four_put}
use Rattle.drafts.proofs.entries.push_value.Goals as goal

pub returns : goal.returns
returns g c =
    let out = string_bytes c.args.out.now in
    let lines = (passage_said c.args.passage).lines in
    let value = value_said c.value_front-value.result in
    let below = map (λ line. line.now) c.below.result.now in
    on_ok_weaker c.push_value_flags.result
    (λ put.
    four_put out (string_bytes c.push_entry_head.new.out) (string_bytes c.push_word.new.out) (string_bytes c.push_help_of.new.out) (string_bytes c.push_value_flags.new.out)
    (table (table_name c.args.in_group (codes "positional"))) (word_at (codes "value") (value_name value.front)) (help_at subject.Positional value.help below) (value_flags value.front)
    c.in_ok-push_entry_head.ensures (c.in_ok-push_word.ensures ∙ ap (λ n. string_bytes c.push_entry_head.new.out ++ word_at (codes "value") n) c.value_name.ensures) c.in_ok-push_help_of.ensures put
    ∙ ap (λ b. out ++ value_table c.args.in_group b value) c.below.ensures
    ∙ ap (λ v. out ++ value_table c.args.in_group (drop 1 lines) v) (c.value_front-value.ensures ∙ ap value_front c.first_line.ensures))
    c.push_value_flags.ensures
