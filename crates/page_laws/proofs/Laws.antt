-- What a page makes of permitted texts is permitted.
use Rattle.std.proofs.Common.{◌≡◌, ℕ, true, List, ◌∷◌, Option, Some, None, refl}
use Rattle.std.specs.List.{list_all}
use Rattle.std.proofs.lemmas.Bool.{and_from, and_parts}
use Rattle.page_model.specs.Content.{EntrySaid, TargetSaid, BlockSaid}
use Rattle.page_model.specs.Permitted.{has_permitted_content, is_permitted_block, is_permitted_entry, is_permitted_form, is_permitted_target}
use Rattle.description.specs.Content.{CommandSaid, command}
use Rattle.description.specs.Words.{WordsSaid}
use Rattle.description_texts.specs.Texts.{text_blocks}
use Rattle.description_usage.specs.Entries.{command_entry, option_entry, positional_entry}
use Rattle.description_usage.specs.Forms.{usage_forms}
use Rattle.page_laws.specs.Laws.{BlocksArePermitted, EntriesArePermitted, UsagesArePermitted, is_fit, is_permitted_if}
use Rattle.page_laws.specs.Texts.{command_texts, fixed_texts, level_texts, option_texts, positional_texts}
use Rattle.page_laws.proofs.Blocks.{BlockIs, blocks_permitted}
use Rattle.page_laws.proofs.Each.{Each}
use Rattle.page_laws.proofs.Entries.{ContentIs, IfEntry, WordsAre, command_content, command_known, option_is, positional_entry_is, words_known}
use Rattle.page_laws.proofs.Tests.{all_pass, block_passes, content_passes, entry_passes, form_passes, text_known, texts_known}
use Rattle.page_laws.proofs.Usage.{FormIs, forms_are, level_known, option_known, positional_known}

pub blocks_are_permitted : BlocksArePermitted
blocks_are_permitted text h = all_pass BlockIs is_permitted_block block_passes (text_blocks text) (blocks_permitted text (text_known text h))

fixed_known : (fixed : WordsSaid) (text : List ℕ) → list_all is_fit (text ∷ fixed_texts fixed) ≡ true → WordsAre fixed
fixed_known fixed text h = words_known fixed (texts_known (fixed_texts fixed) (and_parts (is_fit text) (list_all is_fit (fixed_texts fixed)) h).1)

pub usages_are_permitted : UsagesArePermitted
usages_are_permitted fixed names l h k =
    let w = fixed_known fixed names h in
    let first = text_known names (and_parts (is_fit names) (list_all is_fit (fixed_texts fixed)) h).0 in
    all_pass FormIs is_permitted_form form_passes (usage_forms fixed names l) (forms_are fixed w.usage w.command names first l (level_known l (texts_known (level_texts l) k)))

help_known : (fixed : WordsSaid) (help : List ℕ) → list_all is_fit (help ∷ fixed_texts fixed) ≡ true → Each BlockIs (text_blocks help)
help_known fixed help h = blocks_permitted help (text_known help (and_parts (is_fit help) (list_all is_fit (fixed_texts fixed)) h).0)

if_passes : (fixed : WordsSaid) (w : WordsAre fixed) (e : Option EntrySaid) → IfEntry fixed w e → is_permitted_if e ≡ true
if_passes fixed w None h = refl
if_passes fixed w (Some e) h = entry_passes e h

command_passes : (fixed : WordsSaid) (target : TargetSaid) (m : CommandSaid) (help : List BlockSaid) → is_permitted_target target ≡ true → ContentIs (command_entry fixed target m help) → is_permitted_entry (command_entry fixed target m help) ≡ true
command_passes fixed target (command called text l) help t h =
    let e : EntrySaid = command_entry fixed target (command called text l) help in
    and_from (is_permitted_target target) (has_permitted_content e) t (content_passes e h)

pub entries_are_permitted : EntriesArePermitted
entries_are_permitted = record {
  option = λ fixed o help h k. entry_passes (option_entry fixed o (text_blocks help)) (option_is fixed (fixed_known fixed help h) o (option_known o (texts_known (option_texts o) k)) (text_blocks help) (help_known fixed help h));
  positional = λ fixed p help h k.
      let w = fixed_known fixed help h in
      if_passes fixed w (positional_entry fixed p (text_blocks help)) (positional_entry_is fixed w p (positional_known p (texts_known (positional_texts p) k)) (text_blocks help) (help_known fixed help h));
  command = λ fixed target m help t h k.
      let w = fixed_known fixed help h in
      command_passes fixed target m (text_blocks help) t (command_content fixed w target m (command_known m (texts_known (command_texts m) k)) (text_blocks help) (help_known fixed help h));
}
