-- The pages of a level of permitted texts have permitted texts alone.
use Rattle.std.proofs.Common.{◌≡◌, ℕ, List, ◌++◌, true, codes, subst, flat_map}
use Rattle.std.specs.List.{list_all}
use Rattle.page_model.specs.Content.{PartSaid, heading, usage, block, entries}
use Rattle.page_model.specs.Permitted.{are_permitted, chapter_texts, is_permitted_entry, is_permitted_form, is_permitted_part}
use Rattle.description_pages.specs.Chapters.{chapter_from}
use Rattle.description_pages.specs.Consoles.{console_of, usage_of}
use Rattle.description_pages.specs.Levels.{SubjectSaid}
use Rattle.description_pages.specs.Manuals.{manual_below, manual_of}
use Rattle.description_pages.specs.Markdowns.{markdown_below, markdown_of}
use Rattle.description_pages.specs.Sections.{joined_names, page_name}
use Rattle.description_pages.specs.Subjects.{subjects_after}
use Rattle.page_laws.specs.Pages.{PagesArePermitted, subject_texts}
use Rattle.page_laws.specs.Texts.{fixed_texts, level_texts, option_texts, text_of}
use Rattle.page_laws.proofs.Blocks.{Permitted}
use Rattle.page_laws.proofs.Chapters.{chapter_is, chapter_said}
use Rattle.page_laws.proofs.Each.{Each, each_left, each_right}
use Rattle.page_laws.proofs.Entries.{EntryIs, words_known}
use Rattle.page_laws.proofs.Pages.{IfSubject, PartIs, SubjectIs, all_after, console_is, led_is, manual_below_is, manual_is, markdown_below_is, markdown_is, page_named, title_is, usage_of_is}
use Rattle.page_laws.proofs.Tests.{all_pass, block_passes, entry_passes, form_passes, text_passes, texts_known}
use Rattle.page_laws.proofs.Usage.{FormIs, each_flat, options_known}

part_passes : (part : PartSaid) → PartIs part → is_permitted_part part ≡ true
part_passes (heading rank title) h = text_passes title h
part_passes (usage forms) h = all_pass FormIs is_permitted_form form_passes forms h
part_passes (block shown) h = block_passes shown h
part_passes (entries list) h = all_pass EntryIs is_permitted_entry entry_passes list h

pub parts_pass : (parts : List PartSaid) → Each PartIs parts → list_all is_permitted_part parts ≡ true
parts_pass parts h = all_pass PartIs is_permitted_part part_passes parts h

pub subject_known : (s : SubjectSaid) → Each Permitted (subject_texts s) → SubjectIs s
subject_known s h =
    let said : List (List ℕ) = flat_map option_texts s.help_options ++ level_texts s.level in
    let after = each_right Permitted s.names (text_of s.help ++ said) h in
    let own = each_right Permitted (text_of s.help) said after in
    record {
      names = each_left Permitted s.names (text_of s.help ++ said) h;
      help = each_left Permitted (text_of s.help) said after;
      help_options = options_known s.help_options (each_left Permitted (flat_map option_texts s.help_options) (level_texts s.level) own);
      level = each_right Permitted (flat_map option_texts s.help_options) (level_texts s.level) own;
    }

pub pages_are_permitted : PagesArePermitted
pages_are_permitted fixed top s path f t l =
    let w = words_known fixed (texts_known (fixed_texts fixed) f) in
    let h : SubjectIs s = subst IfSubject l (led_is path top (subject_known top (texts_known (subject_texts top) t))) in
    let below = all_after s h in
    record {
      console = λ detail. parts_pass (console_of fixed detail s) (console_is fixed w s h detail);
      usage = all_pass FormIs is_permitted_form form_passes (usage_of fixed s) (usage_of_is fixed w s h);
      markdown_title = text_passes (joined_names (codes " ") s.names) (title_is s.names h.names);
      markdown = λ depth. parts_pass (markdown_of fixed depth s) (markdown_is fixed w s h depth);
      deep_markdown = parts_pass (flat_map (markdown_below fixed) (subjects_after s)) (each_flat SubjectIs PartIs (markdown_below fixed) (markdown_below_is fixed w) (subjects_after s) below);
      manual_name = text_passes (page_name s.names) (page_named s.names h.names);
      manual = parts_pass (manual_of fixed s) (manual_is fixed w s h);
      deep_manual = parts_pass (flat_map (manual_below fixed) (subjects_after s)) (each_flat SubjectIs PartIs (manual_below fixed) (manual_below_is fixed w) (subjects_after s) below);
      chapter = all_pass Permitted are_permitted text_passes (chapter_texts (chapter_from fixed s)) (chapter_said (chapter_from fixed s) (chapter_is fixed w s h));
    }
