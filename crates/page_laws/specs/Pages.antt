-- The pages of a level, and of those below it, of permitted texts.
use Rattle.std.specs.Prelude.{◌≡◌, ℕ, List, ◌++◌, flat_map, codes, true, Some}
use Rattle.std.specs.List.{list_all}
use Rattle.page_model.specs.Permitted.{are_permitted, chapter_texts, is_permitted_form, is_permitted_part}
use Rattle.description.specs.Words.{WordsSaid}
use Rattle.description_pages.specs.Chapters.{chapter_from}
use Rattle.description_pages.specs.Consoles.{console_of, usage_of}
use Rattle.description_pages.specs.Levels.{SubjectSaid}
use Rattle.description_pages.specs.Manuals.{manual_below, manual_of}
use Rattle.description_pages.specs.Markdowns.{markdown_below, markdown_of}
use Rattle.description_pages.specs.Sections.{joined_names, page_name}
use Rattle.description_pages.specs.Subjects.{led_to, subjects_after}
use Rattle.description_pages.specs.declared.levels.Depth.{Depth}
use Rattle.description_pages.specs.declared.sections.Detail.{Detail}
use Rattle.page_laws.specs.Laws.{is_fit}
use Rattle.page_laws.specs.Texts.{fixed_texts, level_texts, option_texts, text_of}

-- the texts that the pages of a level may show: the names that lead there, what the level above says of it, and its own
abbrev pub subject_texts : SubjectSaid → List (List ℕ)
subject_texts s = s.names ++ (text_of s.help ++ (flat_map option_texts s.help_options ++ level_texts s.level))

-- each text of a page of the level is one that the media write, and of the levels
-- below it, where they stand on the page too
pub record IsPermitted (fixed : WordsSaid) (s : SubjectSaid) : Type 0 where
  -- on a console, in full and in brief, and the usage alone
  pub console : (detail : Detail) → list_all is_permitted_part (console_of fixed detail s) ≡ true
  pub usage : list_all is_permitted_form (usage_of fixed s) ≡ true
  -- in markdown, with the title above
  pub markdown_title : are_permitted (joined_names (codes " ") s.names) ≡ true
  pub markdown : (depth : Depth) → list_all is_permitted_part (markdown_of fixed depth s) ≡ true
  pub deep_markdown : list_all is_permitted_part (flat_map (markdown_below fixed) (subjects_after s)) ≡ true
  -- as a manual page, with the name in its title line
  pub manual_name : are_permitted (page_name s.names) ≡ true
  pub manual : list_all is_permitted_part (manual_of fixed s) ≡ true
  pub deep_manual : list_all is_permitted_part (flat_map (manual_below fixed) (subjects_after s)) ≡ true
  -- with all levels below it, as a page in HTML has them
  pub chapter : list_all are_permitted (chapter_texts (chapter_from fixed s)) ≡ true

-- of each level to which words lead from one whose texts are fit, with fixed words that are
abbrev pub PagesArePermitted : Type 0
PagesArePermitted =
    (fixed : WordsSaid) (top s : SubjectSaid) (path : List (List ℕ)) → list_all is_fit (fixed_texts fixed) ≡ true → list_all is_fit (subject_texts top) ≡ true → led_to path top ≡ Some s → IsPermitted fixed s
