-- What the results of the reader of words say.
use Rattle.std.specs.Prelude.{ℕ, List, [], map, string_bytes}
use Rattle.std.specs.Borrow.{Bor}
use Rattle.description.specs.View.{text_of}
use Rattle.command_pages.specs.View.{title_said}
use Rattle.help_differences.specs.Texts.{HelpSaid}
use Rattle.clidoc_engine.specs.declared.words.HelpGiven.{HelpGiven}
use Rattle.clidoc_engine.specs.declared.words.Console.{Console}
use Rattle.clidoc_engine.specs.declared.words.Page.{Page}
use Rattle.clidoc_engine.specs.declared.words.Page.TheVariants as of_page
use Rattle.clidoc_engine.specs.declared.words.Choice.{Choice}
use Rattle.clidoc_engine.specs.declared.words.Choice.TheVariants as of_choice
use Rattle.clidoc_engine.specs.Words.{PageSaid, console, html, markdown, man, completion, in_json, differences, ChoiceSaid, page, check, all, draft, against, help, version}

abbrev pub words_said : List (Bor (List ℕ)) → List (List ℕ)
words_said = map (λ word. word.now)

abbrev pub console_said : {A : Type 0} → Console A → PageSaid
console_said c = console c.form (words_said c.commands.items) c.width

abbrev pub help_given : {A : Type 0} → HelpGiven A → HelpSaid
help_given h = record { printed = string_bytes h.printed; help_name = string_bytes h.help_name; description_name = string_bytes h.description_name }

abbrev pub page_said : {A : Type 0} → Page A → PageSaid
page_said (of_page.Console c) = console_said c
page_said (of_page.Html extent commands title) = html extent (words_said commands.items) (title_said title)
page_said (of_page.Markdown commands depth) = markdown (words_said commands.items) depth
page_said (of_page.Man commands depth title) = man (words_said commands.items) depth (title_said title)
page_said (of_page.Completion shell) = completion shell
page_said of_page.Json = in_json
page_said (of_page.Differences text commands) = differences (help_given text) (words_said commands.items)

abbrev pub choice_said : {A : Type 0} → Choice A → ChoiceSaid
choice_said (of_choice.Page p file) = page (page_said p) (text_of file)
choice_said (of_choice.Check is_strict file) = check is_strict (text_of file)
choice_said (of_choice.All folder title file) = all folder.now (title_said title) (text_of file)
choice_said (of_choice.Draft name file) = draft (text_of name) (text_of file)
choice_said (of_choice.Against printed commands file) = against printed.now (words_said commands.items) (text_of file)
choice_said of_choice.Help = help
choice_said of_choice.Version = version

-- the commands that lead to what a page shows
abbrev pub commands_of : PageSaid → List (List ℕ)
commands_of (console form commands width) = commands
commands_of (html extent commands title) = commands
commands_of (markdown commands depth) = commands
commands_of (man commands depth title) = commands
commands_of (completion shell) = []
commands_of in_json = []
commands_of (differences text commands) = commands
