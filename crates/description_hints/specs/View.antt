-- What hints, parts and ways say.
use Rattle.std.specs.Prelude.{ℕ, Bool, List, map, bytes_eq}
use Rattle.std.specs.Borrow.{Bor}
use Rattle.std.specs.List.{list_any}
use Rattle.keyed.specs.declared.step.Step.{Step}
use Rattle.keyed.specs.declared.step.Step.TheVariants.{Key, Index}
use Rattle.description.specs.View.{opt_said, positional_said, text_of}
use Rattle.description.specs.Words as of_words
use Rattle.description_hints.specs.Content.{Around, HelpSaid, StepSaid, key, index, Path, HintSaid, no_help, nothing_said, no_about, two_sentences, wide_summary, no_such_option, plain_link, wide_item, not_on_level, different_help, no_file_name, alike_name, help_name, marked_value, bracketed_name, unlisted_default, PageSiteSaid, WarningSaid, PartSaid, application_part, option_part, positional_part, command_part, text_part, usage_part, SiteSaid}
use Rattle.description_hints.specs.declared.around.Around as of_around
use Rattle.description_hints.specs.declared.helps.NamedHelp.{NamedHelp}
use Rattle.description_hints.specs.declared.hints.Hint.{Hint}
use Rattle.description_hints.specs.declared.hints.Hint.TheVariants as hint
use Rattle.description_hints.specs.declared.hints.Warning.{Warning}
use Rattle.description_hints.specs.declared.known.Known.{Known}
use Rattle.description_hints.specs.declared.pages.PageSite.{PageSite}
use Rattle.description_hints.specs.declared.sites.Part.{Part}
use Rattle.description_hints.specs.declared.sites.Part.TheVariants as part
use Rattle.description_hints.specs.declared.sites.Site.{Site}

abbrev pub step_said : Step → StepSaid
step_said (Key name) = key name.now
step_said (Index n) = index n

abbrev pub path_said : List Step → Path
path_said steps = map step_said steps

abbrev pub words_said : List (Bor (List ℕ)) → List (List ℕ)
words_said words = map (λ word. word.now) words

abbrev pub hint_said : Hint → HintSaid
hint_said hint.NoHelp = no_help
hint_said hint.NothingSaid = nothing_said
hint_said hint.NoAbout = no_about
hint_said hint.TwoSentences = two_sentences
hint_said (hint.WideSummary columns) = wide_summary columns
hint_said (hint.NoSuchOption word) = no_such_option word.now
hint_said (hint.PlainLink address) = plain_link address.now
hint_said (hint.WideItem columns) = wide_item columns
hint_said (hint.NotOnLevel word) = not_on_level word.now
hint_said (hint.DifferentHelp name first) = different_help name.now (path_said first.now)
hint_said (hint.NoFileName name) = no_file_name name.now
hint_said (hint.AlikeName name) = alike_name name.now
hint_said (hint.HelpName name) = help_name name.now
hint_said (hint.MarkedValue word) = marked_value word.now
hint_said (hint.BracketedName word) = bracketed_name word.now
hint_said (hint.UnlistedDefault text) = unlisted_default text.now

abbrev pub warning_said : Warning → WarningSaid
warning_said w = record { path = path_said w.path.now; hint = hint_said w.hint }

abbrev pub part_said : Part → PartSaid
part_said (part.Application about) = application_part (text_of about)
part_said (part.Option o standing) = option_part (opt_said o) standing
part_said (part.Positional p) = positional_part (positional_said p)
part_said (part.Command hidden help about) = command_part hidden (text_of help) (text_of about)
part_said (part.Text said) = text_part said.now
part_said (part.Usage said own) = usage_part said.now (words_said own.now)

abbrev pub site_said : Site → SiteSaid
site_said s = record { path = path_said s.path.now; part = part_said s.part }

-- whether a set has a word
abbrev pub holds : Known → (word : List ℕ) → Bool
holds known word = list_any (λ held. bytes_eq word held.now) known.words.keys

abbrev pub around_said : of_around.Around → Around
around_said a = record { fixed = of_words.words_said a.fixed; is_option_word = holds a.option_words; is_help_word = holds a.help_words; is_help_name = holds a.help_names }

abbrev pub help_said : NamedHelp → HelpSaid
help_said h = record { name = h.name.now; help = h.help.now; path = path_said h.path.now }

abbrev pub page_site_said : PageSite → PageSiteSaid
page_site_said p = record { path = path_said p.path.now; name = p.name.now }
