-- What the lists that the decoder goes over say.
use Rattle.std.specs.Prelude.{ℕ, [], List, map, Option, Some, None, option_map, if◌then◌else◌, String}
use Rattle.std.specs.Borrow.{Bor}
use Rattle.std.specs.BTreeMap.{BTreeMap}
use Rattle.std.specs.declared.alloc.Global.{Global}
use Rattle.std.specs.Prelude.{max}
use Rattle.toml.specs.Data.{Items, Members, items_depth}
use Rattle.toml.specs.View.{items_view, table_view}
use Rattle.toml.specs.declared.value.Value.{Value}
use Rattle.description.specs.View.{text_of}
use Rattle.description.specs.Content.{TextsSaid}
use Rattle.description_toml.specs.Described.{CommandHead, DescriptionHead, GroupHead, Lists, Outline, TitleWords, ValueSaid}
use Rattle.description_toml.specs.Described.Values.{is_empty}
use Rattle.description_toml.specs.declared.decode.options.ValueTexts.{ValueTexts}
use Rattle.description_toml.specs.declared.decode.levels.Texts.{Texts}
use Rattle.description_toml.specs.declared.decode.levels.Lists.{Lists as Code}
use Rattle.description_toml.specs.declared.decode.levels.Outline.{Outline as Seen}
use Rattle.description_toml.specs.declared.decode.levels.CommandHead.{CommandHead as SeenCommand}
use Rattle.description_toml.specs.declared.decode.DescriptionHead.{DescriptionHead as SeenDescription}
use Rattle.description_toml.specs.declared.decode.TitleWords.{TitleWords as SeenWords}
use Rattle.description_toml.specs.declared.decode.levels.GroupHead.{GroupHead as SeenGroup}

abbrev pub views_of : List (Bor (BTreeMap (String Global) Value)) → List Members
views_of = map (λ table. table_view table.now)

abbrev pub words_of : List (Bor (List ℕ)) → List (List ℕ)
words_of = map (λ text. text.now)

abbrev pub member_view : Option (Bor (BTreeMap (String Global) Value)) → Option Members
member_view = option_map (λ table. table_view table.now)

-- what the code has seen of a level
abbrev pub texts_seen : Texts → TextsSaid
texts_seen t = record { about = text_of t.about; header = text_of t.header; footer = text_of t.footer; usage = text_of t.usage; topics = [] }

abbrev pub lists_seen : Code → Lists
lists_seen l = record { options = items_view l.options.now; choices = items_view l.choices.now; groups = items_view l.groups.now; positionals = items_view l.positionals.now; commands = items_view l.commands.now; topics = items_view l.topics.now }

abbrev pub outline_seen : Seen → Outline
outline_seen o = record { texts = texts_seen o.texts; command_required = o.command_required; lists = lists_seen o.lists }

abbrev pub group_head_seen : SeenGroup → GroupHead
group_head_seen g = record { title = g.title.now; lists = lists_seen g.lists }

abbrev pub value_texts_seen : ValueTexts → ValueSaid
value_texts_seen t = record { value = text_of t.value; default = text_of t.default; values = text_of t.values; hint = t.hint }

abbrev pub command_head_seen : {A : Type 0} → SeenCommand A → CommandHead
command_head_seen c = record { names = record { name = c.name.now; initial = c.short; aliases = words_of c.aliases.items; hidden = c.hidden }; help = text_of c.help; outline = outline_seen c.outline }

abbrev pub words_seen : SeenWords → TitleWords
words_seen w = record { section = w.section.now; date = text_of w.date; vendor = text_of w.vendor; title = text_of w.title }

abbrev pub description_head_seen : SeenDescription → DescriptionHead
description_head_seen d = record { name = d.name.now; words = words_seen d.words; language = d.language.now; fixed = member_view d.fixed; help_options = items_view d.help_options.now; outline = outline_seen d.outline }

-- how deep the groups and the commands in the arrays of a level lie
abbrev pub lists_depth : Lists → ℕ
lists_depth l = max (items_depth l.groups) (items_depth l.commands)

-- the tables of an array, at least one
abbrev pub some_tables : Items → Option Items
some_tables ds = if is_empty ds then None else Some ds
