-- What names and differences say.
use Rattle.help_differences.specs.declared.names.Name.{Name}
use Rattle.help_differences.specs.declared.compared.Difference.{Difference}
use Rattle.help_differences.specs.Names.{Named, called}
use Rattle.help_differences.specs.Differences.{Alone, alone}
use Rattle.help_differences.specs.declared.texts.HelpText.{HelpText}
use Rattle.help_differences.specs.Texts.{HelpSaid}

abbrev pub name_said : Name → Named
name_said n = called n.kind n.text.now

abbrev pub difference_said : Difference → Alone
difference_said d = alone d.stands (name_said d.name)

abbrev pub help_said : HelpText → HelpSaid
help_said h = record { printed = h.printed.now; help_name = h.help_name.now; description_name = h.description_name.now }
