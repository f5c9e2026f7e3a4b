-- What a front says, of its value.
use Rattle.std.specs.Prelude.{map}
use Rattle.std.specs.Option.{option_map}
use Rattle.help_fronts.specs.declared.option.OptionFront.{OptionFront}
use Rattle.help_fronts.specs.declared.command.CommandFront.{CommandFront}
use Rattle.help_fronts.specs.declared.usage.UsageOption.{UsageOption}
use Rattle.help_fronts.specs.declared.usage.Word.{Word}
use Rattle.help_fronts.specs.Fronts.{CommandSaid, FrontSaid}
use Rattle.help_fronts.specs.Usages.{UsedSaid, WordSaid}

abbrev pub said : {A : Type 0} → OptionFront A → FrontSaid
said f = record {
  names = map (λ n. n.now) f.names.items;
  values = map (λ v. v.now) f.values.items;
  joint = f.joint;
  value = option_map (λ v. v.now) f.value;
  is_optional = f.is_optional;
  written = f.written.now;
  gap = f.gap.now;
  help = f.help.now;
}

abbrev pub command_said : {A : Type 0} → CommandFront A → CommandSaid
command_said f = record {
  name = f.name.now;
  aliases = map (λ n. n.now) f.aliases.items;
  says_else = f.says_else;
  written = f.written.now;
  gap = f.gap.now;
  help = f.help.now;
}

abbrev pub word_said : Word → WordSaid
word_said w = record { text = w.text.now; after = w.after.now }

abbrev pub used_said : UsageOption → UsedSaid
used_said o = record { name = o.name.now; joint = o.joint; value = o.value.now }
