use Rattle.std.proofs.Common.{Some, None, sym, arith}
use Rattle.std.proofs.lemmas.Str.Pattern.{strip_suffix_char}
use Rattle.description_toml.proofs.Titles.{colon_left, no_colon}
use Rattle.description_toml.proofs.decode.texts.before_colon.Goals as goal

pub returns-in-Some : goal.returns-in-Some
returns-in-Some c = colon_left c.args.title.now c.in-Some.rest.now (strip_suffix_char 58 c.args.title.now (Some c.in-Some.rest) c.in-Some.ensures.cases (omega arith))

pub returns-in-None : goal.returns-in-None
returns-in-None c = sym (no_colon c.args.title.now (strip_suffix_char 58 c.args.title.now None c.in-None.ensures.cases (omega arith)))
