use Rattle.description_toml.proofs.Titles.{blanks_left}
use Rattle.description_toml.proofs.decode.texts.without_colon.Goals as goal

pub returns : goal.returns
returns c = blanks_left c.args.title.now c.before_colon.result.now c.trim_end.result.now c.before_colon.ensures c.trim_end.ensures.value c.trim_end.ensures.trim
