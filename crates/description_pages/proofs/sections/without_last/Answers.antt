use Rattle.std.proofs.Common.{Some, None, sym}
use Rattle.std.proofs.lemmas.Str.Pattern.{strip_suffix_char}
use Rattle.description_pages.proofs.Titles.{last_left, no_last}
use Rattle.description_pages.proofs.sections.without_last.Goals as goal

pub returns-in-Some : goal.returns-in-Some
returns-in-Some c =
    last_left c.args.last c.args.text.now c.in-Some.rest.now (strip_suffix_char c.args.last c.args.text.now (Some c.in-Some.rest) c.in-Some.ensures.cases c.requires)

pub returns-in-None : goal.returns-in-None
returns-in-None c = sym (no_last c.args.last c.args.text.now (strip_suffix_char c.args.last c.args.text.now None c.in-None.ensures.cases c.requires))
