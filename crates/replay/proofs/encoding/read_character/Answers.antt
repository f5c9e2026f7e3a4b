use Rattle.std.proofs.Common.{rules}
use Rattle.std.specs.Str.Iter.{chars_rest}
use Rattle.replay.proofs.Spelling.{escaped_by, itself}
use Rattle.replay.proofs.encoding.read_character.Goals as goal

pub returns-in_ok-read_escape-in-92-clause-found : goal.returns-in_ok-read_escape-in-92-clause-found
returns-in_ok-read_escape-in-92-clause-found c =
    escaped_by c.in_ok-read_escape-in-92.field-0 c.args.mark (chars_rest c.args.marks.now) (chars_rest c.read_escape.new.marks) c.in-92.is c.in_ok-read_escape-in-92.ensures.found

pub returns-in_default-clause-found : goal.returns-in_default-clause-found
returns-in_default-clause-found c = itself c.args.mark (chars_rest c.args.marks.now) (search rules)
