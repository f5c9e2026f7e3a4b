use Rattle.std.proofs.Common.{sym}
use Rattle.keyed.proofs.front_of.Goals as goal

pub returns-then-branch-3 : goal.returns-then-branch-3
returns-then-branch-3 c stands = record {
  from = c.args.entry.now.from.now;
  through = c.in-Some-before.through.now;
  following = c.args.entry.now.following.now;
  closing = c.as_str-closing.result.now;
  begins = c.in-Some.ensures;
  ends = c.in-Some-before.ensures;
  entry = rw c.as_str-closing.ensures.value stands;
  last = c.in-Some-last.last.now;
  last_is = sym c.in-Some-last.ensures.value;
  named = c.in_ok-is_named.ensures c.if-branch.true;
  before = c.in_ok-shows.ensures c.if-branch-2.true;
  after = c.in_ok-shows-2.ensures c.if-branch-3.true;
}
