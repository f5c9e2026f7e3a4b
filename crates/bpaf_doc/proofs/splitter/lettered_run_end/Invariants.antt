use Rattle.std.specs.Prelude.{◌-◌, ◌<◌, ◌≡◌, ◌≤◌}
use Rattle.bpaf_doc.proofs.lemmas.Splitter.Words.{length, take, IsRunEnd, IsLettered, letters}
use Rattle.bpaf_doc.proofs.splitter.lettered_run_end.Given as goal

abbrev pub invariant-lettered : goal.invariant-lettered
invariant-lettered l = record {
  within : l.at ≤ length l.bytes;
  lettered : IsLettered (take l.at l.bytes);
  counted : l.taken ≡ letters (take l.at l.bytes);
  few : l.taken ≤ l.at;
  before : l.end.0 ≤ l.at;
  fits : l.end.1 ≤ l.columns;
  end_counted : l.end.1 ≡ letters (take l.end.0 l.bytes);
  run : 0 < l.end.0 → IsRunEnd l.bytes l.end.0;
}

abbrev pub decreases-lettered : goal.decreases-lettered
decreases-lettered l = length l.bytes - l.at
