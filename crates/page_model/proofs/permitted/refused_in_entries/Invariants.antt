use Rattle.std.proofs.Common.{◌≡◌, None, flat_map, map, take}
use Rattle.page_model.specs.Permitted.{entry_texts, refused_in}
use Rattle.page_model.specs.View.{entry_of}
use Rattle.page_model.proofs.permitted.refused_in_entries.Given as goal

-- what was looked at is permitted
abbrev pub invariant-loop-one : goal.invariant-loop-one
invariant-loop-one g l = refused_in (flat_map entry_texts (map entry_of (take l.one-index l.entries))) ≡ None
