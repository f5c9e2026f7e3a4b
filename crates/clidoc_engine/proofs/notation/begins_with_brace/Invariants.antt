use Rattle.std.proofs.Common.{◌≡◌, drop}
use Rattle.clidoc_engine.specs.Inputs.{first_ink}
use Rattle.clidoc_engine.proofs.notation.begins_with_brace.Given as goal

-- what stands before the byte is white space
abbrev pub invariant-loop-byte : goal.invariant-loop-byte
invariant-loop-byte l = first_ink (drop l.byte-index l.text) ≡ first_ink l.text
