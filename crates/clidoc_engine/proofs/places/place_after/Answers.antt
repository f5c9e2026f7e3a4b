use Rattle.std.proofs.Common.{◌≡◌, true, false, get_or, sym, ◌∙◌, arith, rules}
use Rattle.clidoc_engine.specs.Places.{begins_character, is_newline}
use Rattle.clidoc_engine.proofs.Lines.{line-newline, line-more, column-newline, column-begins, column-goes_on}
use Rattle.clidoc_engine.proofs.places.place_after.Goals.{then-byte-eq10, else-byte-eq10+then-begins_character, else-byte-eq10+else-begins_character}
use Rattle.clidoc_engine.proofs.places.place_after.Goals as goal

pub loop-byte-preserved : goal.loop-byte-preserved
loop-byte-preserved c =
    let xs = c.args.front.now in
    let i = c.loop-byte.byte-index in
    let inside = c.loop-byte-test.true in
    elim c.if-byte-eq10.branch [
      | then-byte-eq10 w ↦
          let newline : is_newline (get_or xs i 0) ≡ true = search rules in
          let line = line-newline xs i inside newline in
          let column = column-newline xs i inside newline in
          record { line = cc; column = cc; low_line = omega arith; low_column = omega arith }
      | else-byte-eq10+then-begins_character w ↦
          let other : is_newline (get_or xs i 0) ≡ false = search rules in
          let begins : begins_character (get_or xs i 0) ≡ true = sym w.begins_character.ensures ∙ w.if-begins_character.true in
          let line = line-more xs i inside other in
          let column = column-begins xs i inside other begins in
          record { line = cc; column = cc; low_line = omega arith; low_column = omega arith }
      | else-byte-eq10+else-begins_character w ↦
          let other : is_newline (get_or xs i 0) ≡ false = search rules in
          let goes_on : begins_character (get_or xs i 0) ≡ false = sym w.begins_character.ensures ∙ w.if-begins_character.false in
          let line = line-more xs i inside other in
          let column = column-goes_on xs i inside other goes_on in
          record { line = cc; column = cc; low_line = omega arith; low_column = omega arith }
    ]
