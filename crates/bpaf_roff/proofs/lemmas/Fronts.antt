-- What appending leaves in front.
use Rattle.std.proofs.lemmas.Grind.{common_steps}
use Rattle.std.proofs.Common.{List, ◌++◌, ◌∙◌, length, ap, arith, take_all, take-append-drop, length-append}
use Rattle.std.proofs.lemmas.List.{take-append-le, length-take}
use Rattle.bpaf_roff.specs.Steps.Output.{KeepsFront}

-- appending keeps what was there
pub KeepsFront-append : {X : Type 0} (old more : List X) → KeepsFront old (old ++ more)
KeepsFront-append old more = take-append-le (length old) old more (omega arith) ∙ take_all (length old) old (omega arith)

pub KeepsFront-later : {X : Type 0} (old more new : List X) → KeepsFront (old ++ more) new → KeepsFront old new
KeepsFront-later old more new h = grind (arith, common_steps, take-append-drop, take-append-le (length old) (old ++ more), length-append old more, KeepsFront-append old more)

-- more of what comes later
pub KeepsFront-more : {X : Type 0} (old now more : List X) → KeepsFront old now → KeepsFront old (now ++ more)
KeepsFront-more old now more h = take-append-le (length old) now more (omega (arith, ap length h, length-take (length old) now)) ∙ h

-- one call after another
pub KeepsFront-trans : {X : Type 0} (old now new : List X) → KeepsFront old now → KeepsFront now new → KeepsFront old new
KeepsFront-trans old now new h k = grind (arith, common_steps, take-append-drop (length old) now, KeepsFront-later old)

pub ruleset front_lemmas = (KeepsFront-later, KeepsFront-trans, KeepsFront-more)
