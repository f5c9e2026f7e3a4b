use Rattle.std.proofs.Common.{◌≡◌, ◌+◌, ◌-◌, ◌∙◌, ap, arith, drop, length, length-drop, subst, sym}
use Rattle.std.specs.Str.{IsCharBoundary}
use Rattle.std.proofs.lemmas.List.{take_all}
use Rattle.std.proofs.lemmas.Str.{IsCharBoundary-from_rest}
use Rattle.help_fronts.specs.Words.{dashes}
use Rattle.help_fronts.specs.Bytes.{free_len}
use Rattle.help_fronts.specs.declared.bytes.Class.TheVariants as class
use Rattle.help_fronts.proofs.Boundaries.{before_free, letter_stands}
use Rattle.help_fronts.proofs.words.split_name.Goals as goal

pub split_at-requires : goal.split_at-requires
split_at-requires c =
    let w = c.args.word.now in
    let lead : c.dashes-lead.result ≡ dashes w = c.dashes-lead.ensures in
    let stands = letter_stands w c.requires in
    let letters : c.free_len-letters.result ≡ free_len class.Separator (drop (c.dashes-lead.result + 1) w) =
    rw c.as_bytes.ensures.value at c.free_len-letters.ensures.exact
    ∙ ap (free_len class.Separator) (take_all (length w - (c.dashes-lead.result + 1)) (drop (c.dashes-lead.result + 1) w) (omega (arith, length-drop (c.dashes-lead.result + 1) w))) in
    subst (λ n. IsCharBoundary w (c.dashes-lead.result + 1 + n)) (sym letters)
    (IsCharBoundary-from_rest w (c.dashes-lead.result + 1) (free_len class.Separator (drop (c.dashes-lead.result + 1) w)) (omega arith) (before_free class.Separator (drop (c.dashes-lead.result + 1) w)))
