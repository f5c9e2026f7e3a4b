use Rattle.std.proofs.Common.{◌∙◌, None, Some, ap, arith, sym, take}
use Rattle.std.proofs.lemmas.Str.Pattern.{rfind_char}
use Rattle.drafts.proofs.Ends.{found_last, none_last}
use Rattle.drafts.proofs.notes.split_last.Goals as goal

pub returns-in-None-clause-value : goal.returns-in-None-clause-value
returns-in-None-clause-value c = sym (none_last c.args.bracket c.args.text.now (rfind_char c.args.bracket c.args.text.now None c.in-None.ensures.cases c.requires))

pub returns-in-Some-clause-value : goal.returns-in-Some-clause-value
returns-in-Some-clause-value c =
    let found = rfind_char c.args.bracket c.args.text.now (Some c.in-Some.index) c.in-Some.ensures.cases c.requires in
    ap (λ front. Some (front, c.range_from.result.now)) (c.range.ensures.value ∙ ap (λ n. take n c.args.text.now) (omega arith)) ∙ ap (λ rest. Some (take c.in-Some.index c.args.text.now, rest)) c.range_from.ensures.value
    ∙ sym (found_last c.args.bracket c.in-Some.index c.args.text.now found.0 found.1 found.2)
