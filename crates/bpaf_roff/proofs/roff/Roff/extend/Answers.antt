use Rattle.std.proofs.Common.{◌∙◌, map, ap, sym, rules}
use Rattle.std.proofs.lemmas.List.{map-append}
use Rattle.bpaf_roff.specs.Roff.{script_at, script_sum}
use Rattle.bpaf_roff.proofs.lemmas.Fronts.{KeepsFront-more}
use Rattle.bpaf_roff.proofs.lemmas.Scripts.{scripts_sum-push}
use Rattle.bpaf_roff.proofs.roff.Roff.extend.Goals as goal

pub loop-other-preserved : goal.loop-other-preserved
loop-other-preserved g c =
    let inv = c.loop-other.invariant in
    let other = c.in-Some.other.now in
    let added = c.in_default.ensures.ok in
    record {
      can = search rules;
      finite = search rules;
      count = inv.count;
      strip = inv.strip;
      kept = rw added (KeepsFront-more c.args.self.now.pieces c.loop-other.self.pieces other.pieces inv.kept);
      sum = rw (map-append script_at c.loop-other.yielded) (added ∙ ap (λ s. script_sum s other) inv.sum ∙ sym (scripts_sum-push c.args.self.now (map script_at c.loop-other.yielded) other));
    }
