use Rattle.std.proofs.Common.{◌≡◌, ◌∙◌, ap, drop, rules, sym, true}
use Rattle.std.specs.Char.{is_ascii_alphanumeric}
use Rattle.std.specs.List.{list_all}
use Rattle.help_fronts.specs.View.{used_said}
use Rattle.drafts.specs.Strays.{is_cluster}
use Rattle.drafts.specs.View.{held}
use Rattle.drafts.proofs.Letters.{cluster_cut, cluster_letters, together_cluster}
use Rattle.drafts.proofs.strays.push_options_of.Goals as goal

pub range_from-requires : goal.range_from-requires
range_from-requires g c =
    let together : is_cluster (held c.args.taken.now) c.args.option.name.now ≡ true = together_cluster (held c.args.taken.now) (used_said c.args.option) (sym c.stand_together.ensures ∙ c.if-stand_together.true) in
    λ positive. cluster_cut (held c.args.taken.now) c.args.option.name.now together (search rules)

pub push_letters-requires : goal.push_letters-requires
push_letters-requires g c =
    let together : is_cluster (held c.args.taken.now) c.args.option.name.now ≡ true = together_cluster (held c.args.taken.now) (used_said c.args.option) (sym c.stand_together.ensures ∙ c.if-stand_together.true) in
    let cut : c.range_from.result.now ≡ drop 1 c.args.option.name.now = search rules in
    ap (list_all is_ascii_alphanumeric) cut ∙ cluster_letters (held c.args.taken.now) c.args.option.name.now together
