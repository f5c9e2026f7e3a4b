use Rattle.bpaf_items.proofs.Words.{map, rules, codes, Grows-then, Grows-by, items_of_type, texts_in, heading_writes, entry_at}
use Rattle.bpaf_items.specs.declared.meta_help.entry.HiTy.TheVariants as ty
use Rattle.bpaf_items.proofs.Page.Leaving.{leaves_third}
use Rattle.bpaf_items.proofs.meta_help.writes.Writer.put_headings.Goals as goal

pub returns-in_err-put_heading-2 : goal.returns-in_err-put_heading-2
returns-in_err-put_heading-2 g c =
    let values = heading_writes c.args.self.now.include_env (texts_in c.args.self.now.texts.now) (codes "Available positional items:") (items_of_type (map entry_at c.args.outside.now) ty.Positional) in
    (Grows-then _ _ _ (Grows-by _ _ values c.in_ok-put_heading.ensures.1) c.put_heading-2.ensures.0, search rules)

pub returns : goal.returns
returns g c =
    let values = heading_writes c.args.self.now.include_env (texts_in c.args.self.now.texts.now) (codes "Available positional items:") (items_of_type (map entry_at c.args.outside.now) ty.Positional) in
    let options = heading_writes c.args.self.now.include_env (texts_in c.args.self.now.texts.now) (codes "Available options:") (items_of_type (map entry_at c.args.outside.now) ty.Flag) in
    let commands = heading_writes c.args.self.now.include_env (texts_in c.args.self.now.texts.now) (codes "Available commands:") (items_of_type (map entry_at c.args.outside.now) ty.Command) in
    leaves_third _ _ _ _ _ values options commands c.in_ok-put_heading.ensures.1 c.in_ok-put_heading-2.ensures.1 c.put_heading-3.ensures
