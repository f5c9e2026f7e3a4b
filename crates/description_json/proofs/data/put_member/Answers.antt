use Rattle.description_json.proofs.Trees.{put_says}
use Rattle.description_json.proofs.data.put_member.Goals as goal

pub returns : goal.returns
returns c =
    put_says c.in_ok-name.name c.args.key.now c.args.value c.args.table.now.entries c.insert.new.self.entries c.in_ok-earlier.earlier c.is_none.result
    c.in_ok-name.ensures.ok c.in_ok-earlier.ensures.old c.in_ok-earlier.ensures.entries c.is_none.ensures
