use Rattle.std.proofs.Common.{map}
use Rattle.std.proofs.lemmas.Result.{on_ok_weaker}
use Rattle.page_model.specs.View.{block_of}
use Rattle.description_pages.proofs.Merged.{block_put}
use Rattle.description_pages.proofs.topics.push_block.Goals as goal

pub returns-in-Some : goal.returns-in-Some
returns-in-Some g c =
    on_ok_weaker c.push_together.result
    (block_put block_of c.args.blocks.now.items c.pop.new.self.items c.in-Some.last (map block_of c.push_together.new.blocks.items) (block_of c.args.block) c.in-Some.ensures.items)
    c.push_together.ensures
