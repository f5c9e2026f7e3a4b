use Rattle.std.proofs.Common.{◌++◌, map}
use Rattle.bpaf_meta.specs.View.{tree_of}
use Rattle.bpaf_items.specs.Listing.ItemList.{item_list}
use Rattle.bpaf_items.specs.Page.EnvTexts.{texts_in}
use Rattle.bpaf_items.specs.View.{entry_of}
use Rattle.bpaf_help.proofs.Steps.{groups_put}
use Rattle.bpaf_help.proofs.pages.manual_writes.put_list.Goals as goal

pub returns : goal.returns
returns g c =
    groups_put c.write_help_item_groups-2.result c.args.doc.now c.write_help_item_groups-2.new.doc (map entry_of c.in_ok-items.items) (item_list (tree_of c.args.meta.now) ++ item_list (tree_of c.args.help.now)) (texts_in c.new.result)
    c.in_ok-items.ensures c.write_help_item_groups-2.ensures.ok
