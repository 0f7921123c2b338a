use Rattle.opt_model.specs.Quantities.{rations, shorts, buys, ships, keeps, feeds, orders}
use Rattle.opt_network.proofs.RecordLists.{seven_lists}
use Rattle.opt_network.proofs.listing.list_quantities.Goals as goal

pub returns : goal.returns
returns c =
    let t = c.args.tables.now in
    seven_lists (rations t) (shorts t) (buys t) (ships t) (keeps t) (feeds t) (orders t)
    c.new-list.result.items c.add_rations.new.list.items c.add_shorts.new.list.items c.add_buys.new.list.items c.add_ships.new.list.items
    c.add_keeps.new.list.items c.add_feeds.new.list.items c.add_orders.new.list.items
    c.new-list.ensures.items c.in_ok-add_rations.ensures c.in_ok-add_shorts.ensures c.in_ok-add_buys.ensures c.in_ok-add_ships.ensures
    c.in_ok-add_keeps.ensures c.in_ok-add_feeds.ensures c.in_ok-add_orders.ensures
