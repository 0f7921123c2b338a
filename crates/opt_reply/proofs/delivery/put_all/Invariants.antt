use Rattle.std.proofs.Common.{◌≡◌, ◌≤◌, Option, option_map, drop}
use Rattle.opt_base.specs.Outside.{Files}
use Rattle.opt_reply.specs.Delivery.{put_in_order, PutsSome}
use Rattle.opt_reply.proofs.delivery.put_all.Given as goal

-- what is left of the puts gives the same files as all of them did at first, and so does some of it
abbrev pub invariant-loop-put : goal.invariant-loop-put
invariant-loop-put g l = record {
  ok : option_map (put_in_order (drop l.put-index l.puts)) (g.S.Shelf.files l.shelf)
      ≡ option_map (put_in_order l.puts) (g.S.Shelf.files l.initial.shelf);
  some : (new : Option Files) → PutsSome (drop l.put-index l.puts) (g.S.Shelf.files l.shelf) new
      → PutsSome l.puts (g.S.Shelf.files l.initial.shelf) new;
  later : g.S.Shelf.count l.initial.shelf ≤ g.S.Shelf.count l.shelf;
}
