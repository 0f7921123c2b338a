-- the arcs so far
use Rattle.std.proofs.Common.{◌∷◌, [], ◌==◌, ◌&&◌, length, take}
use Rattle.opt_model.specs.Quantities.{over, list_if}
use Rattle.opt_rows.specs.Listed.{arrives_in_plan, way_of}
use Rattle.opt_rows.specs.Piles.{ArePiles}
use Rattle.opt_rows.proofs.flows.departures_of.Given as goal

abbrev pub invariant-loop-number : goal.invariant-loop-number
invariant-loop-number l =
    ArePiles (length l.tables.places) (λ p. over (take l.number l.tables.arcs) λ n arc. list_if ((arc.from_place == p) && arrives_in_plan l.tables arc) (way_of n arc ∷ [])) l.departures
