use Rattle.std.proofs.Common.{◌≡◌, ◌+◌, ◌++◌, ◌∷◌, [], drop, map, Ok}
use Rattle.opt_base.specs.Answers.{each, ◌>>=◌}
use Rattle.opt_read.specs.Grid.{place_of, places_of}
use Rattle.opt_read.proofs.csv_table.places.Given as goal

abbrev pub invariant-loop-index : goal.invariant-loop-index
invariant-loop-index l =
    each (λ column name places. place_of l.file (map (λ field. field.now) l.header) column name >>= λ place. Ok (places ++ place ∷ [])) (l.index + 1) l.places.items (drop l.index (map (λ name. name.now) l.names))
    ≡ places_of l.file (map (λ field. field.now) l.header) (map (λ name. name.now) l.names)
