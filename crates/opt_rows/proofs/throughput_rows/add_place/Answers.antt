use Rattle.std.proofs.Common.{◌≡◌, ℕ, ◌++◌, List, [], ◌∷◌, map, Option, None, ℤ, refl, sym, ap, ◌∙◌, subst, append-nil}
use Rattle.std.specs.List.{flat_map, range_with_len}
use Rattle.opt_model.specs.Tables.{Tables}
use Rattle.opt_model.specs.Quantities.{over_months}
use Rattle.opt_model.specs.Rows.{Row, throughput_row}
use Rattle.opt_model.specs.declared.quantity.Quantity.{Quantity}
use Rattle.opt_rows.specs.Systems.{SystemRow, row_over}
use Rattle.opt_rows.proofs.throughput_rows.add_place.Goals as goal

no_rows : (t : Tables) (place : ℕ) (ms : List ℕ) → flat_map (λ m. throughput_row t place None m) ms ≡ []
no_rows t place [] = refl
no_rows t place (m ∷ ms) = no_rows t place ms

none_added : (qs : List Quantity) (t : Tables) (place : ℕ) (throughput : Option ℤ) (rows : List SystemRow) → throughput ≡ None
    → rows ≡ rows ++ map (row_over qs) (over_months t λ m. throughput_row t place throughput m)
none_added qs t place throughput rows e =
    subst (λ (o : Option ℤ). rows ≡ rows ++ map (row_over qs) (over_months t λ m. throughput_row t place o m)) (sym e)
    (sym (append-nil rows) ∙ ap (λ (rs : List Row). rows ++ map (row_over qs) rs) (sym (no_rows t place (range_with_len 1 t.settings.months))))

pub returns-in-None : goal.returns-in-None
returns-in-None c = none_added c.args.layout.now.quantities c.args.tables.now c.args.number c.args.place.now.throughput c.args.rows.now c.in-None.is
