use Rattle.std.proofs.Common.{◌∙◌, ◌+◌, arith, List, ℕ, Bor, map, sym, length, ◌≤◌}
use Rattle.std.proofs.lemmas.List.{length-map}
use Rattle.std.proofs.lemmas.Result.{err_from_is_err_and}
use Rattle.opt_base.proofs.Each.{each_done}
use Rattle.opt_read.proofs.GridLemmas.{places-fail, places-on}
use Rattle.opt_read.proofs.csv_table.places.Goals as goal

pub loop-index-init : goal.loop-index-init
loop-index-init c = rw c.new-places.ensures.items

pub returns-in_err-place : goal.returns-in_err-place
returns-in_err-place c =
    let p = err_from_is_err_and c.from_residual.result c.from_residual.ensures.1 in
    rw (p.1, p.2) (places-fail c.args.file (map (λ field. field.now) c.args.header.now) c.args.names.now c.loop-index.index c.loop-index.places.items _ _ c.in_err-place.field-0.0 c.loop-index-test.true c.loop-index.invariant c.in_err-place.ensures)

pub loop-index-preserved : goal.loop-index-preserved
loop-index-preserved c =
    rw c.in_ok-push.ensures.items (places-on c.args.file (map (λ field. field.now) c.args.header.now) c.args.names.now c.loop-index.index c.loop-index.places.items _ _ c.in_ok-place.field-0 c.loop-index-test.true c.loop-index.invariant c.in_ok-place.ensures)

pub returns : goal.returns
returns c =
    let past : length (map (λ name. name.now) c.args.names.now) ≤ c.loop-index.index = omega (arith, length-map c.args.names.now (λ (name : Bor (List ℕ)). name.now)) in
    sym c.loop-index.invariant ∙ each_done _ (c.loop-index.index + 1) c.loop-index.places.items (map (λ name. name.now) c.args.names.now) c.loop-index.index past
