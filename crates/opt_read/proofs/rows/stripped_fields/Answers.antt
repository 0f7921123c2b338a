use Rattle.std.proofs.Common.{◌<◌, ◌∙◌, ap₂, arith, length, List, ℕ, Bor, ◌++◌, ◌∷◌, [], sym}
use Rattle.std.proofs.lemmas.List.{map-append}
use Rattle.csv.specs.Records.{fields_of}
use Rattle.opt_read.specs.Grid.{without_blanks}
use Rattle.opt_read.proofs.GridLemmas.{map-take_more}
use Rattle.opt_read.proofs.rows.stripped_fields.Goals as goal

pub loop-column-preserved : goal.loop-column-preserved
loop-column-preserved c =
    let within : c.loop-column.column < length (fields_of c.args.row.now) = omega (arith, c.len-column-end.ensures) in
    rw c.in_ok-push.ensures.items (
    map-append (λ (field : Bor (List ℕ)). field.now) c.loop-column.fields.items (c.stripped_field.result ∷ [])
    ∙ (ap₂ (λ (front : List (List ℕ)) (field : List ℕ). front ++ field ∷ []) c.loop-column.invariant c.stripped_field.ensures
    ∙ sym (map-take_more without_blanks (fields_of c.args.row.now) c.loop-column.column [] within))
    )
