use Rattle.std.proofs.Common.{◌∙◌, [], Bor, List, ap, arith, length, map, slice_index_or, ℕ}
use Rattle.std.proofs.lemmas.List.{length-drop}
use Rattle.opt_read.specs.Grid.{without_blanks}
use Rattle.opt_read.proofs.BodyLemmas.{table-is}
use Rattle.opt_read.proofs.GridLaws.{places-length}
use Rattle.opt_read.proofs.ReadLemmas.{same-reading}
use Rattle.opt_read.proofs.RecordLemmas.{records-few}
use Rattle.opt_read.proofs.csv_table.text_table.Goals as goal

pub read_body-requires-clause-rows : goal.read_body-requires-clause-rows
read_body-requires-clause-rows c =
    omega (arith, ap length c.in_ok-header.ensures.rows, length-drop 1 c.new-rows.result, ap length c.new-rows.ensures, records-few c.args.text.now, c.requires.text)

pub read_body-requires-clause-places : goal.read_body-requires-clause-places
read_body-requires-clause-places c =
    omega (
      arith,
      places-length c.args.file (map without_blanks (slice_index_or c.new-rows.result 0 [])) (map (λ name. name.now) c.deref.result.now) 1 [] c.in_ok-header.header.places.items c.in_ok-header.ensures.gives,
      ap length (ap (map (λ (name : Bor (List ℕ)). name.now)) c.deref.ensures.value ∙ c.in_ok-names.ensures),
      c.requires.columns,
    )

pub returns : goal.returns
returns c =
    let names = ap (map (λ (name : Bor (List ℕ)). name.now)) c.deref.ensures.value ∙ c.in_ok-names.ensures in
    let table = table-is c.args.file c.args.text.now c.new-rows.result _ c.in_ok-header.header.places.items c.new-rows.ensures (rw names at c.in_ok-header.ensures.gives) in
    same-reading _ _ _ _ table (rw (c.in_ok-header.ensures.rows, c.in_ok-header.ensures.width) at (rw c.deref-2.ensures.value at c.read_body.ensures))
