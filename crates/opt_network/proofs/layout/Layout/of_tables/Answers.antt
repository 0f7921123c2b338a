use Rattle.std.proofs.Common.{◌≡◌, ◌≤◌, true, List, All, count_by, map, sym, ap, subst, ◌∙◌}
use Rattle.opt_model.specs.Quantities.{same_quantity, quantities, low, high}
use Rattle.opt_model.specs.declared.quantity.Quantity.{Quantity}
use Rattle.opt_network.specs.Numbering.{Numbering, numbering_of, IsNumbering, has_quantity}
use Rattle.opt_network.proofs.OneToOne.{counted_once}
use Rattle.opt_network.proofs.Ranges.{all_exist, once, numbering_holds, same_numbering}
use Rattle.opt_network.proofs.layout.Layout.of_tables.Goals as goal

pub spans_of-requires-clause-exist : goal.spans_of-requires-clause-exist
spans_of-requires-clause-exist c =
    let t = c.args.tables.now in
    subst (λ (qs : List Quantity). All (λ q. has_quantity t q ≡ true) qs) (sym (c.deref.ensures.value ∙ c.in_ok-list.ensures)) (all_exist t)

pub number_quantities-requires : goal.number_quantities-requires
number_quantities-requires c =
    let t = c.args.tables.now in
    subst (λ (qs : List Quantity). (q : Quantity) → count_by (same_quantity q) qs ≤ 1) (sym (c.deref-2.ensures.value ∙ c.in_ok-list.ensures)) (once t)

pub invariant_of-result : goal.invariant_of-result
invariant_of-result c =
    let t = c.args.tables.now in
    let n : Numbering = record { quantities = c.in_ok-quantities.quantities.keys; lows = c.in_ok-spans.spans.lows.items; highs = c.in_ok-spans.spans.highs.items; rations = c.ration_count.result } in
    let listed = c.deref.ensures.value ∙ c.in_ok-list.ensures in
    let same : n ≡ numbering_of t = same_numbering n (numbering_of t)
    (c.in_ok-quantities.ensures ∙ (c.deref-2.ensures.value ∙ c.in_ok-list.ensures))
    (c.in_ok-spans.ensures.lows ∙ ap (map (low t)) listed) (c.in_ok-spans.ensures.highs ∙ ap (map (high t)) listed) c.ration_count.ensures.count in
    subst IsNumbering (sym same) (numbering_holds t c.requires.model c.requires.few)

pub returns : goal.returns
returns c =
    let t = c.args.tables.now in
    let n : Numbering = record { quantities = c.in_ok-quantities.quantities.keys; lows = c.in_ok-spans.spans.lows.items; highs = c.in_ok-spans.spans.highs.items; rations = c.ration_count.result } in
    let listed = c.deref.ensures.value ∙ c.in_ok-list.ensures in
    let keys : n.quantities ≡ quantities t = c.in_ok-quantities.ensures ∙ (c.deref-2.ensures.value ∙ c.in_ok-list.ensures) in
    record {
      same = same_numbering n (numbering_of t) keys
          (c.in_ok-spans.ensures.lows ∙ ap (map (low t)) listed) (c.in_ok-spans.ensures.highs ∙ ap (map (high t)) listed) c.ration_count.ensures.count;
      few = c.requires.few;
      once = λ q. ap (count_by (same_quantity q)) keys ∙ counted_once t q;
    }
