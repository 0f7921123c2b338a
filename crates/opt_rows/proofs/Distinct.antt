-- No quantity of a model has two numbers, so the law of rows holds for every model.
use Rattle.std.proofs.Common.{◌≡◌, ℕ, ◌≤◌, Bool, true, false, get_or, List, count_by, Option, Some, ℤ, ap, sym, ◌∙◌, arith}
use Rattle.std.specs.Prelude.{position}
use Rattle.std.proofs.lemmas.Option.{slice_get-get_or}
use Rattle.opt_model.specs.Tables.{Tables}
use Rattle.opt_model.specs.Quantities.{quantities, same_quantity}
use Rattle.opt_model.specs.declared.records.Goal.{Goal}
use Rattle.opt_model.specs.declared.quantity.Quantity.{Quantity}
use Rattle.opt_model.proofs.Quantities.{same_quantity-self}
use Rattle.opt_network.specs.Numbering.{has_quantity}
use Rattle.opt_network.proofs.Once.{bit}
use Rattle.opt_network.proofs.Lookups.{position-once}
use Rattle.opt_network.proofs.OneToOne.{counted_once}
use Rattle.opt_rows.specs.Systems.{system_of}
use Rattle.opt_rows.specs.Laws.{SpeaksFor}
use Rattle.opt_rows.proofs.Numbering.{AreDistinct}
use Rattle.opt_rows.proofs.Law.{law}

bit_small : (b : Bool) → bit b ≤ 1
bit_small true = omega arith
bit_small false = omega arith

one_number : (i j : ℕ) → Some i ≡ Some j → i ≡ j
one_number i j e = cc

pub once_distinct : (qs : List Quantity) → ((q : Quantity) → count_by (same_quantity q) qs ≤ 1) → AreDistinct qs
once_distinct qs once i j d below within same =
    let q : Quantity = get_or qs i d in
    let first : position (same_quantity q) qs ≡ Some i = position-once (same_quantity q) qs i q (slice_get-get_or qs i d (omega arith)) (same_quantity-self q) (once q) in
    let second : position (same_quantity q) qs ≡ Some j = position-once (same_quantity q) qs j q (slice_get-get_or qs j d within ∙ ap Some (sym same)) (same_quantity-self q) (once q) in
    let e : i ≡ j = one_number i j (sym first ∙ second) in
    absurd (omega arith)

pub quantities_distinct : (t : Tables) → AreDistinct (quantities t)
quantities_distinct t = once_distinct (quantities t) (λ q. omega (arith, counted_once t q, bit_small (has_quantity t q)))

-- the system of a model says just what the model does
pub system_speaks : (t : Tables) (goal : Goal) (cap : Option ℤ) → SpeaksFor t goal cap (system_of t goal cap)
system_speaks t goal cap = law t (quantities_distinct t) goal cap
