-- That the function that looks for the first wrong entry says what the relations do.
use Rattle.std.proofs.Common.{◌≡◌, ◌⊎◌, inl, inr, ℕ, zero, suc, ◌+◌, ◌<◌, Bool, true, false, not, cond, nat_lt, is_some, Option, Some, None, List, [], ◌∷◌, ◌++◌, length, take, drop, get_or, ℤ, pos, All, Decides, refl, ap, sym, ◌∙◌, arith}
use Rattle.std.proofs.lemmas.Int.{ints}
use Rattle.std.proofs.lemmas.Bool.Decides.{Decides-ltb}
use Rattle.std.proofs.lemmas.List.{take_more, take-append-drop}
use Rattle.std.proofs.lemmas.List.Elements.{All-nil, All-cons, All-head, All-tail}
use Rattle.std.proofs.Math.Seq.{drop-cons}
use Rattle.opt_system.specs.declared.rows.RowKind.{RowKind}
use Rattle.opt_system.specs.declared.rows.RowKind.TheVariants.{Ge, Eq}
use Rattle.opt_system.specs.Systems.{System, row_at}
use Rattle.opt_bound.specs.declared.fault.EntryFault.{EntryFault}
use Rattle.opt_bound.specs.declared.fault.EntryFault.TheVariants.{RowNumber, Sign}
use Rattle.opt_bound.specs.Multipliers.{MayWeigh, IsFitting}
use Rattle.opt_bound.specs.Faults.{may_weigh, entry_fault_of, first_of, first_fault_of, IsFirstFault}

-- ---- one entry
may_weigh-Decides : (kind : RowKind) (y : ℤ) → Decides (may_weigh kind y) (MayWeigh kind y)
may_weigh-Decides Ge y = (λ e. grind (arith, ints), λ h. grind (arith, ints))
may_weigh-Decides Eq y = (λ _. tt, λ _. refl)

-- by the tests whether the row is there and whether it may be taken so
entry_by : (there may : Bool) (i : ℕ) → cond there (cond may None (Some (Sign i))) (Some (RowNumber i)) ≡ None → (there ≡ true) × (may ≡ true)
entry_by true true i e = (refl, refl)
entry_by true false i e = cc
entry_by false may i e = cc

entry_both : (there may : Bool) (i : ℕ) → there ≡ true → may ≡ true → cond there (cond may None (Some (Sign i))) (Some (RowNumber i)) ≡ None
entry_both true true i e f = refl
entry_both true false i e f = cc
entry_both false may i e f = cc

pub fitting_of : (p : System) (e : ℕ × ℤ) → entry_fault_of p e ≡ None → IsFitting p e
fitting_of p e none =
    let both : (nat_lt e.0 (length p.rows) ≡ true) × (may_weigh (row_at p.rows e.0).kind e.1 ≡ true) =
    entry_by (nat_lt e.0 (length p.rows)) (may_weigh (row_at p.rows e.0).kind e.1) e.0 none
    in
    ((Decides-ltb e.0 (length p.rows)).0 both.0, (may_weigh-Decides (row_at p.rows e.0).kind e.1).0 both.1)

pub no_fault_of : (p : System) (e : ℕ × ℤ) → IsFitting p e → entry_fault_of p e ≡ None
no_fault_of p e fits =
    entry_both (nat_lt e.0 (length p.rows)) (may_weigh (row_at p.rows e.0).kind e.1) e.0
    ((Decides-ltb e.0 (length p.rows)).1 fits.0) ((may_weigh-Decides (row_at p.rows e.0).kind e.1).1 fits.1)

-- ---- all entries
pub first_fault_of-append : (p : System) (es ds : List (ℕ × ℤ)) → first_fault_of p (es ++ ds) ≡ first_of (first_fault_of p es) (first_fault_of p ds)
first_fault_of-append p [] ds = refl
first_fault_of-append p (e ∷ es) ds =
    ap (first_of (entry_fault_of p e)) (first_fault_of-append p es ds)
    ∙ first_assoc (entry_fault_of p e) (first_fault_of p es) (first_fault_of p ds)
  where
    first_assoc : (a b c : Option EntryFault) → first_of a (first_of b c) ≡ first_of (first_of a b) c
    first_assoc None b c = refl
    first_assoc (Some f) b c = refl

-- one right entry more
pub no_fault_more : (p : System) (es : List (ℕ × ℤ)) (i : ℕ) (d : ℕ × ℤ) → i < length es → first_fault_of p (take i es) ≡ None → entry_fault_of p (get_or es i d) ≡ None → first_fault_of p (take (i + 1) es) ≡ None
no_fault_more p es i d h before here =
    ap (first_fault_of p) (take_more es i d h)
    ∙ first_fault_of-append p (take i es) (get_or es i d ∷ [])
    ∙ ap (λ f. first_of f (first_of (entry_fault_of p (get_or es i d)) None)) before
    ∙ ap (λ f. first_of f None) here

-- a wrong entry after right ones
pub first_fault_at : (p : System) (es : List (ℕ × ℤ)) (i : ℕ) (d : ℕ × ℤ) (fault : EntryFault) → i < length es → first_fault_of p (take i es) ≡ None → entry_fault_of p (get_or es i d) ≡ Some fault → first_fault_of p es ≡ Some fault
first_fault_at p es i d fault h before here =
    ap (first_fault_of p) (sym (take-append-drop i es) ∙ ap (λ r. take i es ++ r) (drop-cons es i d h))
    ∙ first_fault_of-append p (take i es) (get_or es i d ∷ drop (suc i) es)
    ∙ ap (λ f. first_of f (first_of (entry_fault_of p (get_or es i d)) (first_fault_of p (drop (suc i) es)))) before
    ∙ ap (λ f. first_of f (first_fault_of p (drop (suc i) es))) here

first_none : (a b : Option EntryFault) → first_of a b ≡ None → (a ≡ None) × (b ≡ None)
first_none None b e = (refl, e)
first_none (Some f) b e = cc

-- there is no fault exactly where the multipliers are admissible
pub admissible_of : (p : System) (es : List (ℕ × ℤ)) → first_fault_of p es ≡ None → All (IsFitting p) es
admissible_of p [] none = All-nil (IsFitting p)
admissible_of p (e ∷ es) none =
    let both : (entry_fault_of p e ≡ None) × (first_fault_of p es ≡ None) = first_none (entry_fault_of p e) (first_fault_of p es) none in
    All-cons (IsFitting p) e es (fitting_of p e both.0) (admissible_of p es both.1)

pub no_fault : (p : System) (es : List (ℕ × ℤ)) → All (IsFitting p) es → first_fault_of p es ≡ None
no_fault p [] all = refl
no_fault p (e ∷ es) all =
    ap (λ f. first_of f (first_fault_of p es)) (no_fault_of p e (All-head (IsFitting p) e es all)) ∙ no_fault p es (All-tail (IsFitting p) e es all)

-- and a fault exactly where it is that of the first wrong entry
pub first_fault_means : (p : System) (es : List (ℕ × ℤ)) (fault : EntryFault) → first_fault_of p es ≡ Some fault → (i : ℕ) × IsFirstFault p es fault i
first_fault_means p [] fault e = cc
first_fault_means p (d ∷ es) fault e =
    elim (some_or_none (entry_fault_of p d)) [
      | inl none ↦
          let later : (i : ℕ) × IsFirstFault p es fault i = first_fault_means p es fault (ap (λ f. first_of f (first_fault_of p es)) (sym none) ∙ e) in (
            suc later.0,
            record {
              in_list = omega (arith, later.1.in_list);
              wrong = later.1.wrong;
              before = before_all d es later.0 (fitting_of p d none) later.1.before;
            },
          )
      | inr some ↦
          let same : some.0 ≡ fault = cc (ap (λ f. first_of f (first_fault_of p es)) some.1) in (
            zero,
            record {
              in_list = omega arith;
              wrong = some.1 ∙ ap Some same;
              before = λ k h. absurd (omega arith);
            },
          )
    ]
  where
    some_or_none : (a : Option EntryFault) → (a ≡ None) ⊎ ((f : EntryFault) × (a ≡ Some f))
    some_or_none None = inl refl
    some_or_none (Some f) = inr (f, refl)

    before_all : (d : ℕ × ℤ) (es : List (ℕ × ℤ)) (i : ℕ) → IsFitting p d → ((k : ℕ) → k < i → IsFitting p (get_or es k (0, pos 0))) → (k : ℕ) → k < suc i → IsFitting p (get_or (d ∷ es) k (0, pos 0))
    before_all d es i here rest zero h = here
    before_all d es i here rest (suc k) h = rest k (omega arith)

pub first_fault_is : (p : System) (es : List (ℕ × ℤ)) (fault : EntryFault) (i : ℕ) → IsFirstFault p es fault i → first_fault_of p es ≡ Some fault
first_fault_is p [] fault i first = absurd (omega (arith, first.in_list))
first_fault_is p (d ∷ es) fault zero first = ap (λ f. first_of f (first_fault_of p es)) first.wrong
first_fault_is p (d ∷ es) fault (suc i) first =
    ap (λ f. first_of f (first_fault_of p es)) (no_fault_of p d (first.before 0 (omega arith)))
    ∙ first_fault_is p es fault i (record {
      in_list = omega (arith, first.in_list);
      wrong = first.wrong;
      before = λ k h. first.before (suc k) (omega arith);
    })

-- ---- tests of an option
pub some_of : (r : Option EntryFault) → is_some r ≡ true → (f : EntryFault) × (r ≡ Some f)
some_of None e = cc
some_of (Some f) e = (f, refl)

pub none_of : (r : Option EntryFault) → is_some r ≡ false → r ≡ None
none_of None e = refl
none_of (Some f) e = cc

pub false_of : (b : Bool) → not b ≡ false → b ≡ true
false_of true e = refl
false_of false e = cc
