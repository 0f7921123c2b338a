-- A sweep of the equations by rising position, one equation at a time.
use Rattle.std.proofs.Common.{◌≡◌, ◌≢◌, ◌⊎◌, inl, inr, ℕ, zero, suc, ◌+◌, ◌<◌, ◌≤◌, ◌==◌, if◌then◌else◌, Bool, true, false, not, List, [], ◌∷◌, ◌++◌, length, get_or, set, take, drop, pos, unsigned_abs, Result, Ok, Err, refl, ap, sym, subst, ◌∙◌, arith}
use Rattle.std.proofs.lemmas.Bool.{eq-eqb, ne_eqb, cases_eq, cases_lt}
use Rattle.std.proofs.lemmas.List.{append-nil, append_assoc, drop_all, drop_more, drop-drop, drop-set-lt, set-get_or, get_or-drop, get_or-set_same, length-set, length-drop, set_comm, take_all, take_more, take_more_set}
use Rattle.opt_base.specs.Answers.{◌>>=◌}
use Rattle.opt_sums.specs.Entries.{coef}
use Rattle.opt_frac.specs.Equations.{Equation}
use Rattle.opt_frac.specs.Elimination.{elimination}
use Rattle.opt_simplex.specs.declared.end.Why.{Why}
use Rattle.opt_simplex.specs.declared.pivot.PivotFault.{PivotFault}
use Rattle.opt_simplex.specs.declared.pivot.PivotFault.TheVariants.{Stops, OutOfMemory}
use Rattle.opt_simplex.specs.Outcomes.{Makes}
use Rattle.opt_simplex.specs.Tableau.{equation_at}
use Rattle.opt_simplex.specs.Columns.{has_term, positions_from}
use Rattle.opt_simplex.specs.Pivot.{Sweep, Treatment, replacing, treatment, treatment_at, sweep_from}

-- what was made, in front of what the rest of a sweep gives
abbrev pub with_made : List Equation → Result Sweep Why → Result Sweep Why
with_made made (Ok s) = Ok (record { equations = made ++ s.equations; count = s.count })
with_made made (Err why) = Err why

-- the first i equations are treated, and the turned one will take its position
pub record IsSweeping (by : Equation) (position : ℕ) (olds news : List Equation) (first stored i : ℕ) : Type 0 where
  pub same_length : length news ≡ length olds
  pub rest : drop i news ≡ drop i olds
  pub made : with_made (take i (set news position by)) (sweep_from by position i stored (drop i olds)) ≡ sweep_from by position 0 first olds

pub sweeping-start : (by : Equation) (position : ℕ) (olds : List Equation) (first : ℕ) → IsSweeping by position olds olds first first 0
sweeping-start by position olds first = record { same_length = refl; rest = refl; made = front (sweep_from by position 0 first olds) }
  where
    front : (r : Result Sweep Why) → with_made [] r ≡ r
    front (Ok s) = refl
    front (Err why) = refl

pub equation-same : (olds news : List Equation) (i : ℕ) (d : Equation) → drop i news ≡ drop i olds → get_or news i d ≡ get_or olds i d
equation-same olds news i d h =
    let number : i + 0 ≡ i = omega arith in
    ap (λ k. get_or news k d) (sym number) ∙ sym (get_or-drop i news 0 d) ∙ ap (λ es. get_or es 0 d) h ∙ get_or-drop i olds 0 d
    ∙ ap (λ k. get_or olds k d) number

rest_more : (olds news : List Equation) (i : ℕ) → drop i news ≡ drop i olds → drop (i + 1) news ≡ drop (i + 1) olds
rest_more olds news i h = sym (drop-drop 1 i news) ∙ ap (drop 1) h ∙ drop-drop 1 i olds

-- one equation in front of the rest
in_front : (made : List Equation) (e : Equation) (r : Result Sweep Why)
    → with_made made (r >>= λ s. Ok (record { equations = e ∷ s.equations; count = s.count })) ≡ with_made (made ++ e ∷ []) r
in_front made e (Ok s) = ap (λ es. Ok (record { equations = es; count = s.count })) (sym (append_assoc made (e ∷ []) s.equations))
in_front made e (Err why) = refl

-- the sweep from this position on
sweep_from-step : (by : Equation) (position : ℕ) (olds : List Equation) (stored i : ℕ) → i < length olds
    → sweep_from by position i stored (drop i olds)
    ≡ (treatment_at by position i stored (equation_at olds i) >>= λ head.
    sweep_from by position (i + 1) head.count (drop (i + 1) olds) >>= λ s.
    Ok (record { equations = head.equation ∷ s.equations; count = s.count }))
sweep_from-step by position olds stored i h = ap (sweep_from by position i stored) (drop_more olds i (record { basic = 0; lead = pos 1; terms = [] }) h)

treatment_other : (by : Equation) (position stored i : ℕ) (e : Equation) → i ≢ position → treatment_at by position i stored e ≡ treatment by stored e
treatment_other by position stored i e apart = rw (ne_eqb i position apart) refl

treatment_same : (by : Equation) (position stored i : ℕ) (e : Equation) → i ≡ position
    → treatment_at by position i stored e ≡ Ok (record { equation = by; count = stored })
treatment_same by position stored i e same = rw (eq-eqb i position same) refl

module _ (by : Equation) (position : ℕ) (olds news : List Equation) (first stored i : ℕ) (h : IsSweeping by position olds news first stored i) where
  -- an equation that is treated
  pub sweeping-more : (new : Equation) (count : ℕ) → i < length olds → i ≢ position
      → treatment by stored (equation_at olds i) ≡ Ok (record { equation = new; count = count })
      → IsSweeping by position olds (set news i new) first count (i + 1)
  sweeping-more new count inside apart made =
      record {
        same_length = length-set news i new ∙ h.same_length;
        rest = drop-set-lt (i + 1) news i new (omega arith) ∙ rest_more olds news i h.rest;
        made =
            ap (λ es. with_made es (sweep_from by position (i + 1) count (drop (i + 1) olds)))
            (ap (take (i + 1)) (set_comm news i position new by apart)
            ∙ take_more_set (set news position by) i new (omega (arith, length-set news position by, h.same_length, inside)))
            ∙ sym (in_front (take i (set news position by)) new (sweep_from by position (i + 1) count (drop (i + 1) olds)))
            ∙ ap (λ (r : Result Treatment Why). with_made (take i (set news position by)) (r >>= λ head.
            sweep_from by position (i + 1) head.count (drop (i + 1) olds) >>= λ s.
            Ok (record { equations = head.equation ∷ s.equations; count = s.count })))
            (sym (treatment_other by position stored i (equation_at olds i) apart ∙ made))
            ∙ ap (with_made (take i (set news position by))) (sym (sweep_from-step by position olds stored i inside))
            ∙ h.made;
      }

  -- the position of the turned equation
  pub sweeping-over : i < length olds → i ≡ position → IsSweeping by position olds news first stored (i + 1)
  sweeping-over inside same =
      record {
        same_length = h.same_length;
        rest = rest_more olds news i h.rest;
        made =
            ap (λ es. with_made es (sweep_from by position (i + 1) stored (drop (i + 1) olds)))
            (take_more (set news position by) i by (omega (arith, length-set news position by, h.same_length, inside))
            ∙ ap (λ e. take i (set news position by) ++ e ∷ [])
            (ap (λ k. get_or (set news position by) k by) same ∙ get_or-set_same news position by by (omega (arith, h.same_length, inside, same))))
            ∙ sym (in_front (take i (set news position by)) by (sweep_from by position (i + 1) stored (drop (i + 1) olds)))
            ∙ ap (λ (r : Result Treatment Why). with_made (take i (set news position by)) (r >>= λ head.
            sweep_from by position (i + 1) head.count (drop (i + 1) olds) >>= λ s.
            Ok (record { equations = head.equation ∷ s.equations; count = s.count })))
            (sym (treatment_same by position stored i (equation_at olds i) same))
            ∙ ap (with_made (take i (set news position by))) (sym (sweep_from-step by position olds stored i inside))
            ∙ h.made;
      }

  -- an equation at which the pivot stops
  pub sweeping-stops : (why : Why) → i < length olds → i ≢ position → treatment by stored (equation_at olds i) ≡ Err why
      → sweep_from by position 0 first olds ≡ Err why
  sweeping-stops why inside apart stops =
      sym h.made
      ∙ ap (with_made (take i (set news position by))) (sweep_from-step by position olds stored i inside)
      ∙ ap (λ (r : Result Treatment Why). with_made (take i (set news position by)) (r >>= λ head.
      sweep_from by position (i + 1) head.count (drop (i + 1) olds) >>= λ s.
      Ok (record { equations = head.equation ∷ s.equations; count = s.count })))
      (treatment_other by position stored i (equation_at olds i) apart ∙ stops)

  -- all are treated
  pub sweeping-end : length olds ≤ i → sweep_from by position 0 first olds ≡ Ok (record { equations = set news position by; count = stored })
  sweeping-end past =
      sym h.made
      ∙ ap (λ es. with_made (take i (set news position by)) (sweep_from by position i stored es)) (none (drop i olds) (omega (arith, length-drop i olds, past)))
      ∙ ap (λ es. Ok (record { equations = es; count = stored }))
      (append-nil (take i (set news position by))
      ∙ take_all i (set news position by) (omega (arith, length-set news position by, h.same_length, past)))
    where
      none : (es : List Equation) → length es ≡ 0 → es ≡ []
      none [] z = refl
      none (e ∷ es) z = absurd (omega arith)

-- ---- a sweep from one listed position to the next
treatment_none : (by : Equation) (stored : ℕ) (e : Equation) → has_term by.basic e ≡ false → treatment by stored e ≡ Ok (record { equation = e; count = stored })
treatment_none by stored e none = by_test (unsigned_abs (coef e.terms by.basic) == 0) none
  where
    by_test : (b : Bool) → not b ≡ false
        → (if b then Ok (record { equation = e; count = stored }) else replacing e stored (elimination by e)) ≡ Ok (record { equation = e; count = stored })
    by_test true h = refl
    by_test false h = cc

-- all equations before this one, which is listed, are treated
pub record IsAt (by : Equation) (position : ℕ) (olds news : List Equation) (first stored i : ℕ) (left : List ℕ) : Type 0 where
  pub inside : i < length olds
  pub has : has_term by.basic (equation_at olds i) ≡ true
  pub sweeping : IsSweeping by position olds news first stored i
  pub listed : left ≡ positions_from by.basic (i + 1) (drop (i + 1) olds)

-- the equations before the next listed one are treated
pub record IsBetween (by : Equation) (position : ℕ) (olds news : List Equation) (first stored : ℕ) (left : List ℕ) : Type 0 where
  pub reached : ℕ
  pub sweeping : IsSweeping by position olds news first stored reached
  pub listed : left ≡ positions_from by.basic reached (drop reached olds)

module _ (by : Equation) (position : ℕ) (olds news : List Equation) (first stored : ℕ) where
  sweeping_none : (i : ℕ) → IsSweeping by position olds news first stored i → i < length olds → has_term by.basic (equation_at olds i) ≡ false
      → IsSweeping by position olds news first stored (i + 1)
  sweeping_none i h inside none = by_test (cases_eq i position)
    where
      same : set news i (equation_at olds i) ≡ news
      same =
          ap (set news i) (sym (equation-same olds news i (record { basic = 0; lead = pos 1; terms = [] }) h.rest))
          ∙ set-get_or news i (record { basic = 0; lead = pos 1; terms = [] })

      by_test : (i ≡ position) ⊎ (i ≡ position → ⊥) → IsSweeping by position olds news first stored (i + 1)
      by_test (inl here) = sweeping-over by position olds news first stored i h inside here
      by_test (inr apart) =
          subst (λ es. IsSweeping by position olds es first stored (i + 1)) same
          (sweeping-more by position olds news first stored i h (equation_at olds i) stored inside apart (treatment_none by stored (equation_at olds i) none))

  positions_none : (i : ℕ) → length olds ≤ i → positions_from by.basic i (drop i olds) ≡ []
  positions_none i past = ap (positions_from by.basic i) (drop_all i olds past)

  positions_step : (i : ℕ) → i < length olds → positions_from by.basic i (drop i olds)
      ≡ (if has_term by.basic (equation_at olds i) then i ∷ positions_from by.basic (i + 1) (drop (i + 1) olds) else positions_from by.basic (i + 1) (drop (i + 1) olds))
  positions_step i inside = ap (positions_from by.basic i) (drop_more olds i (record { basic = 0; lead = pos 1; terms = [] }) inside)

  -- to the next listed position, in at most so many steps
  next_by : (i p : ℕ) (left : List ℕ) → IsSweeping by position olds news first stored i → i < length olds
      → (has_term by.basic (equation_at olds i) ≡ false → p ∷ left ≡ positions_from by.basic (i + 1) (drop (i + 1) olds)
      → IsAt by position olds news first stored p left)
      → (b : Bool) → has_term by.basic (equation_at olds i) ≡ b
      → p ∷ left ≡ (if b then i ∷ positions_from by.basic (i + 1) (drop (i + 1) olds) else positions_from by.basic (i + 1) (drop (i + 1) olds))
      → IsAt by position olds news first stored p left
  next_by i p left h inside go true has is =
      let here : i ≡ p = cc in
      let behind : left ≡ positions_from by.basic (i + 1) (drop (i + 1) olds) = cc in
      subst (λ q. IsAt by position olds news first stored q left) here (record { inside = inside; has = has; sweeping = h; listed = behind })
  next_by i p left h inside go false none is = go none is

  not_empty : (p : ℕ) (left : List ℕ) → p ∷ left ≡ [] → ⊥
  not_empty p left e = cc

  next_within : (fuel i p : ℕ) (left : List ℕ) → length olds ≤ i + fuel → IsSweeping by position olds news first stored i
      → p ∷ left ≡ positions_from by.basic i (drop i olds) → IsAt by position olds news first stored p left
  next_within zero i p left all h listed = absurd (not_empty p left (listed ∙ positions_none i (omega (arith, all))))
  next_within (suc fuel) i p left all h listed =
      by_place (λ inside none is. next_within fuel (i + 1) p left (omega (arith, all)) (sweeping_none i h inside none) is) (cases_lt i (length olds))
    where
      by_place : (i < length olds → has_term by.basic (equation_at olds i) ≡ false → p ∷ left ≡ positions_from by.basic (i + 1) (drop (i + 1) olds)
          → IsAt by position olds news first stored p left)
          → (i < length olds) ⊎ (length olds ≤ i) → IsAt by position olds news first stored p left
      by_place go (inl inside) =
          next_by i p left h inside (go inside) (has_term by.basic (equation_at olds i)) refl (listed ∙ positions_step i inside)
      by_place go (inr past) = absurd (not_empty p left (listed ∙ positions_none i past))

  pub between-next : (p : ℕ) (left : List ℕ) → IsBetween by position olds news first stored (p ∷ left) → IsAt by position olds news first stored p left
  between-next p left h = next_within (length olds) h.reached p left (omega arith) h.sweeping h.listed

  -- past the last listed position
  end_by : (i : ℕ) → (has_term by.basic (equation_at olds i) ≡ false → [] ≡ positions_from by.basic (i + 1) (drop (i + 1) olds)
      → sweep_from by position 0 first olds ≡ Ok (record { equations = set news position by; count = stored }))
      → (b : Bool) → has_term by.basic (equation_at olds i) ≡ b
      → [] ≡ (if b then i ∷ positions_from by.basic (i + 1) (drop (i + 1) olds) else positions_from by.basic (i + 1) (drop (i + 1) olds))
      → sweep_from by position 0 first olds ≡ Ok (record { equations = set news position by; count = stored })
  end_by i go true has is = absurd (not_empty i (positions_from by.basic (i + 1) (drop (i + 1) olds)) (sym is))
  end_by i go false none is = go none is

  end_within : (fuel i : ℕ) → length olds ≤ i + fuel → IsSweeping by position olds news first stored i
      → [] ≡ positions_from by.basic i (drop i olds)
      → sweep_from by position 0 first olds ≡ Ok (record { equations = set news position by; count = stored })
  end_within zero i all h listed = sweeping-end by position olds news first stored i h (omega (arith, all))
  end_within (suc fuel) i all h listed =
      by_place (λ inside none is. end_within fuel (i + 1) (omega (arith, all)) (sweeping_none i h inside none) is) (cases_lt i (length olds))
    where
      by_place : (i < length olds → has_term by.basic (equation_at olds i) ≡ false → [] ≡ positions_from by.basic (i + 1) (drop (i + 1) olds)
          → sweep_from by position 0 first olds ≡ Ok (record { equations = set news position by; count = stored }))
          → (i < length olds) ⊎ (length olds ≤ i) → sweep_from by position 0 first olds ≡ Ok (record { equations = set news position by; count = stored })
      by_place go (inl inside) = end_by i (go inside) (has_term by.basic (equation_at olds i)) refl (listed ∙ positions_step i inside)
      by_place go (inr past) = sweeping-end by position olds news first stored i h past

  pub between-end : IsBetween by position olds news first stored [] → sweep_from by position 0 first olds ≡ Ok (record { equations = set news position by; count = stored })
  between-end h = end_within (length olds) h.reached (omega arith) h.sweeping h.listed

-- the listed position at this place
pub between-at : (by : Equation) (position : ℕ) (olds news : List Equation) (first stored : ℕ) (listed : List ℕ) (place : ℕ) → place < length listed
    → IsBetween by position olds news first stored (drop place listed)
    → IsAt by position olds news first stored (get_or listed place 0) (drop (place + 1) listed)
between-at by position olds news first stored listed place inside h =
    between-next by position olds news first stored (get_or listed place 0) (drop (place + 1) listed)
    (subst (IsBetween by position olds news first stored) (drop_more listed place 0 inside) h)

pub between-past : (by : Equation) (position : ℕ) (olds news : List Equation) (first stored : ℕ) (listed : List ℕ) (place : ℕ) → length listed ≤ place
    → IsBetween by position olds news first stored (drop place listed)
    → sweep_from by position 0 first olds ≡ Ok (record { equations = set news position by; count = stored })
between-past by position olds news first stored listed place past h =
    between-end by position olds news first stored (subst (IsBetween by position olds news first stored) (drop_all place listed past) h)

pub between-start : (by : Equation) (position : ℕ) (olds : List Equation) (first : ℕ) (listed : List ℕ) → listed ≡ positions_from by.basic 0 olds
    → IsBetween by position olds olds first first listed
between-start by position olds first listed is = record { reached = 0; sweeping = sweeping-start by position olds first; listed = is }

-- the listed equation is treated
pub between-more : (by : Equation) (position : ℕ) (olds news : List Equation) (first stored i : ℕ) (left : List ℕ)
    → IsAt by position olds news first stored i left → (new : Equation) (count : ℕ) → i ≢ position
    → treatment by stored (equation_at olds i) ≡ Ok (record { equation = new; count = count })
    → IsBetween by position olds (set news i new) first count left
between-more by position olds news first stored i left h new count apart made =
    record {
      reached = i + 1;
      sweeping = sweeping-more by position olds news first stored i h.sweeping new count h.inside apart made;
      listed = h.listed;
    }

-- the listed equation is the turned one's
pub between-over : (by : Equation) (position : ℕ) (olds news : List Equation) (first stored i : ℕ) (left : List ℕ)
    → IsAt by position olds news first stored i left → i ≡ position → IsBetween by position olds news first stored left
between-over by position olds news first stored i left h here =
    record { reached = i + 1; sweeping = sweeping-over by position olds news first stored i h.sweeping h.inside here; listed = h.listed }

-- a call stops where one that it makes does
pub Makes-err : {X Y : Type 0} (fault : PivotFault) (r : Result X Why) (s : Result Y Why) → ((why : Why) → r ≡ Err why → s ≡ Err why)
    → Makes (λ (x : X). x) (Err fault) r → Makes (λ (y : Y). y) (Err fault) s
Makes-err (Stops why) r s go h = go why h
Makes-err OutOfMemory r s go h = tt
