-- Columns that follow an equation from its old terms to the new ones, term by term.
use Rattle.std.proofs.Common.{◌≡◌, ◌≢◌, ◌⊎◌, inl, inr, ℕ, zero, suc, ◌+◌, ◌<◌, ◌≤◌, ◌==◌, if◌then◌else◌, Bool, true, false, not, List, [], ◌∷◌, ◌++◌, length, get_or, set, take, drop, filter, replicate, nat_lt, ℤ, pos, ◌+ℤ◌, unsigned_abs, All, refl, ap, sym, subst, ◌∙◌, arith}
use Rattle.std.proofs.lemmas.Int.{ints}
use Rattle.std.proofs.lemmas.Bool.{eq-eqb, ne_eqb, cases_eq, cases_lt}
use Rattle.std.proofs.lemmas.Bool.Decides.{nat_tests}
use Rattle.std.proofs.lemmas.List.{append-nil, append_assoc, length-set, length-drop, length-replicate, length-take-le, length-append, get_or-set_same, get_or-set_other, get_or-drop, get_or-replicate, get_or_at, set_at, set-set, drop_more, drop_all, take_more, get_or_default}
use Rattle.std.proofs.lemmas.List.Elements.{All-nil, All-cons, All-head, All-tail, All-weaker}
use Rattle.opt_sums.specs.Entries.{coef, IsRising, HasNoZero, AllBelow}
use Rattle.opt_sums.proofs.EntryLemmas.{one_same, one_other, coef-append, coef-none, coef-take}
use Rattle.opt_sums.proofs.RisingLemmas.{coef-take_before}
use Rattle.opt_frac.specs.Equations.{Equation, equation_of}
use Rattle.opt_frac.specs.Merging.{term_at}
use Rattle.opt_simplex.proofs.PositionSets.{positions-set_same, positions-set_with, positions-set_without, positions-blank}
use Rattle.opt_simplex.specs.Tableau.{equation_at}
use Rattle.opt_simplex.specs.Columns.{has_term, positions_from, with_position, without_position, column_at, AreColumns, Follow}

-- ---- what the columns follow
abbrev has : ℕ → List (ℕ × ℤ) → Bool
has k terms = not (unsigned_abs (coef terms k) == 0)

follow-same : (p : ℕ) (before after : List (ℕ × ℤ)) (olds : List (List ℕ)) → ((k : ℕ) → has k before ≡ has k after) → Follow p before after olds olds
follow-same p before after olds same =
    λ n es e inside before_is after_is h.
    record {
      each = h.each;
      listed =
          λ k below.
          h.listed k below ∙ sym (positions-set_same k 0 es p e (ap (has k) after_is ∙ sym (same k) ∙ ap (has k) (sym before_is)));
    }

-- one column changes
module _ (p k : ℕ) (before after : List (ℕ × ℤ)) (olds : List (List ℕ)) (column : List ℕ) (same : (j : ℕ) → j ≢ k → has j before ≡ has j after)
    (here : (es : List Equation) (e : Equation) → p < length es → (equation_at es p).terms ≡ before → e.terms ≡ after
    → column_at olds k ≡ positions_from k 0 es → column ≡ positions_from k 0 (set es p e)) where
  follow-one : Follow p before after olds (set olds k column)
  follow-one =
      λ n es e inside before_is after_is h.
      record {
        each = length-set olds k column ∙ h.each;
        listed = λ j below. listed_at n es e inside before_is after_is h j below (cases_eq j k);
      }
    where
      listed_at : (n : ℕ) (es : List Equation) (e : Equation) → p < length es → (equation_at es p).terms ≡ before → e.terms ≡ after
          → AreColumns n es olds → (j : ℕ) → j < n → (j ≡ k) ⊎ (j ≡ k → ⊥) → column_at (set olds k column) j ≡ positions_from j 0 (set es p e)
      listed_at n es e inside before_is after_is h j below (inl is) =
          let column_is : column ≡ positions_from k 0 (set es p e) =
          here es e inside before_is after_is (h.listed k (omega (arith, below, is))) in
          ap (λ q. column_at (set olds k column) q) is ∙ get_or-set_same olds k column [] (omega (arith, h.each, below, is)) ∙ column_is
          ∙ ap (λ q. positions_from q 0 (set es p e)) (sym is)
      listed_at n es e inside before_is after_is h j below (inr apart) =
          get_or-set_other olds k j column [] apart ∙ h.listed j below
          ∙ sym (positions-set_same j 0 es p e (ap (has j) after_is ∙ sym (same j apart) ∙ ap (has j) (sym before_is)))

follow-with : (p k : ℕ) (before after : List (ℕ × ℤ)) (olds : List (List ℕ)) → has k before ≡ false → has k after ≡ true
    → ((j : ℕ) → j ≢ k → has j before ≡ has j after) → Follow p before after olds (set olds k (with_position p (column_at olds k)))
follow-with p k before after olds none some same =
    follow-one p k before after olds (with_position p (column_at olds k)) same
    (λ es e inside before_is after_is is.
    ap (with_position p) is ∙ ap (λ q. with_position q (positions_from k 0 es)) number
    ∙ sym (positions-set_with k 0 es p e inside (ap (has k) before_is ∙ none) (ap (has k) after_is ∙ some)))
  where
    number : p ≡ 0 + p
    number = omega arith

follow-without : (p k : ℕ) (before after : List (ℕ × ℤ)) (olds : List (List ℕ)) → has k after ≡ false
    → ((j : ℕ) → j ≢ k → has j before ≡ has j after) → Follow p before after olds (set olds k (without_position p (column_at olds k)))
follow-without p k before after olds none same =
    follow-one p k before after olds (without_position p (column_at olds k)) same
    (λ es e inside before_is after_is is.
    ap (without_position p) is ∙ ap (λ q. without_position q (positions_from k 0 es)) number
    ∙ sym (positions-set_without k 0 es p e inside (ap (has k) after_is ∙ none)))
  where
    number : p ≡ 0 + p
    number = omega arith

pub follow-on : (p : ℕ) (first second third : List (ℕ × ℤ)) (olds middle news : List (List ℕ)) → Follow p first second olds middle
    → Follow p second third middle news → Follow p first third olds news
follow-on p first second third olds middle news f g =
    λ n es e inside first_is third_is h.
    subst (λ ds. AreColumns n ds news) (set-set es p (equation_of 0 (pos 1) second) e)
    (g n (set es p (equation_of 0 (pos 1) second)) e (omega (arith, inside, length-set es p (equation_of 0 (pos 1) second)))
    (ap (λ (d : Equation). d.terms) (get_or-set_same es p (equation_of 0 (pos 1) second) (record { basic = 0; lead = pos 1; terms = [] }) inside)) third_is
    (f n es (equation_of 0 (pos 1) second) inside first_is refl h))

-- ---- one term
coef-at : (front behind : List (ℕ × ℤ)) (a : ℕ × ℤ) (k : ℕ) → coef (front ++ a ∷ behind) k ≡ (if a.0 == k then a.1 else pos 0) +ℤ coef (front ++ behind) k
coef-at front behind a k = omega (arith, ints, coef-append front (a ∷ behind) k, coef-append front behind k)

has-other : (front behind : List (ℕ × ℤ)) (a : ℕ × ℤ) (k : ℕ) → k ≢ a.0 → has k (front ++ a ∷ behind) ≡ has k (front ++ behind)
has-other front behind a k apart =
    let none : (if a.0 == k then a.1 else pos 0) ≡ pos 0 = one_other a.0 k a.1 (λ same. apart (sym same)) in
    let same : coef (front ++ a ∷ behind) k ≡ coef (front ++ behind) k = omega (arith, ints, coef-at front behind a k, none) in
    ap (λ z. not (unsigned_abs z == 0)) same

has-here : (front behind : List (ℕ × ℤ)) (a : ℕ × ℤ) (k : ℕ) → a.0 ≡ k → a.1 ≢ pos 0 → coef (front ++ behind) k ≡ pos 0 → has k (front ++ a ∷ behind) ≡ true
has-here front behind a k same some none =
    let here : (if a.0 == k then a.1 else pos 0) ≡ a.1 = one_same a.0 k a.1 same in
    let is : coef (front ++ a ∷ behind) k ≡ a.1 = omega (arith, ints, coef-at front behind a k, here, none) in
    let size : unsigned_abs (coef (front ++ a ∷ behind) k) ≡ 0 → ⊥ = λ z. some (omega (arith, ints, is, z)) in
    rw (ne_eqb (unsigned_abs (coef (front ++ a ∷ behind) k)) 0 size) refl

has-none : (terms : List (ℕ × ℤ)) (k : ℕ) → coef terms k ≡ pos 0 → has k terms ≡ false
has-none terms k none = ap (λ z. not (unsigned_abs z == 0)) none

follow-drop : (p : ℕ) (front behind : List (ℕ × ℤ)) (a : ℕ × ℤ) (olds : List (List ℕ)) → coef (front ++ behind) a.0 ≡ pos 0
    → Follow p (front ++ a ∷ behind) (front ++ behind) olds (set olds a.0 (without_position p (column_at olds a.0)))
follow-drop p front behind a olds none =
    follow-without p a.0 (front ++ a ∷ behind) (front ++ behind) olds (has-none (front ++ behind) a.0 none) (λ j apart. has-other front behind a j apart)

follow-add : (p : ℕ) (front behind : List (ℕ × ℤ)) (a : ℕ × ℤ) (olds : List (List ℕ)) → a.1 ≢ pos 0 → coef (front ++ behind) a.0 ≡ pos 0
    → Follow p (front ++ behind) (front ++ a ∷ behind) olds (set olds a.0 (with_position p (column_at olds a.0)))
follow-add p front behind a olds some none =
    follow-with p a.0 (front ++ behind) (front ++ a ∷ behind) olds (has-none (front ++ behind) a.0 none) (has-here front behind a a.0 refl some none)
    (λ j apart. sym (has-other front behind a j apart))

follow-both : (p : ℕ) (front behind : List (ℕ × ℤ)) (a b : ℕ × ℤ) (olds : List (List ℕ)) → a.0 ≡ b.0 → a.1 ≢ pos 0 → b.1 ≢ pos 0
    → coef (front ++ behind) a.0 ≡ pos 0 → Follow p (front ++ a ∷ behind) (front ++ b ∷ behind) olds olds
follow-both p front behind a b olds same some other none = follow-same p (front ++ a ∷ behind) (front ++ b ∷ behind) olds (λ k. by_test k (cases_eq k a.0))
  where
    by_test : (k : ℕ) → (k ≡ a.0) ⊎ (k ≡ a.0 → ⊥) → has k (front ++ a ∷ behind) ≡ has k (front ++ b ∷ behind)
    by_test k (inl is) =
        let gone : coef (front ++ behind) k ≡ pos 0 = ap (coef (front ++ behind)) is ∙ none in
        has-here front behind a k (sym is) some gone ∙ sym (has-here front behind b k (sym same ∙ sym is) other gone)
    by_test k (inr apart) =
        has-other front behind a k apart ∙ sym (has-other front behind b k (λ is. apart (is ∙ sym same)))

-- ---- the way through both lists
none_behind : (es : List (ℕ × ℤ)) (i k : ℕ) → ((j : ℕ) → i ≤ j → j < length es → (term_at es j).0 ≢ k) → coef (drop i es) k ≡ pos 0
none_behind es i k apart = coef-none (drop i es) k (λ j d h. apart_at j d h)
  where
    apart_at : (j : ℕ) (d : ℕ × ℤ) → j < length (drop i es) → (get_or (drop i es) j d).0 ≢ k
    apart_at j d h =
        let inside : i + j < length es = omega (arith, h, length-drop i es) in
        let is : get_or (drop i es) j d ≡ term_at es (i + j) = get_or-drop i es j d ∙ get_or_default es (i + j) d (0, pos 0) inside in
        λ same. apart (i + j) (omega arith) inside (ap (λ (e : ℕ × ℤ). e.0) (sym is) ∙ same)

-- the equation has the first y new terms and the old ones from x on, of which none is at a variable of those
pub record IsOnTheWay (p : ℕ) (olds news : List (ℕ × ℤ)) (start now : List (List ℕ)) (x y : ℕ) : Type 0 where
  pub follow : Follow p olds (take y news ++ drop x olds) start now
  pub apart : (j : ℕ) → x ≤ j → j < length olds → coef (take y news) (term_at olds j).0 ≡ pos 0

pub way-start : (p : ℕ) (olds news : List (ℕ × ℤ)) (start : List (List ℕ)) → IsOnTheWay p olds news start start 0 0
way-start p olds news start = record { follow = follow-same p olds olds start (λ k. refl); apart = λ j _ h. refl }

-- the old term is dropped, whatever the others are
drop_step : (p : ℕ) (kept olds : List (ℕ × ℤ)) (now : List (List ℕ)) (x : ℕ) → IsRising olds → x < length olds → coef kept (term_at olds x).0 ≡ pos 0
    → Follow p (kept ++ drop x olds) (kept ++ drop (x + 1) olds) now
    (set now (term_at olds x).0 (without_position p (column_at now (term_at olds x).0)))
drop_step p kept olds now x rising inside none =
    let behind : coef (drop (x + 1) olds) (term_at olds x).0 ≡ pos 0 =
    none_behind olds (x + 1) (term_at olds x).0 (λ j from below. omega (arith, rising x j (0, pos 0) (omega (arith, from)) below)) in
    let gone : coef (kept ++ drop (x + 1) olds) (term_at olds x).0 ≡ pos 0 =
    omega (arith, ints, coef-append kept (drop (x + 1) olds) (term_at olds x).0, none, behind) in
    subst (λ es. Follow p (kept ++ es) (kept ++ drop (x + 1) olds) now (set now (term_at olds x).0 (without_position p (column_at now (term_at olds x).0))))
    (sym (drop_more olds x (0, pos 0) inside)) (follow-drop p kept (drop (x + 1) olds) (term_at olds x) now gone)

-- the new term is added
add_step : (p : ℕ) (news behind : List (ℕ × ℤ)) (now : List (List ℕ)) (y : ℕ) → IsRising news → HasNoZero news → y < length news
    → coef behind (term_at news y).0 ≡ pos 0
    → Follow p (take y news ++ behind) (take (y + 1) news ++ behind) now
    (set now (term_at news y).0 (with_position p (column_at now (term_at news y).0)))
add_step p news behind now y rising no_zero inside none =
    let gone : coef (take y news ++ behind) (term_at news y).0 ≡ pos 0 =
    omega (arith, ints, coef-append (take y news) behind (term_at news y).0, coef-take_before news y (0, pos 0) rising inside, none) in
    let list : take y news ++ term_at news y ∷ behind ≡ take (y + 1) news ++ behind =
    sym (append_assoc (take y news) (term_at news y ∷ []) behind) ∙ ap (λ es. es ++ behind) (sym (take_more news y (0, pos 0) inside)) in
    subst (λ es. Follow p (take y news ++ behind) es now (set now (term_at news y).0 (with_position p (column_at now (term_at news y).0)))) list
    (follow-add p (take y news) behind (term_at news y) now (no_zero y (0, pos 0) inside) gone)

module _ (p : ℕ) (olds news : List (ℕ × ℤ)) (start now : List (List ℕ)) (x y : ℕ) (olds_rising : IsRising olds) (news_rising : IsRising news)
    (olds_no_zero : HasNoZero olds) (news_no_zero : HasNoZero news) (h : IsOnTheWay p olds news start now x y) where
  pub way-drop : x < length olds → IsOnTheWay p olds news start (set now (term_at olds x).0 (without_position p (column_at now (term_at olds x).0))) (x + 1) y
  way-drop inside =
      record {
        follow =
            follow-on p olds (take y news ++ drop x olds) (take y news ++ drop (x + 1) olds) start now
            (set now (term_at olds x).0 (without_position p (column_at now (term_at olds x).0))) h.follow
            (drop_step p (take y news) olds now x olds_rising inside (h.apart x (omega arith) inside));
        apart = λ j from below. h.apart j (omega (arith, from)) below;
      }

  -- the old terms from x on are past the new one
  past : x < length olds → (term_at news y).0 < (term_at olds x).0 → (j : ℕ) → x ≤ j → j < length olds → (term_at news y).0 < (term_at olds j).0
  past inside less j from below = by_test (cases_eq x j)
    where
      by_test : (x ≡ j) ⊎ (x ≡ j → ⊥) → (term_at news y).0 < (term_at olds j).0
      by_test (inl same) = subst (λ i. (term_at news y).0 < (term_at olds i).0) same less
      by_test (inr apart) = omega (arith, less, olds_rising x j (0, pos 0) (omega (arith, from, apart)) below)

  taken_apart : (k : ℕ) → y < length news → (term_at news y).0 ≢ k → coef (take y news) k ≡ pos 0 → coef (take (y + 1) news) k ≡ pos 0
  taken_apart k inside apart none =
      omega (arith, ints, coef-take news y (0, pos 0) k inside, one_other (term_at news y).0 k (term_at news y).1 apart, none)

  pub way-add : x < length olds → y < length news → (term_at news y).0 < (term_at olds x).0
      → IsOnTheWay p olds news start (set now (term_at news y).0 (with_position p (column_at now (term_at news y).0))) x (y + 1)
  way-add x_inside inside less =
      record {
        follow =
            follow-on p olds (take y news ++ drop x olds) (take (y + 1) news ++ drop x olds) start now
            (set now (term_at news y).0 (with_position p (column_at now (term_at news y).0))) h.follow
            (add_step p news (drop x olds) now y news_rising news_no_zero inside
            (none_behind olds x (term_at news y).0 (λ j from below. omega (arith, past x_inside less j from below))));
        apart =
            λ j from below.
            taken_apart (term_at olds j).0 inside (omega (arith, past x_inside less j from below)) (h.apart j from below);
      }

  pub way-both : x < length olds → y < length news → (term_at olds x).0 ≡ (term_at news y).0 → IsOnTheWay p olds news start now (x + 1) (y + 1)
  way-both x_inside inside same =
      record {
        follow =
            follow-on p olds (take y news ++ drop x olds) (take (y + 1) news ++ drop (x + 1) olds) start now now h.follow
            (subst (λ es. Follow p (take y news ++ es) (take (y + 1) news ++ drop (x + 1) olds) now now) (sym (drop_more olds x (0, pos 0) x_inside))
            (subst (λ es. Follow p (take y news ++ term_at olds x ∷ drop (x + 1) olds) es now now) list
            (follow-both p (take y news) (drop (x + 1) olds) (term_at olds x) (term_at news y) now same (olds_no_zero x (0, pos 0) x_inside)
            (news_no_zero y (0, pos 0) inside) gone)));
        apart =
            λ j from below.
            taken_apart (term_at olds j).0 inside (omega (arith, same, olds_rising x j (0, pos 0) (omega (arith, from)) below))
            (h.apart j (omega (arith, from)) below);
      }
    where
      list : take y news ++ term_at news y ∷ drop (x + 1) olds ≡ take (y + 1) news ++ drop (x + 1) olds
      list =
          sym (append_assoc (take y news) (term_at news y ∷ []) (drop (x + 1) olds))
          ∙ ap (λ es. es ++ drop (x + 1) olds) (sym (take_more news y (0, pos 0) inside))

      gone : coef (take y news ++ drop (x + 1) olds) (term_at olds x).0 ≡ pos 0
      gone =
          let behind : coef (drop (x + 1) olds) (term_at olds x).0 ≡ pos 0 =
          none_behind olds (x + 1) (term_at olds x).0 (λ j from below. omega (arith, olds_rising x j (0, pos 0) (omega (arith, from)) below)) in
          omega (arith, ints, coef-append (take y news) (drop (x + 1) olds) (term_at olds x).0, h.apart x (omega arith) x_inside, behind)

  -- the rest of both lists
  pub way-end : (middle last : List (List ℕ)) → Follow p (take y news ++ drop x olds) (take y news) now middle → Follow p (take y news) news middle last
      → Follow p olds news start last
  way-end middle last f g =
      follow-on p olds (take y news) news start middle last
      (follow-on p olds (take y news ++ drop x olds) (take y news) start now middle h.follow f) g

-- ---- the rest of one list
pub rest-drop : (p : ℕ) (kept terms : List (ℕ × ℤ)) (from x : ℕ) (start now : List (List ℕ)) → IsRising terms → from ≤ x → x < length terms
    → ((j : ℕ) → from ≤ j → j < length terms → coef kept (term_at terms j).0 ≡ pos 0)
    → Follow p (kept ++ drop from terms) (kept ++ drop x terms) start now
    → Follow p (kept ++ drop from terms) (kept ++ drop (x + 1) terms) start (set now (term_at terms x).0 (without_position p (column_at now (term_at terms x).0)))
rest-drop p kept terms from x start now rising past inside apart f =
    follow-on p (kept ++ drop from terms) (kept ++ drop x terms) (kept ++ drop (x + 1) terms) start now
    (set now (term_at terms x).0 (without_position p (column_at now (term_at terms x).0))) f
    (drop_step p kept terms now x rising inside (apart x past inside))

pub rest-none : (p : ℕ) (terms : List (ℕ × ℤ)) (start : List (List ℕ)) → Follow p terms terms start start
rest-none p terms start = follow-same p terms terms start (λ k. refl)

pub rest-end : (p : ℕ) (kept terms : List (ℕ × ℤ)) (from x : ℕ) (start now : List (List ℕ)) → length terms ≤ x
    → Follow p (kept ++ drop from terms) (kept ++ drop x terms) start now → Follow p (kept ++ drop from terms) kept start now
rest-end p kept terms from x start now past f =
    subst (λ es. Follow p (kept ++ drop from terms) es start now) (ap (λ es. kept ++ es) (drop_all x terms past) ∙ append-nil kept) f

pub rest-add : (p : ℕ) (terms : List (ℕ × ℤ)) (from y : ℕ) (start now : List (List ℕ)) → IsRising terms → HasNoZero terms → y < length terms
    → Follow p (take from terms) (take y terms) start now
    → Follow p (take from terms) (take (y + 1) terms) start (set now (term_at terms y).0 (with_position p (column_at now (term_at terms y).0)))
rest-add p terms from y start now rising no_zero inside f =
    follow-on p (take from terms) (take y terms) (take (y + 1) terms) start now
    (set now (term_at terms y).0 (with_position p (column_at now (term_at terms y).0))) f
    (subst (λ es. Follow p es (take (y + 1) terms) now (set now (term_at terms y).0 (with_position p (column_at now (term_at terms y).0)))) (append-nil (take y terms))
    (subst (λ es. Follow p (take y terms ++ []) es now (set now (term_at terms y).0 (with_position p (column_at now (term_at terms y).0)))) (append-nil (take (y + 1) terms))
    (add_step p terms [] now y rising no_zero inside refl)))

-- ---- the columns of all equations, one equation at a time
pub columns-none : (n : ℕ) → AreColumns n [] (replicate n [])
columns-none n = record { each = length-replicate n []; listed = λ k below. get_or-replicate n k [] [] below }

pub columns-more : (n : ℕ) (es : List Equation) (i : ℕ) (e : Equation) (olds news : List (List ℕ)) → i < length es
    → e ≡ equation_at es i → AreColumns n (take i es) olds → Follow i [] e.terms olds news → AreColumns n (take (i + 1) es) news
columns-more n es i e olds news inside is h f =
    let size : length (take i es) ≡ i = length-take-le i es (omega (arith, inside)) in
    let blank : AreColumns n (take i es ++ equation_of 0 (pos 1) [] ∷ []) olds =
    record { each = h.each; listed = λ k below. h.listed k below ∙ sym (positions-blank k 0 (take i es)) } in
    subst (λ ds. AreColumns n ds news)
    (set_at (take i es) (equation_of 0 (pos 1) []) [] e i size
    ∙ ap (λ d. take i es ++ d ∷ []) is
    ∙ sym (take_more es i (record { basic = 0; lead = pos 1; terms = [] }) inside))
    (f n (take i es ++ equation_of 0 (pos 1) [] ∷ []) e (one_more size)
    (ap (λ (d : Equation). d.terms) (get_or_at (take i es) (equation_of 0 (pos 1) []) [] (record { basic = 0; lead = pos 1; terms = [] }) i size)) refl blank)
  where
    one_more : length (take i es) ≡ i → i < length (take i es ++ equation_of 0 (pos 1) [] ∷ [])
    one_more size = omega (arith, size, length-append (take i es) (equation_of 0 (pos 1) [] ∷ []))

-- a variable with a term has a column
pub term_below : (n : ℕ) (terms : List (ℕ × ℤ)) (k : ℕ) → AllBelow n terms → coef terms k ≢ pos 0 → k < n
term_below n terms k below some = by_test (cases_lt k n)
  where
    by_test : (k < n) ⊎ (n ≤ k) → k < n
    by_test (inl less) = less
    by_test (inr more) =
        absurd (some (coef-none terms k (All-weaker (λ e. e.0 < n) (λ e. e.0 ≢ k) (λ e less. omega (arith, less, more)) terms below)))
