-- Ranges of quantities, which are boxes, and the points that lie in them.
use Rattle.std.specs.Prelude.{◌≡◌, ℕ, ◌*◌, ◌<◌, List, [], ◌∷◌, length, ℤ, pos, ◌+ℤ◌, ◌-ℤ◌, ◌≤ℤ◌, unsigned_abs}
use Rattle.opt_sums.specs.Sums.{at}

-- the least and the greatest value of each quantity
pub record Range : Type 0 where
  pub low : List ℤ
  pub high : List ℤ

-- as many lows as highs, and 0 <= low <= high throughout
pub record IsOrdered (box : Range) : Type 0 where
  pub same_length : length box.low ≡ length box.high
  pub from_zero : (j : ℕ) → j < length box.low → pos 0 ≤ℤ at box.low j
  pub rising : (j : ℕ) → j < length box.low → at box.low j ≤ℤ at box.high j

-- the point x has one value for each quantity, and each lies in its range
pub record IsWithin (box : Range) (x : List ℤ) : Type 0 where
  pub same_length : length x ≡ length box.low
  pub above : (j : ℕ) → j < length x → at box.low j ≤ℤ at x j
  pub below : (j : ℕ) → j < length x → at x j ≤ℤ at box.high j

-- the inner box is for the same quantities and leaves no value that the outer one lacks
pub record LiesIn (outer inner : Range) : Type 0 where
  pub same_length : length inner.low ≡ length outer.low
  pub above : (j : ℕ) → j < length inner.low → at outer.low j ≤ℤ at inner.low j
  pub below : (j : ℕ) → j < length inner.low → at inner.high j ≤ℤ at outer.high j

-- how many points lie between these lows and highs
abbrev pub points_between : List ℤ → List ℤ → ℕ
points_between [] highs = 1
points_between (l ∷ lows) [] = 1
points_between (l ∷ lows) (h ∷ highs) = unsigned_abs ((h -ℤ l) +ℤ pos 1) * points_between lows highs

-- how many points lie in the box
abbrev pub points : Range → ℕ
points box = points_between box.low box.high
