-- Certificates: a verdict with what shows it, and the certificate of a search's outcome.
use Rattle.std.specs.Prelude.{◌≡◌, ℕ, ◌^◌, ◌<◌, ◌≤◌, ◌==◌, not, List, [], All, filter, map, Option, Some, None, is_some, ℤ, pos, ◌≤ℤ◌, unsigned_abs}
use Rattle.std.specs.List.{enumerate_from, range_with_len}
use Rattle.std.specs.Option.{option_map}
use Rattle.opt_base.specs.declared.verdict.Verdict.{Verdict}
use Rattle.opt_base.specs.declared.verdict.Verdict.TheVariants as verdict
use Rattle.opt_sums.specs.Entries.{coef, IsRising}
use Rattle.opt_bound.specs.Multipliers.{Multipliers, IsProper}
use Rattle.opt_tree.specs.Trees.{BoxTree, leaf, split}

-- the multipliers of the root line, and of the point those quantities whose value is not 0
pub record Certificate : Type 0 where
  pub verdict : Verdict
  pub root : Multipliers
  pub point : Option (List (ℕ × ℤ))
  pub tree : BoxTree

-- the objective or the best that a verdict names
abbrev pub named_value : Verdict → Option ℤ
named_value (verdict.Plan objective bound) = Some objective
named_value verdict.NoPlan = None
named_value (verdict.Unfinished bound best) = best

-- an objective, a best or a bound is from 0 to 2^126
pub record IsInRange (number : ℤ) : Type 0 where
  pub from_zero : pos 0 ≤ℤ number
  pub small : unsigned_abs number ≤ 2 ^ 126

-- the numbers that the verdict names are in range
abbrev pub HasRanges : Verdict → Type 0
HasRanges (verdict.Plan objective bound) = IsInRange objective × IsInRange bound
HasRanges verdict.NoPlan = Unit {0}
HasRanges (verdict.Unfinished bound None) = IsInRange bound
HasRanges (verdict.Unfinished bound (Some best)) = IsInRange bound × IsInRange best

-- multipliers within the ranges of a certificate, whose rows have 32 bits
pub record AreWritable (m : Multipliers) : Type 0 where
  pub proper : IsProper m
  pub rows : All (λ e. e.0 < 2 ^ 32) m.entries

-- the entries go by rising quantity of 32 bits, and each value is from 1 to 2^63 - 1
pub record AreEntries (entries : List (ℕ × ℤ)) : Type 0 where
  pub rising : IsRising entries
  pub quantities : All (λ e. e.0 < 2 ^ 32) entries
  pub from_one : All (λ e. pos 1 ≤ℤ e.1) entries
  pub small : All (λ e. unsigned_abs e.1 < 2 ^ 63) entries

abbrev pub HasEntries : Option (List (ℕ × ℤ)) → Type 0
HasEntries None = Unit {0}
HasEntries (Some entries) = AreEntries entries

-- a split's quantity has 32 bits, and its cut is from 0 to 2^63 - 1
pub record IsWritableCut (quantity : ℕ) (cut : ℤ) : Type 0 where
  pub quantity_small : quantity < 2 ^ 32
  pub from_zero : pos 0 ≤ℤ cut
  pub small : unsigned_abs cut < 2 ^ 63

-- the numbers of the tree's nodes are in range
abbrev pub HasNodes : BoxTree → Type 0
HasNodes (leaf m) = AreWritable m
HasNodes (split j t left right) = IsWritableCut j t × HasNodes left × HasNodes right

-- a certificate: all its numbers are in range, and it has a point just where its verdict names an objective or a best
pub record IsCertificate (c : Certificate) : Type 0 where
  pub verdict : HasRanges c.verdict
  pub root : AreWritable c.root
  pub point : HasEntries c.point
  pub tree : HasNodes c.tree
  pub point_where_named : is_some c.point ≡ is_some (named_value c.verdict)

-- the point of these entries over this many quantities: what they do not list is 0
abbrev pub point_of : ℕ → List (ℕ × ℤ) → List ℤ
point_of quantities entries = map (coef entries) (range_with_len 0 quantities)

-- the point that a certificate lists, or no value where it lists none
abbrev pub listed_point : ℕ → Option (List (ℕ × ℤ)) → List ℤ
listed_point quantities None = []
listed_point quantities (Some entries) = point_of quantities entries

-- the quantities of the point whose value is not 0
abbrev pub entries_of : List ℤ → List (ℕ × ℤ)
entries_of x = filter (λ e. not (unsigned_abs e.1 == 0)) (enumerate_from 0 x)

-- the certificate of what a search found: its verdict, root line, best point and tree
abbrev pub certificate_of : Verdict → Multipliers → Option (List ℤ) → BoxTree → Certificate
certificate_of verdict root best tree =
    record { verdict = verdict; root = root; point = option_map entries_of best; tree = tree }
