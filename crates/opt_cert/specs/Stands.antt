-- What is known of a line that stands in its place: its kind, its ranges and its order.
use Rattle.std.specs.Prelude.{◌≡◌, ℕ, zero, suc, ◌⊎◌, Bool, List, Option, is_some, ℤ}
use Rattle.opt_base.specs.declared.verdict.Verdict.{Verdict}
use Rattle.opt_bound.specs.Multipliers.{Multipliers}
use Rattle.opt_tree.specs.Certificates.{HasRanges, AreWritable, HasEntries, IsWritableCut}
use Rattle.opt_cert.specs.declared.cert_line.CertLine.{CertLine}
use Rattle.opt_cert.specs.declared.cert_line.CertLine.TheVariants as line
use Rattle.opt_cert.specs.declared.place.Place.{Place}
use Rattle.opt_cert.specs.declared.place.Place.TheVariants as place

-- a verdict's line names numbers in range
pub record IsVerdict (l : CertLine) : Type 0 where
  pub verdict : Verdict
  pub is : l ≡ line.Verdict verdict
  pub ranges : HasRanges verdict

pub record IsRoot (l : CertLine) : Type 0 where
  pub root : Multipliers
  pub is : l ≡ line.Root root
  pub writable : AreWritable root

-- a point's line lists entries just where there is a point
pub record IsPoint (has_point : Bool) (l : CertLine) : Type 0 where
  pub point : Option (List (ℕ × ℤ))
  pub is : l ≡ line.Point point
  pub entries : HasEntries point
  pub where_named : is_some point ≡ has_point

pub record IsSplit (l : CertLine) : Type 0 where
  pub quantity : ℕ
  pub cut : ℤ
  pub is : l ≡ line.Split quantity cut
  pub writable : IsWritableCut quantity cut

pub record IsLeaf (l : CertLine) : Type 0 where
  pub mult : Multipliers
  pub is : l ≡ line.Leaf mult
  pub writable : AreWritable mult

-- a node where trees are still to come, else the last line
abbrev pub StandsInTree : ℕ → CertLine → Type 0
StandsInTree zero l = l ≡ line.End
StandsInTree (suc trees) l = IsSplit l ⊎ IsLeaf l

abbrev pub Stands : Place → CertLine → Type 0
Stands place.Header l = l ≡ line.Header
Stands place.Verdict l = IsVerdict l
Stands (place.Root has_point) l = IsRoot l
Stands (place.Point has_point) l = IsPoint has_point l
Stands (place.Nodes trees) l = StandsInTree trees l
