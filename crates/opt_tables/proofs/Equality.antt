-- Keys are equal where their names have the same bytes.
use Rattle.std.proofs.Common.{◌≡◌, ℕ, Bool, List, map, position, bytes_eq, refl}
use Rattle.std.specs.Borrow.{Bor}
use Rattle.std.specs.List.{list_any}
use Rattle.opt_tables.specs.contracts.key.KeyPartialEq.TheImpl as equality
use Rattle.opt_tables.specs.declared.key.Key.{Key}
use Rattle.opt_tables.specs.declared.key.Key.TheVariants.{Name, Names, NameInMonth, NamesInMonth}
use Rattle.opt_tables.specs.Keys.{Known, Name as KnownName, known_by, known_names, are_same}
use Rattle.opt_tables.proofs.Lists.{list_any-seen, position-seen}

-- whether two keys are equal
abbrev pub are_equal : Key → Key → Bool
are_equal a b = (equality.eq-value).it a b

are_equal-same : (a b : Key) → are_equal a b ≡ are_same (known_by a) (known_by b)
are_equal-same (Name a) (Name b) = refl
are_equal-same (Name a) (Names b d) = refl
are_equal-same (Name a) (NameInMonth b n) = refl
are_equal-same (Name a) (NamesInMonth b d n) = refl
are_equal-same (Names a c) (Name b) = refl
are_equal-same (Names a c) (Names b d) = refl
are_equal-same (Names a c) (NameInMonth b n) = refl
are_equal-same (Names a c) (NamesInMonth b d n) = refl
are_equal-same (NameInMonth a m) (Name b) = refl
are_equal-same (NameInMonth a m) (Names b d) = refl
are_equal-same (NameInMonth a m) (NameInMonth b n) = refl
are_equal-same (NameInMonth a m) (NamesInMonth b d n) = refl
are_equal-same (NamesInMonth a c m) (Name b) = refl
are_equal-same (NamesInMonth a c m) (Names b d) = refl
are_equal-same (NamesInMonth a c m) (NameInMonth b n) = refl
are_equal-same (NamesInMonth a c m) (NamesInMonth b d n) = refl

-- whether a key is among others
pub has-known : (a : Key) (keys : List Key) → list_any (are_equal a) keys ≡ list_any (are_same (known_by a)) (map known_by keys)
has-known a keys = list_any-seen (are_equal a) (are_same (known_by a)) known_by (are_equal-same a) keys

-- and where it is
pub position-known : (a : Key) (keys : List Key) → position (are_equal a) keys ≡ position (are_same (known_by a)) (map known_by keys)
position-known a keys = position-seen (are_equal a) (are_same (known_by a)) known_by (are_equal-same a) keys

-- ---- names alone

-- whether a name is among others
pub has-name : (a : List ℕ) (names : List (Bor (List ℕ))) → list_any (λ name. bytes_eq a name.now) names ≡ list_any (are_same (KnownName a)) (known_names names)
has-name a names = list_any-seen (λ name. bytes_eq a name.now) (are_same (KnownName a)) (λ name. KnownName name.now) (λ name. refl) names

-- and where it is
pub position-name : (a : List ℕ) (names : List (Bor (List ℕ))) → position (λ name. bytes_eq a name.now) names ≡ position (are_same (KnownName a)) (known_names names)
position-name a names = position-seen (λ name. bytes_eq a name.now) (are_same (KnownName a)) (λ name. KnownName name.now) (λ name. refl) names
