-- What the records of a table are known by.
use Rattle.std.specs.Prelude.{ℕ, Bool, false, ◌&&◌, ◌==◌, List, map, bytes_eq}
use Rattle.std.specs.Borrow.{Bor}
use Rattle.opt_tables.specs.declared.key.Key.{Key}
use Rattle.opt_tables.specs.declared.key.Key.TheVariants as key

-- a name, two names, or one of these in a month
pub data Known : Type 0 where
  Name : List ℕ → Known
  Names : List ℕ → List ℕ → Known
  NameInMonth : List ℕ → ℕ → Known
  NamesInMonth : List ℕ → List ℕ → ℕ → Known

-- the names of a key by their bytes
abbrev pub known_by : Key → Known
known_by (key.Name name) = Name name.now
known_by (key.Names first second) = Names first.now second.now
known_by (key.NameInMonth name month) = NameInMonth name.now month
known_by (key.NamesInMonth first second month) = NamesInMonth first.now second.now month

-- names by their bytes
abbrev pub known_names : List (Bor (List ℕ)) → List Known
known_names names = map (λ name. Name name.now) names

-- whether two records are known by the same
abbrev pub are_same : Known → Known → Bool
are_same (Name a) (Name b) = bytes_eq a b
are_same (Names a b) (Names c d) = bytes_eq a c && bytes_eq b d
are_same (NameInMonth a m) (NameInMonth b n) = bytes_eq a b && (m == n)
are_same (NamesInMonth a b m) (NamesInMonth c d n) = bytes_eq a c && (bytes_eq b d && (m == n))
are_same _ _ = false
