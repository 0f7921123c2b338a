-- Fields one after the other in one text.
use Rattle.std.specs.Prelude.{◌≡◌, ℕ, List, length, All, IsCharBoundary}
use Rattle.csv.specs.Records.{Rising, last_end}

-- the places where the fields of a text end: they rise, the last is the text's end, and the text may be cut at each
pub record AreEnds (text ends : List ℕ) : Type 0 where
  pub rising : Rising 0 ends (length text)
  pub whole : last_end 0 ends ≡ length text
  pub cuts : All (IsCharBoundary text) ends
