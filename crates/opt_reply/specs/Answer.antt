-- What a command answers with.
use Rattle.std.specs.Prelude.{ℕ, List}

-- a path, and the bytes that are put there
abbrev pub Put : Type 0
Put = List ℕ × List ℕ

-- its status, the files that it puts in order, and the bytes for out and for err
pub record Answer : Type 0 where
  pub status : ℕ
  pub puts : List Put
  pub printed : List ℕ
  pub refused : List ℕ
