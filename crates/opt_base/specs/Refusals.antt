-- Refusals that several crates make.
use Rattle.std.specs.Prelude.{ℕ}
use Rattle.opt_base.specs.declared.refusal.Refusal.{Refusal}
use Rattle.opt_base.specs.declared.refusal.File.{File}
use Rattle.opt_base.specs.declared.refusal.File.TheVariants.{Model}
use Rattle.opt_base.specs.declared.refusal.Kind.{Kind}
use Rattle.opt_base.specs.declared.refusal.Kind.TheVariants.{TooMany}

-- the refusal of a file as a whole
abbrev pub refusal_of_file : File → Kind → Refusal
refusal_of_file file kind = record { file = file; number = 0; column = 0; kind = kind }

-- the refusal of a record as a whole, numbered from 1
abbrev pub refusal_of_record : File → ℕ → Kind → Refusal
refusal_of_record file number kind = record { file = file; number = number; column = 0; kind = kind }

-- the refusal of a record's column, both numbered from 1
abbrev pub refusal_at : File → ℕ → ℕ → Kind → Refusal
refusal_at file number column kind = record { file = file; number = number; column = column; kind = kind }

-- the model has this many of what the column names, which is past its limit
abbrev pub too_many : ℕ → ℕ → Refusal
too_many column count = refusal_at Model 0 column (TooMany count)
