-- The model that the files of a folder stand for, and its system of rows.
use Rattle.std.specs.Prelude.{None, Result}
use Rattle.opt_base.specs.Answers.{◌>>=◌}
use Rattle.opt_base.specs.declared.refusal.Refusal.{Refusal}
use Rattle.opt_model.specs.Tables.{Tables}
use Rattle.opt_model.specs.Limits.{within_limits}
use Rattle.opt_system.specs.Systems.{System}
use Rattle.opt_tables.specs.Files.{ModelFiles}
use Rattle.opt_tables.specs.Model.{tables_of}
use Rattle.opt_rows.specs.Systems.{system_of}

-- the tables of the files, or the first refusal: that of the tables, else of too many quantities, of rows, of their terms
abbrev pub model_of : ModelFiles → Result Tables Refusal
model_of files = tables_of files >>= within_limits

-- the system of a model under the goal that its settings name
abbrev pub own_system : Tables → System
own_system t = system_of t t.settings.goal None
