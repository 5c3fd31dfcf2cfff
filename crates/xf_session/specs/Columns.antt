-- Why the columns that words name do not fit, as causes of a refusal.
use Rattle.std.specs.Prelude.{List, [], ◌∷◌, Option, option_map}
use Rattle.xf_base.specs.declared.column.Column.{Column}
use Rattle.xf_columns.specs.Columns.{accessor_refusal, reducer_refusal}
use Rattle.xf_columns.specs.declared.column_refusal.ColumnRefusal.TheVariants.{NoColumn, WrongColumn}
use Rattle.xf_columns.specs.declared.column_refusal.ColumnRefusal.{ColumnRefusal}
use Rattle.xf_columns.specs.declared.words.AccessorWords.{AccessorWords}
use Rattle.xf_columns.specs.declared.words.ReducerWords.{ReducerWords}
use Rattle.xf_reply.specs.declared.refusal.Refusal.{Refusal}
use Rattle.xf_reply.specs.declared.refusal.Refusal.TheVariants as refusal

abbrev pub column_cause : ColumnRefusal → Refusal
column_cause (NoColumn name) = refusal.NoColumn name
column_cause (WrongColumn name) = refusal.WrongColumn name

-- of an accessor, and of a reducer
abbrev pub accessor_causes : List Column → AccessorWords → List (Option Refusal)
accessor_causes columns words = option_map column_cause (accessor_refusal columns words) ∷ []

abbrev pub reducer_causes : List Column → ReducerWords → List (Option Refusal)
reducer_causes columns words = option_map column_cause (reducer_refusal columns words) ∷ []
