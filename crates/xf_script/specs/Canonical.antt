-- The one line in which a command is printed.
use Rattle.std.specs.Prelude.{ℕ, List, [], ◌∷◌, ◌++◌, codes, decimal, Option, Some, None}
use Rattle.xf_columns.specs.declared.words.AccessorWords.TheVariants as accessor
use Rattle.xf_columns.specs.declared.words.AccessorWords.{AccessorWords}
use Rattle.xf_columns.specs.declared.words.ReducerWords.TheVariants as reducer
use Rattle.xf_columns.specs.declared.words.ReducerWords.{ReducerWords}
use Rattle.xf_columns.specs.declared.words.RoundingWords.TheVariants as rounding
use Rattle.xf_columns.specs.declared.words.RoundingWords.{RoundingWords}
use Rattle.xf_columns.specs.declared.words.SimpleWords.TheVariants as simple
use Rattle.xf_columns.specs.declared.words.SimpleWords.{SimpleWords}
use Rattle.xf_filter.specs.Words.{Word, filter_words, item_words, line_of}
use Rattle.xf_script.specs.declared.command.CommandForm.{CommandForm}
use Rattle.xf_script.specs.declared.command.CommandForm.TheVariants as form

abbrev pub accessor_words : AccessorWords → List Word
accessor_words (accessor.Column column) = codes "column" ∷ column ∷ []
accessor_words (accessor.Pair first second) = codes "pair" ∷ first ∷ second ∷ []
accessor_words (accessor.Tags column) = codes "tags" ∷ column ∷ []
accessor_words (accessor.Weekday column) = codes "weekday" ∷ column ∷ []
accessor_words (accessor.Month column) = codes "month" ∷ column ∷ []

abbrev pub rounding_words : RoundingWords → List Word
rounding_words rounding.Same = codes "same" ∷ []
rounding_words (rounding.Floor width) = codes "floor" ∷ decimal width ∷ []
rounding_words rounding.Month = codes "month" ∷ []
rounding_words rounding.Year = codes "year" ∷ []
rounding_words (rounding.Letters letters) = codes "letters" ∷ decimal letters ∷ []

abbrev pub simple_words : SimpleWords → List Word
simple_words simple.Count = codes "count" ∷ []
simple_words (simple.Sum column) = codes "sum" ∷ column ∷ []
simple_words (simple.SumCount column) = codes "sumcount" ∷ column ∷ []
simple_words (simple.SumSquares column) = codes "sumsquares" ∷ column ∷ []
simple_words (simple.Spread column) = codes "spread" ∷ column ∷ []

abbrev pub reducer_words : ReducerWords → List Word
reducer_words (reducer.One one) = simple_words one
reducer_words (reducer.Both first second) = codes "both" ∷ simple_words first ++ simple_words second

abbrev pub field_word : Option ℕ → Word
field_word (Some field) = decimal field
field_word None = codes "natural"

abbrev pub offset_words : Option ℕ → List Word
offset_words (Some offset) = decimal offset ∷ []
offset_words None = []

-- the words of a command, where a count is written without leading zeros
abbrev pub command_words : CommandForm → List Word
command_words (form.Load file) = codes "load" ∷ file ∷ []
command_words (form.Add words) = codes "add" ∷ words
command_words (form.Filter dimension filter) = codes "filter" ∷ dimension ∷ filter_words filter
command_words (form.Toggle dimension item) = codes "toggle" ∷ dimension ∷ item_words item
command_words (form.Clear dimension) = codes "clear" ∷ dimension ∷ []
command_words form.ClearAll = codes "clearall" ∷ []
command_words form.RemovePassing = codes "remove" ∷ codes "passing" ∷ []
command_words (form.RemoveWhere dimension filter) = codes "remove" ∷ codes "where" ∷ dimension ∷ filter_words filter
command_words (form.Dimension name accessor) = codes "dimension" ∷ name ∷ accessor_words accessor
command_words (form.Group name dimension rounding reducer) =
    codes "group" ∷ name ∷ codes "of" ∷ dimension ∷ rounding_words rounding ++ reducer_words reducer
command_words (form.Whole name reducer) = codes "whole" ∷ name ∷ reducer_words reducer
command_words (form.Order group field) = codes "order" ∷ group ∷ field_word field ∷ []
command_words (form.DisposeDimension name) = codes "dispose" ∷ codes "dimension" ∷ name ∷ []
command_words (form.DisposeGroup name) = codes "dispose" ∷ codes "group" ∷ name ∷ []
command_words (form.DisposeWhole name) = codes "dispose" ∷ codes "whole" ∷ name ∷ []
command_words (form.Top dimension count offset) = codes "top" ∷ dimension ∷ decimal count ∷ offset_words offset
command_words (form.Bottom dimension count offset) = codes "bottom" ∷ dimension ∷ decimal count ∷ offset_words offset
command_words (form.Groups group) = codes "groups" ∷ group ∷ []
command_words (form.GroupTop group count) = codes "grouptop" ∷ group ∷ decimal count ∷ []
command_words (form.Value group key) = codes "value" ∷ group ∷ key ∷ []
command_words (form.Records dimensions) = codes "records" ∷ dimensions
command_words form.Size = codes "size" ∷ []
command_words form.Passing = codes "passing" ∷ []
command_words form.Events = codes "events" ∷ []
command_words (form.Note words) = codes "note" ∷ words

-- one blank between each two, each as a word
abbrev pub command_line : CommandForm → List ℕ
command_line form = line_of (command_words form)
