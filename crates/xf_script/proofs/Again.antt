-- The words that are written for a command are read as it.
use Rattle.std.proofs.Common.{◌≡◌, ℕ, List, [], ◌∷◌, codes, Option, Some, None, Ok, refl}
use Rattle.xf_columns.specs.declared.words.AccessorWords.TheVariants as accessor
use Rattle.xf_columns.specs.declared.words.AccessorWords.{AccessorWords}
use Rattle.xf_columns.specs.declared.words.ReducerWords.{ReducerWords}
use Rattle.xf_columns.specs.declared.words.RoundingWords.TheVariants as rounding
use Rattle.xf_columns.specs.declared.words.RoundingWords.{RoundingWords}
use Rattle.xf_filter.specs.Words.{Word}
use Rattle.xf_filter.proofs.Again.{item_of_again}
use Rattle.xf_script.specs.Canonical.{command_words, rounding_words}
use Rattle.xf_script.specs.Grammar.{IsCommand, form_of_words}
use Rattle.xf_script.specs.declared.command.CommandForm.{CommandForm}
use Rattle.xf_script.specs.declared.command.CommandForm.TheVariants as form
use Rattle.xf_script.proofs.Reducers.{reducer_again}
use Rattle.xf_script.proofs.Said.{Said, SaidCount, SaidOffset, SaidRounding, said_of}

dimension_again : (name : Word) (accessor : AccessorWords) → form_of_words (command_words (form.Dimension name accessor)) ≡ Ok (Some (form.Dimension name accessor))
dimension_again name (accessor.Column column) = refl
dimension_again name (accessor.Pair first second) = refl
dimension_again name (accessor.Tags column) = refl
dimension_again name (accessor.Weekday column) = refl
dimension_again name (accessor.Month column) = refl

-- the words of a group up to its reducer
abbrev group_front : Word → Word → RoundingWords → List Word
group_front name dimension r = codes "group" ∷ name ∷ codes "of" ∷ dimension ∷ rounding_words r

group_again : (name dimension : Word) (r : RoundingWords) (reducer : ReducerWords) → SaidRounding r → form_of_words (command_words (form.Group name dimension r reducer)) ≡ Ok (Some (form.Group name dimension r reducer))
group_again name dimension rounding.Same reducer said = rw (reducer_again (group_front name dimension rounding.Same) reducer 6 refl) refl
group_again name dimension (rounding.Floor width) reducer said = rw (said, reducer_again (group_front name dimension (rounding.Floor width)) reducer 7 refl) refl
group_again name dimension rounding.Month reducer said = rw (reducer_again (group_front name dimension rounding.Month) reducer 6 refl) refl
group_again name dimension rounding.Year reducer said = rw (reducer_again (group_front name dimension rounding.Year) reducer 6 refl) refl
group_again name dimension (rounding.Letters letters) reducer said = rw (said, reducer_again (group_front name dimension (rounding.Letters letters)) reducer 7 refl) refl

top_again : (dimension : Word) (count : ℕ) (offset : Option ℕ) → SaidCount count → SaidOffset offset → form_of_words (command_words (form.Top dimension count offset)) ≡ Ok (Some (form.Top dimension count offset))
top_again dimension count None said more = rw said refl
top_again dimension count (Some offset) said more = rw (said, more) refl

bottom_again : (dimension : Word) (count : ℕ) (offset : Option ℕ) → SaidCount count → SaidOffset offset → form_of_words (command_words (form.Bottom dimension count offset)) ≡ Ok (Some (form.Bottom dimension count offset))
bottom_again dimension count None said more = rw said refl
bottom_again dimension count (Some offset) said more = rw (said, more) refl

form_again : (given : CommandForm) → Said given → form_of_words (command_words given) ≡ Ok (Some given)
form_again (form.Load file) said = refl
form_again (form.Add words) said = rw said.1 refl
form_again (form.Filter dimension given) said = rw said refl
form_again (form.Toggle dimension item) said = rw (item_of_again item) refl
form_again (form.Clear dimension) said = refl
form_again form.ClearAll said = refl
form_again form.RemovePassing said = refl
form_again (form.RemoveWhere dimension given) said = rw said refl
form_again (form.Dimension name accessor) said = dimension_again name accessor
form_again (form.Group name dimension r reducer) said = group_again name dimension r reducer said
form_again (form.Whole name reducer) said = rw (reducer_again (codes "whole" ∷ name ∷ []) reducer 3 refl) refl
form_again (form.Order group field) said = rw said refl
form_again (form.DisposeDimension name) said = refl
form_again (form.DisposeGroup name) said = refl
form_again (form.DisposeWhole name) said = refl
form_again (form.Top dimension count offset) said = top_again dimension count offset said.0 said.1
form_again (form.Bottom dimension count offset) said = bottom_again dimension count offset said.0 said.1
form_again (form.Groups group) said = refl
form_again (form.GroupTop group count) said = rw said refl
form_again (form.Value group key) said = refl
form_again (form.Records dimensions) said = refl
form_again form.Size said = refl
form_again form.Passing said = refl
form_again form.Events said = refl
form_again (form.Note words) said = refl

pub said_again : (given : CommandForm) → IsCommand given → form_of_words (command_words given) ≡ Ok (Some given)
said_again given is = form_again given (said_of is.0 given is.1)
