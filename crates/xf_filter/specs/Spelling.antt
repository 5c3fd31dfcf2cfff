-- The grammar: which words spell which filter.
use Rattle.std.specs.Prelude.{◌≡◌, ℕ, ◌+◌, ◌≤◌, max, pos, List, [], ◌∷◌, ◌++◌, flat_map, length, codes, Option, Some, None}
use Rattle.xf_filter.specs.Words.{Word, divisor_of, remainder_of, item_words}
use Rattle.xf_filter.specs.declared.raw_filter.RawFilterParts.{RawFilterParts}
use Rattle.xf_filter.specs.declared.raw_filter.RawFilterParts.TheVariants as form
use Rattle.xf_filter.specs.declared.raw_filter.RawItemParts.{RawItemParts}
use Rattle.xf_filter.specs.declared.raw_filter.RawPredicate.{RawPredicate, fold-RawPredicate}
use Rattle.xf_filter.specs.declared.raw_filter.RawPredicate.TheOpen.{RawPredicate-F}
use Rattle.xf_filter.specs.declared.raw_filter.RawPredicate.TheVariants as raw

-- the words of a predicate: a count may have zeros in front, so one predicate may be spelled in several ways
pub data Spells : RawPredicate → List Word → Type 0 where
  oneof : (first : RawItemParts) (items : List RawItemParts) → Spells (raw.OneOf (first ∷ items)) (codes "oneof" ∷ flat_map item_words (first ∷ items) ++ codes "end" ∷ [])
  prefix : (text : Word) → Spells (raw.Prefix text) (codes "prefix" ∷ text ∷ [])
  modulo : (m r : Word) (divisor remainder : ℕ) → divisor_of m ≡ Some divisor → remainder_of divisor r ≡ Some remainder
      → Spells (raw.Modulo (pos divisor) (pos remainder)) (codes "modulo" ∷ m ∷ r ∷ [])
  negation : (inner : RawPredicate) (words : List Word) → Spells inner words → Spells (raw.Not inner) (codes "not" ∷ words)
  conjunction : (first second : RawPredicate) (words more : List Word) → Spells first words → Spells second more → Spells (raw.And first second) (codes "and" ∷ words ++ more)
  disjunction : (first second : RawPredicate) (words more : List Word) → Spells first words → Spells second more → Spells (raw.Or first second) (codes "or" ∷ words ++ more)

-- the words of a filter
pub data SpellsFilter : RawFilterParts → List Word → Type 0 where
  all : SpellsFilter form.All (codes "all" ∷ [])
  exact : (key : Word) → SpellsFilter (form.Exact key) (codes "exact" ∷ key ∷ [])
  range : (low high : Word) → SpellsFilter (form.Range low high) (codes "range" ∷ low ∷ high ∷ [])
  func : (predicate : RawPredicate) (words : List Word) → Spells predicate words → SpellsFilter (form.Func predicate) (codes "func" ∷ words)

-- a predicate inside another is one deeper
abbrev pub depth_by : RawPredicate-F ℕ → ℕ
depth_by (RawPredicate-F.OneOf items) = 1
depth_by (RawPredicate-F.Prefix text) = 1
depth_by (RawPredicate-F.Modulo divisor remainder) = 1
depth_by (RawPredicate-F.Not depth) = depth + 1
depth_by (RawPredicate-F.And first second) = max first second + 1
depth_by (RawPredicate-F.Or first second) = max first second + 1

abbrev pub depth_of : RawPredicate → ℕ
depth_of = fold-RawPredicate ℕ depth_by

abbrev pub filter_depth : RawFilterParts → ℕ
filter_depth form.All = 0
filter_depth (form.Exact key) = 0
filter_depth (form.Range low high) = 0
filter_depth (form.Func predicate) = depth_of predicate

-- what reading may give: of the grammar, and at most so deep
abbrev pub IsReadable : RawFilterParts → Type 0
IsReadable filter = (filter_depth filter ≤ 16) × (words : List Word) × SpellsFilter filter words

-- the first word, if there is one
abbrev pub first_of : List Word → Option Word
first_of [] = None
first_of (word ∷ words) = Some word

-- so many of the words begin the words of a filter, and no filter of any depth goes on with the word that stands behind
-- them, or ends where none does
pub record IsBadAfter (words : List Word) (before : ℕ) : Type 0 where
  pub front : List Word
  pub rest : List Word
  pub words_are : words ≡ front ++ rest
  pub before_are : length front ≡ before
  pub begins : (filter : RawFilterParts) × (more : List Word) × SpellsFilter filter (front ++ more)
  pub stops : (filter : RawFilterParts) (more : List Word) → SpellsFilter filter (front ++ more) → first_of more ≡ first_of rest → ⊥
