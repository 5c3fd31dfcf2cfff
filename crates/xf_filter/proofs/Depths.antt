-- The depth of each predicate.
use Rattle.std.proofs.Common.{◌≡◌, ◌∙◌, ℕ, ◌+◌, max, ℤ, List, sym, ap}
use Rattle.xf_filter.specs.Words.{Word}
use Rattle.xf_filter.specs.Spelling.{depth_by, depth_of}
use Rattle.xf_filter.specs.declared.raw_filter.RawItemParts.{RawItemParts}
use Rattle.xf_filter.specs.declared.raw_filter.RawPredicate.{RawPredicate}
use Rattle.xf_filter.specs.declared.raw_filter.RawPredicate.TheFolds.{fold-roll-RawPredicate}
use Rattle.xf_filter.specs.declared.raw_filter.RawPredicate.TheOpen.{RawPredicate-F}
use Rattle.xf_filter.specs.declared.raw_filter.RawPredicate.TheVariants as raw

pub depth-oneof : (items : List RawItemParts) → depth_of (raw.OneOf items) ≡ 1
depth-oneof items = ap depth_of (sym (raw.rolls-OneOf items)) ∙ fold-roll-RawPredicate ℕ depth_by (RawPredicate-F.OneOf items)

pub depth-prefix : (text : Word) → depth_of (raw.Prefix text) ≡ 1
depth-prefix text = ap depth_of (sym (raw.rolls-Prefix text)) ∙ fold-roll-RawPredicate ℕ depth_by (RawPredicate-F.Prefix text)

pub depth-modulo : (divisor remainder : ℤ) → depth_of (raw.Modulo divisor remainder) ≡ 1
depth-modulo divisor remainder = ap depth_of (sym (raw.rolls-Modulo divisor remainder)) ∙ fold-roll-RawPredicate ℕ depth_by (RawPredicate-F.Modulo divisor remainder)

pub depth-not : (inner : RawPredicate) → depth_of (raw.Not inner) ≡ depth_of inner + 1
depth-not inner = ap depth_of (sym (raw.rolls-Not inner)) ∙ fold-roll-RawPredicate ℕ depth_by (RawPredicate-F.Not inner)

pub depth-and : (first second : RawPredicate) → depth_of (raw.And first second) ≡ max (depth_of first) (depth_of second) + 1
depth-and first second = ap depth_of (sym (raw.rolls-And first second)) ∙ fold-roll-RawPredicate ℕ depth_by (RawPredicate-F.And first second)

pub depth-or : (first second : RawPredicate) → depth_of (raw.Or first second) ≡ max (depth_of first) (depth_of second) + 1
depth-or first second = ap depth_of (sym (raw.rolls-Or first second)) ∙ fold-roll-RawPredicate ℕ depth_by (RawPredicate-F.Or first second)
