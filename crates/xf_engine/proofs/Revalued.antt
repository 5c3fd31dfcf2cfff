-- Values that are put in the place of those of groups and wholes, one by one.
use Rattle.std.proofs.Common.{◌≡◌, ◌<◌, List, [], ◌∷◌, ◌++◌, get_or, length, set, refl, sym, ap, arith}
use Rattle.xf_engine.specs.Folding.{regrouped, revalued}
use Rattle.xf_engine.specs.declared.grouping.Grouping.{Grouping}
use Rattle.xf_engine.specs.declared.whole.Whole.{Whole}

-- where none came all is as it was
pub regrouped-none : {G T : Type 0} (groups : List (Grouping G T)) → regrouped groups [] ≡ groups
regrouped-none [] = refl
regrouped-none (group ∷ groups) = refl

pub revalued-none : {R V : Type 0} (wholes : List (Whole R V)) → revalued wholes [] ≡ wholes
revalued-none [] = refl
revalued-none (whole ∷ wholes) = refl

-- one value more
pub regrouped-more : {G T : Type 0} (groups : List (Grouping G T)) (values : List T) (value : T) (d : Grouping G T) → length values < length groups → set (regrouped groups values) (length values) (record (get_or (regrouped groups values) (length values) d) { group = value }) ≡ regrouped groups (values ++ value ∷ [])
regrouped-more [] values value d within = absurd (omega (arith, within))
regrouped-more (group ∷ groups) [] value d within = ap (λ rest. record group { group = value } ∷ rest) (sym (regrouped-none groups))
regrouped-more (group ∷ groups) (first ∷ values) value d within = ap (λ rest. record group { group = first } ∷ rest) (regrouped-more groups values value d (omega (arith, within)))

pub revalued-more : {R V : Type 0} (wholes : List (Whole R V)) (values : List V) (value : V) (d : Whole R V) → length values < length wholes → set (revalued wholes values) (length values) (record (get_or (revalued wholes values) (length values) d) { value = value }) ≡ revalued wholes (values ++ value ∷ [])
revalued-more [] values value d within = absurd (omega (arith, within))
revalued-more (whole ∷ wholes) [] value d within = ap (λ rest. record whole { value = value } ∷ rest) (sym (revalued-none wholes))
revalued-more (whole ∷ wholes) (first ∷ values) value d within = ap (λ rest. record whole { value = first } ∷ rest) (revalued-more wholes values value d (omega (arith, within)))
