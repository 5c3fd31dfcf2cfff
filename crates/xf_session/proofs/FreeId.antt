-- The least id that is not taken.
use Rattle.std.proofs.Common.{◌≡◌, ℕ, ◌+◌, ◌<◌, ◌≤◌, not, List, length, Some, slice_get, unwrap_or, sym, ap, ◌∙◌, arith}
use Rattle.std.proofs.lemmas.List.FromFn.{get_or-range_with_len, length-range_with_len}
use Rattle.std.proofs.lemmas.Option.{slice_get-get_or}
use Rattle.std.specs.List.{find, range_with_len}
use Rattle.xf_engine.proofs.FreeId.{taken-few}
use Rattle.xf_engine.specs.State.{IsFreeId, is_taken}
use Rattle.xf_session.proofs.NamedIds.{found-first}
use Rattle.xf_session.specs.Command.{free_id}

-- it is the first of those that are no more than there are ids
pub free-is : (ids : List ℕ) (id : ℕ) → IsFreeId ids id → id ≡ free_id ids
free-is ids id is =
    let count : ℕ = length ids + 1 in
    let few : id ≤ length ids = taken-few id ids is.least in
    let within : id < length (range_with_len 0 count) = omega (arith, few, length-range_with_len 0 count) in
    let stands : slice_get (range_with_len 0 count) id ≡ Some id = slice_get-get_or (range_with_len 0 count) id 0 within ∙ ap Some (get_or-range_with_len 0 count id 0 (omega (arith, few)) ∙ omega arith) in
    let found : find (λ n. not (is_taken ids n)) (range_with_len 0 count) ≡ Some id =
    found-first (λ n. not (is_taken ids n)) (range_with_len 0 count) id id
    (λ earlier d e. ap (λ n. not (is_taken ids n)) (get_or-range_with_len 0 count earlier d (omega (arith, few, e)) ∙ omega arith) ∙ ap not (is.least earlier e))
    within stands (ap not is.free) in
    sym (ap (λ some. unwrap_or some 0) found)
