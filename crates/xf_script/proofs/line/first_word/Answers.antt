use Rattle.std.proofs.Common.{◌<◌, length, get_or, subst, List, ℕ, arith}
use Rattle.std.specs.Str.{IsCharBoundary}
use Rattle.std.proofs.lemmas.Str.{IsCharBoundary-after_ascii}
use Rattle.xf_script.proofs.line.first_word.Goals as goal

pub split_at-requires : goal.split_at-requires
split_at-requires c =
    let bytes = c.as_bytes.result.now in
    let item = c.in-Some-eq34.ensures.item in
    let inside : 0 < length bytes = item.3.0 in
    let low : get_or bytes 0 0 < 128 = omega (arith, item.3.1 0, c.in-Some-eq34.field-0-test) in
    subst (λ (text : List ℕ). IsCharBoundary text 1) c.as_bytes.ensures.value (IsCharBoundary-after_ascii bytes 0 c.as_bytes.ensures.utf8 inside low)
