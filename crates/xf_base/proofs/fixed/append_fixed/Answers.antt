use Rattle.std.proofs.Common.{◌≡◌, ◌++◌, [], ◌∷◌, List, ℕ, rules}
use Rattle.std.proofs.lemmas.List.{append-nil}
use Rattle.std.proofs.lemmas.Result.{on_err_weaker}
use Rattle.xf_base.proofs.WriteNumbers.{decimal_some, take_front}
use Rattle.xf_base.proofs.fixed.append_fixed.Goals as goal
use Rattle.xf_base.proofs.fixed.append_fixed.Goals.{then-number-lt0+in_ok-push, else-number-lt0}

pub append_with_point-requires-clause-some : goal.append_with_point-requires-clause-some
append_with_point-requires-clause-some c =
    rw (c.as_bytes.ensures.value, c.format-digits.ensures.text) (decimal_some c.unsigned_abs.result c.unsigned_abs.ensures.bound)

-- the sign, or nothing, is what stands after the old text
with_sign : (c : goal.After-buffer-2-1) → (more : List ℕ) × (c.if-number-lt0.out.items ≡ c.args.out.now.items ++ more)
with_sign c = elim c.if-number-lt0.branch [ then-number-lt0+in_ok-push w ↦ (45 ∷ [], search rules) | else-number-lt0 w ↦ ([], search (rules, append-nil)) ]

pub returns-clause-err : goal.returns-clause-err
returns-clause-err c =
    let more = with_sign c in
    on_err_weaker c.append_with_point.result (λ begins. take_front _ _ _ _ _ more.0 c.args.out.now.ok.0 c.if-number-lt0.out.ok.0 more.1 begins) c.append_with_point.ensures.err
