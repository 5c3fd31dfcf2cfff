use Rattle.std.proofs.Common.{◌≡◌, ◌∙◌, ◌+◌, ◌-◌, ◌∷◌, ◌++◌, [], ℕ, List, length, Ok, sym, ap, arith}
use Rattle.std.proofs.lemmas.List.{length-append}
use Rattle.std.proofs.lemmas.Result.{err_from_is_err_and}
use Rattle.xf_filter.specs.Words.{Word}
use Rattle.xf_filter.specs.Reading.{items_at, with_front}
use Rattle.xf_filter.proofs.Items.{read_fault, read_done, read_on}
use Rattle.xf_filter.proofs.read.items_after.Goals as goal

-- src/read.rt:166:29
pub returns-in_err-item : goal.returns-in_err-item
returns-in_err-item c =
    let most : ℕ = length c.args.words.now + 1 - length c.loop-alloc.items.items in
    let p = err_from_is_err_and c.from_residual-in_err-item.result c.from_residual-in_err-item.ensures.1 in
    rw (p.1, p.2) (read_fault c.in_err-item.field-0.0 c.loop-alloc.items.items c.loop-alloc.rest.now most (with_front (c.args.first ∷ []) (items_at (length c.args.words.now) c.args.words.now)) (omega (arith, c.loop-alloc.invariant.left)) (sym c.loop-alloc-test.ensures) c.in_err-item.ensures.exact c.loop-alloc.invariant.read)

-- src/read.rt:165:5
pub loop-alloc-preserved : goal.loop-alloc-preserved
loop-alloc-preserved c =
    let most : ℕ = length c.args.words.now + 1 - length c.loop-alloc.items.items in
    let pushed : c.push-in-loop-alloc.new.self.items ≡ c.loop-alloc.items.items ++ c.in_ok-item.item ∷ [] = c.in_ok-push-2.ensures.items in
    let longer : length c.push-in-loop-alloc.new.self.items ≡ length c.loop-alloc.items.items + 1 = ap length pushed ∙ length-append c.loop-alloc.items.items (c.in_ok-item.item ∷ []) in
    let fewer : length c.args.words.now + 1 - length c.push-in-loop-alloc.new.self.items ≡ most - 1 = omega arith in
    record {
      read = rw (fewer, pushed) (read_on c.loop-alloc.items.items c.in_ok-item.item c.loop-alloc.rest.now c.in_ok-item.after.now most (omega (arith, c.loop-alloc.invariant.left)) (sym c.loop-alloc-test.ensures) (c.in_ok-item.ensures.exact) ∙ c.loop-alloc.invariant.read);
      left = omega (arith, c.loop-alloc.invariant.left, c.in_ok-item.ensures.shorter);
    }

-- src/read.rt:155:1
pub returns : goal.returns
returns c =
    let most : ℕ = length c.args.words.now + 1 - length c.loop-alloc.items.items in
    sym c.loop-alloc.invariant.read ∙ read_done c.loop-alloc.items.items c.loop-alloc.rest.now most (omega (arith, c.loop-alloc.invariant.left)) (sym c.loop-alloc-test.ensures)
    ∙ ap (λ (rest : List Word). Ok (c.loop-alloc.items.items, rest)) (sym c.behind_first.ensures)
