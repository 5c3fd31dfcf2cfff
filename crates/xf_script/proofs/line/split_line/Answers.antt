use Rattle.std.proofs.Common.{◌≡◌, ◌<◌, length, subst, sym, arith}
use Rattle.std.proofs.lemmas.Bool.Decides.{nat_tests}
use Rattle.xf_script.specs.Line.{split_of}
use Rattle.xf_script.proofs.Splits.{IsBegun, IsBegun-skip, begun_split, splits-begin, splits-shorter, splits-step, with_words}
use Rattle.xf_script.proofs.line.split_line.Goals as goal

pub loop-rest-init : goal.loop-rest-init
loop-rest-init c =
    let rest = c.skip_spaces-rest.result.now in
    let line = c.args.line.now in
    let begun : IsBegun rest = subst IsBegun (sym c.skip_spaces-rest.ensures) (IsBegun-skip line) in
    let split : split_of line ≡ with_words c.new-words.result (begun_split rest) = rw c.new-words.ensures (splits-begin line rest c.skip_spaces-rest.ensures) in
    (c.skip_spaces-rest.utf8, split, begun)

pub loop-rest-smaller : goal.loop-rest-smaller
loop-rest-smaller c =
    let first = c.in-Ok-Some.first in
    let found = rw c.in-Ok-Some.field-0-is at c.in-Ok-Some.ensures in
    splits-shorter c.loop-rest.rest.now first.word first.rest.now c.skip_spaces-rest-in-Ok-Some.result.now c.loop-rest.invariant.2 (sym found) c.skip_spaces-rest-in-Ok-Some.ensures

pub loop-rest-preserved : goal.loop-rest-preserved
loop-rest-preserved c =
    let text = c.loop-rest.rest.now in
    let next = c.skip_spaces-rest-in-Ok-Some.result.now in
    let first = c.in-Ok-Some.first in
    let found = rw c.in-Ok-Some.field-0-is at c.in-Ok-Some.ensures in
    let some : 0 < length text = grind (arith, nat_tests, c.is_empty.ensures, c.loop-rest-test.true) in
    let step = splits-step c.args.line.now text first.word first.rest.now next c.loop-rest.words some (sym found) c.skip_spaces-rest-in-Ok-Some.ensures c.loop-rest.invariant.1 in
    let begun : IsBegun next = subst IsBegun (sym c.skip_spaces-rest-in-Ok-Some.ensures) (IsBegun-skip first.rest.now) in
    (c.skip_spaces-rest-in-Ok-Some.utf8, rw c.in_ok-push-in-Ok-Some.ensures.ok step, begun)
