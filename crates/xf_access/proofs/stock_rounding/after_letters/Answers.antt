use Rattle.std.proofs.Common.{rules, arith}
use Rattle.std.specs.Str.Iter.{chars_rest}
use Rattle.xf_access.proofs.Letters.{IsEnded, step, end_of_count, end_of_text, all_taken}
use Rattle.xf_access.proofs.stock_rounding.after_letters.Goals as goal
use Rattle.xf_access.proofs.stock_rounding.after_letters.Goals.{then-loop-left-test+else-is_some, else-loop-left-test}

pub loop-left-preserved : goal.loop-left-preserved
loop-left-preserved c =
    step c.args.count c.args.text.now c.loop-left.left c.loop-left.rest c.next.new.self c.next.result c.loop-left.invariant c.next.ensures.steps (search rules) (omega arith)

-- where the loop ends
ended : (c : goal.After-as_str) → IsEnded c.args.count c.args.text.now (chars_rest c.loop-left-test.rest)
ended c =
    elim c.loop-left-test.branch [
      | then-loop-left-test+else-is_some w ↦
          rw w.rest-is (end_of_text c.args.count c.args.text.now c.loop-left.left c.loop-left.rest w.next.new.self w.next.result c.loop-left.invariant w.next.ensures.steps (search rules))
      | else-loop-left-test w ↦ rw w.rest-is (end_of_count c.args.count c.args.text.now c.loop-left.left (chars_rest c.loop-left.rest) c.loop-left.invariant (omega arith))
    ]

pub returns : goal.returns
returns c = rw c.as_str.ensures (all_taken c.args.count c.args.text.now (chars_rest c.loop-left-test.rest) (ended c))
