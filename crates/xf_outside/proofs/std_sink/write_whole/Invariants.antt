-- What was written so far and what is left are the text, and nothing failed.
use Rattle.std.proofs.Common.{◌≡◌, ℕ, ◌-◌, ◌≤◌, List, ◌++◌, length}
use Rattle.std.specs.Io.KnownBytes.{Appends}
use Rattle.xf_outside.specs.Count.{RoseExactly}
use Rattle.xf_outside.proofs.std_sink.write_whole.Given as goal

abbrev pub invariant-loop-rest : goal.invariant-loop-rest
invariant-loop-rest g l =
    let contents = g.W.Write.contents in
    record {
      written : (kept : List ℕ) × (l.text ≡ kept ++ l.rest) × Appends (contents l.fn.output.writer) (contents l.output.writer) kept;
      counted : RoseExactly l.fn.output.taken l.output.taken (length l.text - length l.rest);
      shorter : length l.rest ≤ length l.text;
      faultless : l.output.faults ≡ l.fn.output.faults;
    }

abbrev pub decreases-loop-rest : goal.decreases-loop-rest
decreases-loop-rest g l = length l.rest
