-- There are as many numbers as rows, and fewer than a million.
use Rattle.std.proofs.Common.{◌≡◌, length, ap, ◌∙◌, arith}
use Rattle.xf_reduce.specs.NumbersLaws.{length-numbers_of}
use Rattle.xf_reduce.specs.Tallies.{numbers_in}
use Rattle.xf_reduce.proofs.spread.SpreadPart.add.Goals as goal

pub add-requires-clause-few : goal.add-requires-clause-few
add-requires-clause-few c =
    let rows = c.requires.folded.rows in
    let many : length (numbers_in c.args.value.now) ≡ length rows = ap length c.requires.folded.folded ∙ length-numbers_of c.args.self.now.0 rows in
    let few = c.requires.folded.few in
    omega arith
