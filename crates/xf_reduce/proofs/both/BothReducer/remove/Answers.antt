-- A fold of both is the fold of each.
use Rattle.xf_reduce.proofs.PairConditions.{with-first, with-second}
use Rattle.xf_reduce.proofs.both.BothReducer.remove.Goals as goal

pub remove-requires-clause-folded : goal.remove-requires-clause-folded
remove-requires-clause-folded g c =
    let first = c.args.self.now.0 in
    let second = c.args.self.now.1 in
    with-first (g.A.Part.fits_to first) (g.B.Part.fits_to second) (g.A.Part.folding first) (g.B.Part.folding second) (g.A.Part.meaning_of c.args.value.now.0, g.B.Part.meaning_of c.args.value.now.1) c.args.row.now c.requires.folded

pub remove-requires-2-clause-folded : goal.remove-requires-2-clause-folded
remove-requires-2-clause-folded g c =
    let first = c.args.self.now.0 in
    let second = c.args.self.now.1 in
    with-second (g.A.Part.fits_to first) (g.B.Part.fits_to second) (g.A.Part.folding first) (g.B.Part.folding second) (g.A.Part.meaning_of c.args.value.now.0, g.B.Part.meaning_of c.args.value.now.1) c.args.row.now c.requires.folded
