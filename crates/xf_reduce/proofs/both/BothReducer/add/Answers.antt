-- A fold of both is the fold of each.
use Rattle.xf_reduce.proofs.PairConditions.{before-first, before-second}
use Rattle.xf_reduce.proofs.both.BothReducer.add.Goals as goal

pub add-requires-clause-folded : goal.add-requires-clause-folded
add-requires-clause-folded g c =
    let first = c.args.self.now.0 in
    let second = c.args.self.now.1 in
    before-first (g.A.Part.fits_to first) (g.B.Part.fits_to second) (g.A.Part.folding first) (g.B.Part.folding second) (g.A.Part.meaning_of c.args.value.now.0, g.B.Part.meaning_of c.args.value.now.1) c.args.row.now c.requires.folded

pub add-requires-2-clause-folded : goal.add-requires-2-clause-folded
add-requires-2-clause-folded g c =
    let first = c.args.self.now.0 in
    let second = c.args.self.now.1 in
    before-second (g.A.Part.fits_to first) (g.B.Part.fits_to second) (g.A.Part.folding first) (g.B.Part.folding second) (g.A.Part.meaning_of c.args.value.now.0, g.B.Part.meaning_of c.args.value.now.1) c.args.row.now c.requires.folded
