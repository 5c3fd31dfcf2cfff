-- Where memory is refused for what a read gave, it was read all the same.
use Rattle.std.proofs.Common.{◌≡◌, ◌+◌, ◌++◌, take, length, ap, ◌∙◌, arith, length-append, length-take-le}
use Rattle.std.proofs.KnownBytes.{Consumes-trans}
use Rattle.xf_outside.proofs.file_depot.read_whole.Goals as goal

pub returns-in_err-extend_from_slice-clause-taken :
    goal.returns-in_err-extend_from_slice-clause-taken
returns-in_err-extend_from_slice-clause-taken g c =
    let before = c.loop-piece.bytes.items in
    let gain = take c.in_ok-count.count c.read.new.piece in
    let longer : length (before ++ gain) ≡ length before + c.in_ok-count.count =
    length-append before gain ∙ ap (λ n. length before + n) (length-take-le c.in_ok-count.count c.read.new.piece c.in_ok-count.ensures.bound.0) in
    let taken = ap (λ counts. counts.taken) c.in_ok-count.ensures.counts in
    (before ++ gain, Consumes-trans _ _ _ _ _ c.loop-piece.invariant.whole c.in_ok-count.ensures.bytes, omega (arith, longer, c.in_ok-count.ensures.bound.1), (omega (arith, longer, taken), omega (arith, longer, taken)))
