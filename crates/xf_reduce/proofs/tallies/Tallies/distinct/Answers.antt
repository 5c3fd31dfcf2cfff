-- The numbers that are there at least once are those that differ.
use Rattle.std.proofs.Common.{pos, length, int_cmp, sym, ap, ◌∙◌}
use Rattle.xf_model.specs.Group.{distinct_keys}
use Rattle.xf_reduce.specs.Tallies.{numbers_in}
use Rattle.xf_reduce.proofs.CountedTallies.{length-distinct_keys-numbers_in}
use Rattle.xf_reduce.proofs.tallies.Tallies.distinct.Goals as goal

pub returns : goal.returns
returns c =
    ap pos (c.self.invariant.distinct
    ∙ sym (length-distinct_keys-numbers_in c.self.inside.counts.entries c.self.invariant.ascend)
    ∙ ap (λ tallies. length (distinct_keys int_cmp (numbers_in tallies))) c.self.view_is)
