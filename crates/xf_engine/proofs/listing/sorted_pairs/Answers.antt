use Rattle.xf_engine.proofs.ListedPairs.{bottom-from_sorted}
use Rattle.xf_engine.proofs.listing.sorted_pairs.Goals as goal

pub returns : goal.returns
returns g c =
    bottom-from_sorted g.A.Accessor.keys_of g.P.Predicate.says_to c.args.rows.now c.args.dimensions.now c.args.own.now c.in_ok-pairs.pairs.items c.sort_unstable.new.self.items c.requires.keys c.requires.own c.requires.ascending c.in_ok-pairs.ensures c.sort_unstable.ensures.permutation c.sort_unstable.ensures.sorted
