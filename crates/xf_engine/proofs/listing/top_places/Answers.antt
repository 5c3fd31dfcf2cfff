use Rattle.std.proofs.Common.{IfOk, ◌≡◌, ap, subst, ◌∙◌}
use Rattle.xf_engine.specs.Listing.{told}
use Rattle.xf_engine.proofs.ListedPairs.{places-last}
use Rattle.xf_engine.proofs.listing.top_places.Goals as goal

pub returns : goal.returns
returns g c =
    let places = places-last c.args.k c.args.offset c.deref.result.now _ (ap told c.deref.ensures.value ∙ c.in_ok-pairs.ensures) in
    subst (λ places. IfOk c.last_places.result (λ v. v.items ≡ places)) places c.last_places.ensures
