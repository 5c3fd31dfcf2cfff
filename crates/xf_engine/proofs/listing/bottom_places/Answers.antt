use Rattle.std.proofs.Common.{IfOk, ◌≡◌, ap, subst, ◌∙◌}
use Rattle.xf_engine.specs.Listing.{told}
use Rattle.xf_engine.proofs.ListedPairs.{places-first}
use Rattle.xf_engine.proofs.listing.bottom_places.Goals as goal

pub returns : goal.returns
returns g c =
    let places = places-first c.args.k c.args.offset c.deref.result.now _ (ap told c.deref.ensures.value ∙ c.in_ok-pairs.ensures) in
    subst (λ places. IfOk c.first_places.result (λ v. v.items ≡ places)) places c.first_places.ensures
