use Rattle.xf_base.proofs.KeptItems.{kept-stands, kept-tested}
use Rattle.xf_base.proofs.laws.kept_items.Goals as goal

pub returns : goal.returns
returns g c = record { places = kept-stands; tested = kept-tested }
