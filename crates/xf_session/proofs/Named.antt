-- What the name of a dimension stands for is live: the dimension that is found by it.
use Rattle.std.proofs.Common.{◌≡◌, true, List, Some, ap}
use Rattle.std.specs.List.{find}
use Rattle.xf_access.specs.Stock.{form_of}
use Rattle.xf_access.specs.declared.stock_accessor.StockAccessor.{StockAccessor}
use Rattle.xf_access.specs.declared.stock_rounding.StockRounding.{StockRounding}
use Rattle.xf_engine.specs.State.{AreDistinct, LiveDimension, LiveGroup, LiveWhole, dimension_ids, has_id, is_taken}
use Rattle.xf_filter.specs.declared.stock_predicate.StockPredicate.{StockPredicate}
use Rattle.xf_reduce.specs.declared.stock_reducer.StockReducer.{StockReducer}
use Rattle.xf_session.proofs.NamedLive.{found-taken, named-found}
use Rattle.xf_session.specs.State.{IsSession, Name, Session, named, naming_for}
use Rattle.xf_session.specs.declared.naming.Naming.{Naming}

abbrev pub StockDimension : Type 0
StockDimension = LiveDimension StockAccessor StockPredicate

abbrev pub StockGroup : Type 0
StockGroup = LiveGroup StockRounding StockReducer

abbrev pub StockWhole : Type 0
StockWhole = LiveWhole StockReducer

-- the dimension that a naming stands for, among those that are live
pub record IsNamed (lives : List StockDimension) (naming : Naming) : Type 0 where
  pub live : StockDimension
  pub found : find (has_id naming.id.0) lives ≡ Some live
  pub form : form_of live.accessor ≡ naming.form
  pub taken : is_taken (dimension_ids lives) naming.id.0 ≡ true

-- ---- names

-- the dimension of a name
pub named_live : (s : Session) (name : Name) (naming : Naming) → IsSession s → AreDistinct (dimension_ids s.cross.dimensions) → named s.dimensions name ≡ Some naming → IsNamed s.cross.dimensions naming
named_live s name naming session distinct is =
    let at = named-found (λ (own : Naming). own) naming_for (λ (own : Naming). own.id.0) s.dimensions s.cross.dimensions name naming session.dimensions distinct is in
    record {
      live = at.0;
      found = at.1;
      form = ap (λ (own : Naming). own.form) at.2;
      taken = found-taken (λ (live : StockDimension). live.id) naming.id.0 s.cross.dimensions at.0 at.1;
    }
