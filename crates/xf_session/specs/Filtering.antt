-- What a filter that is given for the dimension of a name does: it is set, or it says which records go.
use Rattle.std.specs.Prelude.{[], ◌∷◌, unwrap_or}
use Rattle.xf_access.specs.Stock.{keys_of_row}
use Rattle.xf_engine.specs.Answers as answer
use Rattle.xf_engine.specs.Changes as change
use Rattle.xf_filter.specs.Filter.{filter_keys}
use Rattle.xf_filter.specs.Stock.{stock_keys, stock_says}
use Rattle.xf_session.specs.Command.{moved, moving, no_dimension, removed, unless, with_cross, with_filter, wrong_kind}
use Rattle.xf_session.specs.Outcome.{Outcome}
use Rattle.xf_session.specs.State.{Name, Session, StockFilter, dimension_id_of}

-- it is refused where no dimension has the name, and for its first key that is of another kind
abbrev pub setting : Session → Name → StockFilter → Outcome
setting s name new =
    unless (no_dimension s name ∷ wrong_kind s name (filter_keys stock_keys new) ∷ [])
    (with_filter s name new) (moving (moved s name new))

-- so is a removal by it
abbrev pub removing : Session → Name → StockFilter → Outcome
removing s name given =
    unless (no_dimension s name ∷ wrong_kind s name (filter_keys stock_keys given) ∷ [])
    (with_cross s (change.without_where keys_of_row stock_says s.cross (dimension_id_of s name) given))
    (removed (unwrap_or (answer.passing_under keys_of_row stock_says s.cross (dimension_id_of s name) given) 0))
