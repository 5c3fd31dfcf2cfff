-- Why the crossfilter refuses, as the session tells it.
use Rattle.xf_engine.specs.declared.dimension_refusal.DimensionRefusal.{DimensionRefusal}
use Rattle.xf_engine.specs.declared.dimension_refusal.DimensionRefusal.TheVariants as dimension
use Rattle.xf_reply.specs.declared.refusal.Refusal.{Refusal}
use Rattle.xf_reply.specs.declared.refusal.Refusal.TheVariants as refusal

-- why a dimension is not added; memory that was refused is no cause
abbrev pub cause_of_dimension : DimensionRefusal → Refusal
cause_of_dimension (dimension.TooManyDimensions limit) = refusal.TooManyDimensions limit
cause_of_dimension (dimension.TooManyEntries have more limit) = refusal.TooManyEntries have more limit
cause_of_dimension dimension.OutOfMemory = refusal.UnknownVerb
