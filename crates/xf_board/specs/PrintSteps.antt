-- For contracts of private functions alone: how the members of an object grow.
use Rattle.std.specs.Prelude.{ℕ, List, Option, Some, None}
use Rattle.serde_json.specs.Data.{Data, Members, put}

-- members with one more, where it has a value
abbrev pub with_some : List ℕ → Option Data → Members → Members
with_some name None members = members
with_some name (Some value) members = put name value members
