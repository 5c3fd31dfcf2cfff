use Rattle.std.proofs.Common.{◌≡◌, drop, map, take}
use Rattle.xf_engine.specs.State.{id_numbers}
use Rattle.xf_session.specs.Command.{first_cause, no_dimension}
use Rattle.xf_session.specs.State.{dimension_id_of}
use Rattle.xf_session.proofs.session.Session.records.Given as goal

-- the names so far are of dimensions, whose ids these are
abbrev pub invariant-loop-name : goal.invariant-loop-name
invariant-loop-name g l = record {
  live : first_cause (map (no_dimension l.self) l.fn.names) ≡ first_cause (map (no_dimension l.self) (drop l.name-index l.fn.names));
  ids : id_numbers l.ids.items ≡ map (dimension_id_of l.self) (take l.name-index l.fn.names);
}
