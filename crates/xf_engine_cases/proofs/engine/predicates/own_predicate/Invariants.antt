use Rattle.xf_engine_cases.proofs.engine.predicates.own_predicate.Given as goal

-- the example counts its steps in the ledger of its blank
abbrev pub ghosts-see_predicate : goal.ghosts-see_predicate
ghosts-see_predicate g a = record { name = a.blank.name; parts = a.blank.parts }
