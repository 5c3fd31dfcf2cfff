use Rattle.std.proofs.Common.{rules, ◌≡◌, ◌==◌, ◌≤◌, true, get_or, length, sym, ap, ◌∙◌}
use Rattle.std.proofs.lemmas.List.{take_all}
use Rattle.std.specs.List.{list_any}
use Rattle.xf_engine.specs.declared.ids.DimensionId.{DimensionId}
use Rattle.xf_engine.proofs.ById.{taken-at}
use Rattle.xf_engine.proofs.FreeId.{ids_taken}
use Rattle.xf_engine.proofs.filtered.is_ignored.Goals as goal

pub returns-then-own-id : goal.returns-then-own-id
returns-then-own-id c =
    let zero : DimensionId = record { 0 = 0 } in
    let same : ((get_or c.args.ignored.now c.loop-own.own-index zero).0 == c.args.id.0) ≡ true = search rules in
    sym (taken-at (λ (own : DimensionId). own.0) c.args.id.0 c.args.ignored.now c.loop-own.own-index zero c.loop-own-test.true same)

pub returns : goal.returns
returns c =
    let past : length c.args.ignored.now ≤ c.loop-own.own-index = search rules in
    sym (ids_taken c.args.id.0 c.args.ignored.now ∙ ap (list_any (λ (own : DimensionId). own.0 == c.args.id.0)) (sym (take_all c.loop-own.own-index c.args.ignored.now past)) ∙ c.loop-own.invariant)
