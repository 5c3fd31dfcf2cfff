-- only the value of the last entry is another
use Rattle.std.proofs.Common.{◌≡◌, ◌<◌, ◌-◌, length, sym, ap, subst, ◌∙◌, arith}
use Rattle.std.proofs.lemmas.Bool.{false≢true}
use Rattle.std.specs.List.{IsDistinct}
use Rattle.std.specs.Option.{IsSome}
use Rattle.std.specs.String.{string_eq}
use Rattle.indexmap.proofs.CallerLemmas.{keys-with_value_at}
use Rattle.indexmap.specs.IndexMap.{set_value_at}
use Rattle.xf_session.proofs.LastNames.{last-within, set-last}
use Rattle.xf_session.proofs.NameLists.{seen}
use Rattle.xf_session.proofs.names.Names.set_last.Goals.{in-Some, in_default}
use Rattle.xf_session.proofs.names.Names.set_last.Goals as goal

pub invariant_of-self : goal.invariant_of-self
invariant_of-self g c =
    elim c.match-get_index_mut.branch [
      | in-Some w ↦ rw w.self-inside-is
          (subst (IsDistinct string_eq) (sym (keys-with_value_at c.self.inside.by_name c.saturating_sub-place.result c.args.value)) c.self.invariant)
      | in_default w ↦ rw w.self-inside-is c.self.invariant
    ]

pub returns : goal.returns
returns g c names name old are =
    let entries = c.self.inside.by_name.entries in
    let place : c.saturating_sub-place.result ≡ length entries - 1 = c.saturating_sub-place.ensures ∙ ap (λ many. many - 1) c.len.ensures.len in
    elim c.match-get_index_mut.branch [
      | in-Some w ↦ rw w.self-inside-is
          (ap (λ at. seen (set_value_at entries at c.args.value)) place ∙ set-last entries names name old c.args.value (c.self.view_is ∙ are))
      | in_default w ↦
          let within : c.saturating_sub-place.result < length entries = omega (arith, place, last-within entries names name old (c.self.view_is ∙ are)) in
          absurd (false≢true (subst IsSome w.in_default.is (c.get_index_mut.ensures.found.1 within)))
    ]
