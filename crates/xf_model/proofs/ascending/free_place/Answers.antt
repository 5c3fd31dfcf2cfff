-- The keys before the place are below the key, and the one at it ties with it or is above it.
use Rattle.std.proofs.Common.{◌≡◌, ℕ, ◌<◌, List, Less, Equal, Greater, below_more, get_or, length, sym, ap, ◌∙◌, arith}
use Rattle.std.proofs.lemmas.List.{get_or_default}
use Rattle.std.specs.declared.cmp.Ordering.{Ordering}
use Rattle.xf_model.proofs.AscendingKeys.{with_key_present, with_key_absent}
use Rattle.xf_model.proofs.ascending.free_place.Goals as goal

-- what is told of the key that was read holds of the key at the place
told_at : {Key : Type 0} (cmp : Key → Key → Ordering) (keys : List Key) (place : ℕ) (own key : Key) (told : Ordering) → place < length keys → own ≡ get_or keys place own → told ≡ cmp own key → cmp (get_or keys place key) key ≡ told
told_at cmp keys place own key told within read is = ap (λ one. cmp one key) (get_or_default keys place key own within ∙ sym read) ∙ sym is

pub loop-place-preserved : goal.loop-place-preserved
loop-place-preserved g c =
    below_more (λ k. g.Key.Ord.cmp (get_or c.args.keys.now k c.args.key.now) c.args.key.now ≡ Less) c.loop-place.place c.loop-place.invariant
    (told_at g.Key.Ord.cmp c.args.keys.now c.loop-place.place c.index-keys-place.result c.args.key.now Less c.loop-place-test.true c.index-keys-place.is c.in-Less.ensures)

pub returns-in-Equal : goal.returns-in-Equal
returns-in-Equal g c =
    let tied = told_at g.Key.Ord.cmp c.args.keys.now c.loop-place.place c.index-keys-place.result c.args.key.now Equal c.loop-place-test.true c.index-keys-place.is c.in-Equal.ensures in
    with_key_present g.met.Key.Ord.total c.args.key.now c.args.keys.now c.loop-place.place c.args.key.now c.loop-place.invariant c.loop-place-test.true tied

pub returns-in-Greater : goal.returns-in-Greater
returns-in-Greater g c =
    let above = told_at g.Key.Ord.cmp c.args.keys.now c.loop-place.place c.index-keys-place.result c.args.key.now Greater c.loop-place-test.true c.index-keys-place.is c.in-Greater.ensures in
    (omega arith, with_key_absent g.met.Key.Ord.total c.args.key.now c.args.keys.now c.loop-place.place c.args.key.now c.loop-place.invariant (omega arith) (λ _. above))

pub returns : goal.returns
returns g c =
    (omega arith, with_key_absent g.met.Key.Ord.total c.args.key.now c.args.keys.now (length c.args.keys.now) c.args.key.now (λ k within. c.loop-place.invariant k (omega arith)) (omega arith) (λ more. absurd (omega arith)))
