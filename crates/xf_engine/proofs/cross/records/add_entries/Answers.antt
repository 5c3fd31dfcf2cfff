-- The keys of more rows are within the limit, or the dimensions stay as they were.
use Rattle.std.proofs.Common.{rules, ◌≡◌, inr, ◌-◌, map, sum_by, ap, ◌∙◌, arith}
use Rattle.xf_engine.specs.Held.{held_count, more_count, with_keys_of}
use Rattle.xf_engine.specs.declared.add_refusal.AddRefusal.TheVariants.{TooManyEntries}
use Rattle.xf_engine.proofs.HeldCounts.{grown-count}
use Rattle.xf_engine.proofs.cross.records.add_entries.Goals as goal

pub overflow_sub-more : goal.overflow_sub-more
overflow_sub-more g c =
    let grown : c.add_keys.new.dimensions ≡ map (with_keys_of g.A.Accessor.keys_of c.args.rows.now) c.args.dimensions.now = search rules in
    let counted = ap (sum_by held_count) grown ∙ grown-count g.A.Accessor.keys_of c.args.rows.now c.args.dimensions.now in
    omega (arith, counted, c.entry_count-have.ensures, c.entry_count.ensures)

pub returns-then-more-limit-clause-refused : goal.returns-then-more-limit-clause-refused
returns-then-more-limit-clause-refused g c =
    let grown : c.add_keys.new.dimensions ≡ map (with_keys_of g.A.Accessor.keys_of c.args.rows.now) c.args.dimensions.now = search rules in
    let counted = ap (sum_by held_count) grown ∙ grown-count g.A.Accessor.keys_of c.args.rows.now c.args.dimensions.now in
    let more : c.entry_count.result - c.entry_count-have.result ≡ more_count g.A.Accessor.keys_of c.args.rows.now c.args.dimensions.now = omega (arith, counted, c.entry_count-have.ensures, c.entry_count.ensures) in
    inr ((λ i. TooManyEntries (c.entry_count-have.ensures i) (more i) c.args.limit), omega (arith, more, c.entry_count-have.ensures, c.if-more-limit.true, c.requires.within))

pub returns-clause-room : goal.returns-clause-room
returns-clause-room g c =
    let grown : c.add_keys.new.dimensions ≡ map (with_keys_of g.A.Accessor.keys_of c.args.rows.now) c.args.dimensions.now = search rules in
    let counted = ap (sum_by held_count) grown ∙ grown-count g.A.Accessor.keys_of c.args.rows.now c.args.dimensions.now in
    omega (arith, counted, c.entry_count-have.ensures, c.entry_count.ensures, c.if-more-limit.false, c.requires.within)
