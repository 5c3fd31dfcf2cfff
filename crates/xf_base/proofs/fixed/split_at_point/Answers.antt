use Rattle.std.proofs.Common.{◌≡◌, ◌==◌, ◌+◌, length, take, sym, ap, refl, arith, eq-eqb}
use Rattle.std.specs.List.{position_or_len}
use Rattle.std.proofs.lemmas.List.{take_all, drop_all}
use Rattle.std.proofs.lemmas.Grind.{common_steps}
use Rattle.xf_base.proofs.ReadNumbers.{position-point}
use Rattle.xf_base.proofs.fixed.split_at_point.Goals as goal

found : (c : goal.After-result-1) → position_or_len (λ b. b == 46) c.args.text.now ≡ c.loop-i.i
found c = position-point c.args.text.now c.loop-i.i (omega arith) c.loop-i.invariant (λ _. eq-eqb _ 46 c.if-byte-eq46.true)

pub returns-then-byte-eq46-clause-whole : goal.returns-then-byte-eq46-clause-whole
returns-then-byte-eq46-clause-whole c = ap (λ i. take i c.args.text.now) (sym (found c))

pub returns-then-byte-eq46-clause-fraction : goal.returns-then-byte-eq46-clause-fraction
returns-then-byte-eq46-clause-fraction c = rw (found c) (grind (arith, common_steps))

nowhere : (c : goal.After-result-2-1) → position_or_len (λ b. b == 46) c.args.text.now ≡ length c.args.text.now
nowhere c = let all : c.loop-i.i ≡ length c.args.text.now = omega arith in position-point c.args.text.now (length c.args.text.now) (omega arith) (λ k below. c.loop-i.invariant k (omega arith)) (λ past. absurd (omega arith))

pub returns-clause-whole : goal.returns-clause-whole
returns-clause-whole c = rw (nowhere c, take_all (length c.args.text.now) c.args.text.now (omega arith)) refl

pub returns-clause-fraction : goal.returns-clause-fraction
returns-clause-fraction c = rw (nowhere c, drop_all (length c.args.text.now) c.args.text.now (omega arith), drop_all (length c.args.text.now + 1) c.args.text.now (omega arith)) (grind arith)
