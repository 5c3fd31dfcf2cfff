use Rattle.std.proofs.Common.{◌≡◌, ◌+◌, ◌≤◌, ℕ, length, drop, option_map}
use Rattle.xf_base.specs.Schema.{misfit_of}
use Rattle.xf_base.proofs.misfit.first_misfit.Given as goal

-- the cells so far are of their columns, so that what is left of both decides
abbrev pub invariant-loop-place : goal.invariant-loop-place
invariant-loop-place l = record {
  enough : l.place ≤ length l.cells;
  left : option_map (λ (place : ℕ). place + l.place) (misfit_of (drop l.place l.columns) (drop l.place l.cells)) ≡ misfit_of l.columns l.cells;
}
