-- The columns that are read are sound, and their names are new.
use Rattle.std.proofs.Common.{◌≤◌, [], length, sym, subst}
use Rattle.xf_base.specs.Schema.{IsColumn}
use Rattle.xf_base.specs.declared.limits.TheConstants.Limits.{COLUMNS}
use Rattle.xf_board.specs.Board.{AllAfter, IsNewColumn, IsSoundNewColumn}
use Rattle.xf_members.proofs.After.{after-weaker, all-from_after}
use Rattle.xf_board.proofs.read.columns_at.Goals as goal

pub schema_of-requires : goal.schema_of-requires
schema_of-requires c =
    all-from_after IsColumn [] c.in_ok-columns.columns
    (after-weaker IsSoundNewColumn (λ ys x. IsColumn x) (λ ys x sound. sound.0) [] c.in_ok-columns.columns c.in_ok-columns.ensures.kept)

pub returns-clause-sound : goal.returns-clause-sound
returns-clause-sound c =
    let few : length c.in_ok-columns.columns ≤ COLUMNS = subst (λ n. n ≤ COLUMNS) (sym c.in_ok-columns.ensures.all) c.in_ok-few.ensures.within in
    let new = after-weaker IsSoundNewColumn IsNewColumn (λ ys x sound. sound.1) [] c.in_ok-columns.columns c.in_ok-columns.ensures.kept in
    (subst (λ xs. length xs ≤ COLUMNS) (sym c.in_ok-schema_of.ensures) few, subst (λ xs. AllAfter IsNewColumn [] xs) (sym c.in_ok-schema_of.ensures) new)
