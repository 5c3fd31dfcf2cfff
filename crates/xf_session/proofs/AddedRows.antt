-- Why rows are not added, as a session tells it.
use Rattle.std.proofs.Common.{◌≡◌, ◌∙◌, ◌⊎◌, inl, inr, ◌+◌, ℕ, nat_lt, Bool, true, false, cond, List, [], ◌∷◌, length, Option, Some, None, Result, Ok, Err, ap, refl, subst, sym}
use Rattle.std.specs.List.{AllByRecursion, enumerate_from}
use Rattle.xf_access.specs.Stock.{keys_of_row}
use Rattle.xf_base.specs.Schema.{IsRowOf}
use Rattle.xf_base.specs.declared.cell.Cell.{Cell}
use Rattle.xf_board.specs.Board.{BoardParts}
use Rattle.xf_engine.specs.Changes as change
use Rattle.xf_engine.specs.declared.ids.GroupId.{GroupId}
use Rattle.xf_engine.specs.declared.ids.WholeId.{WholeId}
use Rattle.xf_engine.specs.Refusals.{add_refusal_after, add_refusal_of}
use Rattle.xf_engine.specs.State.{entry_count}
use Rattle.xf_engine.specs.declared.add_refusal.AddRefusal.{AddRefusal}
use Rattle.xf_engine.specs.declared.add_refusal.AddRefusal.TheVariants as add
use Rattle.xf_reply.specs.declared.refusal.Refusal.{Refusal}
use Rattle.xf_reply.specs.declared.refusal.Refusal.TheVariants as refusal
use Rattle.xf_model.specs.Replay.{accepted, refused}
use Rattle.xf_reply.specs.declared.reply.Change.TheVariants.{Added}
use Rattle.xf_reply.specs.declared.reply.Reply.{Reply}
use Rattle.xf_reply.specs.declared.reply.Reply.TheVariants.{Changed, Refused}
use Rattle.xf_session.specs.Arrivals.{rows_outcome}
use Rattle.xf_session.specs.Command.{added, first_cause, too_much, unless_refused, where_so, with_rows}
use Rattle.xf_session.specs.Does.{Does}
use Rattle.xf_session.specs.Outcome.{Outcome}
use Rattle.xf_session.specs.State.{Name, Session, StockState, session_of}
use Rattle.xf_session.specs.declared.naming.Naming.{Naming}
use Rattle.xf_table.proofs.Refusals.{no_mismatch-from_rows}
use Rattle.xf_table.specs.Append.{mismatch_of}
use Rattle.xf_table.specs.Table.{text_of_rows}
use Rattle.xf_table.specs.declared.append_refusal.AppendRefusal.{AppendRefusal}
use Rattle.xf_table.specs.declared.append_refusal.AppendRefusal.TheVariants as table

-- a cause as the session tells it; rows of the schema have no cell of another kind
abbrev pub told_as : Option AddRefusal → Option Refusal
told_as None = None
told_as (Some (add.TooManyRecords have more limit)) = Some (refusal.TooManyRecords have more limit)
told_as (Some (add.TooMuchText have more limit)) = Some (refusal.TooMuchText have more limit)
told_as (Some (add.KindMismatch place column)) = None
told_as (Some (add.TooManyEntries have more limit)) = Some (refusal.TooManyEntries have more limit)
told_as (Some add.OutOfMemory) = None

-- it is none of a cell of another kind, nor of memory
abbrev pub IsToldCause : Option AddRefusal → Type 0
IsToldCause None = Unit {0}
IsToldCause (Some (add.TooManyRecords have more limit)) = Unit {0}
IsToldCause (Some (add.TooMuchText have more limit)) = Unit {0}
IsToldCause (Some (add.KindMismatch place column)) = ⊥
IsToldCause (Some (add.TooManyEntries have more limit)) = Unit {0}
IsToldCause (Some add.OutOfMemory) = ⊥

-- the causes by three tests, where each row is of the schema
by-tests : (s : Session) (rows : List (List Cell)) (many much entries : Bool) (mismatch : Option AppendRefusal) → mismatch ≡ None
    → nat_lt s.cross.limits.entries (entry_count keys_of_row s.cross s.cross.rows + entry_count keys_of_row s.cross rows) ≡ entries
    → let told = add_refusal_after keys_of_row s.cross rows (cond many (Some (table.TooManyRecords (length s.cross.rows) (length rows) s.cross.limits.rows))
    (cond much (Some (table.TooMuchText (text_of_rows s.cross.rows) (text_of_rows rows) s.cross.limits.text_bytes)) mismatch)) in
    (first_cause (where_so many (refusal.TooManyRecords (length s.cross.rows) (length rows) s.cross.limits.rows)
    ∷ where_so much (refusal.TooMuchText (text_of_rows s.cross.rows) (text_of_rows rows) s.cross.limits.text_bytes)
    ∷ where_so entries (refusal.TooManyEntries (entry_count keys_of_row s.cross s.cross.rows) (entry_count keys_of_row s.cross rows) s.cross.limits.entries) ∷ []) ≡ told_as told)
    × IsToldCause told
by-tests s rows true much entries mismatch none is = (refl, tt)
by-tests s rows false true entries mismatch none is = (refl, tt)
by-tests s rows false false true mismatch none is = rw (none, is) (refl, tt)
by-tests s rows false false false mismatch none is = rw (none, is) (refl, tt)

-- the first cause is the one that the crossfilter tells
pub first-told : (s : Session) (rows : List (List Cell)) → AllByRecursion (IsRowOf s.cross.columns) rows
    → (first_cause (too_much s rows) ≡ told_as (add_refusal_of keys_of_row s.cross rows)) × IsToldCause (add_refusal_of keys_of_row s.cross rows)
first-told s rows of =
    by-tests s rows (nat_lt s.cross.limits.rows (length s.cross.rows + length rows)) (nat_lt s.cross.limits.text_bytes (text_of_rows s.cross.rows + text_of_rows rows)) _
    (mismatch_of s.cross.columns (enumerate_from 0 rows)) (no_mismatch-from_rows s.cross.columns rows 0 of) refl

-- a board of nothing
no_board : BoardParts
no_board = record { title = []; columns = []; dimensions = []; groups = []; wholes = []; charts = []; colours = [] }

-- no row of the schema has a cell of another kind
pub never-mismatched : (cross : StockState) (rows : List (List Cell)) (why : AddRefusal) (place column : ℕ) → AllByRecursion (IsRowOf cross.columns) rows
    → (why ≡ add.OutOfMemory) ⊎ (add_refusal_of keys_of_row cross rows ≡ Some why) → why ≡ add.KindMismatch place column → ⊥
never-mismatched cross rows why place column of (inl memory) is = cc (memory, is)
never-mismatched cross rows why place column of (inr told) is =
    subst IsToldCause (told ∙ ap (λ (why : AddRefusal). Some why) is) (first-told (session_of no_board cross [] [] []) rows of).1

-- what is told where rows were added
pub does-added : {E : Type 0} (board : BoardParts) (cross new : StockState) (dimensions : List (Name × Naming)) (groups : List (Name × GroupId)) (wholes : List (Name × WholeId)) (rows : List (List Cell)) (count : ℕ) (result : Result Reply E)
    → AllByRecursion (IsRowOf cross.columns) rows → new ≡ change.with_rows cross rows → add_refusal_of keys_of_row cross rows ≡ None → count ≡ length rows → result ≡ Ok (Changed (Added count))
    → Does (rows_outcome (session_of board cross dimensions groups wholes) rows) (session_of board cross dimensions groups wholes) (session_of board new dimensions groups wholes) result
does-added {E = E} board cross new dimensions groups wholes rows count result of is none counted answered =
    let s : Session = session_of board cross dimensions groups wholes in
    let now : Session = session_of board new dimensions groups wholes in
    let first : first_cause (too_much s rows) ≡ None = (first-told s rows of).0 ∙ ap told_as none in
    let told : Does {E = E} (accepted (with_rows s rows) (added (length rows))) s now (Ok (Changed (Added count))) =
    (ap (λ (count : ℕ). Changed (Added count)) counted, ap (λ (cross : StockState). session_of board cross dimensions groups wholes) is) in
    subst (λ (cause : Option Refusal). Does (unless_refused cause (with_rows s rows) (added (length rows))) s now result) (sym first)
    (subst (λ (result : Result Reply E). Does (accepted (with_rows s rows) (added (length rows))) s now result) (sym answered) told)

-- and where they were refused
pub does-refused : {E : Type 0} (board : BoardParts) (cross new : StockState) (dimensions : List (Name × Naming)) (groups : List (Name × GroupId)) (wholes : List (Name × WholeId)) (rows : List (List Cell)) (why known : AddRefusal) (cause : Refusal) (result : Result Reply E)
    → AllByRecursion (IsRowOf cross.columns) rows → new ≡ cross → (why ≡ add.OutOfMemory) ⊎ (add_refusal_of keys_of_row cross rows ≡ Some why) → why ≡ known → told_as (Some known) ≡ Some cause → result ≡ Ok (Refused cause)
    → Does (rows_outcome (session_of board cross dimensions groups wholes) rows) (session_of board cross dimensions groups wholes) (session_of board new dimensions groups wholes) result
does-refused board cross new dimensions groups wholes rows why known cause result of is (inl memory) known_is tells answered =
    let none : None ≡ Some cause = ap (λ (why : AddRefusal). told_as (Some why)) (sym memory ∙ known_is) ∙ tells in
    absurd (cc none)
does-refused {E = E} board cross new dimensions groups wholes rows why known cause result of is (inr told) known_is tells answered =
    let s : Session = session_of board cross dimensions groups wholes in
    let now : Session = session_of board new dimensions groups wholes in
    let first : first_cause (too_much s rows) ≡ Some cause = (first-told s rows of).0 ∙ ap told_as (told ∙ ap (λ (why : AddRefusal). Some why) known_is) ∙ tells in
    let same : now ≡ s = ap (λ (cross : StockState). session_of board cross dimensions groups wholes) is in
    subst (λ (cause : Option Refusal). Does (unless_refused cause (with_rows s rows) (added (length rows))) s now result) (sym first)
    (subst (λ (result : Result Reply E). Does (refused cause) s now result) (sym answered) (refl, same))

-- and where memory was refused
pub does-nothing : {E : Type 0} (outcome : Outcome) (board : BoardParts) (cross new : StockState) (dimensions : List (Name × Naming)) (groups : List (Name × GroupId)) (wholes : List (Name × WholeId)) (error : E) (result : Result Reply E)
    → new ≡ cross → result ≡ Err error → Does outcome (session_of board cross dimensions groups wholes) (session_of board new dimensions groups wholes) result
does-nothing {E = E} outcome board cross new dimensions groups wholes error result is answered =
    subst (λ (result : Result Reply E). Does outcome (session_of board cross dimensions groups wholes) (session_of board new dimensions groups wholes) result) (sym answered)
    (ap (λ (cross : StockState). session_of board cross dimensions groups wholes) is)
