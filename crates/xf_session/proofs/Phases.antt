-- A session that takes what its board declares, one after another: it is seen alike from its own board and limits and from those
-- that it began with.
use Rattle.std.proofs.Common.{◌≡◌, ℕ, suc, ◌+◌, ◌<◌, ◌≤◌, true, List, [], ◌∷◌, length, fold, take, get_or, refl, sym, ap, subst, ◌∙◌, arith}
use Rattle.std.proofs.lemmas.List.{take_all}
use Rattle.std.proofs.lemmas.List.Sums.{fold_more}
use Rattle.xf_base.specs.Bounds.{Bounds}
use Rattle.xf_board.specs.Board.{BoardParts, is_within}
use Rattle.xf_board.specs.declared.parts.DimensionSpec.{DimensionSpec}
use Rattle.xf_board.specs.declared.parts.GroupSpec.{GroupSpec}
use Rattle.xf_board.specs.declared.parts.WholeSpec.{WholeSpec}
use Rattle.xf_session.proofs.Declared.{dimensions-stand, groups-stand, wholes-stand}
use Rattle.xf_session.specs.Start.{bare_session, board_session, with_dimensions, with_groups, with_wholes}
use Rattle.xf_session.specs.State.{Session}

-- sessions that keep their board and their limits, whatever they have taken
pub record IsPhase {X : Type 0} (state : Bounds → BoardParts → List X → Session) : Type 0 where
  board : (limits : Bounds) (board : BoardParts) (taken : List X) → (state limits board taken).board ≡ board
  limits : (limits : Bounds) (board : BoardParts) (taken : List X) → (state limits board taken).cross.limits ≡ limits

pub dimensions-phase : IsPhase {X = DimensionSpec} with_dimensions
dimensions-phase = record { board = λ limits board taken. (dimensions-stand limits board taken).board; limits = λ limits board taken. (dimensions-stand limits board taken).limits }

pub groups-phase : IsPhase {X = GroupSpec} with_groups
groups-phase = record { board = λ limits board taken. (groups-stand limits board taken).board; limits = λ limits board taken. (groups-stand limits board taken).limits }

pub wholes-phase : IsPhase {X = WholeSpec} with_wholes
wholes-phase = record { board = λ limits board taken. (wholes-stand limits board taken).board; limits = λ limits board taken. (wholes-stand limits board taken).limits }

-- what a session has taken of its own board
abbrev pub Taken : {X : Type 0} → (Bounds → BoardParts → List X → Session) → (BoardParts → List X) → Bounds → BoardParts → ℕ → Session → Type 0
Taken state parts limits board count s = s ≡ state limits board (take count (parts board))

-- it has the board and the limits that it began with
pub same-board : {X : Type 0} (state : Bounds → BoardParts → List X → Session) → IsPhase state → (limits : Bounds) (board : BoardParts) (taken : List X) (s : Session) → s ≡ state limits board taken → s.board ≡ board
same-board state phase limits board taken s is = ap (λ (t : Session). t.board) is ∙ phase.board limits board taken

pub same-limits : {X : Type 0} (state : Bounds → BoardParts → List X → Session) → IsPhase state → (limits : Bounds) (board : BoardParts) (taken : List X) (s : Session) → s ≡ state limits board taken → s.cross.limits ≡ limits
same-limits state phase limits board taken s is = ap (λ (t : Session). t.cross.limits) is ∙ phase.limits limits board taken

-- seen from its own
pub from-own : {X : Type 0} (state : Bounds → BoardParts → List X → Session) → IsPhase state → (parts : BoardParts → List X) (limits : Bounds) (board : BoardParts) (count : ℕ) (s : Session)
    → Taken state parts limits board count s → Taken state parts s.cross.limits s.board count s
from-own state phase parts limits board count s is =
    let board_is = same-board state phase limits board (take count (parts board)) s is in
    let limits_is = same-limits state phase limits board (take count (parts board)) s is in
    is ∙ ap (λ b. state limits b (take count (parts b))) (sym board_is) ∙ ap (λ l. state l s.board (take count (parts s.board))) (sym limits_is)

-- what comes next is seen from those that it began with
pub from-first : {X : Type 0} (state : Bounds → BoardParts → List X → Session) → IsPhase state → (parts : BoardParts → List X) (limits : Bounds) (board : BoardParts) (count next : ℕ) (s t : Session)
    → Taken state parts limits board count s → Taken state parts s.cross.limits s.board next t → Taken state parts limits board next t
from-first state phase parts limits board count next s t is taken =
    let board_is = same-board state phase limits board (take count (parts board)) s is in
    let limits_is = same-limits state phase limits board (take count (parts board)) s is in
    taken ∙ ap (λ b. state s.cross.limits b (take next (parts b))) board_is ∙ ap (λ l. state l board (take next (parts board))) limits_is

-- the limits have room as they had
pub still-within : {X : Type 0} (state : Bounds → BoardParts → List X → Session) → IsPhase state → (limits : Bounds) (board : BoardParts) (taken : List X) (s : Session)
    → s ≡ state limits board taken → is_within board limits ≡ true → is_within s.board s.cross.limits ≡ true
still-within state phase limits board taken s is within =
    rw (same-board state phase limits board taken s is, same-limits state phase limits board taken s is) within

-- and what is left to take is as much
pub still-inside : {X : Type 0} (state : Bounds → BoardParts → List X → Session) → IsPhase state → (parts : BoardParts → List X) (limits : Bounds) (board : BoardParts) (taken : List X) (place : ℕ) (s : Session)
    → s ≡ state limits board taken → place < length (parts board) → place < length (parts s.board)
still-inside state phase parts limits board taken place s is inside = rw (same-board state phase limits board taken s is) inside

-- when as much is taken as there is, all is
pub taken-all : {X : Type 0} (state : Bounds → BoardParts → List X → Session) (parts : BoardParts → List X) (limits : Bounds) (board : BoardParts) (count : ℕ) (s : Session)
    → length (parts board) ≤ count → Taken state parts limits board count s → s ≡ state limits board (parts board)
taken-all state parts limits board count s past is = is ∙ ap (state limits board) (take_all count (parts board) past)

-- ---- the whole way

own-all : {X : Type 0} (state : Bounds → BoardParts → List X → Session) → IsPhase state → (parts : BoardParts → List X) (limits : Bounds) (board : BoardParts) (s : Session) → s ≡ state limits board (parts board) → s ≡ state s.cross.limits s.board (parts s.board)
own-all state phase parts limits board s is =
    let board_is = same-board state phase limits board (parts board) s is in
    let limits_is = same-limits state phase limits board (parts board) s is in
    is ∙ ap (λ b. state limits b (parts b)) (sym board_is) ∙ ap (λ l. state l s.board (parts s.board)) (sym limits_is)

-- from one phase to the next
pub after-bare : (limits : Bounds) (board : BoardParts) (s t : Session) → s ≡ bare_session limits board → t ≡ with_dimensions s.cross.limits s.board s.board.dimensions → t ≡ with_dimensions limits board board.dimensions
after-bare limits board s t first is =
    is ∙ ap (λ b. with_dimensions s.cross.limits b b.dimensions) (ap (λ (x : Session). x.board) first) ∙ ap (λ l. with_dimensions l board board.dimensions) (ap (λ (x : Session). x.cross.limits) first)

pub after-dimensions : (limits : Bounds) (board : BoardParts) (s t : Session) → s ≡ with_dimensions limits board board.dimensions → t ≡ with_groups s.cross.limits s.board s.board.groups → t ≡ with_groups limits board board.groups
after-dimensions limits board s t first is =
    is ∙ ap (λ b. with_groups s.cross.limits b b.groups) (same-board with_dimensions dimensions-phase limits board board.dimensions s first) ∙ ap (λ l. with_groups l board board.groups) (same-limits with_dimensions dimensions-phase limits board board.dimensions s first)

pub after-groups : (limits : Bounds) (board : BoardParts) (s t : Session) → s ≡ with_groups limits board board.groups → t ≡ board_session s.cross.limits s.board → t ≡ board_session limits board
after-groups limits board s t first is =
    is ∙ ap (λ b. board_session s.cross.limits b) (same-board with_groups groups-phase limits board board.groups s first) ∙ ap (λ l. board_session l board) (same-limits with_groups groups-phase limits board board.groups s first)

-- what stands where the next phase begins
pub own-dimensions : (limits : Bounds) (board : BoardParts) (s : Session) → s ≡ with_dimensions limits board board.dimensions → s ≡ with_dimensions s.cross.limits s.board s.board.dimensions
own-dimensions = own-all with_dimensions dimensions-phase (λ board. board.dimensions)

pub own-groups : (limits : Bounds) (board : BoardParts) (s : Session) → s ≡ with_groups limits board board.groups → s ≡ with_groups s.cross.limits s.board s.board.groups
own-groups = own-all with_groups groups-phase (λ board. board.groups)
