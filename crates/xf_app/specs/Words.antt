-- The words of the program.
use Rattle.std.specs.Prelude.{ℕ, ◌==◌, Bool, false, ◌&&◌, not, if◌then◌else◌, List, [], ◌∷◌, Option, Some, None}

-- whether a word begins with `-`
abbrev pub is_option : List ℕ → Bool
is_option [] = false
is_option (byte ∷ rest) = byte == 45

-- the names of the board and the session, where the words are accepted: there are two, and none begins with `-`
abbrev pub names_of : List (List ℕ) → Option (List ℕ × List ℕ)
names_of [] = None
names_of (board ∷ []) = None
names_of (board ∷ session ∷ []) =
    if not (is_option board) && not (is_option session) then Some (board, session) else None
names_of (board ∷ session ∷ more ∷ rest) = None
