-- The rules for members and elements, and which refusal a broken one gives.
--
-- A path is `/` and the name of a member or the number of an element, level by level; that of the board itself is empty.
use Rattle.std.specs.Prelude.{◌≡◌, ℕ, ◌==◌, nat_lt, nat_le, Bool, ◌&&◌, false, ⊤, if◌then◌else◌, List, [], ◌∷◌, ◌++◌, length, decimal, Option, Some, None, is_none, option_and_then, Result, Ok, Err}
use Rattle.std.specs.Char.{is_ascii_hexdigit}
use Rattle.std.specs.List.{list_all}
use Rattle.serde_json.specs.Data.{Data}
use Rattle.serde_json.specs.Find.{as_str, get}
use Rattle.xf_columns.specs.declared.column_refusal.ColumnRefusal.{ColumnRefusal}
use Rattle.xf_columns.specs.declared.column_refusal.ColumnRefusal.TheVariants.{NoColumn, WrongColumn}
use Rattle.xf_members.specs.Members.{first_unknown}
use Rattle.xf_members.specs.Values.{array_of, member_names, whole_number}
use Rattle.xf_members.specs.declared.board_refusal.BoardRefusal.{BoardRefusal}
use Rattle.xf_members.specs.declared.board_refusal.BoardRefusal.TheVariants as refusal
use Rattle.xf_members.specs.declared.object_sort.ObjectSort.{ObjectSort}

-- what is read, or the first refusal
abbrev pub Read : Type 0 → Type 0
Read A = Result A BoardRefusal

infixl 10 ◌>>=◌
abbrev pub ◌>>=◌ : {A B : Type 0} → Read A → (A → Read B) → Read B
(Ok x) >>= f = f x
(Err e) >>= f = Err e

-- a function returned this refusal, unless memory ran out
abbrev pub Refuses : {A : Type 0} → BoardRefusal → Read A → Type 0
Refuses refusal.Syntax wanted = wanted ≡ Err refusal.Syntax
Refuses (refusal.Version found) wanted = wanted ≡ Err (refusal.Version found)
Refuses (refusal.Unknown path) wanted = wanted ≡ Err (refusal.Unknown path)
Refuses (refusal.Field path) wanted = wanted ≡ Err (refusal.Field path)
Refuses (refusal.Name path name) wanted = wanted ≡ Err (refusal.Name path name)
Refuses (refusal.Limit path limit) wanted = wanted ≡ Err (refusal.Limit path limit)
Refuses refusal.OutOfMemory wanted = Unit {0}

-- a function returned this, unless memory ran out
abbrev pub Answers : {A : Type 0} → Read A → Read A → Type 0
Answers (Ok x) wanted = wanted ≡ Ok x
Answers (Err e) wanted = Refuses e wanted

-- the same, of what is seen of a value
abbrev pub Gives : {X A : Type 0} → (X → A) → Read X → Read A → Type 0
Gives view (Ok x) wanted = wanted ≡ Ok (view x)
Gives view (Err e) wanted = Refuses e wanted

-- ---- paths

abbrev pub member : List ℕ → List ℕ → List ℕ
member path name = path ++ 47 ∷ name

abbrev pub element : List ℕ → ℕ → List ℕ
element path number = path ++ 47 ∷ decimal number

-- ---- members

-- `Field` at a path, unless there is a value
abbrev pub known : {A : Type 0} → List ℕ → Option A → Read A
known path (Some x) = Ok x
known path None = Err (refusal.Field path)

-- `Field` at a path, unless a test holds
abbrev pub ensured : List ℕ → Bool → Read ⊤
ensured path holds = if holds then Ok tt else Err (refusal.Field path)

-- a member without a default: what a rule takes it for
abbrev pub needed : {A : Type 0} → (Data → Option A) → List ℕ → List ℕ → Data → Read A
needed rule path name members = known (member path name) (option_and_then rule (get name members))

abbrev pub rule_or : {A : Type 0} → A → (Data → Option A) → Option Data → Option A
rule_or default rule None = Some default
rule_or default rule (Some value) = rule value

-- a member with a default
abbrev pub optional : {A : Type 0} → A → (Data → Option A) → List ℕ → List ℕ → Data → Read A
optional default rule path name members = known (member path name) (rule_or default rule (get name members))

-- a member that is not there
abbrev pub absent : List ℕ → List ℕ → Data → Read ⊤
absent path name members = ensured (member path name) (is_none (get name members))

abbrev pub unless_unknown : List ℕ → Option (List ℕ) → Read ⊤
unless_unknown path None = Ok tt
unless_unknown path (Some name) = Err (refusal.Unknown (member path name))

-- all members of an object are such as objects of its sort have
abbrev pub only_members : ObjectSort → List ℕ → Data → Read ⊤
only_members sort path members = unless_unknown path (first_unknown sort (member_names members))

-- ---- names

-- a name that is declared now for the first time
abbrev pub unless_taken : Bool → List ℕ → List ℕ → Read ⊤
unless_taken taken path name = if taken then Err (refusal.Name path name) else Ok tt

-- what a name was declared for
abbrev pub declared : {A : Type 0} → List ℕ → List ℕ → Option A → Read A
declared path name (Some x) = Ok x
declared path name None = Err (refusal.Name path name)

-- why a column that words name does not fit, as a refusal of the member that names it
abbrev pub refusal_of : List ℕ → ColumnRefusal → BoardRefusal
refusal_of path (NoColumn name) = refusal.Name path name
refusal_of path (WrongColumn name) = refusal.Field path

-- what words name, unless a column does not fit
abbrev pub fitting : {A : Type 0} → List ℕ → Option ColumnRefusal → A → Read A
fitting path None x = Ok x
fitting path (Some cause) x = Err (refusal_of path cause)

-- ---- values

-- a number of a range
abbrev pub if_within : ℕ → ℕ → ℕ → Option ℕ
if_within least greatest n = if nat_le least n && nat_le n greatest then Some n else None

abbrev pub number : ℕ → ℕ → Data → Option ℕ
number least greatest value = option_and_then (if_within least greatest) (whole_number value)

-- a number below another
abbrev pub if_below : ℕ → ℕ → Option ℕ
if_below end n = if nat_lt n end then Some n else None

abbrev pub number_below : ℕ → Data → Option ℕ
number_below end value = option_and_then (if_below end) (whole_number value)

-- a text that a table knows
abbrev pub word : {A : Type 0} → (List ℕ → Option A) → Data → Option A
word knows value = option_and_then knows (as_str value)

-- `#` and six hexadecimal digits
abbrev pub is_colour : List ℕ → Bool
is_colour [] = false
is_colour (first ∷ digits) = (first == 35) && ((length digits == 6) && list_all is_ascii_hexdigit digits)

abbrev pub if_colour : List ℕ → Option (List ℕ)
if_colour text = if is_colour text then Some text else None

abbrev pub colour : Data → Option (List ℕ)
colour = word if_colour

-- ---- arrays

abbrev pub if_filled : List Data → Option (List Data)
if_filled [] = None
if_filled (value ∷ values) = Some (value ∷ values)

-- an array of at least one element
abbrev pub filled_array : Data → Option (List Data)
filled_array value = option_and_then if_filled (array_of value)

-- no more elements than a limit
abbrev pub few : List ℕ → ℕ → ℕ → Read ⊤
few path limit count = if nat_lt limit count then Err (refusal.Limit path limit) else Ok tt

-- the elements of an array, each read with those before it; the path is that of the array
abbrev pub each : {A : Type 0} → (List A → List ℕ → Data → Read A) → List ℕ → List A → List Data → Read (List A)
each walk path before [] = Ok before
each walk path before (value ∷ values) = walk before (element path (length before)) value >>= λ x. each walk path (before ++ x ∷ []) values

-- each item keeps a fact beside those before it
abbrev pub AllAfter : {A : Type 0} → (List A → A → Type 0) → List A → List A → Type 0
AllAfter Keeps before [] = ⊤
AllAfter Keeps before (x ∷ xs) = Keeps before x × AllAfter Keeps (before ++ x ∷ []) xs
