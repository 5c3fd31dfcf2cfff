-- What holds of each value that a reading may give.
use Rattle.std.proofs.Common.{◌≡◌, ℕ, List, Option, Some, None, Ok, Err, refl, subst}
use Rattle.xf_filter.specs.Words.{Word}
use Rattle.xf_script.specs.Grammar.{◌>>=◌, Read, known, known_at, word_at}

-- a fault may be any
abbrev pub AllOk : {A : Type 0} → (A → Type 0) → Read A → Type 0
AllOk P (Ok x) = P x
AllOk P (Err e) = Unit {0}

-- it holds behind a step, if it does for each value of the step
pub each : {A B : Type 0} (P : B → Type 0) (read : Read A) (f : A → Read B) → ((x : A) → read ≡ Ok x → AllOk P (f x)) → AllOk P (read >>= f)
each P (Ok x) f h = h x refl
each P (Err e) f h = tt

abbrev done : {A : Type 0} → A → Read A
done x = Ok x

pub ok_is : {A : Type 0} (x y : A) → done x ≡ done y → x ≡ y
ok_is x y e = cc

-- so it holds of what is read
pub of_all : {A : Type 0} (P : A → Type 0) (read : Read A) (x : A) → AllOk P read → read ≡ Ok x → P x
of_all P (Ok y) x all e = subst P (ok_is y x e) all
of_all P (Err f) x all e = absurd cc

-- some word gives this
abbrev pub GivenBy : {A : Type 0} → (Word → Option A) → A → Type 0
GivenBy knows x = (word : Word) × (knows word ≡ Some x)

given_by : {A : Type 0} (knows : Word → Option A) (number : ℕ) (word : Word) (o : Option A) → knows word ≡ o → AllOk (GivenBy knows) (known number o)
given_by knows number word (Some x) is = (word, is)
given_by knows number word None is = tt

-- what is read from a word is given by one
pub word_known : {A : Type 0} (knows : Word → Option A) (words : List Word) (number : ℕ) → AllOk (GivenBy knows) (known_at knows words number)
word_known knows words number =
    each (GivenBy knows) (word_at words number) (λ word. known number (knows word)) (λ word is. given_by knows number word (knows word) refl)
