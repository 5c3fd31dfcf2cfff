-- Facts of what may be told.
use Rattle.std.proofs.Common.{◌≡◌, Option, Some, None, IfSome, refl}

-- a fact of each thing that may be told
pub told-each : {X : Type 0} (o : Option X) (P : X → Type 0) → ((x : X) → o ≡ Some x → P x) → IfSome o P
told-each None P f = tt
told-each (Some x) P f = f x refl

-- a fact of what is told gives another
pub told-map : {X : Type 0} (o : Option X) (P R : X → Type 0) → ((x : X) → P x → R x) → IfSome o P → IfSome o R
told-map None P R f p = tt
told-map (Some x) P R f p = f x p

-- two facts of what is told give a third
pub told-both : {X : Type 0} (o : Option X) (P Q : X → Type 0) → IfSome o P → IfSome o Q → IfSome o (λ x. P x × Q x)
told-both None P Q p q = tt
told-both (Some x) P Q p q = (p, q)
