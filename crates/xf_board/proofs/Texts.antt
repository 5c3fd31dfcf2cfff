-- The value of a text of UTF-8.
use Rattle.std.proofs.Common.{◌≡◌, ◌∙◌, List, ℕ, Bool, true, false, cond, Some, None, refl, ap}
use Rattle.std.specs.Str.{IsUtf8, is_utf8}
use Rattle.std.proofs.lemmas.Str.{IsUtf8-from_is_utf8, is_utf8-from_IsUtf8}
use Rattle.serde_json.specs.Data.{Data}
use Rattle.serde_json.specs.Read.{read}
use Rattle.xf_board.specs.Walk.{json_of}

pub json-some : (bytes : List ℕ) (value : Data) → IsUtf8 bytes → read bytes ≡ Some value → json_of bytes ≡ Some value
json-some bytes value utf8 is = ap (λ b. cond b (read bytes) None) (is_utf8-from_IsUtf8 bytes utf8) ∙ is

pub json-none : (bytes : List ℕ) → (IsUtf8 bytes → read bytes ≡ None) → json_of bytes ≡ None
json-none bytes none = go (is_utf8 bytes) refl
  where
    go : (is : Bool) → is_utf8 bytes ≡ is → json_of bytes ≡ None
    go true is = ap (λ b. cond b (read bytes) None) is ∙ none (IsUtf8-from_is_utf8 bytes is)
    go false is = ap (λ b. cond b (read bytes) None) is
