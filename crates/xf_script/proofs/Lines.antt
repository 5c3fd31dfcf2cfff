-- What a line says, by what it begins with.
use Rattle.std.proofs.Common.{◌≡◌, ℕ, nat_lt, ◌≤◌, Bool, true, false, List, length, None, Ok, Err, refl, arith}
use Rattle.std.specs.Str.{is_utf8, IsUtf8}
use Rattle.std.specs.Str.Lossy.{utf8_valid_len}
use Rattle.std.proofs.lemmas.Str.{IsUtf8-from_is_utf8, is_utf8-from_IsUtf8}
use Rattle.std.proofs.lemmas.Bool.Decides.{nat_tests}
use Rattle.xf_base.specs.declared.limits.TheConstants.Limits.{LINE_BYTES}
use Rattle.xf_script.specs.Grammar.{form_of_line, form_of_split}
use Rattle.xf_script.specs.Line.{is_comment, split_of}
use Rattle.xf_script.specs.declared.line_refusal.LineRefusal.TheVariants as refusal

short : (line : List ℕ) → length line ≤ LINE_BYTES → nat_lt LINE_BYTES (length line) ≡ false
short line few = grind (arith, nat_tests)

no_text_by : (line : List ℕ) (text : Bool) → is_utf8 line ≡ text → (IsUtf8 line → ⊥) → text ≡ false
no_text_by line true is fails = absurd (fails (IsUtf8-from_is_utf8 line is))
no_text_by line false is fails = refl

pub line_no_text : (line : List ℕ) → length line ≤ LINE_BYTES → (IsUtf8 line → ⊥) → form_of_line line ≡ Err (refusal.NotText (utf8_valid_len line))
line_no_text line few fails = rw (short line few, no_text_by line (is_utf8 line) refl fails) refl

pub line_comment : (line : List ℕ) → length line ≤ LINE_BYTES → IsUtf8 line → is_comment line ≡ true → form_of_line line ≡ Ok None
line_comment line few text is = rw (short line few, is_utf8-from_IsUtf8 line text, is) refl

pub line_step : (line : List ℕ) → length line ≤ LINE_BYTES → IsUtf8 line → is_comment line ≡ false → form_of_line line ≡ form_of_split (split_of line)
line_step line few text is = rw (short line few, is_utf8-from_IsUtf8 line text, is) refl
