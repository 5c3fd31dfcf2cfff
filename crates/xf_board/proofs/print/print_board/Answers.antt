-- The text is read as the value, and the value as the board.
use Rattle.std.proofs.Common.{◌≡◌, ◌∙◌, ◌≤◌, false, Some, IsUtf8, arith, sym, ap, subst}
use Rattle.std.proofs.lemmas.Str.{IsUtf8-string_bytes}
use Rattle.serde_json.specs.Data.{Data, depth}
use Rattle.serde_json.specs.Read.{max_depth, read}
use Rattle.serde_json.specs.View.{view}
use Rattle.serde_json.specs.Written.{compact_text, has_float}
use Rattle.xf_board.specs.Print.{board_value}
use Rattle.xf_board.proofs.FewValues.{few-values}
use Rattle.xf_board.proofs.ReadBackBoard.{text-again}
use Rattle.xf_board.proofs.Shallow.{board-shallow}
use Rattle.xf_board.proofs.print.print_board.Goals as goal

pub returns-clause-exact : goal.returns-clause-exact
returns-clause-exact c =
    let shallow = board-shallow c.args.board.now in
    let plain : has_float (view c.in_ok-value.value) ≡ false = ap has_float c.in_ok-value.ensures.exact ∙ shallow.plain in
    ap (λ bytes. bytes.items) c.into_bytes.ensures.value ∙ c.in_ok-to_string.ensures.text plain ∙ ap compact_text c.in_ok-value.ensures.exact

pub returns-clause-again : goal.returns-clause-again
returns-clause-again c =
    let shallow = board-shallow c.args.board.now in
    let few : depth (board_value c.args.board.now) ≤ max_depth = omega (arith, shallow.deep) in
    let deep : depth (view c.in_ok-value.value) ≤ max_depth = subst (λ (value : Data). depth value ≤ max_depth) (sym c.in_ok-value.ensures.exact) few in
    let utf8 : IsUtf8 c.into_bytes.result.items = subst (λ bytes. IsUtf8 bytes.items) (sym c.into_bytes.ensures.value) (IsUtf8-string_bytes c.in_ok-to_string.field-0) in
    let reads : read c.into_bytes.result.items ≡ Some (board_value c.args.board.now) =
    ap (λ bytes. read bytes.items) c.into_bytes.ensures.value ∙ c.in_ok-to_string.ensures.reads_back deep ∙ ap Some c.in_ok-value.ensures.exact in
    text-again c.args.board.now c.into_bytes.result.items (returns-clause-exact c) utf8 reads c.is_sound-sound.ensures.sound c.in_ok-value.ensures.sound
    c.in_ok-value.ensures.texts

pub returns-clause-few : goal.returns-clause-few
returns-clause-few c = few-values c.args.board.now c.into_bytes.result.items (returns-clause-exact c) c.is_sound-sound.ensures.sound
