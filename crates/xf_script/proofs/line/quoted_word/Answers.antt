use Rattle.std.proofs.Common.{◌≡◌, ◌≤◌, false, length, drop, Some, IsUtf8, sym, subst, List, ℕ}
use Rattle.std.proofs.lemmas.Str.{IsCharBoundary-from_drop}
use Rattle.xf_script.specs.Line.{quoted}
use Rattle.xf_script.proofs.Cuts.{quoted_utf8}
use Rattle.xf_script.proofs.line.quoted_word.Goals as goal

pub split_at-requires : goal.split_at-requires
split_at-requires c =
    let word = c.in-Some.quoted.word.items in
    let rest = drop c.in-Some.quoted.length c.args.text.now in
    let given = rw c.in-Some.is at c.in_ok-quoted.ensures.value in
    let is : Some (word, rest) ≡ quoted false c.args.text.now = subst (λ (text : List ℕ). Some (word, drop c.in-Some.quoted.length text) ≡ quoted false text) c.as_bytes.ensures.value given in
    let within = rw c.in-Some.is at c.in_ok-quoted.ensures.within in
    let short : c.in-Some.quoted.length ≤ length c.args.text.now = subst (λ (text : List ℕ). c.in-Some.quoted.length ≤ length text) c.as_bytes.ensures.value within in
    IsCharBoundary-from_drop c.args.text.now c.in-Some.quoted.length short (quoted_utf8 c.args.text.now word rest c.utf8.text (sym is)).1

pub unreachable-requires : goal.unreachable-requires
unreachable-requires c =
    let word = c.in-Some.quoted.word.items in
    let rest = drop c.in-Some.quoted.length c.args.text.now in
    let given = rw c.in-Some.is at c.in_ok-quoted.ensures.value in
    let is : Some (word, rest) ≡ quoted false c.args.text.now = subst (λ (text : List ℕ). Some (word, drop c.in-Some.quoted.length text) ≡ quoted false text) c.as_bytes.ensures.value given in
    let utf8 : IsUtf8 word = (quoted_utf8 c.args.text.now word rest c.utf8.text (sym is)).0 in
    c.in-Err.ensures.cases.0 (subst IsUtf8 (sym c.as_slice.ensures.value) utf8)
