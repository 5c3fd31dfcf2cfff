-- What the output took is part of what was written.
use Rattle.std.proofs.Common.{◌≡◌, ℕ, ◌≤◌, ◌-◌, List, ◌++◌, length, take, drop, refl, sym, ap, ◌∙◌, append_assoc, length-drop, length-take, arith}
use Rattle.std.proofs.KnownBytes.{Appends-trans}
use Rattle.std.proofs.lemmas.List.{take_all, take-append-drop}
use Rattle.xf_outside.proofs.std_sink.write_whole.Goals as goal

-- a text of which some was written, after n bytes more
text-moved : (text kept rest : List ℕ) (n m : ℕ) → m ≡ length rest → text ≡ kept ++ rest → text ≡ (kept ++ take n rest) ++ take (m - n) (drop n rest)
text-moved text kept rest n m e is =
    let short : length (drop n rest) ≤ m - n = omega (arith, length-drop n rest) in
    is ∙ ap (λ l. kept ++ l) (sym (take-append-drop n rest)) ∙ sym (append_assoc kept (take n rest) (drop n rest)) ∙ ap (λ l. (kept ++ take n rest) ++ l) (sym (take_all (m - n) (drop n rest) short))

pub loop-rest-preserved : goal.loop-rest-preserved
loop-rest-preserved g c =
    let so_far = c.loop-rest.invariant in
    let written = so_far.written in
    let rest = c.loop-rest.rest.now in
    let count = c.in_ok-count.count in
    let took = c.in_ok-count.ensures in
    record {
      written = (written.0 ++ take count rest, text-moved _ written.0 rest count _ refl written.1, Appends-trans _ _ _ _ _ written.2 took.bytes);
      counted = simp (length-take, length-drop) (omega (arith, took.taken, took.bound), omega (arith, took.taken, took.bound));
      shorter = simp (length-take, length-drop) (omega (arith, took.bound));
      faultless = took.faults ∙ so_far.faultless;
    }
