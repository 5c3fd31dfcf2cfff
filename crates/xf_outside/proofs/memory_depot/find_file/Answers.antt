-- The file at the index is the answer, or leaves it to those after it.
use Rattle.std.proofs.Common.{◌≡◌, ℕ, ◌+◌, ◌<◌, Bool, true, false, cond, nat_eq, List, length, get_or, drop, Some, Vec, Global, sym, ap, ◌∙◌, arith, add-one, drop-cons, suc}
use Rattle.std.specs.FinMap.{find, get-from_entries}
use Rattle.std.specs.Cmp.{eq_by_cmp_equiv}
use Rattle.std.specs.Cmp.Lexicographic.{nat_list_cmp_total, texts_ties, pointwise}
use Rattle.xf_base.specs.Key.{text_cmp}
use Rattle.xf_outside.specs.Shelf.{entries_of}
use Rattle.xf_outside.proofs.memory_depot.find_file.Goals as goal

-- the file at a place, of the name `own`, is found where the names are one, and else a file after it
found_at : (files : List (List ℕ × Vec ℕ Global)) (i : ℕ) (file : List ℕ × Vec ℕ Global) (name own : List ℕ) (same : Bool) → i < length files → file ≡ get_or files i file → own ≡ file.0 → same ≡ pointwise nat_eq own name → find text_cmp name (entries_of (drop i files)) ≡ cond same (Some file.1.items) (find text_cmp name (entries_of (drop (i + 1) files)))
found_at files i file name own same h at named told =
    rw (add-one, drop-cons files i file, ← at)
    (ap (λ b. cond b (Some file.1.items) (find text_cmp name (entries_of (drop (suc i) files))))
    ((eq_by_cmp_equiv nat_list_cmp_total).symm name file.0 ∙ sym (texts_ties file.0 name) ∙ ap (λ n. pointwise nat_eq n name) (sym named) ∙ sym told))

pub loop-own-init : goal.loop-own-init
loop-own-init c = sym (get-from_entries nat_list_cmp_total (entries_of c.args.files.now) c.args.name.now)

pub returns-then-eq : goal.returns-then-eq
returns-then-eq c =
    ap Some c.as_slice.ensures.value
    ∙ sym (found_at c.args.files.now c.loop-own.own-index c.loop-own-item.result c.args.name.now c.as_str.result.now true (omega arith) c.loop-own-item.is c.as_str.ensures c.if-eq.ensures)
    ∙ c.loop-own.invariant

pub loop-own-preserved : goal.loop-own-preserved
loop-own-preserved c =
    sym (found_at c.args.files.now c.loop-own.own-index c.loop-own-item.result c.args.name.now c.as_str.result.now false (omega arith) c.loop-own-item.is c.as_str.ensures c.if-eq.ensures)
    ∙ c.loop-own.invariant
