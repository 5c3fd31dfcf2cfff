-- The items of a list one after the other.
use Rattle.std.proofs.Common.{◌≡◌, ◌∙◌, ℕ, zero, suc, ◌≤◌, ◌-◌, true, false, List, [], ◌∷◌, ◌++◌, length, drop, Result, Ok, Err, refl, sym, ap, append_assoc, append-nil, arith}
use Rattle.xf_filter.specs.declared.filter_syntax.Fault.{Fault}
use Rattle.xf_filter.specs.declared.filter_syntax.ReadError.{ReadError}
use Rattle.xf_filter.specs.declared.filter_syntax.ReadError.TheVariants as errors
use Rattle.xf_filter.specs.declared.raw_filter.RawItemParts.{RawItemParts}
use Rattle.xf_filter.specs.Words.{Word}
use Rattle.xf_filter.specs.Reading.{Fails, is_end, item_at, items_at, with_front}

pub items_next : (most : ℕ) (words after : List Word) (first : RawItemParts) → length words ≤ most → is_end words ≡ false → item_at words ≡ Ok (first, after) → items_at most words ≡ with_front (first ∷ []) (items_at (most - 1) after)
unfolding items_at item_at
items_next zero [] after first few more e = absurd cc
items_next zero (word ∷ words) after first few more e = absurd (omega arith)
items_next (suc most) words after first few more e =
    let same : suc most - 1 ≡ most = omega arith in
    rw (more, e, same) refl

pub items_fault : (most : ℕ) (words : List Word) (f : Fault) → length words ≤ most → is_end words ≡ false → item_at words ≡ Err f → items_at most words ≡ Err f
unfolding items_at item_at
items_fault zero [] f few more e = cc
items_fault zero (word ∷ words) f few more e = absurd (omega arith)
items_fault (suc most) words f few more e = rw (more, e) refl

pub items_done : (most : ℕ) (words : List Word) → length words ≤ most → is_end words ≡ true → items_at most words ≡ Ok ([], drop 1 words)
unfolding items_at
items_done zero [] few done = absurd cc
items_done zero (word ∷ words) few done = absurd (omega arith)
items_done (suc most) words few done = rw done refl

pub with_front-append : (items more : List RawItemParts) (read : Result (List RawItemParts × List Word) Fault) → with_front (items ++ more) read ≡ with_front items (with_front more read)
with_front-append items more (Ok (others, rest)) = ap (λ (all : List RawItemParts). Ok (all, rest)) (append_assoc items more others)
with_front-append items more (Err f) = refl

-- one more item is read
pub read_on : (items : List RawItemParts) (first : RawItemParts) (words after : List Word) (most : ℕ) → length words ≤ most → is_end words ≡ false → item_at words ≡ Ok (first, after)
    → with_front (items ++ first ∷ []) (items_at (most - 1) after) ≡ with_front items (items_at most words)
read_on items first words after most few more e =
    with_front-append items (first ∷ []) (items_at (most - 1) after) ∙ ap (with_front items) (sym (items_next most words after first few more e))

-- an item is a fault
pub read_fault : (e : ReadError) (items : List RawItemParts) (words : List Word) (most : ℕ) (all : Result (List RawItemParts × List Word) Fault) → length words ≤ most → is_end words ≡ false → Fails e (item_at words)
    → with_front items (items_at most words) ≡ all → Fails e all
read_fault errors.OutOfMemory items words most all few more e so_far = tt
read_fault (errors.Fault f) items words most all few more e so_far = sym so_far ∙ ap (with_front items) (items_fault most words f few more e)

-- no item is left
pub read_done : (items : List RawItemParts) (words : List Word) (most : ℕ) → length words ≤ most → is_end words ≡ true → with_front items (items_at most words) ≡ Ok (items, drop 1 words)
read_done items words most few done = ap (with_front items) (items_done most words few done) ∙ ap (λ (all : List RawItemParts). Ok (all, drop 1 words)) (append-nil items)
