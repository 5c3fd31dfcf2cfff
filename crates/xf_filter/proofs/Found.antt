-- What is read is of the grammar.
use Rattle.std.proofs.Common.{◌≡◌, ◌∙◌, ℕ, zero, suc, ◌≤◌, Bool, true, false, pos, if◌then◌else◌, List, [], ◌∷◌, ◌++◌, length, drop, flat_map, codes, Result, Ok, Err, refl, sym, ap, subst, append_assoc, append-nil, arith}
use Rattle.std.proofs.lemmas.List.Concat.{flat_map-cons}
use Rattle.xf_filter.specs.Words.{Word, item_words, filter_opener_of, item_opener_of, predicate_opener_of, divisor_of, remainder_of}
use Rattle.xf_filter.specs.Spelling.{Spells, oneof, prefix, modulo, negation, conjunction, disjunction, SpellsFilter, all, exact, range, func, depth_of, filter_depth}
use Rattle.xf_filter.specs.Reading.{◌>>=◌, known_at, word_at, is_end, item_behind, item_at, items_at, with_front, one_of_at, prefix_at, modulo_at, not_at, two_at, behind, predicate_at, filter_behind, filter_at, filter_of, item_of, alone}
use Rattle.xf_filter.specs.declared.filter_syntax.Fault.{Fault}
use Rattle.xf_filter.specs.declared.filter_syntax.Fault.TheVariants as fault
use Rattle.xf_filter.specs.declared.opener.FilterOpener.{FilterOpener}
use Rattle.xf_filter.specs.declared.opener.FilterOpener.TheVariants as filter
use Rattle.xf_filter.specs.declared.opener.ItemOpener.{ItemOpener}
use Rattle.xf_filter.specs.declared.opener.ItemOpener.TheVariants as item
use Rattle.xf_filter.specs.declared.opener.PredicateOpener.{PredicateOpener}
use Rattle.xf_filter.specs.declared.opener.PredicateOpener.TheVariants as predicate
use Rattle.xf_filter.specs.declared.raw_filter.RawFilterParts.{RawFilterParts}
use Rattle.xf_filter.specs.declared.raw_filter.RawFilterParts.TheVariants as form
use Rattle.xf_filter.specs.declared.raw_filter.RawItemParts.{RawItemParts}
use Rattle.xf_filter.specs.declared.raw_filter.RawItemParts.TheVariants as named
use Rattle.xf_filter.specs.declared.raw_filter.RawPredicate.{RawPredicate}
use Rattle.xf_filter.specs.declared.raw_filter.RawPredicate.TheVariants as raw
use Rattle.xf_filter.proofs.Depths.{depth-oneof, depth-prefix, depth-modulo, depth-not, depth-and, depth-or}
use Rattle.xf_filter.proofs.Steps.{bind_ok, ok_is, known_ok, word_ok, filter_word, item_word, predicate_word, filter_opener_is, item_opener_is, opener_is, is_end_is, fails_not}

-- ---- items

item_behind_found : (o : ItemOpener) (words rest : List Word) (i : RawItemParts) → item_behind o words ≡ Ok (i, rest) → item_word o ∷ words ≡ item_words i ++ rest
unfolding item_behind
item_behind_found item.Exact words rest i e =
    let k = bind_ok (word_at words) (λ key. Ok (named.Exact key.0, key.1)) (i, rest) e in
    subst (λ (p : RawItemParts × List Word). codes "exact" ∷ words ≡ item_words p.0 ++ p.1) (ok_is (named.Exact k.0.0, k.0.1) (i, rest) k.2)
    (ap (λ (ws : List Word). codes "exact" ∷ ws) (word_ok words k.0.1 k.0.0 k.1))
item_behind_found item.Range words rest i e =
    let l = bind_ok (word_at words) (λ low. word_at low.1 >>= λ high. Ok (named.Range low.0 high.0, high.1)) (i, rest) e in
    let h = bind_ok (word_at l.0.1) (λ high. Ok (named.Range l.0.0 high.0, high.1)) (i, rest) l.2 in
    subst (λ (p : RawItemParts × List Word). codes "range" ∷ words ≡ item_words p.0 ++ p.1) (ok_is (named.Range l.0.0 h.0.0, h.0.1) (i, rest) h.2)
    (ap (λ (ws : List Word). codes "range" ∷ ws) (word_ok words l.0.1 l.0.0 l.1 ∙ ap (λ (ws : List Word). l.0.0 ∷ ws) (word_ok l.0.1 h.0.1 h.0.0 h.1)))

pub item_found : (words rest : List Word) (i : RawItemParts) → item_at words ≡ Ok (i, rest) → words ≡ item_words i ++ rest
unfolding item_at
item_found words rest i e =
    let o = bind_ok (known_at item_opener_of words) (λ opener. item_behind opener.0 opener.1) (i, rest) e in
    let k = known_ok item_opener_of words o.0.1 o.0.0 o.1 in
    k.words_are ∙ ap (λ (w : Word). w ∷ o.0.1) (item_opener_is k.word o.0.0 k.knows_it) ∙ item_behind_found o.0.0 o.0.1 rest i o.2

pub items_words : (i : RawItemParts) (items : List RawItemParts) (rest : List Word) → flat_map item_words (i ∷ items) ++ rest ≡ item_words i ++ (flat_map item_words items ++ rest)
items_words i items rest = rw (flat_map-cons item_words i items) (append_assoc (item_words i) (flat_map item_words items) rest)

abbrev none_at : List Word → Result (List RawItemParts × List Word) Fault
none_at words = Ok ([], drop 1 words)

abbrev more_at : ℕ → List Word → Result (List RawItemParts × List Word) Fault
more_at most words = item_at words >>= λ first. items_at most first.1 >>= λ others. Ok (first.0 ∷ others.0, others.1)

items_found_by : (most : ℕ) → ((words rest : List Word) (items : List RawItemParts) → items_at most words ≡ Ok (items, rest) → words ≡ flat_map item_words items ++ codes "end" ∷ rest)
    → (ended : Bool) (words rest : List Word) (items : List RawItemParts) → is_end words ≡ ended
    → (if ended then none_at words else more_at most words) ≡ Ok (items, rest)
    → words ≡ flat_map item_words items ++ codes "end" ∷ rest
items_found_by most others true words rest items is e =
    subst (λ (p : List RawItemParts × List Word). words ≡ flat_map item_words p.0 ++ codes "end" ∷ p.1) (ok_is ([], drop 1 words) (items, rest) e) (is_end_is words is)
items_found_by most others false words rest items is e =
    let f = bind_ok (item_at words) (λ first. items_at most first.1 >>= λ others. Ok (first.0 ∷ others.0, others.1)) (items, rest) e in
    let g = bind_ok (items_at most f.0.1) (λ others. Ok (f.0.0 ∷ others.0, others.1)) (items, rest) f.2 in
    subst (λ (p : List RawItemParts × List Word). words ≡ flat_map item_words p.0 ++ codes "end" ∷ p.1) (ok_is (f.0.0 ∷ g.0.0, g.0.1) (items, rest) g.2)
    (item_found words f.0.1 f.0.0 f.1 ∙ ap (λ (ws : List Word). item_words f.0.0 ++ ws) (others f.0.1 g.0.1 g.0.0 g.1) ∙ sym (items_words f.0.0 g.0.0 (codes "end" ∷ g.0.1)))

pub items_found : (most : ℕ) (words rest : List Word) (items : List RawItemParts) → items_at most words ≡ Ok (items, rest) → words ≡ flat_map item_words items ++ codes "end" ∷ rest
unfolding items_at
items_found zero words rest items e = absurd cc
items_found (suc most) words rest items e = items_found_by most (items_found most) (is_end words) words rest items refl e

-- ---- predicates

-- a predicate that is read is spelled by the words in front of the rest, and at most so deep
pub record Found (p : RawPredicate) (depth : ℕ) (words rest : List Word) : Type 0 where
  pub front : List Word
  pub words_are : words ≡ front ++ rest
  pub spelled : Spells p front
  pub deep : depth_of p ≤ depth

abbrev pub FindsAt : ℕ → (List Word → Result (RawPredicate × List Word) Fault) → Type 0
FindsAt depth inside = (words rest : List Word) (p : RawPredicate) → inside words ≡ Ok (p, rest) → Found p depth words rest

one_of_found : (depth : ℕ) (words rest : List Word) (p : RawPredicate) → one_of_at words ≡ Ok (p, rest) → Found p (suc depth) (codes "oneof" ∷ words) rest
unfolding one_of_at
one_of_found depth words rest p e =
    let f = bind_ok (item_at words) (λ first. with_front (first.0 ∷ []) (items_at (length first.1) first.1) >>= λ items. Ok (raw.OneOf items.0, items.1)) (p, rest) e in
    let g = bind_ok (with_front (f.0.0 ∷ []) (items_at (length f.0.1) f.0.1)) (λ items. Ok (raw.OneOf items.0, items.1)) (p, rest) f.2 in
    let h = bind_ok (items_at (length f.0.1) f.0.1) (λ others. Ok (f.0.0 ∷ [] ++ others.0, others.1)) g.0 g.1 in
    let all = flat_map item_words (f.0.0 ∷ h.0.0) in
    let taken : words ≡ (all ++ codes "end" ∷ []) ++ h.0.1 =
    item_found words f.0.1 f.0.0 f.1 ∙ ap (λ (ws : List Word). item_words f.0.0 ++ ws) (items_found (length f.0.1) f.0.1 h.0.1 h.0.0 h.1)
    ∙ sym (items_words f.0.0 h.0.0 (codes "end" ∷ h.0.1)) ∙ sym (append_assoc all (codes "end" ∷ []) h.0.1) in
    subst (λ (q : RawPredicate × List Word). Found q.0 (suc depth) (codes "oneof" ∷ words) q.1)
    (ap (λ (q : List RawItemParts × List Word). (raw.OneOf q.0, q.1)) (ok_is (f.0.0 ∷ h.0.0, h.0.1) g.0 h.2) ∙ ok_is (raw.OneOf g.0.0, g.0.1) (p, rest) g.2)
    (record {
      front = codes "oneof" ∷ all ++ codes "end" ∷ [];
      words_are = ap (λ (ws : List Word). codes "oneof" ∷ ws) taken;
      spelled = oneof f.0.0 h.0.0;
      deep = omega (arith, depth-oneof (f.0.0 ∷ h.0.0));
    })

prefix_found : (depth : ℕ) (words rest : List Word) (p : RawPredicate) → prefix_at words ≡ Ok (p, rest) → Found p (suc depth) (codes "prefix" ∷ words) rest
unfolding prefix_at
prefix_found depth words rest p e =
    let t = bind_ok (word_at words) (λ text. Ok (raw.Prefix text.0, text.1)) (p, rest) e in
    subst (λ (q : RawPredicate × List Word). Found q.0 (suc depth) (codes "prefix" ∷ words) q.1) (ok_is (raw.Prefix t.0.0, t.0.1) (p, rest) t.2)
    (record {
      front = codes "prefix" ∷ t.0.0 ∷ [];
      words_are = ap (λ (ws : List Word). codes "prefix" ∷ ws) (word_ok words t.0.1 t.0.0 t.1);
      spelled = prefix t.0.0;
      deep = omega (arith, depth-prefix t.0.0);
    })

modulo_found : (depth : ℕ) (words rest : List Word) (p : RawPredicate) → modulo_at words ≡ Ok (p, rest) → Found p (suc depth) (codes "modulo" ∷ words) rest
unfolding modulo_at
modulo_found depth words rest p e =
    let m = bind_ok (known_at divisor_of words) (λ divisor. known_at (remainder_of divisor.0) divisor.1 >>= λ remainder. Ok (raw.Modulo (pos divisor.0) (pos remainder.0), remainder.1)) (p, rest) e in
    let r = bind_ok (known_at (remainder_of m.0.0) m.0.1) (λ remainder. Ok (raw.Modulo (pos m.0.0) (pos remainder.0), remainder.1)) (p, rest) m.2 in
    let k = known_ok divisor_of words m.0.1 m.0.0 m.1 in
    let l = known_ok (remainder_of m.0.0) m.0.1 r.0.1 r.0.0 r.1 in
    subst (λ (q : RawPredicate × List Word). Found q.0 (suc depth) (codes "modulo" ∷ words) q.1) (ok_is (raw.Modulo (pos m.0.0) (pos r.0.0), r.0.1) (p, rest) r.2)
    (record {
      front = codes "modulo" ∷ k.word ∷ l.word ∷ [];
      words_are = ap (λ (ws : List Word). codes "modulo" ∷ ws) (k.words_are ∙ ap (λ (ws : List Word). k.word ∷ ws) l.words_are);
      spelled = modulo k.word l.word m.0.0 r.0.0 k.knows_it l.knows_it;
      deep = omega (arith, depth-modulo (pos m.0.0) (pos r.0.0));
    })

not_found : (depth : ℕ) (inside : List Word → Result (RawPredicate × List Word) Fault) → FindsAt depth inside → (words rest : List Word) (p : RawPredicate) → not_at inside words ≡ Ok (p, rest) → Found p (suc depth) (codes "not" ∷ words) rest
unfolding not_at
not_found depth inside finds words rest p e =
    let i = bind_ok (inside words) (λ inner. Ok (raw.Not inner.0, inner.1)) (p, rest) e in
    let f = finds words i.0.1 i.0.0 i.1 in
    subst (λ (q : RawPredicate × List Word). Found q.0 (suc depth) (codes "not" ∷ words) q.1) (ok_is (raw.Not i.0.0, i.0.1) (p, rest) i.2)
    (record {
      front = codes "not" ∷ f.front;
      words_are = ap (λ (ws : List Word). codes "not" ∷ ws) f.words_are;
      spelled = negation i.0.0 f.front f.spelled;
      deep = omega (arith, depth-not i.0.0, f.deep);
    })

-- two predicates one after the other
record Both (depth : ℕ) (join : RawPredicate → RawPredicate → RawPredicate) (p : RawPredicate) (words rest : List Word) : Type 0 where
  first : RawPredicate
  second : RawPredicate
  front : List Word
  more : List Word
  p_is : join first second ≡ p
  words_are : words ≡ (front ++ more) ++ rest
  spelled_first : Spells first front
  spelled_second : Spells second more
  deep_first : depth_of first ≤ depth
  deep_second : depth_of second ≤ depth

two_found : (depth : ℕ) (inside : List Word → Result (RawPredicate × List Word) Fault) (join : RawPredicate → RawPredicate → RawPredicate) → FindsAt depth inside
    → (words rest : List Word) (p : RawPredicate) → two_at inside join words ≡ Ok (p, rest) → Both depth join p words rest
unfolding two_at
two_found depth inside join finds words rest p e =
    let i = bind_ok (inside words) (λ first. inside first.1 >>= λ second. Ok (join first.0 second.0, second.1)) (p, rest) e in
    let j = bind_ok (inside i.0.1) (λ second. Ok (join i.0.0 second.0, second.1)) (p, rest) i.2 in
    let f = finds words i.0.1 i.0.0 i.1 in
    let g = finds i.0.1 j.0.1 j.0.0 j.1 in
    let pair = ok_is (join i.0.0 j.0.0, j.0.1) (p, rest) j.2 in
    record {
      first = i.0.0;
      second = j.0.0;
      front = f.front;
      more = g.front;
      p_is = ap (λ (q : RawPredicate × List Word). q.0) pair;
      words_are = f.words_are ∙ ap (λ (ws : List Word). f.front ++ ws) (g.words_are ∙ ap (λ (q : RawPredicate × List Word). g.front ++ q.1) pair) ∙ sym (append_assoc f.front g.front rest);
      spelled_first = f.spelled;
      spelled_second = g.spelled;
      deep_first = f.deep;
      deep_second = g.deep;
    }

and_found : (depth : ℕ) (words rest : List Word) (p : RawPredicate) → Both depth raw.And p words rest → Found p (suc depth) (codes "and" ∷ words) rest
and_found depth words rest p b = subst (λ (q : RawPredicate). Found q (suc depth) (codes "and" ∷ words) rest) b.p_is (record {
  front = codes "and" ∷ b.front ++ b.more;
  words_are = ap (λ (ws : List Word). codes "and" ∷ ws) b.words_are;
  spelled = conjunction b.first b.second b.front b.more b.spelled_first b.spelled_second;
  deep = omega (arith, depth-and b.first b.second, b.deep_first, b.deep_second);
})

or_found : (depth : ℕ) (words rest : List Word) (p : RawPredicate) → Both depth raw.Or p words rest → Found p (suc depth) (codes "or" ∷ words) rest
or_found depth words rest p b = subst (λ (q : RawPredicate). Found q (suc depth) (codes "or" ∷ words) rest) b.p_is (record {
  front = codes "or" ∷ b.front ++ b.more;
  words_are = ap (λ (ws : List Word). codes "or" ∷ ws) b.words_are;
  spelled = disjunction b.first b.second b.front b.more b.spelled_first b.spelled_second;
  deep = omega (arith, depth-or b.first b.second, b.deep_first, b.deep_second);
})

behind_found : (depth : ℕ) (inside : List Word → Result (RawPredicate × List Word) Fault) → FindsAt depth inside
    → (o : PredicateOpener) (words rest : List Word) (p : RawPredicate) → behind inside o words ≡ Ok (p, rest) → Found p (suc depth) (predicate_word o ∷ words) rest
behind_found depth inside finds predicate.OneOf words rest p e = one_of_found depth words rest p e
behind_found depth inside finds predicate.Prefix words rest p e = prefix_found depth words rest p e
behind_found depth inside finds predicate.Modulo words rest p e = modulo_found depth words rest p e
behind_found depth inside finds predicate.Not words rest p e = not_found depth inside finds words rest p e
behind_found depth inside finds predicate.And words rest p e = and_found depth words rest p (two_found depth inside raw.And finds words rest p e)
behind_found depth inside finds predicate.Or words rest p e = or_found depth words rest p (two_found depth inside raw.Or finds words rest p e)

pub predicate_found : (depth : ℕ) → FindsAt depth (predicate_at depth)
unfolding predicate_at
predicate_found zero words rest p e =
    let o = bind_ok (known_at predicate_opener_of words) (λ opener. Err (fault.TooDeep (length words))) (p, rest) e in
    absurd (fails_not (fault.TooDeep (length words)) (p, rest) o.2)
predicate_found (suc depth) words rest p e =
    let o = bind_ok (known_at predicate_opener_of words) (λ opener. behind (predicate_at depth) opener.0 opener.1) (p, rest) e in
    let k = known_ok predicate_opener_of words o.0.1 o.0.0 o.1 in
    let same : predicate_word o.0.0 ∷ o.0.1 ≡ words = sym (k.words_are ∙ ap (λ (w : Word). w ∷ o.0.1) (opener_is k.word o.0.0 k.knows_it)) in
    subst (λ (ws : List Word). Found p (suc depth) ws rest) same (behind_found depth (predicate_at depth) (predicate_found depth) o.0.0 o.0.1 rest p o.2)

-- ---- filters

-- a filter that is read, with the words that spell it
pub record FoundFilter (f : RawFilterParts) (words rest : List Word) : Type 0 where
  pub front : List Word
  pub words_are : words ≡ front ++ rest
  pub spelled : SpellsFilter f front
  pub deep : filter_depth f ≤ 16

filter_behind_found : (o : FilterOpener) (words rest : List Word) (f : RawFilterParts) → filter_behind o words ≡ Ok (f, rest) → FoundFilter f (filter_word o ∷ words) rest
unfolding filter_behind
filter_behind_found filter.All words rest f e =
    subst (λ (q : RawFilterParts × List Word). FoundFilter q.0 (codes "all" ∷ words) q.1) (ok_is (form.All, words) (f, rest) e)
    (record { front = codes "all" ∷ []; words_are = refl; spelled = all; deep = omega arith })
filter_behind_found filter.Exact words rest f e =
    let k = bind_ok (word_at words) (λ key. Ok (form.Exact key.0, key.1)) (f, rest) e in
    subst (λ (q : RawFilterParts × List Word). FoundFilter q.0 (codes "exact" ∷ words) q.1) (ok_is (form.Exact k.0.0, k.0.1) (f, rest) k.2)
    (record { front = codes "exact" ∷ k.0.0 ∷ []; words_are = ap (λ (ws : List Word). codes "exact" ∷ ws) (word_ok words k.0.1 k.0.0 k.1); spelled = exact k.0.0; deep = omega arith })
filter_behind_found filter.Range words rest f e =
    let l = bind_ok (word_at words) (λ low. word_at low.1 >>= λ high. Ok (form.Range low.0 high.0, high.1)) (f, rest) e in
    let h = bind_ok (word_at l.0.1) (λ high. Ok (form.Range l.0.0 high.0, high.1)) (f, rest) l.2 in
    subst (λ (q : RawFilterParts × List Word). FoundFilter q.0 (codes "range" ∷ words) q.1) (ok_is (form.Range l.0.0 h.0.0, h.0.1) (f, rest) h.2)
    (record {
      front = codes "range" ∷ l.0.0 ∷ h.0.0 ∷ [];
      words_are = ap (λ (ws : List Word). codes "range" ∷ ws) (word_ok words l.0.1 l.0.0 l.1 ∙ ap (λ (ws : List Word). l.0.0 ∷ ws) (word_ok l.0.1 h.0.1 h.0.0 h.1));
      spelled = range l.0.0 h.0.0;
      deep = omega arith;
    })
filter_behind_found filter.Func words rest f e =
    let i = bind_ok (predicate_at 16 words) (λ predicate. Ok (form.Func predicate.0, predicate.1)) (f, rest) e in
    let g = predicate_found 16 words i.0.1 i.0.0 i.1 in
    subst (λ (q : RawFilterParts × List Word). FoundFilter q.0 (codes "func" ∷ words) q.1) (ok_is (form.Func i.0.0, i.0.1) (f, rest) i.2)
    (record { front = codes "func" ∷ g.front; words_are = ap (λ (ws : List Word). codes "func" ∷ ws) g.words_are; spelled = func i.0.0 g.front g.spelled; deep = g.deep })

pub filter_at_found : (words rest : List Word) (f : RawFilterParts) → filter_at words ≡ Ok (f, rest) → FoundFilter f words rest
unfolding filter_at
filter_at_found words rest f e =
    let o = bind_ok (known_at filter_opener_of words) (λ opener. filter_behind opener.0 opener.1) (f, rest) e in
    let k = known_ok filter_opener_of words o.0.1 o.0.0 o.1 in
    let same : filter_word o.0.0 ∷ o.0.1 ≡ words = sym (k.words_are ∙ ap (λ (w : Word). w ∷ o.0.1) (filter_opener_is k.word o.0.0 k.knows_it)) in
    subst (λ (ws : List Word). FoundFilter f ws rest) same (filter_behind_found o.0.0 o.0.1 rest f o.2)

-- what is alone has nothing behind it
alone_ok : {A : Type 0} (x : A) (rest : List Word) (y : A) → alone (x, rest) ≡ Ok y → (rest ≡ []) × (x ≡ y)
alone_ok x [] y e = (refl, ok_is x y e)
alone_ok x (word ∷ rest) y e = absurd cc

pub filter_found : (words : List Word) (f : RawFilterParts) → filter_of words ≡ Ok f → (filter_depth f ≤ 16) × SpellsFilter f words
filter_found words f e =
    let i = bind_ok (filter_at words) alone f e in
    let g = filter_at_found words i.0.1 i.0.0 i.1 in
    let a = alone_ok i.0.0 i.0.1 f i.2 in
    let same : g.front ≡ words = sym (g.words_are ∙ ap (λ (ws : List Word). g.front ++ ws) a.0 ∙ append-nil g.front) in
    subst (λ (h : RawFilterParts). (filter_depth h ≤ 16) × SpellsFilter h words) a.1 (g.deep, subst (λ (ws : List Word). SpellsFilter i.0.0 ws) same g.spelled)

pub item_of_found : (words : List Word) (i : RawItemParts) → item_of words ≡ Ok i → words ≡ item_words i
item_of_found words i e =
    let j = bind_ok (item_at words) alone i e in
    let a = alone_ok j.0.0 j.0.1 i j.2 in
    item_found words j.0.1 j.0.0 j.1 ∙ ap (λ (ws : List Word). item_words j.0.0 ++ ws) a.0 ∙ append-nil (item_words j.0.0) ∙ ap item_words a.1
