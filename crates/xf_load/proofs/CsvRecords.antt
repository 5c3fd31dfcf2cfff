-- One read of a record is one step down the records of a file.
use Rattle.std.proofs.Common.{◌≡◌, ℕ, zero, suc, ◌+◌, ◌-◌, ◌<◌, ◌≤◌, ◌⊎◌, inl, inr, Bool, true, false, cond, List, [], ◌∷◌, ◌++◌, length, Option, Some, None, IsSome, refl, ap, subst, ◌∙◌, arith, add-one, ◌==◌, ◌&&◌}
use Rattle.csv.specs.Machine.{Read, next_record, step, in_field, start_field, start_record, ends_at_end, is_end, after_end, fields_after, field_after, is_byte, ends_with, carriage_return, line_feed}
use Rattle.csv.specs.Reading.{NextIs, ReadRecord, ReadsNext, ReadsOn, default_config, is_bom, is_flexible, pending_of, records_from, records_next, strip_bom}
use Rattle.csv.specs.declared.reader.Reader.{Reader}
use Rattle.xf_load.specs.Records.{records_of}
use Rattle.xf_load.specs.RecordsAhead.{IsReading, records_ahead, records_in, records_left, unread}
use Rattle.csv.specs.declared.parser.Action.{Action}
use Rattle.csv.specs.declared.parser.Config.{Config}
use Rattle.csv.specs.declared.parser.Terminator.{Terminator}
use Rattle.csv.specs.declared.parser.Terminator.TheVariants as term
use Rattle.csv.specs.declared.parser.State.{State}
use Rattle.csv.specs.declared.parser.State.TheVariants as st
use Rattle.csv.specs.declared.parser.Action.TheVariants as act

-- what a step leaves stands between two records, if the step ended one
abbrev Between : State × Action → Type 0
Between after = is_end after.1 ≡ true → ends_at_end after.0 ≡ false

Between-cond : (b : Bool) (x y : State × Action) → Between x → Between y → Between (cond b x y)
Between-cond true x y p q = p
Between-cond false x y p q = q

between_cond : (b : Bool) (x y : State) → ends_at_end x ≡ false → ends_at_end y ≡ false → ends_at_end (cond b x y) ≡ false
between_cond true x y p q = p
between_cond false x y p q = q

after_end-between : (t : Terminator) (c : ℕ) → ends_at_end (after_end t c) ≡ false
after_end-between term.CRLF c = between_cond (c == carriage_return) st.AfterCr st.StartRecord refl refl
after_end-between (term.Any t) c = refl

in_field-between : (cfg : Config) (c : ℕ) → Between (in_field cfg c)
in_field-between cfg c =
    let end : State × Action = (after_end cfg.terminator c, act.EndRecord) in
    let copy : State × Action = (st.InField, act.Copy) in
    let later = Between-cond (ends_with cfg.terminator c) end copy (λ e. after_end-between cfg.terminator c) (λ e. cc e) in
    Between-cond (c == cfg.delimiter) (st.StartField, act.EndField) (cond (ends_with cfg.terminator c) end copy) (λ e. cc e) later

start_field-between : (cfg : Config) (c : ℕ) → Between (start_field cfg c)
start_field-between cfg c =
    Between-cond (cfg.quoting && (c == cfg.quote)) (st.InQuoted, act.Skip) (in_field cfg c) (λ e. cc e) (in_field-between cfg c)

start_record-between : (cfg : Config) (c : ℕ) → Between (start_record cfg c)
start_record-between cfg c =
    let later = Between-cond (is_byte cfg.comment c) (st.InComment, act.Skip) (start_field cfg c) (λ e. cc e) (start_field-between cfg c) in
    Between-cond (ends_with cfg.terminator c) (st.StartRecord, act.Skip) (cond (is_byte cfg.comment c) (st.InComment, act.Skip) (start_field cfg c)) (λ e. cc e) later

step-between : (cfg : Config) (s : State) (c : ℕ) → Between (step cfg s c)
step-between cfg st.StartRecord c = start_record-between cfg c
step-between cfg st.StartField c = start_field-between cfg c
step-between cfg st.InField c = in_field-between cfg c
step-between cfg st.InQuoted c =
    let stays : State × Action = (st.InQuoted, act.Copy) in
    let escape : State × Action = (st.InEscape, act.Skip) in
    let later = Between-cond (cfg.quoting && is_byte cfg.escape c) escape stays (λ e. cc e) (λ e. cc e) in
    Between-cond (cfg.quoting && (c == cfg.quote)) (st.AfterQuote, act.Skip) (cond (cfg.quoting && is_byte cfg.escape c) escape stays) (λ e. cc e) later
step-between cfg st.InEscape c = λ e. cc e
step-between cfg st.AfterQuote c =
    Between-cond (cfg.quoting && cfg.double_quote && (c == cfg.quote)) (st.InQuoted, act.Copy) (in_field cfg c) (λ e. cc e) (in_field-between cfg c)
step-between cfg st.InComment c = Between-cond (c == line_feed) (st.StartRecord, act.Skip) (st.InComment, act.Skip) (λ e. cc e) (λ e. cc e)
step-between cfg st.AfterCr c = Between-cond (c == line_feed) (st.StartRecord, act.Skip) (start_record cfg c) (λ e. cc e) (start_record-between cfg c)

-- which way a choice went that gave a value
chosen : {A : Type 0} (b : Bool) (x p : A) (o : Option A) → cond b (Some x) o ≡ Some p → ((b ≡ true) × (x ≡ p)) ⊎ ((b ≡ false) × (o ≡ Some p))
chosen true x p o e = inl (refl, cc e)
chosen false x p o e = inr (refl, e)

-- a record takes a byte at least, where there is one
next-shorter : (cfg : Config) (s : State) (fields : List (List ℕ)) (field : List ℕ) (xs : List ℕ) (p : Read)
    → next_record cfg s fields field xs ≡ Some p → length p.2 ≤ length xs - 1
unfolding next_record
next-shorter cfg s fields field [] p e =
    elim (chosen (ends_at_end s) (fields ++ (field ∷ []), st.StartRecord, []) p None e) [
      | inl h ↦ subst (λ (q : Read). length q.2 ≤ 0) h.1 (omega arith)
      | inr h ↦ cc h.1
    ]
next-shorter cfg s fields field (c ∷ rest) p e =
    elim (chosen (is_end (step cfg s c).1) (fields_after (step cfg s c).1 fields field, (step cfg s c).0, rest) p (next_record cfg (step cfg s c).0 (fields_after (step cfg s c).1 fields field) (field_after (step cfg s c).1 c field) rest) e) [
      | inl h ↦ subst (λ (q : Read). length q.2 ≤ length (c ∷ rest) - 1) h.1 (omega arith)
      | inr h ↦ omega (arith, next-shorter cfg (step cfg s c).0 (fields_after (step cfg s c).1 fields field) (field_after (step cfg s c).1 c field) rest p h.1)
    ]

-- after it the machine stands between two records
next-between : (cfg : Config) (s : State) (fields : List (List ℕ)) (field : List ℕ) (xs : List ℕ) (p : Read)
    → next_record cfg s fields field xs ≡ Some p → ends_at_end p.1 ≡ false
unfolding next_record
next-between cfg s fields field [] p e =
    elim (chosen (ends_at_end s) (fields ++ (field ∷ []), st.StartRecord, []) p None e) [
      | inl h ↦ subst (λ (q : Read). ends_at_end q.1 ≡ false) h.1 refl
      | inr h ↦ cc h.1
    ]
next-between cfg s fields field (c ∷ rest) p e =
    elim (chosen (is_end (step cfg s c).1) (fields_after (step cfg s c).1 fields field, (step cfg s c).0, rest) p (next_record cfg (step cfg s c).0 (fields_after (step cfg s c).1 fields field) (field_after (step cfg s c).1 c field) rest) e) [
      | inl h ↦ subst (λ (q : Read). ends_at_end q.1 ≡ false) h.1 (step-between cfg s c h.0)
      | inr h ↦ next-between cfg (step cfg s c).0 (fields_after (step cfg s c).1 fields field) (field_after (step cfg s c).1 c field) rest p h.1
    ]

-- there, no bytes are no record
next-of_none : (cfg : Config) (s : State) → ends_at_end s ≡ false → next_record cfg s [] [] [] ≡ None
unfolding next_record
next-of_none cfg s between = rw between

-- so a record read from there leaves fewer bytes
next-falls : (cfg : Config) (s : State) (xs : List ℕ) (p : Read) → ends_at_end s ≡ false → next_record cfg s [] [] xs ≡ Some p → length p.2 < length xs
next-falls cfg s [] p between e = let none = next-of_none cfg s between in cc (none, e)
next-falls cfg s (c ∷ rest) p between e = omega (arith, next-shorter cfg s [] [] (c ∷ rest) p e)

-- more turns than bytes make no difference
next-enough : (cfg : Config) (n m : ℕ) (o : Option Read) → ((r : Read) → o ≡ Some r → records_from cfg n r.1 r.2 ≡ records_from cfg m r.1 r.2)
    → records_next (records_from cfg n) o ≡ records_next (records_from cfg m) o
next-enough cfg n m None same = refl
next-enough cfg n m (Some r) same = ap (λ (rs : List (List (List ℕ))). r.0 ∷ rs) (same r refl)

records_from-enough : (cfg : Config) (n m : ℕ) (s : State) (xs : List ℕ) → ends_at_end s ≡ false → length xs < n → length xs < m → records_from cfg n s xs ≡ records_from cfg m s xs
unfolding records_from
records_from-enough cfg zero m s xs between p q = absurd (omega arith)
records_from-enough cfg (suc n) zero s xs between p q = absurd (omega arith)
records_from-enough cfg (suc n) (suc m) s xs between p q =
    next-enough cfg n m (next_record cfg s [] [] xs) (λ r e.
    let fewer = next-falls cfg s xs r between e in
    records_from-enough cfg n m r.1 r.2 (next-between cfg s [] [] xs r e) (omega arith) (omega arith))

pub records_left-none : (cfg : Config) (s : State) (xs : List ℕ) → next_record cfg s [] [] xs ≡ None → records_left cfg s xs ≡ []
unfolding records_from
records_left-none cfg s xs e = rw (add-one, e)

pub records_left-some : (cfg : Config) (s : State) (xs : List ℕ) (p : Read) → ends_at_end s ≡ false → next_record cfg s [] [] xs ≡ Some p
    → (records_left cfg s xs ≡ p.0 ∷ records_left cfg p.1 p.2) × (ends_at_end p.1 ≡ false)
unfolding records_from
records_left-some cfg s xs p between e =
    let fewer = next-falls cfg s xs p between e in
    let after = next-between cfg s [] [] xs p e in
    (rw (add-one, e) (ap (λ (rs : List (List (List ℕ))). p.0 ∷ rs) (records_from-enough cfg (length xs) (length p.2 + 1) p.1 p.2 after fewer (omega arith))), after)

-- what the machine's answer says where a record was found, and where none was
next-found : (o : Option Read) (f : List (List ℕ)) (t : State) (z : List ℕ) → NextIs o true f t z → (p : Read) × (o ≡ Some p) × (f ≡ p.0) × (t ≡ p.1) × (z ≡ p.2)
next-found None f t z n = cc n
next-found (Some p) f t z n = (p, refl, n.1, n.2, n.3)

next-missing : (o : Option Read) (f : List (List ℕ)) (t : State) (z : List ℕ) → NextIs o false f t z → o ≡ None
next-missing None f t z n = refl
next-missing (Some p) f t z n = cc n.0

read-found : (s t : State) (y : List ℕ) (k : Option (List ℕ)) (f : List (List ℕ)) → ends_at_end s ≡ false → ReadsNext default_config s (Some y) k true f t
    → IsSome k × (records_left default_config s y ≡ f ∷ records_in t k) × (ends_at_end t ≡ false)
read-found s t y None f between r = absurd r
read-found s t y (Some z) f between r =
    let n = next-found (next_record default_config s [] [] y) f t z r in
    let more = records_left-some default_config s y n.0 between n.1 in
    let same : n.0.0 ∷ records_left default_config n.0.1 n.0.2 ≡ f ∷ records_left default_config t z = cc in
    (refl, more.0 ∙ same, ap ends_at_end n.3 ∙ more.1)

read-missing : (s t : State) (y : List ℕ) (k : Option (List ℕ)) (f : List (List ℕ)) → ReadsNext default_config s (Some y) k false f t → records_left default_config s y ≡ []
read-missing s t y None f r = absurd r
read-missing s t y (Some z) f r = records_left-none default_config s y (next-missing (next_record default_config s [] [] y) f t z r)

-- after its first read a reader has read the mark, so that what is unread is what it holds
unread-begun : {R : Type 0} (rem : R → Option (List ℕ)) (b : Reader R) → b.bom_checked ≡ true → unread rem b ≡ pending_of (rem b.rdr) b
unread-begun rem b begun = rw begun

some_of : {A : Type 0} (o : Option A) → IsSome o → (x : A) × (o ≡ Some x)
some_of None h = cc h
some_of (Some x) h = (x, refl)

-- a read that found a record gave the first of those ahead
pub took-found : {R : Type 0} (rem : R → Option (List ℕ)) (a b : Reader R) (f : List (List ℕ)) → IsReading rem a → ReadRecord rem a b true f → ReadsOn a b → is_flexible b ≡ is_flexible a
    → IsReading rem b × (records_ahead rem a ≡ f ∷ records_ahead rem b)
took-found rem a b f h r on flexible =
    let (y, at_y) = some_of (unread rem a) h.known in
    let read : ReadsNext default_config a.state (Some y) (pending_of (rem b.rdr) b) true f b.state = rw (h.config, at_y) at r.0 in
    let (some, ahead, between) = read-found a.state b.state y (pending_of (rem b.rdr) b) f h.between read in
    let begun = unread-begun rem b r.1 in (
      record {
        plain = r.3 ∙ h.plain;
        ready = (on.4 h.ready).0;
        config = r.2 ∙ h.config;
        flexible = flexible ∙ h.flexible;
        known = rw begun some;
        between = between;
      },
      rw (at_y, begun) ahead,
    )

-- a read that found none stood at the end
pub took-missing : {R : Type 0} (rem : R → Option (List ℕ)) (a b : Reader R) (f : List (List ℕ)) → IsReading rem a → ReadRecord rem a b false f → records_ahead rem a ≡ []
took-missing rem a b f h r =
    let (y, at_y) = some_of (unread rem a) h.known in
    let read : ReadsNext default_config a.state (Some y) (pending_of (rem b.rdr) b) false f b.state = rw (h.config, at_y) at r.0 in
    rw at_y (read-missing a.state b.state y (pending_of (rem b.rdr) b) f read)

-- a turn gives one record at most
next-length : (n : ℕ) (more : State → List ℕ → List (List (List ℕ))) (o : Option Read) → ((s : State) (xs : List ℕ) → length (more s xs) ≤ n) → length (records_next more o) ≤ n + 1
next-length n more None h = omega arith
next-length n more (Some p) h = omega (arith, h p.1 p.2)

-- there are no more records than turns
records_from-length : (cfg : Config) (n : ℕ) (s : State) (xs : List ℕ) → length (records_from cfg n s xs) ≤ n
unfolding records_from
records_from-length cfg zero s xs = omega arith
records_from-length cfg (suc n) s xs = omega (arith, next-length n (records_from cfg n) (next_record cfg s [] [] xs) (records_from-length cfg n))

-- either of two lists, neither of which is longer
either-length : (b : Bool) (xs ys : List ℕ) → length xs ≤ length ys → length (cond b xs ys) ≤ length ys
either-length true xs ys h = h
either-length false xs ys h = omega arith

-- a byte order mark that is dropped leaves no more bytes
strip-length : (bytes : List ℕ) → length (strip_bom bytes) ≤ length bytes
unfolding strip_bom
strip-length [] = omega arith
strip-length (a ∷ []) = omega arith
strip-length (a ∷ b ∷ []) = omega arith
strip-length (a ∷ b ∷ c ∷ rest) = either-length (is_bom a b c) rest (a ∷ b ∷ c ∷ rest) (omega arith)

-- there are no more records than bytes, and one
pub records_of-length : (bytes : List ℕ) → length (records_of bytes) ≤ length bytes + 1
records_of-length bytes = omega (arith, strip-length bytes, records_from-length default_config (length (strip_bom bytes) + 1) st.StartRecord (strip_bom bytes))
