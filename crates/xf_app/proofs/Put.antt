-- What is put text by text.
use Rattle.std.proofs.Common.{◌≡◌, inr, ℕ, List, [], ◌++◌, Option, Some, None, option_map, refl, sym, ap, ◌∙◌, append_assoc}
use Rattle.std.proofs.lemmas.List.{append-nil}
use Rattle.xf_app.specs.Due.{Due}
use Rattle.xf_app.specs.Ends.{Ends, StopsIn}
use Rattle.xf_app.specs.Put.{Puts, PutsPart}
use Rattle.xf_app.specs.declared.status.Status.TheVariants as status
use Rattle.xf_outside.specs.Account.{SinkAccount}

bytes-nothing : (bytes : Option (List ℕ)) → bytes ≡ option_map (λ before. before ++ []) bytes
bytes-nothing None = refl
bytes-nothing (Some before) = ap (λ (text : List ℕ). Some text) (sym (append-nil before))

bytes-more : (before now later : Option (List ℕ)) (text more : List ℕ) → now ≡ option_map (λ b. b ++ text) before → later ≡ option_map (λ b. b ++ more) now → later ≡ option_map (λ b. b ++ (text ++ more)) before
bytes-more None now later text more first second = rw (second, first) refl
bytes-more (Some b) now later text more first second = rw (second, first) (ap (λ (t : List ℕ). Some t) (append_assoc b text more))

-- nothing was put
pub puts-nothing : (sink : SinkAccount) → Puts sink sink []
puts-nothing sink = bytes-nothing sink.bytes

-- two texts were put, one after the other
pub puts-more : (before now later : SinkAccount) (text more : List ℕ) → Puts before now text → Puts now later more → Puts before later (text ++ more)
puts-more before now later text more first second = bytes-more before.bytes now.bytes later.bytes text more first second

-- nothing was put, which is a first part of any text
pub part-nothing : (sink : SinkAccount) (text : List ℕ) → PutsPart sink sink text
part-nothing sink text = ([], text, refl, puts-nothing sink)

-- a text that was put is all of itself
pub part-whole : (before after : SinkAccount) (text : List ℕ) → Puts before after text → PutsPart before after text
part-whole before after text put = (text, [], sym (append-nil text), put)

-- after a text that was put whole, a first part of the next, of which more follows
pub part-more : (before now later : SinkAccount) (text next more : List ℕ) → Puts before now text → PutsPart now later next → PutsPart before later ((text ++ next) ++ more)
part-more before now later text next more put part = (
  text ++ part.0,
  part.1 ++ more,
  ap (λ (n : List ℕ). (text ++ n) ++ more) part.2 ∙ ap (λ (t : List ℕ). t ++ more) (sym (append_assoc text part.0 part.1)) ∙ append_assoc (text ++ part.0) part.1 more,
  puts-more before now later text part.0 put part.3,
)

-- memory was refused before anything was put
pub stops-silent : (text : List ℕ) (sink : SinkAccount) → StopsIn text sink sink status.Memory
stops-silent text sink = inr (refl, part-nothing sink text, refl)

pub ends-silent : (due : Due) (sink : SinkAccount) → Ends due sink sink status.Memory
ends-silent due sink = inr (stops-silent due.text sink)
