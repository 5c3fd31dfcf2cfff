-- What was put to a sink, by what the sink tells before and after.
use Rattle.std.specs.Prelude.{◌≡◌, ℕ, List, ◌++◌, option_map}
use Rattle.xf_outside.specs.Account.{SinkAccount}

-- this text was put, and nothing else
abbrev pub Puts : SinkAccount → SinkAccount → List ℕ → Type 0
Puts before after text = after.bytes ≡ option_map (λ bytes. bytes ++ text) before.bytes

-- a first part of this text was put, which may be all of it or none, and nothing else
abbrev pub PutsPart : SinkAccount → SinkAccount → List ℕ → Type 0
PutsPart before after text = (part : List ℕ) × (rest : List ℕ) × (text ≡ part ++ rest) × Puts before after part
