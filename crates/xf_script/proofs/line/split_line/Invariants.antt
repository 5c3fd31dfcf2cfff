use Rattle.std.proofs.Common.{◌≡◌, length}
use denote.Text.{Utf8}
use denote.Shadow.{shadow}
use Rattle.xf_script.specs.Line.{split_of}
use Rattle.xf_script.proofs.Splits.{IsBegun, begun_split, with_words}
use Rattle.xf_script.proofs.line.split_line.Given as goal

-- the words so far and those of the rest, which begins with a word, are all words
abbrev pub invariant-loop-rest : goal.invariant-loop-rest
invariant-loop-rest l = shadow (Utf8 l.rest) × (split_of l.line ≡ with_words l.words (begun_split l.rest)) × IsBegun l.rest

abbrev pub decreases-loop-rest : goal.decreases-loop-rest
decreases-loop-rest l = length l.rest
