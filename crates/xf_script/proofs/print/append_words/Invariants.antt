use Rattle.std.proofs.Common.{take}
use Rattle.xf_filter.specs.Words.{Appends}
use Rattle.xf_script.proofs.print.append_words.Given as goal

abbrev pub invariant-loop-word : goal.invariant-loop-word
invariant-loop-word l = Appends l.fn.out.items l.out.items (take l.word-index l.words)
