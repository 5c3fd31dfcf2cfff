-- What the value of any part of the stock means, and for which rows it is ready.
use Rattle.std.specs.Prelude.{⊤, List}
use Rattle.xf_base.specs.declared.cell.Cell.{Cell}
use Rattle.xf_reduce.specs.Number.{number_at}
use Rattle.xf_reduce.specs.Tallies.{HasTally, numbers_in}
use Rattle.xf_reduce.specs.declared.simple.Simple.{Simple}
use Rattle.xf_reduce.specs.declared.simple.Simple.TheVariants.{Count, Sum, SumCount, SumSquares, Spread}
use Rattle.xf_reduce.specs.declared.simple.SimpleMeaning.{SimpleMeaning}
use Rattle.xf_reduce.specs.declared.simple.SimpleValue.{SimpleValue}

abbrev pub simple_meaning : SimpleValue → SimpleMeaning
simple_meaning value = record { squares = value.squares; numbers = numbers_in value.numbers }

-- only a spread takes memory for a row
abbrev pub IsSimpleReady : Simple → SimpleValue → List Cell → Type 0
IsSimpleReady Count value row = ⊤
IsSimpleReady (Sum place) value row = ⊤
IsSimpleReady (SumCount place) value row = ⊤
IsSimpleReady (SumSquares place) value row = ⊤
IsSimpleReady (Spread place) value row = HasTally value.numbers (number_at place row)
