-- The exit status of the program.
use Rattle.std.specs.Prelude.{ℕ}
use Rattle.xf_app.specs.declared.status.Status.{Status}
use Rattle.xf_app.specs.declared.status.Status.TheVariants as status

-- the number that tells how a run ended
abbrev pub exit_code : Status → ℕ
exit_code status.Done = 0
exit_code status.DoneWithRefusals = 1
exit_code status.Usage = 2
exit_code status.BoardRefused = 3
exit_code status.ReadFault = 4
exit_code status.WriteFault = 5
exit_code status.Memory = 6
exit_code status.Absent = 7
exit_code status.TooLong = 8
