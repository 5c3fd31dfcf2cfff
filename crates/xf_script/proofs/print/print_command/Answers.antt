use Rattle.xf_script.proofs.LineAgain.{line_of_command}
use Rattle.xf_script.proofs.print.print_command.Goals as goal

pub returns-in_err-append_command-clause-read : goal.returns-in_err-append_command-clause-read
returns-in_err-append_command-clause-read c = line_of_command c.args.command.now c.form.ensures.command

pub returns-clause-read : goal.returns-clause-read
returns-clause-read c = line_of_command c.args.command.now c.form.ensures.command
