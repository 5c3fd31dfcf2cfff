use Rattle.xf_filter.proofs.ReadBack.{reads_back}
use Rattle.xf_filter.proofs.print.print_filter.Goals as goal

pub returns-then-is_err-clause-read : goal.returns-then-is_err-clause-read
returns-then-is_err-clause-read c = reads_back c.args.filter.now c.parts.ensures.filtering

pub returns-else-is_err-clause-read : goal.returns-else-is_err-clause-read
returns-else-is_err-clause-read c = reads_back c.args.filter.now c.parts.ensures.filtering
