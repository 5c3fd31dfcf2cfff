use Rattle.xf_base.proofs.ReadBackDates.{date_of-day_text}
use Rattle.xf_base.proofs.ReadBackNumbers.{number_of-fixed_text}
use Rattle.xf_base.proofs.laws.texts_read_back.Goals as goal

pub returns : goal.returns
returns c = record { days = date_of-day_text; numbers = number_of-fixed_text }
