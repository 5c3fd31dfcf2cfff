use Rattle.std.proofs.Common.{Ok, rules}
use Rattle.xf_session.proofs.Performed.{loaded_as, loaded_somewhere, performed_done, performed_load, performed_somewhere}
use Rattle.xf_session.specs.Asked.{Performs}
use Rattle.xf_session.specs.Does.{no_files}
use Rattle.xf_session.specs.declared.apply.Performed.TheVariants as performed
use Rattle.xf_session.proofs.session.Session.perform.Goals as goal

pub returns-in-Ok-Done-clause-command : goal.returns-in-Ok-Done-clause-command
returns-in-Ok-Done-clause-command g c =
    let did : Performs c.args.form c.args.self.now c.perform_within.new.self (Ok (performed.Done c.in-Ok-Done.reply)) = rw c.in-Ok-Done.field-0-is at c.in-Ok-Done.ensures in
    performed_done (g.D.Depot.account c.args.depot.now).files c.args.form c.args.self.now c.perform_within.new.self c.in-Ok-Done.reply did

pub returns-in-Ok-Asks-clause-command : goal.returns-in-Ok-Asks-clause-command
returns-in-Ok-Asks-clause-command g c =
    let asks : Performs c.args.form c.args.self.now c.perform_within.new.self (Ok (performed.Asks c.in-Ok-Asks.file)) = rw c.in-Ok-Asks.field-0-is at c.in-Ok-Asks.ensures in
    performed_load (g.D.Depot.account c.args.depot.now).files c.args.form c.in-Ok-Asks.file c.args.self.now c.perform_within.new.self c.load.new.self c.load.result asks c.load.ensures.command

pub returns-in-Ok-Asks-clause-loads : goal.returns-in-Ok-Asks-clause-loads
returns-in-Ok-Asks-clause-loads g c = λ file is.
    let asks : Performs c.args.form c.args.self.now c.perform_within.new.self (Ok (performed.Asks c.in-Ok-Asks.file)) = rw c.in-Ok-Asks.field-0-is at c.in-Ok-Asks.ensures in
    loaded_as c.args.self.now c.perform_within.new.self (g.D.Depot.account c.args.depot.now) (g.D.Depot.account c.load.new.depot) c.load.result asks.1 c.load.ensures.loads c.load.ensures.absent c.load.ensures.too_long

pub returns-in-Ok-Done-clause-some_files : goal.returns-in-Ok-Done-clause-some_files
returns-in-Ok-Done-clause-some_files g c =
    let did : Performs c.args.form c.args.self.now c.perform_within.new.self (Ok (performed.Done c.in-Ok-Done.reply)) = rw c.in-Ok-Done.field-0-is at c.in-Ok-Done.ensures in
    performed_somewhere c.args.form c.args.self.now c.perform_within.new.self c.in-Ok-Done.reply did

pub returns-in-Ok-Asks-clause-some_files : goal.returns-in-Ok-Asks-clause-some_files
returns-in-Ok-Asks-clause-some_files g c =
    let asks : Performs c.args.form c.args.self.now c.perform_within.new.self (Ok (performed.Asks c.in-Ok-Asks.file)) = rw c.in-Ok-Asks.field-0-is at c.in-Ok-Asks.ensures in
    loaded_somewhere c.args.form c.in-Ok-Asks.file c.args.self.now c.perform_within.new.self c.load.new.self c.load.result asks c.load.ensures.some_files

pub returns-in-Err-clause-some_files : goal.returns-in-Err-clause-some_files
returns-in-Err-clause-some_files g c = (no_files, search rules)
