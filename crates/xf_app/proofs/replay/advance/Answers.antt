use Rattle.std.proofs.Common.{◌∙◌}
use Rattle.xf_app.proofs.Put.{part-nothing}
use Rattle.xf_app.proofs.Stepped.{advances-put}
use Rattle.xf_app.proofs.Told.{told-both, told-each, told-map}
use Rattle.xf_app.proofs.replay.advance.Goals as goal
use Rattle.xf_app.specs.Ends.{line_text}

pub returns-in-Ok-2-clause-told : goal.returns-in-Ok-2-clause-told
returns-in-Ok-2-clause-told g c =
    told-map _ _ _ (λ files done. advances-put files c.args.session.now c.step.new.session c.args.tally.now c.step.new.tally c.args.line.now c.as_slice.result.now
    (g.S.Sink.account c.args.sink.now) (g.S.Sink.account c.put.new.sink) c.put.result done.0 (c.as_slice.ensures.value ∙ done.1) c.put.ensures.ok c.put.ensures.err)
    (told-both _ _ _ c.in-Ok-2.ensures.leads c.in-Ok-2.ensures.text)

pub returns-in-Err-ReadFault-clause-told : goal.returns-in-Err-ReadFault-clause-told
returns-in-Err-ReadFault-clause-told g c =
    told-each _ _ (λ files told. part-nothing (g.S.Sink.account c.args.sink.now) (line_text files c.args.session.now c.args.tally.now c.args.line.now))

pub returns-in-Err-OutOfMemory-clause-told : goal.returns-in-Err-OutOfMemory-clause-told
returns-in-Err-OutOfMemory-clause-told g c =
    told-each _ _ (λ files told. part-nothing (g.S.Sink.account c.args.sink.now) (line_text files c.args.session.now c.args.tally.now c.args.line.now))
