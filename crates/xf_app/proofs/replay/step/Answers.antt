use Rattle.std.proofs.Common.{inl, arith, ◌≡◌}
use Rattle.xf_app.proofs.Stepped.{reply-leads, reply-put, unrefused-found}
use Rattle.xf_app.proofs.Told.{told-each}
use Rattle.xf_app.specs.Ends.{reply_refusals}
use Rattle.xf_app.proofs.replay.step.Goals as goal

pub returns-clause-found : goal.returns-clause-found
returns-clause-found g c = λ same.
    let none : reply_refusals c.in_ok-reply.reply ≡ 0 = omega (arith, same, c.count.ensures.refusals) in
    c.in_ok-reply.ensures.counted.found (unrefused-found c.in_ok-reply.reply none)

pub returns-clause-leads : goal.returns-clause-leads
returns-clause-leads g c = told-each _ _ (λ files told.
    let does = c.in_ok-reply.ensures.command files (inl told) in
    reply-leads files c.args.session.now c.apply.new.self c.args.tally.now c.count.new.self c.args.line.now c.in_ok-reply.reply does.0 does.1 c.count.ensures.number c.count.ensures.refusals)

pub returns-clause-text : goal.returns-clause-text
returns-clause-text g c = told-each _ _ (λ files told.
    let does = c.in_ok-reply.ensures.command files (inl told) in
    reply-put files c.args.session.now c.apply.new.self c.args.tally.now c.args.line.now c.in_ok-reply.reply c.clear.new.self.items c.put_step.new.out.items c.put_view_after.new.out.items
    does.0 does.1 c.clear.ensures.items c.in_ok-put_step.ensures.ok c.in_ok-put_view_after.ensures.ok)
