use Rattle.std.proofs.Common.{◌∙◌, Ok, Err, ap, map, refl, sym}
use Rattle.std.specs.Prelude.{string_bytes}
use Rattle.xf_app.proofs.RunFacts.{holds-fetched, missed-first, missed-second, run-no_board, run-no_session, run-played, run-refused, started}
use Rattle.xf_app.specs.Ends.{sides}
use Rattle.xf_app.specs.Run.{run_account}
use Rattle.xf_app.proofs.program.answer.Goals as goal

pub returns-in-Err-clause-meets : goal.returns-in-Err-clause-meets
returns-in-Err-clause-meets g c =
    let run = run_account (map string_bytes c.args.words.now) (g.D.Depot.account c.args.depot.now, g.S.Sink.account c.args.sink.now) (g.D.Depot.account c.fetch.new.self, g.S.Sink.account c.tell_unfetched.new.sink) in
    let told = c.in-Err.ensures in
    let missed = missed-first run c.in-Some.board_name.now c.in-Err.fault (λ e. told.absent (ap (λ fault. Err fault) e)) (λ e. told.too_long (ap (λ fault. Err fault) e)) told.faults told.misses in
    run-no_board run c.in-Some.board_name.now c.in-Some.session_name.now c.in-Err.fault c.tell_unfetched.result (sym c.in-Some.ensures) missed c.tell_unfetched.ensures

pub returns-in-Err-start_of-clause-meets : goal.returns-in-Err-start_of-clause-meets
returns-in-Err-start_of-clause-meets g c =
    let run = run_account (map string_bytes c.args.words.now) (g.D.Depot.account c.args.depot.now, g.S.Sink.account c.args.sink.now) (g.D.Depot.account c.fetch.new.self, g.S.Sink.account c.tell_refused.new.sink) in
    let first = c.in-Ok.ensures in
    let held = holds-fetched (g.D.Depot.account c.args.depot.now).files c.in-Some.board_name.now c.in-Ok.bytes.items first.fetched.0 first.fetched.1 in
    run-refused run c.in-Some.board_name.now c.in-Some.session_name.now c.in-Ok.bytes.items c.in-Err-start_of.refusal c.tell_refused.result (sym c.in-Some.ensures) held first.faults first.misses
    (rw c.as_slice.ensures.value at c.in-Err-start_of.ensures) c.tell_refused.ensures

pub returns-in-Err-fetch-clause-meets : goal.returns-in-Err-fetch-clause-meets
returns-in-Err-fetch-clause-meets g c =
    let run = run_account (map string_bytes c.args.words.now) (g.D.Depot.account c.args.depot.now, g.S.Sink.account c.args.sink.now) (g.D.Depot.account c.fetch-2.new.self, g.S.Sink.account c.tell_unfetched-in-Err-fetch.new.sink) in
    let first = c.in-Ok.ensures in
    let told = c.in-Err-fetch.ensures in
    let held = holds-fetched (g.D.Depot.account c.args.depot.now).files c.in-Some.board_name.now c.in-Ok.bytes.items first.fetched.0 first.fetched.1 in
    let made = started c.in-Some.board_name.now c.in-Ok.bytes.items c.in-Ok-start_of.start (rw c.as_slice.ensures.value at c.in-Ok-start_of.ensures) in
    let missed = missed-second run c.in-Some.session_name.now c.in-Err-fetch.fault (g.D.Depot.account c.fetch.new.self) first.tells first.faults first.misses first.taken_stay
    (λ e. told.absent (ap (λ fault. Err fault) e)) (λ e. told.too_long (ap (λ fault. Err fault) e)) told.faults told.misses in
    run-no_session run c.in-Some.board_name.now c.in-Some.session_name.now c.in-Ok.bytes.items c.in-Ok-start_of.start c.in-Err-fetch.fault c.tell_unfetched-in-Err-fetch.result (sym c.in-Some.ensures) held made missed c.tell_unfetched-in-Err-fetch.ensures

pub returns-clause-meets : goal.returns-clause-meets
returns-clause-meets g c =
    let run = run_account (map string_bytes c.args.words.now) (g.D.Depot.account c.args.depot.now, g.S.Sink.account c.args.sink.now) (g.D.Depot.account c.replay.new.depot, g.S.Sink.account c.replay.new.sink) in
    let first = c.in-Ok.ensures in
    let second = c.in-Ok-fetch.ensures in
    let held = holds-fetched (g.D.Depot.account c.args.depot.now).files c.in-Some.board_name.now c.in-Ok.bytes.items first.fetched.0 first.fetched.1 in
    let session_held = rw first.tells at (holds-fetched (g.D.Depot.account c.fetch.new.self).files c.in-Some.session_name.now c.in-Ok-fetch.session.items second.fetched.0 second.fetched.1) in
    let made = started c.in-Some.board_name.now c.in-Ok.bytes.items c.in-Ok-start_of.start (rw c.as_slice.ensures.value at c.in-Ok-start_of.ensures) in
    run-played run c.in-Some.board_name.now c.in-Some.session_name.now c.in-Ok.bytes.items c.in-Ok-fetch.session.items c.in-Ok-start_of.start c.replay.result
    (sides (g.D.Depot.account c.fetch-2.new.self) (g.S.Sink.account c.args.sink.now)) (sym c.in-Some.ensures) held session_held made
    (second.tells ∙ first.tells) (second.faults ∙ first.faults) (second.misses ∙ first.misses) refl c.replay.ensures.counted (rw c.as_slice-2.ensures.value at c.replay.ensures.told)
