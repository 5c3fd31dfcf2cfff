use Rattle.std.proofs.Common.{◌≡◌, ◌∙◌, true, ap, subst, sym}
use Rattle.xf_engine.specs.State.{whole_named}
use Rattle.xf_reduce.specs.StockReducer.{stock_fits}
use Rattle.xf_session.proofs.EntryFields.{whole-fits, whole_reducer_in}
use Rattle.xf_session.specs.State.{Session}
use Rattle.xf_session.proofs.session.Session.whole_reducer.Goals as goal

pub returns-in-Ok : goal.returns-in-Ok
returns-in-Ok c =
    let cross = c.self.inside.cross in
    let id = c.args.id.0 in
    let own = c.in-Ok.reducer.now in
    record {
      reducer = sym c.in-Ok.ensures.reducer ∙ ap (λ (s : Session). whole_reducer_in (whole_named s.cross id)) c.self.view_is;
      fits = subst (λ (s : Session). stock_fits own s.cross.columns ≡ true) c.self.view_is
          (whole-fits cross.columns cross.wholes id own c.is_sound-sound.ensures.sound.whole_fit c.in-Ok.ensures.reducer);
    }

pub returns-in-Err : goal.returns-in-Err
returns-in-Err c =
    let id = c.args.id.0 in
    record {
      reducer = sym (ap whole_reducer_in c.in-Err.ensures.refused.1) ∙ ap (λ (s : Session). whole_reducer_in (whole_named s.cross id)) c.self.view_is;
      fits = tt;
    }
