use Rattle.std.proofs.Common.{◌≡◌, ◌∙◌, true, ap, subst, sym}
use Rattle.xf_engine.specs.State.{group_named}
use Rattle.xf_reduce.specs.StockReducer.{stock_fits}
use Rattle.xf_session.proofs.EntryFields.{found-fits, reducer_in}
use Rattle.xf_session.specs.State.{Session}
use Rattle.xf_session.proofs.session.Session.group_reducer.Goals as goal

pub returns-in-Ok : goal.returns-in-Ok
returns-in-Ok c =
    let cross = c.self.inside.cross in
    let id = c.args.id.0 in
    let own = c.in-Ok.reducer.now in
    record {
      reducer = sym c.in-Ok.ensures.reducer ∙ ap (λ (s : Session). reducer_in (group_named s.cross id)) c.self.view_is;
      fits = subst (λ (s : Session). stock_fits own s.cross.columns ≡ true) c.self.view_is
          (found-fits cross.columns cross.groups id own c.is_sound-sound.ensures.sound.group_fit c.in-Ok.ensures.reducer);
    }

pub returns-in-Err : goal.returns-in-Err
returns-in-Err c =
    let id = c.args.id.0 in
    record {
      reducer = sym (ap reducer_in c.in-Err.ensures.refused.1) ∙ ap (λ (s : Session). reducer_in (group_named s.cross id)) c.self.view_is;
      fits = tt;
    }
