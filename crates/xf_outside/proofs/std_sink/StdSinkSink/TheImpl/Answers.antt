-- A sink that tells no bytes meets what its trait says of them, whatever the answer is.
use Rattle.std.proofs.Common.{◌≡◌, ℕ, List, [], Option, Result, Ok, Err, None, refl, sym, append-nil, arith}
use Rattle.std.specs.Prelude.{OnOk, OnErr, IsOkUnless}
use Rattle.xf_outside.specs.Count.{CountsError, FaultsAfterPut}
use Rattle.xf_outside.specs.Prefix.{AppendsPrefix}
use Rattle.xf_outside.specs.declared.sink.PutFault.{PutFault}
use Rattle.xf_outside.specs.declared.sink.PutFault.TheVariants as put
use Rattle.xf_outside.proofs.std_sink.StdSinkSink.TheImpl.Goals as goal

untold : {X : Type 0} (result : Result X PutFault) → OnOk result (◌≡◌ {A = Option (List ℕ)} None None)
untold (Ok nothing) = refl
untold (Err fault) = tt

untold-prefix : {X : Type 0} (result : Result X PutFault) (text : List ℕ) → OnErr result (AppendsPrefix None None text)
untold-prefix (Ok nothing) text = tt
untold-prefix (Err fault) text = (text, [], sym (append-nil text), refl)

faults-after : {X : Type 0} (result : Result X PutFault) (before now : ℕ) → CountsError result before now → IsOkUnless result put.Failed → FaultsAfterPut result before now
faults-after (Ok nothing) before now counts failed = counts
faults-after (Err put.Failed) before now counts failed = (omega arith, omega arith)
faults-after (Err put.OutOfMemory) before now counts failed = absurd (cc)

pub put-tells : goal.put-tells
put-tells g c = record {
  put = untold c.result;
  partly = untold-prefix c.result c.args.text.now;
  faults = faults-after c.result c.args.self.now.faults c.new.self.now.faults c.ensures.faults c.ensures.failed;
}
