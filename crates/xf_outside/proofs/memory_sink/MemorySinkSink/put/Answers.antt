-- What a failing call keeps is a first part of its text.
use Rattle.std.proofs.Common.{sym, ap, Some, take, drop}
use Rattle.std.proofs.lemmas.List.{take-append-drop}
use Rattle.xf_outside.proofs.memory_sink.MemorySinkSink.put.Goals as goal

pub returns-in_ok-extend_from_slice-in-Some-clause-partly :
    goal.returns-in_ok-extend_from_slice-in-Some-clause-partly
returns-in_ok-extend_from_slice-in-Some-clause-partly c =
    (take c.in-Some.kept c.args.text.now, drop c.in-Some.kept c.args.text.now, sym (take-append-drop c.in-Some.kept c.args.text.now), ap Some (cc (c.in_ok-extend_from_slice-in-Some.ensures.items, c.first_bytes.ensures, ap (λ t. t.bytes) c.self.view_is)))
