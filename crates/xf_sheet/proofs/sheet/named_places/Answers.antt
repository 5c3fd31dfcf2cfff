-- A name is taken where it is a text, and was not in the set.
use Rattle.std.proofs.Common.{◌≡◌, ◌∙◌, ◌<◌, ◌++◌, [], ◌∷◌, ℕ, Vec, Global, false, cond, not, length, take, sym, ap, append-nil, arith}
use Rattle.std.specs.List.{list_any}
use Rattle.std.specs.Str.{bytes_eq, is_utf8}
use Rattle.std.proofs.lemmas.Bool.{and_from, and_left, and_right}
use Rattle.csv.specs.Records.{fields_of}
use Rattle.xf_sheet.specs.Sheet.{is_named}
use Rattle.xf_sheet.proofs.SheetFacts.{named-all, named-more, names-more, text-test}
use Rattle.xf_sheet.proofs.sheet.named_places.Goals as goal
use Rattle.xf_sheet.proofs.sheet.named_places.Goals.{then-is_new+then-is_ok+in_ok-push, else-is_new, else-is_new-via-then-is_new+else-is_ok, else-is_new-via-else-is_new}

pub loop-place-preserved : goal.loop-place-preserved
loop-place-preserved c =
    let header = fields_of c.args.header.now in
    let i = c.loop-place.place in
    let name = c.field_of-name.result.now in
    let within : i < length header = omega arith in
    let new : not (list_any (bytes_eq name) (take i header)) ≡ c.in_ok-is_new.is_new = sym (c.in_ok-is_new.ensures.added ∙ ap not (c.loop-place.invariant.names c.field_of-name.result)) in
    let is : c.if-is_new.places.items ≡ c.loop-place.places.items ++ cond (is_named header (i, name)) (i ∷ []) [] = elim c.if-is_new.branch [
      | then-is_new+then-is_ok+in_ok-push w ↦
          let text = text-test _ w.from_utf8.result name w.is_ok.result w.from_utf8.ensures.cases w.is_ok.ensures.value in
          let is = and_from (is_utf8 name) (not (list_any (bytes_eq name) (take i header))) (text ∙ w.if-is_ok.true) (new ∙ w.if-is_new.true) in
          rw is (ap (λ (places : Vec ℕ Global). places.items) w.places-is ∙ w.in_ok-push.ensures.items)
      | else-is_new w ↦
          let is : is_named header (i, name) ≡ false = elim w.else-is_new.branch [
            | else-is_new-via-then-is_new+else-is_ok v ↦
                and_left (is_utf8 name) (not (list_any (bytes_eq name) (take i header))) (text-test _ v.from_utf8.result name v.is_ok.result v.from_utf8.ensures.cases v.is_ok.ensures.value ∙ v.if-is_ok.false)
            | else-is_new-via-else-is_new v ↦ and_right (is_utf8 name) (not (list_any (bytes_eq name) (take i header))) (new ∙ v.if-is_new.false)
          ] in
          rw is (ap (λ (places : Vec ℕ Global). places.items) w.places-is ∙ sym (append-nil c.loop-place.places.items))
    ] in
    record {
      places = is ∙ ap (λ ys. ys ++ cond (is_named header (i, name)) (i ∷ []) []) c.loop-place.invariant.places ∙ sym (named-more header i name within c.field_of-name.ensures);
      names = λ q. names-more header i c.field_of-name.result q _ _ within c.field_of-name.ensures (c.loop-place.invariant.names q) (c.in_ok-is_new.ensures.updates.0 q);
    }

pub returns : goal.returns
returns c = c.loop-place.invariant.places ∙ named-all (fields_of c.args.header.now) c.loop-place.place (omega arith)
