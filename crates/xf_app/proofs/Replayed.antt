-- How far the replay of a session has come.
use Rattle.std.proofs.Common.{◌≡◌, ◌==◌, inl, inr, ℕ, ◌+◌, ◌<◌, ◌≤◌, Bool, true, false, cond, List, [], ◌∷◌, ◌++◌, length, fold, if◌then◌else◌, IfSome, Ok, Err, refl, sym, ap, subst, ◌∙◌, arith}
use Rattle.std.proofs.lemmas.Bool.Decides.{nat_tests}
use Rattle.std.specs.Str.Lines.{lines}
use Rattle.csv.specs.Reading.{strip_bom}
use Rattle.xf_app.proofs.Put.{part-more, puts-more, puts-nothing}
use Rattle.xf_app.proofs.Told.{told-both, told-each, told-map}
use Rattle.xf_app.specs.Due.{session_of}
use Rattle.xf_app.specs.Ends.{Advances, Counted, CountedLine, Follows, LeadsTo, NoDepotFault, NoSinkFault, Plays, Sides, line_text}
use Rattle.xf_app.specs.Page.{data_view}
use Rattle.xf_app.specs.Put.{Puts, PutsPart}
use Rattle.xf_app.specs.Run.{IsStopped}
use Rattle.xf_app.specs.declared.replay.Tally.{Tally}
use Rattle.xf_app.specs.declared.status.Status.{Status}
use Rattle.xf_app.specs.declared.status.Status.TheVariants as status
use Rattle.xf_model.proofs.ReplayedLines.{text-fold}
use Rattle.xf_model.specs.Replay.{Progress, beginning, progress_after, refusal_count, replay, state_after, step_count}
use Rattle.xf_outside.specs.Account.{Files, SinkAccount}
use Rattle.xf_outside.specs.Count.{RoseExactly}
use Rattle.xf_session.specs.Command.{command}
use Rattle.xf_session.specs.Outcome.{written}
use Rattle.xf_session.specs.State.{Session}

-- the session after one line more
abbrev pub next : Files → Progress Session → List ℕ → Progress Session
next files so_far line = progress_after (written data_view) so_far (command files so_far.state line)

-- a session that has come so far, where the depot tells these files: it stands at this state and these numbers, with these
-- lines left of those of the whole text, and what is written for it was put
pub record SoFar (files : Files) (start : Session) (text : List ℕ) (state : Session) (tally : Tally) (rest : List ℕ) (before now : SinkAccount) : Type 0 where
  pub progress : Progress Session
  pub stands : progress.state ≡ state
  pub number : progress.number ≡ tally.number
  pub refusals : progress.refusals ≡ tally.refusals
  pub left : fold (next files) progress (lines rest) ≡ replay (command files) (written data_view) start (lines text)
  pub put : Puts before now progress.text

-- and what the outside counted on the way, whatever it tells
pub record Going (start : Session) (bytes : List ℕ) (state : Session) (tally : Tally) (rest : List ℕ) (before now : Sides) : Type 0 where
  pub depot : NoDepotFault before now
  pub sink : NoSinkFault before now
  pub found : tally.refusals ≡ 0 → now.depot.misses ≡ before.depot.misses
  pub files : now.depot.files ≡ before.depot.files
  pub told : IfSome before.depot.files (λ files. SoFar files start (strip_bom bytes) state tally rest before.sink now.sink)
  pub room : tally.number + length rest ≤ length bytes
  pub few : tally.refusals ≤ tally.number

-- the beginning
so_far-start : (files : Files) (start : Session) (text : List ℕ) (sink : SinkAccount) → SoFar files start text start (record { number = 0; refusals = 0 }) text sink sink
so_far-start files start text sink = record {
  progress = beginning start;
  stands = refl;
  number = refl;
  refusals = refl;
  left = refl;
  put = puts-nothing sink;
}

pub going-start : (start : Session) (bytes rest : List ℕ) (now : Sides) → rest ≡ strip_bom bytes → length (strip_bom bytes) ≤ length bytes
    → Going start bytes start (record { number = 0; refusals = 0 }) rest now now
going-start start bytes rest now is short = let at_start : 0 + length (strip_bom bytes) ≤ length bytes = omega (arith, short) in record {
  depot = refl;
  sink = refl;
  found = λ none. refl;
  files = refl;
  told = told-each now.depot.files _ (λ files e. rw is (so_far-start files start (strip_bom bytes) now.sink));
  room = rw is at_start;
  few = omega arith;
}

-- what a line adds, where the session stands at this state and this number
text-next : (files : Files) (progress : Progress Session) (state : Session) (tally : Tally) (line : List ℕ) → progress.state ≡ state → progress.number ≡ tally.number
    → (next files progress line).text ≡ progress.text ++ line_text files state tally line
text-next files progress state tally line at number = rw (at, number) refl

-- a line more
so_far-more : (files : Files) (start : Session) (text : List ℕ) (state new : Session) (tally later : Tally) (rest line left : List ℕ) (before now after : SinkAccount)
    → SoFar files start text state tally rest before now → lines rest ≡ line ∷ lines left → LeadsTo files state tally line new later
    → Puts now after (line_text files state tally line) → SoFar files start text new later left before after
so_far-more files start text state new tally later rest line left before now after h cut leads put = record {
  progress = next files h.progress line;
  stands = ap (λ s. state_after s (command files s line)) h.stands ∙ sym leads.state;
  number = ap (λ s. h.progress.number + step_count (command files s line)) h.stands ∙ ap (λ n. n + step_count (command files state line)) h.number ∙ sym leads.number;
  refusals = ap (λ s. h.progress.refusals + refusal_count (command files s line)) h.stands ∙ ap (λ n. n + refusal_count (command files state line)) h.refusals ∙ sym leads.refusals;
  left = ap (fold (next files) h.progress) (sym cut) ∙ h.left;
  put = rw (text-next files h.progress state tally line h.stands h.number) (puts-more before now after h.progress.text (line_text files state tally line) h.put put);
}

pub going-more : (start : Session) (bytes : List ℕ) (state new : Session) (tally later : Tally) (rest line left : List ℕ) (before now after : Sides)
    → Going start bytes state tally rest before now → lines rest ≡ line ∷ lines left → length left < length rest
    → after.depot.files ≡ now.depot.files → Follows tally later → CountedLine tally later now after (Ok tt)
    → IfSome now.depot.files (λ files. Advances files state tally line new later now.sink after.sink (Ok tt))
    → Going start bytes new later left before after
going-more start bytes state new tally later rest line left before now after h cut shorter same follows counted told =
    let told_first = subst (λ o. IfSome o (λ files. Advances files state tally line new later now.sink after.sink (Ok tt))) h.files told in
    record {
      depot = counted.0 ∙ h.depot;
      sink = counted.1 ∙ h.sink;
      found = λ none. let zero : tally.refusals ≡ 0 = omega (arith, follows.stay, none) in counted.2 (none ∙ sym zero) ∙ h.found zero;
      files = same ∙ h.files;
      told = told-map before.depot.files _ _ (λ files both. so_far-more files start (strip_bom bytes) state new tally later rest line left before.sink now.sink after.sink both.0 cut both.1.0 both.1.1)
          (told-both before.depot.files _ _ h.told told_first);
      room = omega (arith, h.room, follows.number, shorter);
      few = follows.few;
    }

-- a first part of a line's text is a first part of all
part-line : (files : Files) (start : Session) (text : List ℕ) (state : Session) (tally : Tally) (rest line left : List ℕ) (before now after : SinkAccount)
    → SoFar files start text state tally rest before now → lines rest ≡ line ∷ lines left → PutsPart now after (line_text files state tally line)
    → PutsPart before after (replay (command files) (written data_view) start (lines text)).text
part-line files start text state tally rest line left before now after h cut part =
    let more = text-fold (command files) (written data_view) (next files h.progress line) (lines left) in
    let whole : (replay (command files) (written data_view) start (lines text)).text ≡ (h.progress.text ++ line_text files state tally line) ++ more.0 =
    ap (λ (p : Progress Session). p.text) (sym h.left ∙ ap (fold (next files) h.progress) cut) ∙ more.1 ∙ ap (λ t. t ++ more.0) (text-next files h.progress state tally line h.stands h.number) in
    rw whole (part-more before now after h.progress.text (line_text files state tally line) more.0 h.put part)

-- what was counted where a line stopped the session is what was counted in all
counted-all : (got : Status) (before now after : Sides) → IsStopped got → NoDepotFault before now → NoSinkFault before now → Counted got now after → Counted got before after
counted-all got before now after stopped depot sink h =
    elim stopped [
      | inl read ↦ let c = subst (λ g. Counted g now after) read h in
          subst (λ g. Counted g before after) (sym read) (subst (λ n. RoseExactly n after.depot.faults 1) depot c.0, c.1 ∙ sink)
      | inr later ↦ elim later [
        | inl wrote ↦ let c = subst (λ g. Counted g now after) wrote h in
            subst (λ g. Counted g before after) (sym wrote) (c.0 ∙ depot, subst (λ n. RoseExactly n after.sink.faults 1) sink c.1)
        | inr memory ↦ let c = subst (λ g. Counted g now after) memory h in
            subst (λ g. Counted g before after) (sym memory) (c.0 ∙ depot, c.1 ∙ sink)
      ]
    ]

-- a line that was not done, or whose text was not put whole, stops the session
pub stops-counted : (start : Session) (bytes : List ℕ) (state : Session) (tally later : Tally) (rest : List ℕ) (before now after : Sides) (got : Status)
    → Going start bytes state tally rest before now → CountedLine tally later now after (Err got) → Counted got before after
stops-counted start bytes state tally later rest before now after got h counted = counted-all got before now after counted.0 h.depot h.sink counted.1

pub stops-told : (start : Session) (bytes : List ℕ) (state new : Session) (tally later : Tally) (rest line left : List ℕ) (before now after : Sides) (got : Status)
    → Going start bytes state tally rest before now → lines rest ≡ line ∷ lines left → CountedLine tally later now after (Err got)
    → IfSome now.depot.files (λ files. Advances files state tally line new later now.sink after.sink (Err got))
    → IfSome before.depot.files (λ files. Plays files start bytes before.sink after.sink got)
stops-told start bytes state new tally later rest line left before now after got h cut counted told =
    let told_first = subst (λ o. IfSome o (λ files. Advances files state tally line new later now.sink after.sink (Err got))) h.files told in
    told-map before.depot.files _ _
    (λ files both. inr (counted.0, part-line files start (strip_bom bytes) state tally rest line left before.sink now.sink after.sink both.0 cut both.1))
    (told-both before.depot.files _ _ h.told told_first)

-- without a line left the session has come to its end
ends-so_far : (files : Files) (start : Session) (bytes : List ℕ) (state : Session) (tally : Tally) (rest : List ℕ) (before now : SinkAccount) (got : Status)
    → SoFar files start (strip_bom bytes) state tally rest before now → rest ≡ [] → got ≡ (if tally.refusals == 0 then status.Done else status.DoneWithRefusals)
    → Plays files start bytes before now got
ends-so_far files start bytes state tally rest before now got h none is =
    let end : h.progress ≡ session_of files start bytes = rw none at h.left in
    inl (rw (← end) (is ∙ ap (λ n. if n == 0 then status.Done else status.DoneWithRefusals) (sym h.refusals)), rw (← end) h.put)

pub ends-told : (start : Session) (bytes : List ℕ) (state : Session) (tally : Tally) (rest : List ℕ) (before now : Sides) (got : Status)
    → Going start bytes state tally rest before now → rest ≡ [] → got ≡ (if tally.refusals == 0 then status.Done else status.DoneWithRefusals)
    → IfSome before.depot.files (λ files. Plays files start bytes before.sink now.sink got)
ends-told start bytes state tally rest before now got h none is =
    told-map before.depot.files _ _ (λ files so_far. ends-so_far files start bytes state tally rest before.sink now.sink got so_far none is) h.told

ends-by : (start : Session) (bytes : List ℕ) (state : Session) (tally : Tally) (rest : List ℕ) (before now : Sides) (quiet : Bool)
    → Going start bytes state tally rest before now → (tally.refusals == 0) ≡ quiet → Counted (cond quiet status.Done status.DoneWithRefusals) before now
ends-by start bytes state tally rest before now true h is = let none : tally.refusals ≡ 0 = grind (arith, nat_tests) in (h.depot, h.sink, h.found none)
ends-by start bytes state tally rest before now false h is = (h.depot, h.sink)

pub ends-counted : (start : Session) (bytes : List ℕ) (state : Session) (tally : Tally) (rest : List ℕ) (before now : Sides) (got : Status)
    → Going start bytes state tally rest before now → got ≡ (if tally.refusals == 0 then status.Done else status.DoneWithRefusals) → Counted got before now
ends-counted start bytes state tally rest before now got h is =
    subst (λ g. Counted g before now) (sym is) (ends-by start bytes state tally rest before now (tally.refusals == 0) h refl)

-- how a session ends whose steps were not refused, or some of them were
pub done-by : (count : ℕ) → count ≡ 0 → status.Done ≡ (if count == 0 then status.Done else status.DoneWithRefusals)
done-by count none = rw none refl

pub refused-by : (count : ℕ) → (count ≡ 0 → ⊥) → status.DoneWithRefusals ≡ (if count == 0 then status.Done else status.DoneWithRefusals)
refused-by count some = let e : (count == 0) ≡ false = grind (arith, nat_tests) in rw e refl

-- a text that is empty has no line left
pub none-left : (rest : List ℕ) (empty : Bool) → empty ≡ (length rest == 0) → empty ≡ true → rest ≡ []
none-left [] empty e is = refl
none-left (byte ∷ rest) empty e is = let test : (length (byte ∷ rest) == 0) ≡ true = sym e ∙ is in absurd (grind (arith, nat_tests))
