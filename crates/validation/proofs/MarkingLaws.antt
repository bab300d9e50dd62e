-- What is promised of a mark list, for every run: a rule that isn't accepted gets no marks, one that is accepted gets its own, each of which is read back
-- as it was written; what the scratch held before never matters to them, and under a widened schema they are the same.
use Rattle.std.specs.Prelude.{ℕ, ◌*◌, ◌≤◌, true, List, [], ◌≡◌, refl}
use Rattle.std.proofs.Common.{arith, sym, ◌∙◌, leb-true}
use Rattle.std.proofs.lemmas.Bool.{false≢true}
use Rattle.std.proofs.Math.Option.{Option, none, some}
use Rattle.std.proofs.Math.Path.{ap}
use Rattle.std.proofs.Math.ListN.{length}
use Rattle.std.proofs.Math.Seq.{sets}
use Rattle.definition.specs.Tree.{Rule}
use Rattle.definition.specs.Decode.{decode_rule}
use Rattle.buffer.specs.Bytes.{bytes_of}
use Rattle.buffer.specs.BytesLaws.{field-written, past-written}
use Rattle.widening.specs.Widening.{Level}
use Rattle.validation.specs.Result.{Takes, Call, mark_bytes, Answer, refused, accepted, defect, is_taken, early, of_settings, of_sheets, result_of, Unrefused, numbers_of, lent_of, call_of}
use Rattle.validation.proofs.RefusalLaws.{is_set, none-due, none-of-either}
use Rattle.validation.specs.Growth.{Widens}
use Rattle.validation.proofs.DemandLaws.{heard, number-accepted}
use Rattle.validation.proofs.Demands.{SameButScratch, has_room, same_answer, SameButSchema, demand-3}
use Rattle.validation.proofs.ServiceCallLaws.{accepted-unrefused}
use Rattle.validation.specs.Constant.{marks_in, marks_if, marks_heard}
use Rattle.validation.proofs.ConstantLaws.{marks-rise, marks-few, marks-small, marks-same}
use Rattle.validation.specs.Marking.{marks_by, MarkedRun, MeetsMarked, SameMarks, MarksStand}

-- A call, by its answer.

taken-some : (takes : Takes) (o : Option Rule) → is_taken takes o ≡ true → (r : Rule) × (o ≡ some r)
unfolding is_taken
taken-some takes none e = absurd (false≢true e)
taken-some takes (some r) e = (r, refl)

-- what is accepted is a rule or template
pub accepted-rule : (c : Call) (n : ℕ) → result_of c ≡ accepted n → (r : Rule) × (decode_rule c.asked.rule ≡ some r)
unfolding of_sheets
accepted-rule c n e =
    let sheets = none-due (of_sheets c) (none-of-either c (accepted-unrefused c n e)).1 in
    taken-some c.asked.takes (decode_rule c.asked.rule) (is_set _ sheets.1.0)

pub accepted-marks : (c : Call) (n : ℕ) (r : Rule) → result_of c ≡ accepted n → decode_rule c.asked.rule ≡ some r → marks_by c ≡ marks_in r
unfolding marks_by marks_heard marks_if
accepted-marks c n r e decodes = rw (e, decodes)

none-heard : (a : Answer) (r : Option Rule) → ((numbers_of a).number ≡ 0 → ⊥) → marks_heard a r ≡ []
unfolding numbers_of marks_heard
none-heard (refused n) r h = refl
none-heard (accepted n) r h = absurd (h refl)
none-heard (defect d) r h = refl

pub unaccepted-marks : (c : Call) → ((numbers_of (result_of c)).number ≡ 0 → ⊥) → marks_by c ≡ []
unfolding marks_by
unaccepted-marks c h = none-heard (result_of c) (decode_rule c.asked.rule) h

few-heard : (a : Answer) (sheet : List ℕ) (r : Option Rule) → decode_rule sheet ≡ r → 4 * length (marks_heard a r) ≤ mark_bytes
unfolding marks_heard marks_if
few-heard (refused n) sheet r e = omega arith
few-heard (accepted n) sheet none e = omega arith
few-heard (accepted n) sheet (some r) e = marks-few sheet r e
few-heard (defect d) sheet r e = omega arith

module _ (m : MarkedRun) (meets : MeetsMarked m) where
  -- every count is small
  pub count-few : 4 * m.count ≤ mark_bytes
  unfolding marks_by call_of
  count-few = rw meets.marks.counted (few-heard (result_of (call_of m.run)) m.run.asked.rule _ refl)

  pub unaccepted-kept : (m.run.result.number ≡ 0 → ⊥) → (m.count ≡ 0) × (m.marks ≡ m.marks_before)
  unfolding bytes_of
  unaccepted-kept h =
      let none-there = unaccepted-marks (call_of m.run) (rw meets.meets.result at h) in
      (rw none-there at meets.marks.counted, rw none-there at meets.marks.written)

  module _ (accepts : m.run.result.number ≡ 0) where
    acceptance : (n : ℕ) × (result_of (call_of m.run) ≡ accepted n)
    acceptance = number-accepted (heard (call_of m.run)) (rw meets.meets.result at accepts)

    -- its list was long enough
    roomy : mark_bytes ≤ length m.marks_before
    unfolding call_of lent_of early of_settings
    roomy =
        let unrefused = accepted-unrefused (call_of m.run) acceptance.0 acceptance.1 in
        let due = none-due (early (call_of m.run)) (none-of-either (call_of m.run) unrefused).0 in
        rw meets.lent at (leb-true mark_bytes m.run.marks_lent (is_set _ due.1.1.1.0))

    marks-stand : (r : Rule) → decode_rule m.run.asked.rule ≡ some r → MarksStand r m
    unfolding call_of
    marks-stand r decodes =
        let same = accepted-marks (call_of m.run) acceptance.0 r acceptance.1 decodes in
        let counted : m.count ≡ length (marks_in r) = meets.marks.counted ∙ ap length same in
        let written : m.marks ≡ sets m.marks_before 0 (bytes_of (marks_in r)) = rw same at meets.marks.written in
        let few = marks-few m.run.asked.rule r decodes in
        let room : 4 * length (marks_in r) ≤ length m.marks_before = omega (arith, roomy) in
        record {
          rise = marks-rise m.run.asked.rule r decodes;
          count = counted;
          reads = λ i less. rw written (field-written (marks_in r) m.marks_before room i (omega arith) (marks-small m.run.asked.rule r decodes));
          past = rw (counted, written) (past-written (marks_in r) m.marks_before room);
        }

    pub accepted-stand : (r : Rule) × (decode_rule m.run.asked.rule ≡ some r) × MarksStand r m
    unfolding call_of
    accepted-stand =
        let (r, decodes) = accepted-rule (call_of m.run) acceptance.0 acceptance.1 in
        (r, decodes, marks-stand r decodes)

-- Demand 1's companion: what the scratch held before never matters to the marks.
pub scratch-marks : (m m' : MarkedRun)
    → MeetsMarked m
    → MeetsMarked m'
    → SameButScratch m.run m'.run
    → has_room m.run ≡ has_room m'.run
    → m.marks_before ≡ m'.marks_before
    → (m.count ≡ m'.count) × (m.marks ≡ m'.marks)
unfolding marks_by call_of
scratch-marks m m' meets meets' s room before =
    let same : marks_by (call_of m.run) ≡ marks_by (call_of m'.run) = λ i. marks_heard (same_answer m.run m'.run s room i) (decode_rule (s.asked i).rule) in (
      meets.marks.counted ∙ ap length same ∙ sym meets'.marks.counted,
      meets.marks.written ∙ (λ i. sets (before i) 0 (bytes_of (same i))) ∙ sym meets'.marks.written,
    )

-- Two calls that accept one rule hand back the same marks, whatever their schemas, settings and tables are.
pub accepting-same : (m m' : MarkedRun)
    → MeetsMarked m
    → MeetsMarked m'
    → m.run.asked.rule ≡ m'.run.asked.rule
    → m.run.result.number ≡ 0
    → m'.run.result.number ≡ 0
    → SameMarks m m'
unfolding marks_by call_of
accepting-same m m' meets meets' rule accepts accepts' =
    let first = acceptance m meets accepts in
    let second = acceptance m' meets' accepts' in
    let same : marks_by (call_of m'.run) ≡ marks_by (call_of m.run) =
    marks-same (decode_rule m'.run.asked.rule) second.1 first.1
    ∙ ap (λ (sheet : List ℕ). marks_heard (result_of (call_of m.run)) (decode_rule sheet)) (sym rule)
    in
    record { marks = marks_by (call_of m.run); first = meets.marks; second = rw same at meets'.marks }

-- Demand 3's companion: a rule that is accepted under a schema has the same marks under a widening of it.
pub same-marks : {l : Level} (m m' : MarkedRun)
    → MeetsMarked m
    → MeetsMarked m'
    → SameButSchema m.run m'.run
    → Widens l m.run.schema m'.run.schema
    → Unrefused (call_of m.run)
    → Unrefused (call_of m'.run)
    → m.run.result.number ≡ 0
    → SameMarks m m'
same-marks m m' meets meets' s w n n' accepts =
    let fares = demand-3 m.run m'.run meets.meets meets'.meets s w n n' in
    accepting-same m m' meets meets' s.rule accepts (fares.accepts accepts).0
