-- What is promised of a whole call, for every run of it: three demands, each a statement with its proof.
-- `Meets r` says that the run r gave what the definitions say (specs/Result.antt); it is what the call ensures, with nothing required.
use Rattle.std.specs.Prelude.{ℕ, ◌≤◌, Bool, false, List, ◌≡◌, refl, length, leb}
use Rattle.std.proofs.Math.Option.{some}
use Rattle.std.proofs.Common.{ap, sym, ◌∙◌, le-leb}
use Rattle.definition.specs.Tree.{Schema, Rule}
use Rattle.definition.specs.Decode.{decode_schema, decode_rule}
use Rattle.reference.specs.Table.{table_in}
use Rattle.widening.specs.Widening.{Level, marks}
use Rattle.validation.specs.Check.{IsDefect}
use Rattle.validation.specs.Result.{scratch_words, Defect, Answer, defect, IsRefusal, is_of_sheets, Heard, refusal, acceptance, finding, setting_for, of_settings, early, of_sheets, refusals, Unrefused, checked, result_of, numbers_of, path_after, kept_scratch, ScratchAfter, Run, lent_of, call_of, Meets}
use Rattle.validation.proofs.RefusalLaws.{refusal-some, refusal-no-defect}
use Rattle.validation.specs.Growth.{against_by, Widens, SameFinding}
use Rattle.validation.proofs.DemandLaws.{heard, unrefused-answer, answers-by-checks, AnswersFare, results-fare, number-accepted, number-defect, passed-number, Gives, meets-gives, same-acceptance, same-finding, same-passed}

-- Demand 1: whatever is handed over, the caller hears acceptance, a defect or one of the refusals (`refusal_numbers`); a refusal leaves the path buffer
-- unchanged, as acceptance does; and what the scratch held before never matters.

pub record Demand1 (r : Run) : Type 0 where
  pub hears : (a : Answer) × Heard a × (r.result ≡ numbers_of a)
  pub keeps : (IsDefect r.result.number → ⊥) → r.path ≡ r.path_before
  -- all refusals but those of the sheets come before any sheet is read
  pub spares : IsRefusal r.result.number → is_of_sheets r.result.number ≡ false → r.scratch ≡ r.scratch_before

-- two runs that differ in the scratch alone: in how long it is, in what it held before, and in what it holds after
pub record SameButScratch (r r' : Run) : Type 0 where
  pub asked : r.asked ≡ r'.asked
  pub table : r.table ≡ r'.table
  pub schema : r.schema ≡ r'.schema
  pub path_before : r.path_before ≡ r'.path_before
  pub marks_lent : r.marks_lent ≡ r'.marks_lent

-- whether the scratch is long enough
abbrev pub has_room : Run → Bool
has_room r = leb scratch_words (length r.scratch_before)

pub record Demand1Scratch (r r' : Run) : Type 0 where
  pub result : r.result ≡ r'.result
  pub path : r.path ≡ r'.path

pub keeps-path : {a : Answer} (before : List ℕ) → Heard a → (IsDefect (numbers_of a).number → ⊥) → path_after a before ≡ before
unfolding numbers_of path_after
keeps-path before (refusal p) h = refl
keeps-path before acceptance h = refl
keeps-path before (finding d) h = absurd (h d)

pub spares-scratch : {a : Answer} {before after : List ℕ}
    → Heard a
    → ScratchAfter a before after
    → IsRefusal (numbers_of a).number
    → is_of_sheets (numbers_of a).number ≡ false
    → after ≡ before
unfolding numbers_of kept_scratch
spares-scratch (refusal p) s l h = rw h at s.kept
spares-scratch acceptance s l h = absurd (refusal-some 0 l refl)
spares-scratch (finding {d = x} d) s l h = absurd (refusal-no-defect x.number l d)

pub demand-1 : (r : Run) → Meets r → Demand1 r
demand-1 r m =
    record {
      hears = (result_of (call_of r), heard (call_of r), m.result);
      keeps = λ h. m.path ∙ keeps-path r.path_before (heard (call_of r)) (rw m.result at h);
      spares = λ l h. spares-scratch (heard (call_of r)) m.scratch (rw m.result at l) (rw m.result at h);
    }

pub same_answer : (r r' : Run) → SameButScratch r r' → has_room r ≡ has_room r' → result_of (call_of r) ≡ result_of (call_of r')
unfolding call_of lent_of result_of refusals early of_settings of_sheets
same_answer r r' s room = rw (s.asked, s.table, s.schema, s.path_before, s.marks_lent, room) refl

pub demand-1-scratch : (r r' : Run) → SameButScratch r r' → has_room r ≡ has_room r' → Meets r → Meets r' → Demand1Scratch r r'
demand-1-scratch r r' s room m m' =
    let same = same_answer r r' s room in
    record {
      result = m.result ∙ ap numbers_of same ∙ sym m'.result;
      path = m.path ∙ (λ i. path_after (same i) (s.path_before i)) ∙ sym m'.path;
    }

-- so a scratch of 4,096 elements serves as well as any longer one
pub lean-scratch : (r r' : Run)
    → SameButScratch r r'
    → scratch_words ≤ length r.scratch_before
    → scratch_words ≤ length r'.scratch_before
    → Meets r
    → Meets r'
    → Demand1Scratch r r'
lean-scratch r r' s enough enough' = demand-1-scratch r r' s (le-leb _ _ enough ∙ sym (le-leb _ _ enough'))

-- The path of every defect has room in a buffer that is not refused, and every check of the list has a way from the root to its place, so that no defect
-- goes by the label alone for want of one: `path-length` and `checks-have-paths` (crate `defect_path`, specs/LengthLaws and specs/PathLaws).

-- Demand 2, its proved half: for two sheets that meet none of the refusals the answer is that of the check list (specs/Check.antt,
-- specs/Judge.antt), its numbers and its path. That acceptance, family, detail and path are the Rust's is shown by the differential runs.

pub record Demand2 (r : Run) (s : Schema) (t : Rule) : Type 0 where
  pub result : r.result ≡ numbers_of (checked (setting_for (call_of r)) r.asked.label s t)
  pub path : r.path ≡ path_after (checked (setting_for (call_of r)) r.asked.label s t) r.path_before

pub demand-2 : (r : Run) (s : Schema) (t : Rule)
    → Meets r
    → decode_schema r.schema ≡ some s
    → decode_rule r.asked.rule ≡ some t
    → Unrefused (call_of r)
    → Demand2 r s t
unfolding call_of
demand-2 r s t m e e' n =
    record {
      result = rw (answers-by-checks (call_of r) s t e e' n) at m.result;
      path = rw (answers-by-checks (call_of r) s t e e' n) at m.path;
    }

-- Demand 3: one rule or template under the same settings, checked against two schemas of which the second is a widening of the first, with
-- whatever buffers, neither call refused. `marks` stands for schemas that differ at most in open marks gone from 0 to 1, with arguments in both or in neither.

-- two runs of any two functions under tables of one meaning, which differ at most in the schema, in which rule sheets each function takes, and in what the
-- buffers hold and how long they are
pub record SameButSchema (r r' : Run) : Type 0 where
  pub kind : r.asked.kind ≡ r'.asked.kind
  pub semantics : r.asked.semantics ≡ r'.asked.semantics
  pub label : r.asked.label ≡ r'.asked.label
  pub rule : r.asked.rule ≡ r'.asked.rule
  pub table : table_in r.table ≡ table_in r'.table

pub record Demand3 (l : Level) (r r' : Run) : Type 0 where
  -- if the first call accepts, so does the second, with the same passed count
  pub accepts : r.result.number ≡ 0 → (r'.result.number ≡ 0) × (r'.result.passed ≡ r.result.passed)
  -- if the first finds a defect, the passed count of the second is at least that of the first
  pub passes : IsDefect r.result.number → r.result.passed ≤ r'.result.passed
  -- if in this case the two counts are equal, the second finds a defect too, with the same number, family, path, place and over place
  pub repeats : IsDefect r.result.number → r'.result.passed ≡ r.result.passed → SameFinding r r'
  -- and its detail is the same as well where only open marks differ
  pub explains : l ≡ marks → IsDefect r.result.number → r'.result.passed ≡ r.result.passed → r'.result.detail ≡ r.result.detail

runs-fare : {l : Level} {a a' : Answer} (r r' : Run) → Gives r a → Gives r' a' → AnswersFare l a a' → Demand3 l r r'
unfolding numbers_of
runs-fare {l} {a} {a'} r r' g g' f = record { accepts = accepts; passes = passes; repeats = repeats; explains = explains }
  where
    found : IsDefect r.result.number → (d : Defect) × (a ≡ defect d)
    found h = number-defect g.hears (rw g.result at h)

    accepts : r.result.number ≡ 0 → (r'.result.number ≡ 0) × (r'.result.passed ≡ r.result.passed)
    accepts e =
        let (n, same) = number-accepted g.hears (rw g.result at e) in
        same-acceptance r r' n g g' same (f.accepts n same)

    passes : IsDefect r.result.number → r.result.passed ≤ r'.result.passed
    passes h =
        let (d, same) = found h in
        rw (g.result, g'.result, passed-number a', same) (f.passes d same)

    repeats : IsDefect r.result.number → r'.result.passed ≡ r.result.passed → SameFinding r r'
    repeats h p =
        let (d, same) = found h in
        let (d', same', alike) = f.repeats d same (same-passed r r' d g g' same p) in
        same-finding r r' d d' g g' same same' alike

    explains : l ≡ marks → IsDefect r.result.number → r'.result.passed ≡ r.result.passed → r'.result.detail ≡ r.result.detail
    explains m h p =
        let (d, same) = found h in
        let q = same-passed r r' d g g' same p in
        let (d', same', alike) = f.repeats d same q in
        rw (g.result, g'.result, same, same') (f.explains m d d' same same' (rw same' at q))

second_call : {r r' : Run} → SameButSchema r r' → call_of r' ≡ against_by r'.asked.takes (call_of r) r'.table r'.schema (lent_of r')
unfolding call_of against_by
second_call {r' = r'} s = λ i.
    record {
      asked =
          record {
            takes = r'.asked.takes;
            kind = sym s.kind i;
            semantics = sym s.semantics i;
            label = sym s.label i;
            rule = sym s.rule i;
          };
      table = r'.table;
      schema = r'.schema;
      lent = lent_of r';
    }

pub demand-3 : {l : Level} (r r' : Run)
    → Meets r
    → Meets r'
    → SameButSchema r r'
    → Widens l r.schema r'.schema
    → Unrefused (call_of r)
    → Unrefused (call_of r')
    → Demand3 l r r'
unfolding call_of
demand-3 r r' m m' s w n n' =
    runs-fare r r' (meets-gives r m) (rw (second_call s) at (meets-gives r' m'))
    (results-fare r'.asked.takes (call_of r) r'.table r'.schema (lent_of r') s.table w
    (unrefused-answer (call_of r) n)
    (rw (second_call s) at (unrefused-answer (call_of r') n')))
