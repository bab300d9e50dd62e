-- Two sheets: each way to the end of the search gives what the definitions say of it.
use Rattle.std.specs.Prelude.{Option, Some, None}
use Prim.Native.Nat.{ℕ, ◌+◌, ◌-◌, ◌≤◌, ◌<◌}
use native.Mathlib.Omega.{arith}
use mathlib.Core.Bool.{true, false}
use mathlib.Core.List.{List, [], ◌∷◌, ◌++◌}
use mathlib.Core.Option.{none}
use mathlib.Core.Path.{◌≡◌, refl, sym, ap, ◌∙◌}
use lib.ListN.{length, take, drop, replicate, get_or-replicate}
use lib.Seq.{sets, sets-eq, drop_at}
use Rattle.buffer.specs.Bytes.{bytes_of}
use Rattle.buffer.specs.Wrote.{Wrote}
use Rattle.buffer.specs.WroteLaws.{wrote-front}
use Rattle.definition.specs.Limits.{max_sheet_bytes}
use Rattle.definition.specs.Tree.{Schema}
use Rattle.definition.specs.Decode.{decode_schema}
use Rattle.definition.proofs.RoundTrip.{schema-round-trip, rule-round-trip}
use Rattle.reference.specs.Setting.{Setting}
use Rattle.schema.specs.Read.{SchemaAnswer}
use Rattle.schema.specs.declared.read.Schema as Code
use Rattle.rule.specs.Rule.{RuleIndexed, RuleAnswer}
use Rattle.rule.specs.declared.RuleSheet.{RuleSheet}
use Rattle.widening.specs.Opening.{is_in}
use Rattle.widening.proofs.OpeningLaws.{opened-none}
use Rattle.validation.specs.Openings.{max_marks, rising_to}
use Rattle.validation.proofs.RisingLaws.{rising-agree}
use Rattle.validation.proofs.RoundLaws.{fewest-found, fewest-missing}
use Rattle.validation.specs.Result.{path_bytes, KeptFrom}
use Rattle.validation.proofs.KeptLaws.{sets-kept}
use Rattle.single_check.specs.SheetLaws.{still_read, front-schema, front-rule, front-both}
use Rattle.call.specs.Call.{refused_by, if_told, numbers_with}
use Rattle.openings.specs.Call.{open_numbers, open_figures, or_no_marks}
use Rattle.openings.specs.Rounds.{is_marked, Stands, MarksFound, ListedIn}
use Rattle.openings.specs.Runs.{searched, MarksListed, SheetsOpened}
use Rattle.openings.proofs.RoundSteps.{no-mark}

module _ {setting : Setting} {s : Code.Schema} {rule sheet list before after marks : List ℕ} where
  pub marks-listed : {list' : List ℕ} {count : ℕ}
      → MarksFound setting s rule sheet (replicate max_marks 0) marks before after true
      → ListedIn marks list list' count
      → MarksListed setting s rule sheet list list' before after (0 ∷ 1 ∷ count ∷ [])
  unfolding numbers_with open_figures if_told or_no_marks
  marks-listed f l =
      record {
        front = f.front;
        answers = λ t x st.
            let e = f.ends t x [] st in
            let same : rising_to max_marks (is_marked marks) ≡ rising_to max_marks (is_in e.0) = rising-agree max_marks (is_marked marks) (is_in e.0) e.2 in
            rw (fewest-found setting t x e.0 e.1) (record {
              result = ap (λ (n : ℕ). 0 ∷ 1 ∷ n ∷ []) (l.counted ∙ ap length same);
              written = l.written ∙ ap (λ (set : List ℕ). sets list 0 (bytes_of set)) same;
            });
      }

  pub none-listed : MarksFound setting s rule sheet (replicate max_marks 0) marks before after false
      → MarksListed setting s rule sheet list list before after (0 ∷ 0 ∷ 0 ∷ [])
  unfolding numbers_with open_figures if_told or_no_marks bytes_of
  none-listed f =
      record {
        front = f.front;
        answers = λ t x st. rw (fewest-missing setting t x (f.ends t x [] st)) (record { result = refl; written = refl });
      }

-- Before the first round nothing is marked.

none-marked : (e : ℕ) → e < max_marks → is_marked (replicate max_marks 0) e ≡ is_in [] e
unfolding is_in
none-marked e low = no-mark (replicate max_marks 0) e (get_or-replicate max_marks e 0 0 low)

-- A copy at the start of the path buffer, and what may come in its place.

copied : {path_before path schema : List ℕ} {end : ℕ} → Wrote path_before path 0 schema end → length schema ≤ length path_before → drop end path ≡ drop end path_before
copied {path_before} {path} {schema} {end} w fits =
    let all : end ≡ length schema = omega (arith, w.ends) in
    let nothing : 0 + length schema ≡ end = omega arith in
    ap (drop end) (w.stands ∙ sets-eq schema path_before 0 (omega arith))
    ∙ drop_at schema (drop (0 + length schema) path_before) end (sym all)
    ∙ ap (λ (k : ℕ). drop k path_before) nothing

replaced : (sheet path_before : List ℕ) (end : ℕ) → length sheet ≡ end → end ≤ path_bytes → path_bytes ≤ length path_before → KeptFrom path_bytes path_before (sheet ++ drop end path_before)
replaced sheet path_before end same low room =
    let place : 0 + length sheet ≡ end = omega arith in
    let written : sets path_before 0 sheet ≡ sheet ++ drop end path_before = rw place at (sets-eq sheet path_before 0 (omega arith)) in
    rw written at (sets-kept path_bytes path_before sheet (omega arith) room)

module _ {setting : Setting} {schema rule path_before list before middle : List ℕ} {q : Option Code.Schema} (read : SchemaAnswer schema before middle q) where
  pub no-schema : {r : List ℕ}
      → q ≡ None
      → r ≡ open_numbers (refused_by 4)
      → SheetsOpened setting schema rule path_before path_before list list before middle r
  unfolding searched if_told
  no-schema b e =
      let bad : decode_schema schema ≡ none = rw b at read.answer in
      record {
        front = front-schema read.kept;
        answers = rw bad (record { result = e; written = refl });
        kept = rw bad refl;
      }

  module _ {s : Code.Schema} (g : q ≡ Some s) {after : List ℕ} {a : Option RuleSheet} (ruled : RuleAnswer rule middle after a) where
    pub no-rule : {r : List ℕ}
        → a ≡ None
        → r ≡ open_numbers (refused_by 5)
        → SheetsOpened setting schema rule path_before path_before list list before after r
    unfolding searched if_told
    no-rule b e =
        let good = rw g at read.answer in
        let bad = rw b at ruled in
        record {
          front = front-both (front-schema read.kept) (front-rule bad.1);
          answers = rw (good.reads, bad.0) (record { result = e; written = refl });
          kept = rw (good.reads, bad.0) refl;
        }

    module _ {x : RuleSheet} (h : a ≡ Some x) where
      pub sheets-listed : {path sheet rest list' after' r : List ℕ} {end : ℕ} (sheet' : List ℕ)
          → path_bytes ≤ length path_before
          → Wrote path_before path 0 schema end
          → sheet ≡ take (end - 0) path
          → rest ≡ drop (end - 0) path
          → length sheet' ≡ length sheet
          → MarksListed setting s rule sheet list list' after after' r
          → SheetsOpened setting schema rule path_before (sheet' ++ rest) list list' before after' r
      unfolding searched if_told
      sheets-listed {path} {sheet} {rest} {list'} {after'} {r} {end} sheet' room w part behind size l =
          let good = still_read schema (Some s) ruled-at.kept (rw g at read.answer) in
          let written = (schema-round-trip schema good.tree).0 good.reads in
          let short : length schema ≤ max_sheet_bytes = rw written.0 written.1.bytes in
          let rule-written = (rule-round-trip rule ruled-at.tree).0 ruled-at.reads in
          let all : end ≡ length schema = omega (arith, w.ends) in
          let front : take end path ≡ schema = wrote-front w (omega arith) in
          let whole : end - 0 ≡ end = omega arith in
          let same : sheet ≡ schema = part ∙ ap (λ (k : ℕ). take k path) whole ∙ front in
          let untouched : rest ≡ drop end path_before = behind ∙ ap (λ (k : ℕ). drop k path) whole ∙ copied w (omega arith) in
          let long : length sheet' ≡ end = size ∙ ap length same ∙ sym all in
          let stands : Stands rule good.tree ruled-at.tree s sheet (replicate max_marks 0) after [] =
          record {
            reads = rw (same, opened-none good.tree) good.reads;
            indexed = rw (same, opened-none good.tree) good.indexed;
            ruled = ruled-at.indexed;
            within = rule-written.1;
            small = rw rule-written.0 rule-written.1.bytes;
            marked = none-marked;
          } in
          record {
            front = front-both (front-both (front-schema read.kept) (front-rule ruled-at.kept)) l.front;
            answers = rw (good.reads, ruled-at.reads) (l.answers good.tree ruled-at.tree stands);
            kept = rw (good.reads, ruled-at.reads, untouched) (replaced sheet' path_before end long (omega arith) room);
          }
        where
          ruled-at : RuleIndexed rule middle after x
          ruled-at = rw h at ruled
