-- The calls by which a field comes or goes: each way to an end of one gives what the definitions say of it.
use Rattle.std.specs.Prelude.{Result, Ok, Err}
use Prim.Native.Nat.{ℕ, ◌+◌, ◌*◌, ◌≤◌}
use native.Mathlib.Omega.{arith}
use mathlib.Core.Bool.{Bool, true, false, not, ◌||◌}
use mathlib.Core.List.{List, [], ◌∷◌, ◌++◌}
use mathlib.Core.Option.{Option, none, some}
use mathlib.Core.Path.{◌≡◌, refl, sym, ap, ap₂, subst, ◌∙◌}
use lib.ListN.{length, take, drop}
use lib.Seq.{sets, sets-eq}
use Rattle.buffer.specs.Wrote.{Wrote}
use Rattle.buffer.specs.WroteLaws.{wrote_kept, wrote-front}
use Rattle.definition.specs.Limits.{max_sheet_bytes}
use Rattle.definition.specs.Tree.{Text, Schema}
use Rattle.definition.specs.Decode.{decode_schema}
use Rattle.definition.specs.Write.{write_schema}
use Rattle.definition.proofs.RoundTrip.{schema-round-trip}
use Rattle.call.specs.Call.{first_refusal, refused_by, told, refused_or, heard_by, if_told, numbers_with}
use Rattle.validation.specs.Check.{is_none}
use Rattle.validation.specs.Result.{path_bytes, scratch_words, of_table, KeptFrom}
use Rattle.validation.proofs.RefusalLaws.{first-none, number-some}
use Rattle.validation.proofs.KeptLaws.{kept-both, sets-kept}
use Rattle.single_check.specs.SheetLaws.{front-both}
use Rattle.field_changes.specs.Change.{is_there, removed}
use Rattle.field_changes.proofs.SmallerLaws.{removed-small}
use Rattle.field_changes.specs.Draft.{Change, removing, name_of, changed}
use Rattle.schema_edits.specs.Place.{PlaceOf, GoesFrom}
use Rattle.schema_edits.specs.Edit.{Puts, Removes}
use Rattle.schema_edits.specs.EditLaws.{puts-sheet, sheet-fits, removed-good}
use Rattle.drafts.specs.Lent.{LentRule, rules_lent, is_any, Given, going, change_of}
use Rattle.drafts.specs.DraftCalls.{DraftCall, StepCall, sheet_in, schema_in, is_malformed, early_refusals, is_twice, is_missing, outgrows, of_both, change_refusals, step_refusals, stepped_records, Drafted, step_in, step_tells, draft_figures, step_answer, draft_numbers, MeetsStep}
use Rattle.drafts.specs.Drafting.{draft_of, step_run_of}
use Rattle.drafts.specs.Reading.{EarlyOf, marks_of, marked_records, sheet_refusals, SheetsRead, SheetsChecked, FieldRemoved}
use Rattle.drafts.proofs.LentSteps.{lent-count}
use Rattle.drafts.proofs.CallSteps.{PassedEarly, passed-early, heard-front, heard-behind, same_kept, front_kept, sheet-short, schema-there, marked-stepped}

-- The edit, by a copy.

pub removed-from : {before after path₀ path sheet copy : List ℕ} {size at end n next : ℕ}
    → sheet ≡ take size before
    → Wrote path₀ path 0 sheet n
    → copy ≡ take n path
    → Removes before after copy at end next
    → FieldRemoved before after size at end path₀ path next
removed-from {before} {after} {path₀} {path} {sheet} {copy} {size} {at} {end} {n} {next} is w part r =
    record {
      len = r.len;
      size_path = wrote_kept w;
      puts =
          λ t reads room wide name goes.
          let short : length sheet ≤ max_sheet_bytes = sheet-short sheet t (ap decode_schema is ∙ reads) in
          let same : copy ≡ take size before = part ∙ wrote-front w (omega arith) ∙ is in
          let good = removed-good (take size before) t reads name in (
            r.puts t (ap decode_schema same ∙ reads) name (subst (λ (l : List ℕ). GoesFrom l at end name t) (sym same) goes) (sheet-fits (removed name t) good room),
            subst (λ (l : List ℕ). KeptFrom path_bytes path₀ l) (sym w.stands) (sets-kept path_bytes path₀ sheet (omega arith) wide),
          );
    }

marks-count : (name : Text) (rules : List LentRule) → length (marks_of name rules) ≡ length rules
unfolding marks_of
marks-count name [] = refl
marks-count name (r ∷ rules) = omega (arith, marks-count name rules)

-- Any step.

module _ (heads texts table : List ℕ) (given : Given) (buffer : List ℕ) (size : ℕ) (records₀ path₀ before : List ℕ) where
  abbrev pub call : DraftCall
  call = draft_of heads texts table buffer size records₀ path₀ before

  abbrev pub step : StepCall
  step = record { draft = call; given = given }

  abbrev pub Early : ℕ → Type 0
  Early n = EarlyOf heads texts table (length buffer) (length records₀) (length path₀) (length before) n

  step-refused : {n : ℕ} {r path after : List ℕ} → step_answer step ≡ refused_by n → r ≡ draft_numbers (refused_by n) → KeptFrom path_bytes path₀ path → KeptFrom scratch_words before after
      → MeetsStep (step_run_of heads texts table given buffer size records₀ path₀ before r buffer records₀ path after)
  unfolding if_told
  step-refused a q p s = record { result = rw a q; buffers = rw a (refl, (refl, (p, (s, tt)))) }

  pub step-early : {n : ℕ} {r : List ℕ} → Early n → (n ≡ 0 → ⊥) → r ≡ draft_numbers (refused_by n)
      → MeetsStep (step_run_of heads texts table given buffer size records₀ path₀ before r buffer records₀ path₀ before)
  unfolding step_refusals
  step-early {n} e h q =
      step-refused (heard-front (early_refusals call) _ _ n (number-some n _ (e.first call refl refl refl refl refl) h)) q (same_kept path_bytes path₀) (same_kept scratch_words before)

  module _ {n : ℕ} (e : Early n) (z : n ≡ 0) where
    pub passes : PassedEarly call
    passes = passed-early call (sym z ∙ e.first call refl refl refl refl refl)

    module _ (change : Change) (is-change : change_of given ≡ some change) {sheet : List ℕ} (is : sheet ≡ take size buffer)
        {marks₀ marks middle : List ℕ} {m : ℕ} (s : SheetsRead (name_of change) (rules_lent heads texts) sheet marks₀ marks before middle m) where
      answer : step_answer step ≡ heard_by (sheet_refusals sheet (rules_lent heads texts) ++ change_refusals (some change) (decode_schema sheet)) (step_in call (some change) (decode_schema sheet))
      unfolding step_refusals step_tells schema_in sheet_in is_none
      answer = heard-behind (early_refusals call) _ _ passes.unrefused ∙ rw (is, is-change) refl

      pub step-sheets : {r path : List ℕ} → (m ≡ 0 → ⊥) → r ≡ draft_numbers (refused_by m) → KeptFrom path_bytes path₀ path
          → MeetsStep (step_run_of heads texts table given buffer size records₀ path₀ before r buffer records₀ path middle)
      step-sheets h q p = step-refused (answer ∙ heard-front (sheet_refusals sheet (rules_lent heads texts)) _ _ m (number-some m _ s.heard h)) q p (front_kept s.front)

      module _ (y : m ≡ 0) where
        pub there : (t : Schema) × (decode_schema sheet ≡ some t) × (is_any is_malformed (rules_lent heads texts) ≡ false)
        there = schema-there sheet (rules_lent heads texts) (sym y ∙ s.heard)

        pub by-change : (t : Schema) → decode_schema sheet ≡ some t → step_answer step ≡ heard_by (change_refusals (some change) (some t)) (step_in call (some change) (some t))
        unfolding is_none
        by-change t reads =
            answer
            ∙ heard-behind (sheet_refusals sheet (rules_lent heads texts)) _ _ (first-none (sheet_refusals sheet (rules_lent heads texts)) (rw reads refl, (there.2, tt)))
            ∙ ap (λ (o : Option Schema). heard_by (change_refusals (some change) o) (step_in call (some change) o)) reads

        pub change-refused : {k : ℕ} {r path : List ℕ} → step_answer step ≡ refused_by k → r ≡ draft_numbers (refused_by k) → KeptFrom path_bytes path₀ path
            → MeetsStep (step_run_of heads texts table given buffer size records₀ path₀ before r buffer records₀ path middle)
        change-refused a q p = step-refused a q p (front_kept s.front)

        pub step-done : (t : Schema) {next : ℕ} {buffer_now path_now sheet' records path after : List ℕ}
            → length marks₀ ≡ 16
            → step_answer step ≡ told (step_in call (some change) (some t))
            → decode_schema (write_schema (changed change t)) ≡ some (changed change t)
            → Puts buffer buffer_now (changed change t) next
            → KeptFrom path_bytes path₀ path_now
            → sheet' ≡ take next buffer_now
            → SheetsChecked (rules_lent heads texts) table sheet' marks records₀ records path_now path middle after
            → MeetsStep (step_run_of heads texts table given buffer size records₀ path₀ before (0 ∷ next ∷ []) buffer_now records path after)
        unfolding if_told step_in draft_figures numbers_with
        step-done t {next} {buffer_now} {path_now} {sheet'} {records} {path} {after} sixteen a good puts copied part k =
            let p = passes in
            let rules = rules_lent heads texts in
            let new : sheet' ≡ write_schema (changed change t) = part ∙ puts-sheet puts (sheet-fits (changed change t) good p.buffer) in
            let room : path_bytes ≤ length path_now = omega (arith, p.path, copied.size) in
            let put = k.put (first-none (of_table table) p.table) room p.labelled in
            let fit : 0 + length (marks_of (name_of change) rules) ≤ length marks₀ = omega (arith, marks-count (name_of change) rules, p.few) in
            let marked : marks ≡ marks_of (name_of change) rules ++ drop (0 + length (marks_of (name_of change) rules)) marks₀ = s.marked y ∙ sets-eq (marks_of (name_of change) rules) marks₀ 0 fit in
            let all = marked-stepped call p.wide p.table (name_of change) (write_schema (changed change t)) rules (drop (0 + length (marks_of (name_of change) rules)) marks₀) records₀ p.set p.labelled in
            record {
              result = rw a (ap (λ (l : ℕ). 0 ∷ l ∷ []) puts.ends);
              buffers =
                  rw a (
                    put.0 ∙ ap (sets records₀ 0) (ap₂ (λ (l ms : List ℕ). marked_records table l rules ms records₀) new marked ∙ all),
                    (puts.stands, (kept-both copied put.1, (front_kept (front-both s.front k.front), tt))),
                  );
            }

-- A field goes.

module _ (heads texts table name buffer : List ℕ) (size : ℕ) (records₀ path₀ before : List ℕ)
    {n : ℕ} (e : EarlyOf heads texts table (length buffer) (length records₀) (length path₀) (length before) n) (z : n ≡ 0)
    {sheet : List ℕ} (is : sheet ≡ take size buffer)
    {marks₀ marks middle : List ℕ} {m : ℕ} (s : SheetsRead name (rules_lent heads texts) sheet marks₀ marks before middle m) where
  named : SheetsRead (name_of (removing name)) (rules_lent heads texts) sheet marks₀ marks before middle m
  unfolding name_of
  named = s

  given_is : change_of (going name) ≡ some (removing name)
  unfolding change_of
  given_is = refl

  pub remove-sheets : {r : List ℕ} → (m ≡ 0 → ⊥) → r ≡ draft_numbers (refused_by m)
      → MeetsStep (step_run_of heads texts table (going name) buffer size records₀ path₀ before r buffer records₀ path₀ middle)
  remove-sheets h q = step-sheets heads texts table (going name) buffer size records₀ path₀ before e z (removing name) given_is is named h q (same_kept path_bytes path₀)

  module _ (y : m ≡ 0) {found : Result (ℕ × ℕ) ℕ} (f : PlaceOf sheet name found) where
    pub remove-missing : {at : ℕ} {r : List ℕ} → found ≡ Err at → r ≡ draft_numbers (refused_by 41)
        → MeetsStep (step_run_of heads texts table (going name) buffer size records₀ path₀ before r buffer records₀ path₀ middle)
    unfolding change_refusals of_both is_twice is_missing heard_by first_refusal refused_or
    remove-missing {at} g q =
        let (t, reads, formed) = there heads texts table (going name) buffer size records₀ path₀ before e z (removing name) given_is is named y in
        let missing = ((subst (PlaceOf sheet name) g f) t reads).missing in
        let a : step_answer (step heads texts table (going name) buffer size records₀ path₀ before) ≡ refused_by 41 = by-change heads texts table (going name) buffer size records₀ path₀ before e z (removing name) given_is is named y t reads ∙ rw missing refl in
        change-refused heads texts table (going name) buffer size records₀ path₀ before e z (removing name) given_is is named y a q (same_kept path_bytes path₀)

    module _ {at end : ℕ} (g : found ≡ Ok (at, end)) {next : ℕ} {buffer_now path_now : List ℕ} (d : FieldRemoved buffer buffer_now size at end path₀ path_now next) where
      pub remove-done : {sheet' records path after : List ℕ}
          → length marks₀ ≡ 16
          → sheet' ≡ take next buffer_now
          → SheetsChecked (rules_lent heads texts) table sheet' marks records₀ records path_now path middle after
          → MeetsStep (step_run_of heads texts table (going name) buffer size records₀ path₀ before (0 ∷ next ∷ []) buffer_now records path after)
      unfolding change_refusals of_both is_twice is_missing outgrows changed heard_by first_refusal refused_or
      remove-done {sheet'} {records} {path} {after} sixteen part k =
          let (t, reads, formed) = there heads texts table (going name) buffer size records₀ path₀ before e z (removing name) given_is is named y in
          let goes = (subst (PlaceOf sheet name) g f) t reads in
          let p = passes heads texts table (going name) buffer size records₀ path₀ before e z in
          let old : decode_schema (take size buffer) ≡ some t = ap decode_schema (sym is) ∙ reads in
          let (puts, copied) = d.puts t old p.buffer p.path name (subst (λ (l : List ℕ). GoesFrom l at end name t) is goes) in
          let small = removed-small name t ((schema-round-trip sheet t).0 reads).1 in
          let a : step_answer (step heads texts table (going name) buffer size records₀ path₀ before) ≡ told (step_in (call heads texts table (going name) buffer size records₀ path₀ before) (some (removing name)) (some t)) = by-change heads texts table (going name) buffer size records₀ path₀ before e z (removing name) given_is is named y t reads ∙ rw (goes.there, small) refl in
          step-done heads texts table (going name) buffer size records₀ path₀ before e z (removing name) given_is is named y t sixteen a (removed-good sheet t reads name) puts copied part k

      -- the new sheet is within its limit
      pub next_small : next ≤ max_sheet_bytes
      next_small =
          let (t, reads, formed) = there heads texts table (going name) buffer size records₀ path₀ before e z (removing name) given_is is named y in
          let goes = (subst (PlaceOf sheet name) g f) t reads in
          let p = passes heads texts table (going name) buffer size records₀ path₀ before e z in
          let old : decode_schema (take size buffer) ≡ some t = ap decode_schema (sym is) ∙ reads in
          let (puts, copied) = d.puts t old p.buffer p.path name (subst (λ (l : List ℕ). GoesFrom l at end name t) is goes) in
          let short = sheet-short (write_schema (removed name t)) (removed name t) (removed-good sheet t reads name) in
          omega (arith, puts.ends)
