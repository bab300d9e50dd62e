-- The whole call: each way to its end gives what the definitions say of the call and its message.
use Rattle.std.specs.Prelude.{Option as Optional, Some, None, Ok, Err}
use Prim.Native.Nat.{ℕ, zero, suc, ◌+◌, ◌*◌, ◌≤◌, ◌<◌, max}
use native.Mathlib.Omega.{arith}
use mathlib.Core.Bool.{Bool, true, false, not, cond}
use mathlib.Core.List.{List, []}
use mathlib.Core.Option.{Option, none, some}
use mathlib.Core.Path.{◌≡◌, refl, ap, sym, ◌∙◌}
use lib.ListN.{length}
use borrow.Author.Tests.{le-leb}
use Rattle.definition.specs.Tree as Tree
use Rattle.definition.specs.Limits.{max_condition_nesting}
use Rattle.definition.specs.Tree.{Text, Condition, literal, many, negation, one, two, comparison, quantifier, Conditions, no_conditions, condition, Rule, rule, template}
use Rattle.definition.specs.Within.{condition_nesting, conditions_nesting, RuleFits, SchemaWithin}
use Rattle.definition.specs.Decode.{decode_schema, decode_rule}
use Rattle.definition.proofs.RoundTrip.{schema-round-trip, rule-round-trip}
use Rattle.reference.specs.Setting as Reference
use Rattle.reference.specs.Setting.{kernel}
use Rattle.reference.specs.Table.{table_in, setting_under, or_stock}
use Rattle.buffer.specs.Bytes.{bytes_of}
use Rattle.schema.specs.Read.{SchemaIs, SchemaAt, SchemaAnswer}
use Rattle.schema.specs.declared.read.Schema.{Schema}
use Rattle.rule.specs.Index.{RuleAt}
use Rattle.walk.specs.declared.answer.Reader.TheVariants.{Kernel}
use Rattle.scope.specs.Scopes.{chain_of, ChainAt, Unbound}
use Rattle.scope.specs.ScopeLaws.{scope-unbound}
use Rattle.scope.specs.declared.binder.Scope.{Scope}
use Rattle.validation.specs.Check.{is_none, IsDefect, depth, depth_of_conditions, checks}
use Rattle.validation.specs.Judge.{Verdict, all_pass, fails_at, judge}
use Rattle.validation.specs.Result as Result
use Rattle.validation.specs.Result.{Call, Heard, refusal, acceptance, finding, is_taken, mark_bytes, Numbers, of_settings, of_sheets, refusals, first_refusal, setting_for, answer_of, checked, judged, numbers_of, path_after, result_of, call_of}
use Rattle.validation.proofs.RefusalLaws.{early-refused, settings-refused, settings-none, marks-refused, table-decides, sheets-first}
use Rattle.validation.proofs.DemandLaws.{heard}
use Rattle.validation.specs.Constant.{marks_heard}
use Rattle.validation.specs.Marking.{marks_by}
use Rattle.validation.proofs.MarkingLaws.{count-few}
use Rattle.constants.specs.Marks.{RuleMarked}
use Rattle.message.specs.Message.{depth_in, message_of}
use Rattle.message.specs.Explaining.{message_in, unless_refused, message_by, fits, MessageIs, MeetsExplained}
use Rattle.message.proofs.ExplainingLaws.{accepted-unsaid, refused-unsaid}
use Rattle.message.proofs.ShortLaws.{message-short}
use Rattle.single_check.specs.Outcomes.{numbers_by}
use Rattle.single_check.specs.Settings.{setting_by, call_by, EarlyIs, SettledIs}
use Rattle.single_check.specs.Sheets.{takes_of, taken_of, sheet_answer, SheetChecked}
use Rattle.single_check.specs.SheetLaws.{still_read, sheets-decide}
use Rattle.single_check.specs.Runs.{lent_run_of, MeetsIndexed}
use Rattle.single_check.specs.declared.settings.Setting.{Setting as CodeSetting}
use Rattle.single_check.specs.declared.sheets.Takes.{Takes}
use Rattle.single_check.specs.declared.outcome.Outcome.{Outcome}
use Rattle.single_check.proofs.WholeSteps.{meets-sheets, unmarked, marked}
use Rattle.explained_check.specs.Runs.{explained_run_of}
use Rattle.explained_check.specs.Saying.{SaidOf}
use Rattle.explained_check.specs.declared.Explained.{Explained}
use Rattle.explained_check.specs.declared.Said.{Said}

-- beside these numbers nothing is said
abbrev quiet : Outcome → (count : ℕ) → Explained
quiet o count = record { report = record { outcome = o; marks = count }; refusal = 0; size = 0 }

nothing_said : {m : Text} (before : List ℕ) → m ≡ [] → MessageIs m before before 0 0
unfolding fits
nothing_said before e =
    let room = le-leb 0 (length before) (omega arith) in
    rw e (record { sized = refl; refused = rw room; written = rw room })

-- only a defect says something
silent : (c : Call) {a : Result.Answer} → Heard a → result_of c ≡ a → (IsDefect (numbers_of a).number → ⊥) → message_by c ≡ []
unfolding numbers_of
silent c (refusal {n} p) e h = refused-unsaid c n e
silent c (acceptance {n = n}) e h = accepted-unsaid c n e
silent c (finding f) e h = absurd (h f)

no-message : (c : Call) {n : ℕ} → n ≡ (numbers_of (result_of c)).number → (IsDefect n → ⊥) → message_by c ≡ []
no-message c e h = silent c (heard c) refl (rw e at h)

no_words : (o : Option ℕ) → unless_refused o [] ≡ []
unfolding unless_refused
no_words none = refl
no_words (some n) = refl

-- no binders, and no deeper than conditions nest

none-bound : (sheet other words : List ℕ) (n : ℕ) (bs : List ℕ) → ChainAt sheet other words (chain_of n bs) [] → n ≡ 0
unfolding chain_of
none-bound sheet other words zero bs h = refl
none-bound sheet other words (suc n) bs h = absurd h

mutual
  unfolding depth depth_of_conditions condition_nesting conditions_nesting

  depth-nests : (c : Condition) → depth c ≡ condition_nesting c
  depth-nests (literal e truth) = refl
  depth-nests (many e op children) = ap (λ (n : ℕ). 1 + n) (depths-nest children)
  depth-nests (negation e child) = ap (λ (n : ℕ). 1 + n) (depth-nests child)
  depth-nests (one e op v) = refl
  depth-nests (two e op left right) = refl
  depth-nests (comparison e which left right) = refl
  depth-nests (quantifier e op bind over body) = ap (λ (n : ℕ). 1 + n) (depth-nests body)

  depths-nest : (cs : Conditions) → depth_of_conditions cs ≡ conditions_nesting cs
  depths-nest no_conditions = refl
  depths-nest (condition c others) = λ i. max (depth-nests c i) (depths-nest others i)

nests-so : (x : Rule) → RuleFits x → depth_in x ≤ max_condition_nesting
unfolding depth_in
nests-so (rule name message assert) h = rw (depth-nests assert) h.2
nests-so (template v) h = omega arith

-- The message of a defect that the check list found.

module _ {schema sheet words : List ℕ} {scope : Scope} {kind : ℕ} {o : Outcome} {before after : List ℕ} {r : Said} (said : SaidOf schema sheet words scope kind o before after r)
    (set : CodeSetting) {s : Schema} (u : Unbound set.row set.service Kernel s scope) (setting : Reference.Setting) (same : setting_by set ≡ setting) (label : List ℕ)
    (t : Tree.Schema) (at : SchemaAt schema words s t) (sound : SchemaWithin t) (found : 11 ≤ o.number)
  where
    by-verdict : (x : Rule) (v : Verdict)
        → decode_rule sheet ≡ some x
        → RuleAt sheet words x
        → judge setting t (checks setting x) ≡ v
        → numbers_by o ≡ numbers_of (answer_of setting label x v)
        → MessageIs (message_of kind setting t x v) before after r.refusal r.size
    unfolding answer_of numbers_of
    by-verdict x (all_pass n) decodes rat e q = let z = ap (λ (n : Numbers). n.number) q in absurd (omega arith)
    by-verdict x (fails_at passed c why) decodes rat e q =
        let k : setting.reader ≡ kernel = sym (ap (λ (x : Reference.Setting). x.reader) same) in
        let written = (rule-round-trip sheet x).0 decodes in
        let stands = scope-unbound schema sheet words set.row set.service Kernel s scope setting t (rw written.0 written.1.bytes) u
        (ap (λ (x : Reference.Setting). x.is_service) same)
        (ap (λ (x : Reference.Setting). x.may_read) same)
        (ap (λ (x : Reference.Setting). x.reader) same)
        at
        in
        said.says setting t x passed c why stands
        (none-bound schema sheet words scope.count scope.binders stands.binders.chain)
        k rat written.1.numbers (nests-so x written.1.fits) e
        (ap (λ (n : Numbers). n.number) q)
        (ap (λ (n : Numbers). n.detail) q)
        (ap (λ (n : Numbers). n.place) q)
        (message-short kind setting t x passed c why k sound written.1 e)

    by-sheets : (takes : Result.Takes) (x : Option Rule)
        → decode_rule sheet ≡ x
        → ((y : Rule) → decode_rule sheet ≡ some y → RuleAt sheet words y)
        → numbers_by o ≡ numbers_of (judged setting label (some t) (taken_of takes x))
        → MessageIs (unless_refused (cond (not (is_taken takes x)) (some 5) none) (message_in kind setting (some t) x)) before after r.refusal r.size
    unfolding judged taken_of numbers_of message_in checked unless_refused
    by-sheets takes none e stands q = let z = ap (λ (n : Numbers). n.number) q in absurd (omega arith)
    by-sheets takes (some x) e stands q = either (is_taken takes (some x)) q
      where
        either : (b : Bool)
            → numbers_by o ≡ numbers_of (judged setting label (some t) (cond b (some x) none))
            → MessageIs (unless_refused (cond (not b) (some 5) none) (message_of kind setting t x (judge setting t (checks setting x)))) before after r.refusal r.size
        either true q = by-verdict x (judge setting t (checks setting x)) e (stands x e) refl q
        either false q = let z = ap (λ (n : Numbers). n.number) q in absurd (omega arith)

module _ (takes : Takes) (kind semantics : ℕ) (label table schema sheet path_before marks_before message_before before : List ℕ) where
  abbrev call : Call
  call = call_by (takes_of takes) kind semantics label table schema sheet (length path_before) (length marks_before) (length before)

  -- the run that ends so
  abbrev Ends : Explained → (path marks message after : List ℕ) → Type 0
  Ends r path marks message after = MeetsExplained (explained_run_of takes kind semantics label table schema sheet path_before marks_before message_before before r path marks message after)

  ends-refused : {n : ℕ} {o : Outcome} {r : Explained}
      → result_of call ≡ Result.refused n
      → numbers_by o ≡ numbers_of (Result.refused n)
      → r ≡ quiet o 0
      → Ends r path_before marks_before message_before before
  unfolding call_of path_after numbers_of marks_by marks_heard bytes_of
  ends-refused {n} refused q e =
      rw e
      (record {
        meets =
            record {
              meets = record { result = rw refused q; path = rw refused; scratch = record { size = refl; kept = refl } };
              lent = refl;
              marks = rw refused (record { counted = refl; written = refl });
            };
        message = nothing_said message_before (refused-unsaid call n refused);
      })

  pub ends-early : {n : ℕ} {o : Outcome} {r : Explained}
      → EarlyIs kind semantics label (length path_before) (length before) n
      → (n ≡ 0 → ⊥)
      → numbers_by o ≡ numbers_of (Result.refused n)
      → r ≡ quiet o 0
      → Ends r path_before marks_before message_before before
  ends-early {n} e h q u = ends-refused (settings-refused call n (e.first (takes_of takes) sheet) h) q u

  module _ {n : ℕ} (e : EarlyIs kind semantics label (length path_before) (length before) n) (z : n ≡ 0) where
    settings-pass : first_refusal (of_settings call.asked call.lent.widths) ≡ none
    settings-pass = settings-none _ _ (sym z ∙ e.first (takes_of takes) sheet)

    pub ends-marks : {o : Outcome} {r : Explained} → length marks_before < mark_bytes → numbers_by o ≡ numbers_of (Result.refused 35) → r ≡ quiet o 0 → Ends r path_before marks_before message_before before
    ends-marks short q u = ends-refused (marks-refused call settings-pass short) q u

    module _ (enough : mark_bytes ≤ length marks_before) where
      pub ends-table : {m : ℕ} {o : Outcome} {r : Explained}
          → SettledIs kind semantics table (Err m)
          → numbers_by o ≡ numbers_of (Result.refused m)
          → r ≡ quiet o 0
          → Ends r path_before marks_before message_before before
      ends-table {m} t q u = ends-refused (early-refused call m (table-decides call settings-pass enough ∙ t)) q u

      module _ (s : CodeSetting) {middle after path : List ℕ} {read : Optional Schema} {o : Outcome}
          (t : SettledIs kind semantics table (Ok s)) (p : SchemaAnswer schema before middle read)
          (c : SheetChecked takes (setting_by s) label schema read sheet path_before path middle after o)
        where
          checks-so : MeetsIndexed (lent_run_of takes kind semantics label table schema sheet path_before (length marks_before) before o path after)
          checks-so = meets-sheets takes kind semantics label table schema sheet path_before (length marks_before) before e z enough s t p c

          numbers-so : numbers_by o ≡ numbers_of (result_of call)
          unfolding call_of
          numbers-so = checks-so.meets.result

          pub few-marks : {marks : List ℕ} {count : ℕ} → o.number ≡ 0 → RuleMarked sheet after marks_before marks count → 4 * count ≤ mark_bytes
          few-marks accepts written = count-few _ (marked takes kind semantics label table schema sheet path_before marks_before before checks-so accepts written)

          pub ends-accepted : {marks : List ℕ} {count : ℕ} {r : Explained}
              → o.number ≡ 0
              → RuleMarked sheet after marks_before marks count
              → r ≡ quiet o count
              → Ends r path marks message_before after
          unfolding call_of
          ends-accepted accepts written u =
              rw u
              (record {
                meets = marked takes kind semantics label table schema sheet path_before marks_before before checks-so accepts written;
                message = nothing_said message_before (no-message call (ap (λ (n : Numbers). n.number) numbers-so) (λ d. omega (arith, d.low)));
              })

          module _ (rejects : o.number ≡ 0 → ⊥) where
            ends-quiet : {r : Explained} → message_by call ≡ [] → r ≡ quiet o 0 → Ends r path marks_before message_before after
            unfolding call_of
            ends-quiet none-there u =
                rw u
                (record {
                  meets = unmarked takes kind semantics label table schema sheet path_before marks_before before checks-so rejects;
                  message = nothing_said message_before none-there;
                })

            pub ends-unread : {r : Explained} → read ≡ None → r ≡ quiet o 0 → Ends r path marks_before message_before after
            unfolding message_by message_in
            ends-unread bad u =
                let none-there : decode_schema schema ≡ none = rw bad at p.answer in
                ends-quiet (rw none-there (no_words (first_refusal (refusals call)))) u

            pub ends-unsaid : {r : Explained} → o.number < 11 → r ≡ quiet o 0 → Ends r path marks_before message_before after
            ends-unsaid less u = ends-quiet (no-message call (ap (λ (n : Numbers). n.number) numbers-so) (λ d. omega (arith, d.low))) u

            pub ends-said : {x : Schema} {scope : Scope} {message : List ℕ} {said : Said}
                → read ≡ Some x
                → 11 ≤ o.number
                → Unbound s.row s.service Kernel x scope
                → SaidOf schema sheet after scope kind o message_before message said
                → Ends (record { report = record { outcome = o; marks = 0 }; refusal = said.refusal; size = said.size }) path marks_before message after
            unfolding call_of message_by sheet_answer of_sheets first_refusal is_none
            ends-said {x} good found u said =
                let read-so = still_read schema (Some x) c.kept (rw good at p.answer) in
                let none-due = table-decides call settings-pass enough ∙ t.0 in
                let decided = sheets-decide call none-due in
                let sound = ((schema-round-trip schema read-so.tree).0 read-so.reads).1 in
                let stands = rw good at c.stands in
                record {
                  meets = unmarked takes kind semantics label table schema sheet path_before marks_before before checks-so rejects;
                  message =
                      rw (sheets-first call none-due, read-so.reads)
                      (by-sheets said s u (setting_for call) t.1 label read-so.tree read-so.indexed sound found (takes_of takes) (decode_rule sheet) refl stands
                      (numbers-so ∙ ap numbers_of (decided ∙ ap (λ (y : Option Tree.Schema). judged (setting_for call) label y (taken_of (takes_of takes) (decode_rule sheet))) read-so.reads)));
                }
