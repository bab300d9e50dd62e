-- The mark pass over conditions, step by step: what is left is a list of conditions side by side, and each step puts a condition's children in its place.
use Rattle.std.specs.Prelude.{Option as Optional, Some, None}
use Prim.Native.Nat.{ℕ, ◌+◌, ◌*◌, ◌≤◌, ◌<◌}
use native.Mathlib.Omega.{arith}
use mathlib.Core.Bool.{Bool}
use mathlib.Core.List.{List, [], ◌++◌, append-nil, append_assoc}
use mathlib.Core.Logic.{⊎_elim}
use mathlib.Core.Option.{Option, none, some}
use mathlib.Core.Path.{◌≡◌, refl, sym, ap, ◌∙◌}
use lib.ListN.{length, drop, length-append}
use lib.Seq.{sets}
use Rattle.text.specs.ReadAt.{ReadsTo}
use Rattle.text.specs.CaseLaws.{zero-not-one}
use Rattle.sheet.specs.Entries.{RuleHead, rule_head}
use Rattle.sheet.specs.Entries as Entries
use Rattle.definition.specs.Tree.{Text, Condition, literal, many, negation, one, two, comparison, quantifier, Conditions, no_conditions, condition, Rule, rule, template}
use Rattle.definition.specs.Within.{conditions_entries}
use Rattle.rule.specs.Index.{start_of, end_of, ConditionAt, RuleAt}
use Rattle.buffer.specs.Wrote.{Wrote}
use Rattle.buffer.specs.WroteLaws.{sets-append}
use Rattle.buffer.specs.Bytes.{little_endian, bytes_of}
use Rattle.buffer.specs.BytesLaws.{bytes-append, bytes-of-one, bytes-length}
use Rattle.validation.specs.Constant.{mark_of, mark_if, marks_of, marks_of_conditions, marks_in}
use Rattle.rule.specs.Kinds.{OperatorAt}
use Rattle.rule.specs.Nodes.{AreConditions, Behind, children_of, ChildrenFrom}
use Rattle.rule.proofs.NodeSteps.{same_head, has-operator, none_left, none-ends}
use Rattle.rule.proofs.Opening.{beside, opened, opened-stand}
use Rattle.validation.specs.Marking.{MarksAre}
use Rattle.constants.specs.Marks.{truth_by, PairIs, ConstantAt, MarkedOn, Unmarked, ConditionsMarked, RuleMarked}
use Rattle.constants.proofs.ConstantSteps.{none-early, none-late}

-- One entry's mark.

pub marked-none : (count entry : ℕ) {k : Optional Bool} (l : List ℕ) → k ≡ None → MarkedOn count entry k l l count
unfolding truth_by mark_if bytes_of
marked-none count entry l e = record { most = omega arith; counted = rw e (omega arith); written = rw e }

pub marked-one : (count entry : ℕ) {k : Optional Bool} {t : Bool} {m next : ℕ} {before after : List ℕ}
    → k ≡ Some t
    → m ≡ mark_of entry t
    → Wrote before after (4 * count) (little_endian m) next
    → MarkedOn count entry k before after (count + 1)
unfolding truth_by mark_if
marked-one count entry {m = m} {before = before} e q w =
    record { most = omega arith; counted = rw e; written = rw (e, ← q) (w.stands ∙ ap (λ (b : List ℕ). sets before (4 * count) b) (sym (bytes-of-one m))) }

-- marks after marks
marks_then : {ms before now after : List ℕ} {count entry r : ℕ} {k : Optional Bool}
    → MarksAre ms before now count
    → MarkedOn count entry k now after r
    → MarksAre (ms ++ mark_if entry (truth_by k)) before after r
marks_then {ms} {before} {now} {after} {count} {entry} {r} {k} p q =
    let more = mark_if entry (truth_by k) in
    let place : 4 * count ≡ 0 + length (bytes_of ms) = omega (arith, p.counted, bytes-length ms) in
    record {
      counted = rw (length-append ms more) (omega (arith, p.counted, q.counted));
      written =
          q.written
          ∙ ap (λ (l : List ℕ). sets l (4 * count) (bytes_of more)) p.written
          ∙ ap (λ (n : ℕ). sets (sets before 0 (bytes_of ms)) n (bytes_of more)) place
          ∙ sets-append (bytes_of ms) (bytes_of more) before 0
          ∙ ap (λ (b : List ℕ). sets before 0 b) (sym (bytes-append ms more));
    }

-- A condition's marks are its own, and those of its children.

beside-marks : (cs ds : Conditions) → marks_of_conditions (beside cs ds) ≡ marks_of_conditions cs ++ marks_of_conditions ds
unfolding beside marks_of_conditions
beside-marks no_conditions ds = refl
beside-marks (condition c others) ds = rw (beside-marks others ds, append_assoc)

module _ (rule words : List ℕ) (i : ℕ) (k : Optional Bool) {at op : ℕ} (start : at ≡ start_of words i) (kind : OperatorAt rule at op) (by : ConstantAt rule words op i k) where
  marks-parts : (c : Condition) → ConditionAt rule words i c → marks_of c ≡ mark_if (i + 1) (truth_by k) ++ marks_of_conditions (children_of c)
  unfolding marks_of mark_if children_of
  marks-parts (literal e truth) a =
      let p = has-operator rule words i start kind (literal e truth) a in
      rw (by.other (none-early op (omega arith)))
  marks-parts (many e own children) a =
      let p = has-operator rule words i start kind (many e own children) a in
      rw (by.other (none-early op (omega (arith, p.2))))
  marks-parts (negation e child) a =
      let p = has-operator rule words i start kind (negation e child) a in
      rw (by.other (none-early op (omega arith)), append-nil)
  marks-parts (one e own v) a =
      let p = has-operator rule words i start kind (one e own v) a in
      let n : truth_by k ≡ none = ⊎_elim (λ q. by.other (none-early op (omega arith))) (λ q. by.other (none-late op (omega arith))) p.1 in
      rw n
  marks-parts (two e own left right) a =
      let p = has-operator rule words i start kind (two e own left right) a in
      let n : PairIs rule words own (i + 1) k = rw p.0 at by.pair in
      rw (a.0.is_entry, n.truth left right a.1 a.2, append-nil)
  marks-parts (comparison e which left right) a =
      let p = has-operator rule words i start kind (comparison e which left right) a in
      rw (by.other (none-late op (omega arith)))
  marks-parts (quantifier e own bind over body) a =
      let p = has-operator rule words i start kind (quantifier e own bind over body) a in
      rw (by.other (none-late op (omega (arith, p.1))), append-nil)

-- What is left at word `i`.

pub record MarksLeft (rule words : List ℕ) (start i end : ℕ) (before now : List ℕ) (count : ℕ) : Type 0 where
  pub rest : (cs : Conditions) → AreConditions rule words start end cs → Conditions
  pub stand : (cs : Conditions) (w : AreConditions rule words start end cs) → AreConditions rule words i end (rest cs w)
  pub done : (cs : Conditions) → AreConditions rule words start end cs → List ℕ
  pub whole : (cs : Conditions) (w : AreConditions rule words start end cs) → marks_of_conditions cs ≡ done cs w ++ marks_of_conditions (rest cs w)
  pub marks : (cs : Conditions) (w : AreConditions rule words start end cs) → MarksAre (done cs w) before now count

pub left-begin : {rule words : List ℕ} {start end : ℕ} {l : List ℕ} → MarksLeft rule words start start end l l 0
unfolding bytes_of
left-begin =
    record {
      rest = λ cs w. cs;
      stand = λ cs w. w;
      done = λ cs w. [];
      whole = λ cs w. refl;
      marks = λ cs w. record { counted = refl; written = refl };
    }

module _ {rule words : List ℕ} {i end own at op next : ℕ} {k : Optional Bool} (inside : i < end) (start : at ≡ start_of words i) (kind : OperatorAt rule at op) (by : ConstantAt rule words op i k) (ends : Behind words i end own) (first : ChildrenFrom words op i own next) where
  opened-marks : (cs : Conditions) → AreConditions rule words i end cs → marks_of_conditions cs ≡ mark_if (i + 1) (truth_by k) ++ marks_of_conditions (opened cs)
  unfolding opened marks_of_conditions
  opened-marks no_conditions w = absurd (omega (arith, none-ends w, inside))
  opened-marks (condition c others) w =
      rw (marks-parts rule words i k start kind by c w.stand.0, beside-marks (children_of c) others, append_assoc)

  pub left-next : {from count more : ℕ} {before now after : List ℕ}
      → MarksLeft rule words from i end before now count
      → MarkedOn count (i + 1) k now after more
      → MarksLeft rule words from next end before after more
  left-next l m =
      record {
        rest = λ cs w. opened (l.rest cs w);
        stand = λ cs w. opened-stand inside start kind ends first (l.rest cs w) (l.stand cs w);
        done = λ cs w. l.done cs w ++ mark_if (i + 1) (truth_by k);
        whole =
            λ cs w.
            l.whole cs w
            ∙ ap (λ (ms : List ℕ). l.done cs w ++ ms) (opened-marks (l.rest cs w) (l.stand cs w))
            ∙ sym (append_assoc (l.done cs w) (mark_if (i + 1) (truth_by k)) (marks_of_conditions (opened (l.rest cs w))));
        marks = λ cs w. marks_then (l.marks cs w) m;
      }

-- conditions without a mark are passed over
pub left-unmarked : {rule words : List ℕ} {from i next end count : ℕ} {before now : List ℕ}
    → MarksLeft rule words from i end before now count
    → Unmarked rule words i end next
    → MarksLeft rule words from next end before now count
left-unmarked l u =
    record {
      rest = λ cs w. u.rest (l.rest cs w) (l.stand cs w);
      stand = λ cs w. u.stand (l.rest cs w) (l.stand cs w);
      done = l.done;
      whole = λ cs w. l.whole cs w ∙ ap (λ (ms : List ℕ). l.done cs w ++ ms) (u.same (l.rest cs w) (l.stand cs w));
      marks = l.marks;
    }

module _ {rule words : List ℕ} {from i end count : ℕ} {before now : List ℕ} (l : MarksLeft rule words from i end before now count) where
  pub left-all : end ≤ i → ConditionsMarked rule words from end before now count
  unfolding marks_of_conditions
  left-all h =
      record {
        marks = λ cs w.
            let f : l.rest cs w ≡ no_conditions = none_left (l.rest cs w) h (l.stand cs w) in
            let e : marks_of_conditions cs ≡ l.done cs w = l.whole cs w ∙ rw (f, append-nil) in
            rw e (l.marks cs w);
      }

-- By the sheet's first entry.

no-marks : (l : List ℕ) → MarksAre [] l l 0
unfolding bytes_of
no-marks l = record { counted = refl; written = refl }

module _ {sheet words : List ℕ} {at : ℕ} (start : at ≡ start_of words 0) where
  pub rule-unread : (l : List ℕ) → rule_head (drop at sheet) ≡ none → RuleMarked sheet words l l 0
  unfolding marks_in
  rule-unread l r = record { marks = λ x w. by x w }
    where
      clash : (h : RuleHead) (rest : List ℕ) → rule_head (drop (start_of words 0) sheet) ≡ some (h, rest) → ⊥
      clash h rest q =
          let p : rule_head (drop (start_of words 0) sheet) ≡ none = rw (sym start) r in
          zero-not-one cc

      by : (x : Rule) → RuleAt sheet words x → MarksAre (marks_in x) l l 0
      by (rule name message assert) w = absurd (clash _ _ w.0.reads)
      by (template v) w = no-marks l

  pub rule-template : {next : ℕ} (l : List ℕ) → ReadsTo rule_head sheet at Entries.template next → RuleMarked sheet words l l 0
  unfolding marks_in
  rule-template l reads = record { marks = λ x w. by x w }
    where
      by : (x : Rule) → RuleAt sheet words x → MarksAre (marks_in x) l l 0
      by (rule name message assert) w =
          let p : Entries.template ≡ Entries.rule name message = same_head start reads w.0 in
          zero-not-one cc
      by (template v) w = no-marks l

  pub rule-conditions : {next end count : ℕ} {name message : Option Text} {before after : List ℕ}
      → ReadsTo rule_head sheet at (Entries.rule name message) next
      → end ≡ end_of words 0
      → ConditionsMarked sheet words 1 end before after count
      → RuleMarked sheet words before after count
  unfolding marks_in marks_of_conditions conditions_entries
  rule-conditions {end = end} {count = count} {name = name} {message = message} {before = before} {after = after} reads ends p =
      record { marks = λ x w. by x w }
    where
      by : (x : Rule) → RuleAt sheet words x → MarksAre (marks_in x) before after count
      by (rule n m assert) w =
          let m = p.marks (condition assert no_conditions) (record { stand = (w.1, tt); ends = omega (arith, w.0.ends) }) in
          rw append-nil at m
      by (template v) w =
          let q : Entries.rule name message ≡ Entries.template = same_head start reads w.0 in
          zero-not-one cc
