-- From the label down.
use Prim.Native.Nat.{ℕ, ◌+◌, ◌-◌, ◌≤◌, ◌<◌}
use native.Mathlib.Omega.{arith}
use mathlib.Core.Bool.{Bool, true, false, cond}
use mathlib.Core.List.{List, []}
use mathlib.Core.Option.{Option, none, some}
use mathlib.Core.Path.{◌≡◌}
use lib.Dec.{leb}
use lib.ListN.{drop}
use borrow.Author.Tests.{le-leb, lt-leb}
use Rattle.text.specs.Ascii.{ascii}
use Rattle.text.specs.CaseLaws.{zero-not-one}
use Rattle.sheet.specs.Entries as entries
use Rattle.definition.specs.Tree.{Text, Condition, Rule, rule, template}
use Rattle.rule.specs.Index.{start_of, ConditionAt, RuleAt}
use Rattle.validation.specs.Location.{through, in_condition, behind_label}
use Rattle.buffer.specs.Wrote.{Wrote}
use Rattle.defect_path.specs.Descent.{ValueWritten, ConditionWritten, AssertWritten, RuleWritten}
use Rattle.defect_path.specs.Path.{PathWritten}
use Rattle.buffer.specs.WroteLaws.{wrote_nothing, wrote_then}
use Rattle.defect_path.proofs.Ranges.{through-found, value-among, condition-among}
use Rattle.defect_path.proofs.ValueSteps.{same_head, refused-head}

empty : {p : Text} → some [] ≡ some p → p ≡ []
empty e = cc

rule-template : {R : Type 0} {name message : Option Text} → entries.rule name message ≡ entries.template → R
rule-template e = zero-not-one cc

same_place : (place target : ℕ) → target ≡ place - 1 → (place ≡ 0 → ⊥) → target + 1 ≡ place
same_place place target is some-place = omega arith

module _ {sheet words : List ℕ} {defect target at : ℕ} {before : List ℕ} where
  pub assert-label : defect ≤ 12 → AssertWritten sheet words defect target before before at at
  assert-label low = record {
    written = λ c p stands found. rw (empty (rw (le-leb defect 12 low) at found)) (wrote_nothing before at);
  }

  pub assert-inside : {middle after : List ℕ} {m next : ℕ}
      → 12 < defect
      → Wrote before middle at (ascii ".assert") m
      → ConditionWritten sheet words defect target 1 middle after m next
      → AssertWritten sheet words defect target before after at next
  assert-inside high w later = record {
    written = λ c p stands found.
        through-found (ascii ".assert") (in_condition defect (target + 1) c) p
        (λ q z e. rw e (wrote_then w (later.written c q stands z)))
        (rw (lt-leb defect 12 high) at found);
  }

module _ {sheet words : List ℕ} {defect place at : ℕ} {before : List ℕ} where
  pub root-refused : {start next : ℕ} {after : List ℕ} → start ≡ start_of words 0 → entries.rule_head (drop start sheet) ≡ none → RuleWritten sheet words defect place before after at next
  root-refused {start} {next} {after} starts reads = record { written = λ tree p stands found. by-tree tree stands }
    where
      by-tree : {p : Text} (tree : Rule) → RuleAt sheet words tree → Wrote before after at p next
      by-tree (rule name message assert) stands = refused-head (rw starts at reads) stands.0.reads
      by-tree (template v) stands = refused-head (rw starts at reads) stands.0.reads

  -- there is no entry 0
  pub root-nowhere : place ≡ 0 → RuleWritten sheet words defect place before before at at
  unfolding behind_label
  root-nowhere zero = record { written = λ tree p stands found. by-tree p tree stands found }
    where
      by-defect : (b : Bool) (p : Text) (c : Condition)
          → ConditionAt sheet words 1 c
          → cond b (some []) (through (ascii ".assert") (in_condition defect place c)) ≡ some p
          → Wrote before before at p at
      by-defect true p c stands found = rw (empty found) (wrote_nothing before at)
      by-defect false p c stands found =
          through-found (ascii ".assert") (in_condition defect place c) p
          (λ q z e. let r = condition-among sheet words place defect c 1 q stands z in absurd (omega arith))
          found

      by-tree : (p : Text) (tree : Rule) → RuleAt sheet words tree → behind_label defect place tree ≡ some p → Wrote before before at p at
      by-tree p (rule name message assert) stands found = by-defect (leb defect 12) p assert stands.1 found
      by-tree p (template v) stands found = let r = value-among sheet words place v 1 p stands.1 found in absurd (omega arith)

  module _ {rest : List ℕ} {start target next : ℕ} {after : List ℕ} (starts : start ≡ start_of words 0) (is : target ≡ place - 1) (some-place : place ≡ 0 → ⊥) where
    pub root-rule : {name message : Option Text}
        → entries.rule_head (drop start sheet) ≡ some (entries.rule name message, rest)
        → AssertWritten sheet words defect target before after at next
        → RuleWritten sheet words defect place before after at next
    unfolding behind_label
    root-rule reads w = record { written = λ tree p stands found. by-tree p tree stands found }
      where
        by-tree : (p : Text) (tree : Rule) → RuleAt sheet words tree → behind_label defect place tree ≡ some p → Wrote before after at p next
        by-tree p (rule name message assert) stands found = w.written assert p stands.1 (rw (same_place place target is some-place) found)
        by-tree p (template v) stands found = rule-template (same_head (rw starts at reads) stands.0.reads)

    pub root-template : entries.rule_head (drop start sheet) ≡ some (entries.template, rest)
        → ValueWritten sheet words target 1 before after at next
        → RuleWritten sheet words defect place before after at next
    unfolding behind_label
    root-template reads w = record { written = λ tree p stands found. by-tree p tree stands found }
      where
        by-tree : (p : Text) (tree : Rule) → RuleAt sheet words tree → behind_label defect place tree ≡ some p → Wrote before after at p next
        by-tree p (rule name message assert) stands found = rule-template (same_head stands.0.reads (rw starts at reads))
        by-tree p (template v) stands found = w.written v p stands.1 (rw (same_place place target is some-place) found)

pub label-then : {label sheet words : List ℕ} {defect place m next : ℕ} {before middle after : List ℕ}
    → Wrote before middle 0 label m
    → RuleWritten sheet words defect place middle after m next
    → PathWritten label sheet words defect place before after next
label-then w later = record { written = λ tree p stands found. wrote_then w (later.written tree p stands found) }
