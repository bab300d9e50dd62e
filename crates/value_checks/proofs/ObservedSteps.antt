-- The literal pass over conditions, step by step: what is left is a list of conditions side by side, and each step puts a condition's children in its place.
use Rattle.std.specs.Prelude.{Option, Err}
use Prim.Native.Nat.{ℕ, ◌+◌, ◌-◌, ◌≤◌, ◌<◌}
use native.Mathlib.Omega.{arith}
use mathlib.Core.Bool.{Bool, true, false, cond}
use mathlib.Core.List.{List, [], ◌++◌, map, append-nil, append_assoc, map-append}
use mathlib.Core.Logic.{⊎_elim}
use mathlib.Core.Path.{◌≡◌, refl, sym, ap, ap₂, ◌∙◌}
use borrow.Author.Tests.{lt-leb}
use Rattle.sheet.specs.Operators.{is_observed}
use Rattle.sheet.proofs.OperatorLaws.{observed-early, observed-late}
use Rattle.definition.specs.Tree.{Schema, Value, constant, number, string, array, object, Values, no_values, value, Pairs, no_pairs, pair, Condition, literal, many, negation, one, two, comparison, quantifier, Conditions, no_conditions, condition}
use Rattle.reference.specs.Setting.{Setting}
use Rattle.definition.specs.Within.{condition_entries, value_entries}
use Rattle.rule.specs.Index.{start_of, end_of, ValueAt}
use Rattle.rule.specs.IndexLaws.{value-next}
use Rattle.validation.specs.Check.{Check, Literal, literal_check, numbers, numbers_of_values, numbers_of_pairs, literals, literals_of_conditions}
use Rattle.validation.specs.Judge.{outcome}
use Rattle.rule.specs.Leaves.{leaves, leaves_of_values, leaves_of_pairs, said_in, said-append, said-value}
use Rattle.rule.specs.Kinds.{OperatorAt}
use Rattle.rule.specs.Nodes.{EntriesIn, IsCondition, AreConditions, Behind, children_of, ChildrenFrom}
use Rattle.value_checks.specs.Verdicts.{GoesOn}
use Rattle.value_checks.specs.Literals.{literal_says, LiteralsJudged, ObservedJudged, ConditionLiterals}
use Rattle.value_checks.specs.declared.verdict.Fault.{Fault}
use Rattle.value_checks.specs.declared.verdict.Progress.{Progress}
use Rattle.value_checks.proofs.Going.{goes-nothing, goes_then, goes-stopped}
use Rattle.rule.proofs.NodeSteps.{has-operator, value-size, first-stands, none_left, none-ends}
use Rattle.rule.proofs.EntrySteps.{entries_none, entries-both, entries-value}
use Rattle.rule.proofs.Opening.{beside, opened, opened-stand}

module _ {rule words : List ℕ} {op start end : ℕ} {a : Progress} {flag : Bool} (said : flag ≡ is_observed op) where
  pub observed-yes : {r : Progress} → flag ≡ true → LiteralsJudged rule words start (end - start) a r → ObservedJudged rule words op start end a r
  observed-yes t p =
      let q : is_observed op ≡ true = sym said ∙ t in
      record { at_most = p.at_most; goes = λ setting schema w. rw q (p.goes setting schema w) }

  pub observed-no : flag ≡ false → ObservedJudged rule words op start end a a
  unfolding said_in
  observed-no t =
      let q : is_observed op ≡ false = sym said ∙ t in
      record { at_most = omega arith; goes = λ setting schema w. rw q goes-nothing }

-- Operators by what they hold.

unobserved-early : {op : ℕ} → op < 8 → is_observed op ≡ false
unobserved-early h = sym (observed-early (omega arith) h)

unobserved-late : {op : ℕ} → 20 ≤ op → is_observed op ≡ false
unobserved-late {op} h = sym (observed-late (omega arith)) ∙ lt-leb op 19 (omega arith)

observed-comparison : {op : ℕ} → op ≡ 18 → is_observed op ≡ true
unfolding is_observed
observed-comparison e = rw e

-- what the entries of a value say is what the definition of the check list asks of its numbers
mutual
  unfolding leaves numbers literal_says

  numbers-said : (v : Value) → leaves literal_says v ≡ map literal_check (numbers v)
  numbers-said (constant e type) = refl
  numbers-said (number e digits) = refl
  numbers-said (string e t) = refl
  numbers-said (array e values) = numbers-of-values values
  numbers-said (object e pairs) = numbers-of-pairs pairs

  numbers-of-values : (vs : Values) → leaves_of_values literal_says vs ≡ map literal_check (numbers_of_values vs)
  numbers-of-values no_values = refl
  numbers-of-values (value v others) =
      ap₂ ◌++◌ (numbers-said v) (numbers-of-values others) ∙ sym (map-append literal_check (numbers v) (numbers_of_values others))

  numbers-of-pairs : (ps : Pairs) → leaves_of_pairs literal_says ps ≡ map literal_check (numbers_of_pairs ps)
  numbers-of-pairs no_pairs = refl
  numbers-of-pairs (pair key v others) =
      ap₂ ◌++◌ (numbers-said v) (numbers-of-pairs others) ∙ sym (map-append literal_check (numbers v) (numbers_of_pairs others))

module _ (rule words : List ℕ) where
  value-said : (i : ℕ) (v : Value) → ValueAt rule words i v → said_in literal_says rule words (value_entries v) i ≡ map literal_check (numbers v)
  value-said i v w = said-value literal_says rule words i v w ∙ numbers-said v

  both-said : (i : ℕ) (left right : Value)
      → ValueAt rule words i left
      → ValueAt rule words (i + value_entries left) right
      → said_in literal_says rule words (value_entries left + value_entries right) i ≡ map literal_check (numbers left ++ numbers right)
  both-said i left right w u =
      said-append literal_says rule words (value_entries left) (value_entries right) i
      ∙ ap₂ ◌++◌ (value-said i left w) (value-said (i + value_entries left) right u)
      ∙ sym (map-append literal_check (numbers left) (numbers right))

  -- where the pass looks, or not
  if-observed : (b : Bool) (i n : ℕ) (ls : List Literal)
      → said_in literal_says rule words n i ≡ map literal_check ls
      → map literal_check (cond b ls []) ≡ said_in literal_says rule words (cond b n 0) i ++ []
  unfolding said_in
  if-observed true i n ls e = sym e ∙ sym (append-nil (said_in literal_says rule words n i))
  if-observed false i n ls e = refl

  no-entries : {i n : ℕ} → n ≡ 0 → EntriesIn rule words i n
  no-entries e = rw e entries_none

  module _ {i end at op next : ℕ} (start : at ≡ start_of words i) (kind : OperatorAt rule at op) (k : ChildrenFrom words op i end next) where
    -- a condition's literals are those of its own values, and those of its children
    literals-parts : (c : Condition)
        → IsCondition rule words i end c
        → map literal_check (literals c)
        ≡ said_in literal_says rule words (cond (is_observed op) (next - (i + 1)) 0) (i + 1) ++ map literal_check (literals_of_conditions (children_of c))
    unfolding literals literals_of_conditions children_of said_in condition_entries
    literals-parts (literal e truth) w =
        let p = has-operator rule words i start kind (literal e truth) w.stands in
        rw (unobserved-early {op = op} (omega arith))
    literals-parts (many e own children) w =
        let p = has-operator rule words i start kind (many e own children) w.stands in
        rw (unobserved-early {op = op} (omega (arith, p.2)))
    literals-parts (negation e child) w =
        let p = has-operator rule words i start kind (negation e child) w.stands in
        rw (unobserved-early {op = op} (omega arith), append-nil)
    literals-parts (one e own v) w =
        let p = has-operator rule words i start kind (one e own v) w.stands in
        let f : next ≡ end = ⊎_elim (λ q. k.values (omega arith) (omega arith)) (λ q. k.values (omega arith) (omega arith)) p.1 in
        let n : next - (i + 1) ≡ value_entries v = omega (arith, w.ends) in
        let o : is_observed op ≡ is_observed own = ap is_observed p.0 in
        rw (o, n) (if-observed (is_observed own) (i + 1) (value_entries v) (numbers v) (value-said (i + 1) v w.stands.1))
    literals-parts (two e own left right) w =
        let p = has-operator rule words i start kind (two e own left right) w.stands in
        let f : next ≡ end = k.values (omega (arith, p.1)) (omega (arith, p.2)) in
        let n : next - (i + 1) ≡ value_entries left + value_entries right = omega (arith, w.ends) in
        let o : is_observed op ≡ is_observed own = ap is_observed p.0 in
        rw (o, n)
        (if-observed (is_observed own) (i + 1) (value_entries left + value_entries right) (numbers left ++ numbers right)
        (both-said (i + 1) left right w.stands.1 w.stands.2))
    literals-parts (comparison e which left right) w =
        let p = has-operator rule words i start kind (comparison e which left right) w.stands in
        let f : next ≡ end = k.values (omega arith) (omega arith) in
        let n : next - (i + 1) ≡ value_entries left + value_entries right = omega (arith, w.ends) in
        rw (observed-comparison p, n)
        (if-observed true (i + 1) (value_entries left + value_entries right) (numbers left ++ numbers right)
        (both-said (i + 1) left right w.stands.1 w.stands.2))
    literals-parts (quantifier e own bind over body) w =
        let p = has-operator rule words i start kind (quantifier e own bind over body) w.stands in
        rw (unobserved-late {op = op} p.1, append-nil)

    -- the words of a condition up to its children are those of its values
    values-entries : (c : Condition) → IsCondition rule words i end c → EntriesIn rule words (i + 1) (next - (i + 1))
    unfolding condition_entries
    values-entries (literal e truth) w =
        let p = has-operator rule words i start kind (literal e truth) w.stands in
        let f : next ≡ end = k.literal (omega arith) in
        no-entries (omega (arith, w.ends))
    values-entries (many e own children) w =
        let p = has-operator rule words i start kind (many e own children) w.stands in
        let f : next ≡ i + 1 = k.inner p.1 (omega (arith, p.2)) in
        no-entries (omega arith)
    values-entries (negation e child) w =
        let p = has-operator rule words i start kind (negation e child) w.stands in
        let f : next ≡ i + 1 = k.inner (omega arith) (omega arith) in
        no-entries (omega arith)
    values-entries (one e own v) w =
        let p = has-operator rule words i start kind (one e own v) w.stands in
        let f : next ≡ end = ⊎_elim (λ q. k.values (omega arith) (omega arith)) (λ q. k.values (omega arith) (omega arith)) p.1 in
        let n : next - (i + 1) ≡ value_entries v = omega (arith, w.ends) in
        rw n (entries-value (i + 1) v w.stands.1)
    values-entries (two e own left right) w =
        let p = has-operator rule words i start kind (two e own left right) w.stands in
        let f : next ≡ end = k.values (omega (arith, p.1)) (omega (arith, p.2)) in
        let n : next - (i + 1) ≡ value_entries left + value_entries right = omega (arith, w.ends) in
        rw n (entries-both (entries-value (i + 1) left w.stands.1) (entries-value (i + 1 + value_entries left) right w.stands.2))
    values-entries (comparison e which left right) w =
        let p = has-operator rule words i start kind (comparison e which left right) w.stands in
        let f : next ≡ end = k.values (omega arith) (omega arith) in
        let n : next - (i + 1) ≡ value_entries left + value_entries right = omega (arith, w.ends) in
        rw n (entries-both (entries-value (i + 1) left w.stands.1) (entries-value (i + 1 + value_entries left) right w.stands.2))
    values-entries (quantifier e own bind over body) w =
        let p = has-operator rule words i start kind (quantifier e own bind over body) w.stands in
        let b : Behind words (i + 1) end next = k.body p.1 in
        let m : end_of words (i + 1) ≡ i + 1 + value_entries over = value-next rule words (i + 1) over w.stands.1 in
        let z : 1 ≤ value_entries over = value-size over in
        let f : next ≡ i + 1 + value_entries over = b.exact (omega arith) (omega (arith, w.ends)) ∙ m in
        let n : next - (i + 1) ≡ value_entries over = omega arith in
        rw n (entries-value (i + 1) over w.stands.1)

beside-literals : (cs ds : Conditions) → literals_of_conditions (beside cs ds) ≡ literals_of_conditions cs ++ literals_of_conditions ds
unfolding beside literals_of_conditions
beside-literals no_conditions ds = refl
beside-literals (condition c others) ds = rw (beside-literals others ds, append_assoc)

abbrev literals_are : Conditions → List Check
literals_are cs = map literal_check (literals_of_conditions cs)

-- what is left of the conditions at word `i`
pub record LiteralsLeft (rule words : List ℕ) (start i end : ℕ) (a b : Progress) : Type 0 where
  pub at_most : b.passed ≤ a.passed + (i - start)
  pub rest : (cs : Conditions) → AreConditions rule words start end cs → Conditions
  pub stand : (cs : Conditions) (w : AreConditions rule words start end cs) → AreConditions rule words i end (rest cs w)
  pub onward : (setting : Setting) (schema : Schema) (cs : Conditions) (w : AreConditions rule words start end cs) (r : Progress)
      → GoesOn (outcome setting schema) b (literals_are (rest cs w)) r
      → GoesOn (outcome setting schema) a (literals_are cs) r

pub left-begin : {rule words : List ℕ} {start end : ℕ} {a : Progress} → LiteralsLeft rule words start start end a a
left-begin = record { at_most = omega arith; rest = λ cs w. cs; stand = λ cs w. w; onward = λ setting schema cs w r g. g }

module _ {rule words : List ℕ} {i end own at op next : ℕ} {b d : Progress} (inside : i < end) (start : at ≡ start_of words i) (kind : OperatorAt rule at op) (ends : Behind words i end own) (first : ChildrenFrom words op i own next) (judged : ObservedJudged rule words op (i + 1) next b d) where
  opened-goes : (setting : Setting) (schema : Schema) (cs : Conditions) → AreConditions rule words i end cs → (r : Progress)
      → GoesOn (outcome setting schema) d (literals_are (opened cs)) r
      → GoesOn (outcome setting schema) b (literals_are cs) r
  unfolding opened literals_of_conditions
  opened-goes setting schema no_conditions w r g = absurd (omega (arith, none-ends w, inside))
  opened-goes setting schema (condition c others) w r g =
      let p = literals-parts rule words start kind first c (first-stands inside ends w) in
      let q = rw (beside-literals (children_of c) others, map-append literal_check (literals_of_conditions (children_of c)) (literals_of_conditions others)) at g in
      let n = values-entries rule words start kind first c (first-stands inside ends w) in
      rw (map-append literal_check (literals c) (literals_of_conditions others), p, append_assoc) (goes_then (judged.goes setting schema n) q)

  pub left-next : {from : ℕ} {a : Progress} → from ≤ i → LiteralsLeft rule words from i end a b → LiteralsLeft rule words from next end a d
  left-next {from} {a} low l =
      record {
        at_most = omega (arith, l.at_most, judged.at_most, first.past);
        rest = λ cs w. opened (l.rest cs w);
        stand = λ cs w. opened-stand inside start kind ends first (l.rest cs w) (l.stand cs w);
        onward = λ setting schema cs w r g. l.onward setting schema cs w r (opened-goes setting schema (l.rest cs w) (l.stand cs w) r g);
      }

module _ {rule words : List ℕ} {from i end : ℕ} {a b : Progress} (l : LiteralsLeft rule words from i end a b) where
  pub left-all : end ≤ i → i - from ≤ end - from → ConditionLiterals rule words from end a b
  unfolding literals_of_conditions
  left-all h m =
      record {
        at_most = omega (arith, l.at_most);
        goes =
            λ setting schema cs w.
            let f : l.rest cs w ≡ no_conditions = none_left (l.rest cs w) h (l.stand cs w) in
            l.onward setting schema cs w b (rw f goes-nothing);
      }

  pub left-stopped : {f : Fault} {place : ℕ} {over : Option ℕ} → b.verdict ≡ Err (f, place, over) → i - from ≤ end - from → ConditionLiterals rule words from end a b
  left-stopped t m =
      record {
        at_most = omega (arith, l.at_most);
        goes = λ setting schema cs w. l.onward setting schema cs w b (goes-stopped t);
      }
