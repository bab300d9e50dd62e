-- The references of a value, step by step.
use Rattle.std.specs.Prelude.{Option, Result, Ok, Err}
use Prim.Native.Nat.{ℕ, ◌+◌, ◌-◌, ◌≤◌, ◌<◌}
use native.Mathlib.Omega.{arith}
use mathlib.Core.Bool.{Bool, true, false, not, cond, ◌&&◌, false≢true}
use mathlib.Core.List.{List, [], ◌∷◌, ◌++◌}
use mathlib.Core.Option.{none, some, none-ne-some}
use mathlib.Core.Path.{◌≡◌, refl, sym, ap, ap₂, subst, ◌∙◌}
use lib.ListN.{length, take, drop, length-drop}
use lib.Seq.{take_all}
use Rattle.text.specs.Parts.{part_of}
use Rattle.text.specs.declared.part.Part.{Part}
use Rattle.sheet.specs.Entries.{ValueHead, constant_head, number_head, string_head, array_head, object_head, value_head}
use Rattle.sheet.proofs.RuleHeadLaws.{value_head-exact}
use Rattle.definition.specs.Tree.{Text, Schema, Value, constant, number, string, array, object, Values, no_values, value, Pairs, no_pairs, pair}
use Rattle.reference.specs.Setting.{Setting}
use Rattle.reference.specs.Walk.{Reached, refused, unknown, known}
use Rattle.reference.specs.Reference.{Environment, reference, begins_with_dollar}
use Rattle.definition.specs.Within.{value_entries}
use Rattle.rule.specs.Index.{start_of}
use Rattle.walk.specs.Answers.{IsReached, ReadableIs}
use Rattle.walk.specs.declared.answer.ReferenceFault.{ReferenceFault}
use Rattle.validation.specs.Check.{Binder, readable, check, reference_text, reference_check, references, references_of_values, references_of_pairs}
use Rattle.validation.specs.Judge.{outcome, environment, verdict, answer, answer_in}
use Rattle.rule.specs.Leaves.{leaves, leaves_of_values, leaves_of_pairs, said_in, said-value}
use Rattle.rule.specs.Kinds.{type_in, HasType, TextAt}
use Rattle.rule.specs.Nodes.{IsValue, EntriesIn}
use Rattle.value_checks.specs.Verdicts.{number_of, failure_of, GoesOn, PassedOn, Failed}
use Rattle.scope.specs.References.{ReferenceReads}
use Rattle.value_checks.specs.Frames.{Frame, Stands, IsReference, reference_says, ReferencesIn}
use Rattle.value_checks.specs.declared.verdict.Fault.{Fault}
use Rattle.value_checks.specs.declared.verdict.Fault.TheVariants.{Reference}
use Rattle.value_checks.specs.declared.verdict.Progress.{Progress}
use Rattle.value_checks.proofs.Going.{goes-nothing, goes_then, goes-stopped, said-next}
use Rattle.rule.proofs.EntrySteps.{entries-part, entries-value}
use Rattle.value_checks.proofs.LiteralSteps.{says_other, says_typed}

-- Texts.

pub behind-dollar : (t : Text) → take (length t - 1) (drop 1 t) ≡ drop 1 t
behind-dollar t = take_all (length t - 1) (drop 1 t) (omega (arith, length-drop 1 t))

pub dollar-long : (t : Text) → begins_with_dollar t ≡ true → 0 < length t
unfolding begins_with_dollar
dollar-long [] e = absurd (false≢true e)
dollar-long (a ∷ t) e = omega arith

pub other_none : (t : Text) {first : Bool} → first ≡ begins_with_dollar t → first ≡ false → IsReference t false
unfolding reference_text
other_none [] e f = refl
other_none (a ∷ t) e f = rw (← e, f)

pub dollar-then : (t : Text) {first : Bool} (second : Bool) → first ≡ begins_with_dollar t → first ≡ true → second ≡ begins_with_dollar (take (length t - 1) (drop 1 t)) → IsReference t (not second)
unfolding reference_text begins_with_dollar
dollar-then [] second e f q = absurd (false≢true (sym e ∙ f))
dollar-then (a ∷ t) second e f q = by second (q ∙ ap begins_with_dollar (behind-dollar (a ∷ t)))
  where
    by : (d : Bool) → d ≡ begins_with_dollar t → IsReference (a ∷ t) (not d)
    by true p = rw (← e, f, ← p)
    by false p = rw (← e, f, ← p)

pub reference-begins : (t : Text) {u : Text} → reference_text t ≡ some u → begins_with_dollar t ≡ true
unfolding reference_text
reference-begins [] {u} h = absurd (none-ne-some u h)
reference-begins (a ∷ t) {u} h = by (begins_with_dollar (a ∷ t)) (begins_with_dollar t) h
  where
    by : (d e : Bool) → cond (d && not e) (some t) none ≡ some u → d ≡ true
    by true e h = refl
    by false e h = absurd (none-ne-some u h)

-- One reference.

pub readable-outcome : (setting : Setting) (tree : Schema) (binders : List Binder) (env : Environment) (n p : ℕ) (t : Text)
    → environment tree binders ≡ some env
    → outcome setting tree (check n p binders (readable t)) ≡ verdict (reference setting tree env t)
unfolding outcome answer_in answer check
readable-outcome setting tree binders env n p t e = rw e

reached-verdict : (x : Reached) → IsReached x → verdict x ≡ none
unfolding verdict
reached-verdict (refused d at left) h = absurd h
reached-verdict unknown h = refl
reached-verdict (known f) h = refl

pub reference-long : (t : Text) → IsReference t true → 1 ≤ length t
reference-long t e = dollar-long t (reference-begins t e)

no-string : (binders : List Binder) (e : ℕ) (h : ValueHead) → (53 ≡ 48 + type_in h → ⊥) → reference_says binders e h ≡ []
unfolding reference_says type_in
no-string binders e (constant_head type) n = refl
no-string binders e (number_head digits) n = refl
no-string binders e (string_head t) n = absurd (n refl)
no-string binders e (array_head count) n = refl
no-string binders e (object_head count) n = refl

-- a string says what its text is asked
module _ (rule : List ℕ) (at i : ℕ) {p : Part} (known : TextAt rule at p) {text : Text} (same : text ≡ part_of rule p) (binders : List Binder) where
  string-says : (h : ValueHead) (rest : List ℕ) → value_head (drop at rule) ≡ some (h, rest) → 53 ≡ 48 + type_in h
      → reference_says binders (i + 1) h ≡ reference_check binders (i + 1) (reference_text text)
  unfolding reference_says type_in
  string-says (constant_head type) rest e k = absurd (omega (arith, k, (value_head-exact.sound (drop at rule) (constant_head type) rest e).1.1))
  string-says (number_head digits) rest e k = absurd (omega arith)
  string-says (string_head t) rest e k = ap (λ (x : Text). reference_check binders (i + 1) (reference_text x)) (sym (known.string t rest e) ∙ sym same)
  string-says (array_head count) rest e k = absurd (omega arith)
  string-says (object_head count) rest e k = absurd (omega arith)

module _ {f : Frame} {i at : ℕ} {a : Progress} {test : Bool} (start : at ≡ start_of f.words i) (string : HasType f.rule at 53 test) where
  pub reference-other : test ≡ false → ReferencesIn f i 1 a a
  reference-other e =
      let m : HasType f.rule at 53 false = subst (λ (x : Bool). HasType f.rule at 53 x) e string in
      record { at_most = omega arith; goes = λ setting tree binders env s w. rw (says_other (reference_says binders) f.rule f.words i at 53 start m (no-string binders (i + 1))) goes-nothing }

  module _ {part : Part} {text : Text} (tested : test ≡ true) (known : TextAt f.rule at part) (same : text ≡ part_of f.rule part) where
    pub reference-none : IsReference text false → ReferencesIn f i 1 a a
    unfolding reference_check
    reference-none e =
        record { at_most = omega arith; goes = λ setting tree binders env s w. rw (says_typed (reference_says binders) f.rule f.words i at 53 start (subst (λ (x : Bool). HasType f.rule at 53 x) tested string) _ (string-says f.rule at i known same binders) w, e) goes-nothing }

    pub reference-passes : {x : Result Unit (ReferenceFault × ℕ)} {r : Progress}
        → IsReference text true
        → ReferenceReads f.schema f.rule f.words f.scope (take (length text - 1) (drop 1 text)) x
        → x ≡ (Ok tt)
        → PassedOn a r
        → ReferencesIn f i 1 a r
    unfolding reference_check
    reference-passes {x} {r} e q y p =
        record {
          at_most = p.at_most;
          goes =
              λ setting tree binders env s w.
              let m : ReadableIs (Ok tt) (reference setting tree env (drop 1 text)) =
              rw (behind-dollar text, y) at (q.leads setting tree env s.scoped) in
              rw (says_typed (reference_says binders) f.rule f.words i at 53 start (subst (λ (x : Bool). HasType f.rule at 53 x) tested string) _ (string-says f.rule at i known same binders) w, e)
              (p.goes (outcome setting tree) _
              (readable-outcome setting tree binders env 18 (i + 1) (drop 1 text) s.bound ∙ reached-verdict _ m));
        }

    pub reference-fails : {x : Result Unit (ReferenceFault × ℕ)} {fault : ReferenceFault} {place : ℕ} {r : Progress}
        → IsReference text true
        → ReferenceReads f.schema f.rule f.words f.scope (take (length text - 1) (drop 1 text)) x
        → x ≡ Err (fault, place)
        → Failed a (Reference fault place) (i + 1) f.over r
        → ReferencesIn f i 1 a r
    unfolding reference_check verdict number_of failure_of check
    reference-fails {x} {fault} {place} {r} e q y p =
        record {
          at_most = omega (arith, p.same);
          goes =
              λ setting tree binders env s w.
              let m : ReadableIs (Err (fault, place)) (reference setting tree env (drop 1 text)) =
              rw (behind-dollar text, y) at (q.leads setting tree env s.scoped) in
              rw (says_typed (reference_says binders) f.rule f.words i at 53 start (subst (λ (x : Bool). HasType f.rule at 53 x) tested string) _ (string-says f.rule at i known same binders) w, e)
              (p.goes (outcome setting tree) _ [] (record { numbered = refl; placed = refl; held = s.held })
              (readable-outcome setting tree binders env 18 (i + 1) (drop 1 text) s.bound ∙ ap verdict m.1));
        }

-- Several words.

module _ {f : Frame} {a : Progress} {start i : ℕ} where
  pub references-next : {n j : ℕ} {b r : Progress}
      → start ≤ i
      → j ≡ i + n
      → ReferencesIn f start (i - start) a b
      → ReferencesIn f i n b r
      → ReferencesIn f start (j - start) a r
  references-next {n} h k p q =
      record {
        at_most = omega (arith, p.at_most, q.at_most);
        goes =
            λ setting tree binders env s w.
            rw (said-next (reference_says binders) f.rule f.words n h k)
            (goes_then (p.goes setting tree binders env s (entries-part (omega arith) (omega arith) w))
            (q.goes setting tree binders env s (entries-part (omega arith) (omega arith) w)));
      }

  pub references-all : {end : ℕ} {r : Progress}
      → end ≤ i
      → i - start ≤ end - start
      → ReferencesIn f start (i - start) a r
      → ReferencesIn f start (end - start) a r
  references-all {end} h k p = let e : i - start ≡ end - start = omega arith in rw e at p

pub references-stopped : {f : Frame} {start i end : ℕ} {a b r : Progress} {fault : Fault} {place : ℕ} {over : Option ℕ}
    → start ≤ i
    → i < end
    → ReferencesIn f start (i - start) a b
    → ReferencesIn f i 1 b r
    → r.verdict ≡ Err (fault, place, over)
    → ReferencesIn f start (end - start) a r
references-stopped {i = i} {end = end} h k p q t =
    references-next {i = i + 1} {n = end - (i + 1)} (omega arith) (omega arith) (references-next h refl p q)
    (record { at_most = omega arith; goes = λ setting tree binders env s w. goes-stopped t })

pub references-begin : {f : Frame} {a : Progress} {start : ℕ} → ReferencesIn f start (start - start) a a
unfolding said_in
references-begin {f} {a} {start} =
    let e : start - start ≡ 0 = omega arith in
    record { at_most = omega arith; goes = λ setting tree binders env s w. rw e goes-nothing }

-- A whole value.

mutual
  unfolding leaves references reference_says

  references-said : (binders : List Binder) (v : Value) → leaves (reference_says binders) v ≡ references binders v
  references-said binders (constant e type) = refl
  references-said binders (number e digits) = refl
  references-said binders (string e t) = refl
  references-said binders (array e values) = references-of-values binders values
  references-said binders (object e pairs) = references-of-pairs binders pairs

  references-of-values : (binders : List Binder) (vs : Values) → leaves_of_values (reference_says binders) vs ≡ references_of_values binders vs
  references-of-values binders no_values = refl
  references-of-values binders (value v others) = ap₂ ◌++◌ (references-said binders v) (references-of-values binders others)

  references-of-pairs : (binders : List Binder) (ps : Pairs) → leaves_of_pairs (reference_says binders) ps ≡ references_of_pairs binders ps
  references-of-pairs binders no_pairs = refl
  references-of-pairs binders (pair key v others) = ap₂ ◌++◌ (references-said binders v) (references-of-pairs binders others)

pub references-judged : {f : Frame} {start end : ℕ} {a r : Progress}
    → ReferencesIn f start (end - start) a r
    → (setting : Setting) (tree : Schema) (binders : List Binder) (env : Environment) (v : Value)
    → Stands f setting tree binders env
    → IsValue f.rule f.words start end v
    → GoesOn (outcome setting tree) a (references binders v) r
references-judged {f} {start} {end} p setting tree binders env v s w =
    let n : end - start ≡ value_entries v = omega (arith, w.ends) in
    let e : said_in (reference_says binders) f.rule f.words (end - start) start ≡ references binders v =
    rw n (said-value (reference_says binders) f.rule f.words start v w.stands ∙ references-said binders v) in
    let entries : EntriesIn f.rule f.words start (end - start) = rw n (entries-value start v w.stands) in
    rw e at (p.goes setting tree binders env s entries)
