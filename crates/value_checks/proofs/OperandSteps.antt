-- Operands, step by step.
use Rattle.std.specs.Prelude.{Option as Optional, Some, None, Result, Ok, Err}
use Prim.Native.Nat.{ℕ, ◌+◌, ◌*◌, ◌-◌, ◌≤◌, ◌<◌}
use native.Mathlib.Omega.{arith}
use mathlib.Core.Bool.{Bool, true, false, false≢true}
use mathlib.Core.List.{List, [], ◌∷◌, append-nil}
use mathlib.Core.Logic.{◌⊎◌, inl, inr}
use mathlib.Core.Option.{Option, none, some}
use mathlib.Core.Path.{◌≡◌, refl, sym, ap, ◌∙◌}
use lib.ListN.{drop}
use lib.Dec.{ltb}
use borrow.Author.Tests.{eq-eqb, ne_eqb, le-ltb, lt-ltb}
use Rattle.text.specs.declared.part.Part.{Part}
use Rattle.text.specs.CaseLaws.{by-test}
use Rattle.timestamp.specs.Instant.{instant}
use Rattle.timestamp.specs.declared.Fields.{Fields}
use Rattle.sheet.specs.Operators.{is_instant_test, is_affix}
use Rattle.sheet.specs.Entries.{ValueHead, value_head}
use Rattle.sheet.proofs.RuleHeadLaws.{ValueHeadFits, value_head-exact}
use Rattle.definition.specs.Tree.{Text, Schema, Value, constant, number, string, array, object, Values, no_values, value}
use Rattle.reference.specs.Setting.{Setting}
use Rattle.reference.specs.Reference.{Environment, begins_with_dollar}
use Rattle.rule.specs.Index.{start_of, EntryAt, ValueAt}
use Rattle.validation.specs.Check.{Binder, Question, settled, Check, check, fails_if, is_none, entry_of, is_string, is_holder, references, instant_text, instant_form, instant_operand, affix_operand, compare_side, operand}
use Rattle.validation.specs.Constant.{literal_text, literal_instant}
use Rattle.validation.specs.Judge.{failure, unasked, outcome, environment, answer, answer_in}
use Rattle.scope.specs.declared.binder.Scope.{Scope}
use Rattle.rule.specs.Kinds.{type_in, TypeAt, TextAt}
use Rattle.rule.specs.Nodes.{AreValues, Behind}
use Rattle.value_checks.specs.Verdicts.{number_of, detail_of, refused_at, failure_of, side_detail, instant_detail, failed, GoesOn, PassedOn, Failed, Required}
use Rattle.value_checks.specs.Frames.{Frame, frame, Stands, IsReference, ReferencesIn, instant_check, affix_check, asked_before, asked_after, asked, asked_of, ValueJudged, OperandJudged, OperandsJudged, FormIs, form_of, literal_by, ReadAs}
use Rattle.value_checks.specs.declared.operand.Form.{Form}
use Rattle.value_checks.specs.declared.operand.Form.TheVariants as Form
use Rattle.value_checks.specs.declared.verdict.InstantFault.{InstantFault}
use Rattle.value_checks.specs.declared.verdict.InstantFault.TheVariants.{Escaped, Unreadable}
use Rattle.value_checks.specs.declared.verdict.Side.{Side}
use Rattle.value_checks.specs.declared.verdict.Side.TheVariants.{Left, Right}
use Rattle.value_checks.specs.declared.verdict.Fault.{Fault}
use Rattle.value_checks.specs.declared.verdict.Fault.TheVariants.{Operand, Affix, Instant}
use Rattle.value_checks.specs.declared.verdict.Progress.{Progress}
use Rattle.value_checks.proofs.Going.{goes-nothing, goes_then, goes-stopped}
use Rattle.rule.proofs.NodeSteps.{others_of, value-stands, others-stand, no-values-left, no-values-end}
use Rattle.value_checks.proofs.LiteralSteps.{settled-outcome}
use Rattle.value_checks.proofs.ReferenceSteps.{references-judged, reference-begins}

-- What a value's head says of its form.

module _ (rule words : List ℕ) (i : ℕ) {at : ℕ} (start : at ≡ start_of words i) where
  module _ {digit : ℕ} (kind : TypeAt rule at digit) where
    -- the digit of the value that is there
    digit-is : {size e : ℕ} {h : ValueHead} → EntryAt value_head rule words i size e h → (digit ≡ 48 + type_in h) × ValueHeadFits h
    digit-is {h = h} a =
        let k : TypeAt rule (start_of words i) digit = rw start at kind in
        (k.is h a.rest a.reads, (value_head-exact.sound (drop (start_of words i) rule) h a.rest a.reads).1)

    pub form-early : digit < 53 → (v : Value) → ValueAt rule words i v → FormIs rule Form.Other v
    unfolding is_holder is_string type_in
    form-early l (constant e type) a = (refl, refl)
    form-early l (number e digits) a = (refl, refl)
    form-early l (string e t) a = absurd (omega (arith, (digit-is a).0))
    form-early l (array e values) a = absurd (omega (arith, (digit-is a.0).0))
    form-early l (object e pairs) a = absurd (omega (arith, (digit-is a.0).0))

    pub form-late : 53 < digit → (v : Value) → ValueAt rule words i v → FormIs rule Form.Holder v
    unfolding is_holder is_string type_in
    form-late l (constant e type) a = absurd (omega (arith, (digit-is a).0, (digit-is a).1.1))
    form-late l (number e digits) a = absurd (omega (arith, (digit-is a).0))
    form-late l (string e t) a = absurd (omega (arith, (digit-is a).0))
    form-late l (array e values) a = (refl, refl)
    form-late l (object e pairs) a = (refl, refl)

    pub string-by : digit ≡ 53 → (v : Value) → ValueAt rule words i v → is_string v ≡ true
    unfolding is_string type_in
    string-by d (constant e type) a = absurd (omega (arith, (digit-is a).0, (digit-is a).1.1))
    string-by d (number e digits) a = absurd (omega (arith, (digit-is a).0))
    string-by d (string e t) a = refl
    string-by d (array e values) a = absurd (omega (arith, (digit-is a.0).0))
    string-by d (object e pairs) a = absurd (omega (arith, (digit-is a.0).0))

    pub no-string-by : (digit ≡ 53 → ⊥) → (v : Value) → ValueAt rule words i v → is_string v ≡ false
    unfolding is_string type_in
    no-string-by d (constant e type) a = refl
    no-string-by d (number e digits) a = refl
    no-string-by d (string e t) a = absurd (d (digit-is a).0)
    no-string-by d (array e values) a = refl
    no-string-by d (object e pairs) a = refl

    pub holder-by : (v : Value) → ValueAt rule words i v → is_holder v ≡ ltb 53 digit
    unfolding is_holder type_in
    holder-by (constant e type) a = sym (le-ltb 53 digit (omega (arith, (digit-is a).0, (digit-is a).1.1)))
    holder-by (number e digits) a = sym (le-ltb 53 digit (omega (arith, (digit-is a).0)))
    holder-by (string e t) a = sym (le-ltb 53 digit (omega (arith, (digit-is a).0)))
    holder-by (array e values) a = sym (lt-ltb 53 digit (omega (arith, (digit-is a.0).0)))
    holder-by (object e pairs) a = sym (lt-ltb 53 digit (omega (arith, (digit-is a.0).0)))

    pub form-text : {p : Part} → TextAt rule at p → (digit < 53 → ⊥) → (53 < digit → ⊥) → (v : Value) → ValueAt rule words i v → FormIs rule (Form.Text p) v
    unfolding entry_of type_in
    form-text known l m (constant e type) a = absurd (l (omega (arith, (digit-is a).0, (digit-is a).1.1)))
    form-text known l m (number e digits) a = absurd (l (omega (arith, (digit-is a).0)))
    form-text {p} known l m (string e t) a =
        let k : TextAt rule (start_of words i) p = rw start at known in
        ap (λ (x : Text). string e x) (sym (k.string t a.rest a.reads))
    form-text known l m (array e values) a = absurd (m (omega (arith, (digit-is a.0).0)))
    form-text known l m (object e pairs) a = absurd (m (omega (arith, (digit-is a.0).0)))

-- Instants.

abbrev TextReadAs : Text → Result (Optional Fields) InstantFault → Type 0
TextReadAs t r = ReadAs (instant_text t) (literal_text t) r

pub instant-reference : (t : Text) → IsReference t true → TextReadAs t (Ok None)
unfolding instant_text literal_text form_of literal_by fails_if is_none
instant-reference t h = let dollar = reference-begins t h in record { form = rw (dollar, h); fields = rw dollar }

-- text that begins with `$` and is no reference begins with `$$`
pub instant-dollars : (t : Text) → IsReference t false → begins_with_dollar t ≡ true → TextReadAs t (Err Escaped)
unfolding instant_text literal_text form_of literal_by instant_detail fails_if is_none
instant-dollars t h dollar = record { form = rw (dollar, h); fields = rw dollar }

pub instant-unread : (t : Text) → begins_with_dollar t ≡ false → instant t ≡ none → TextReadAs t (Err Unreadable)
unfolding instant_text literal_text form_of literal_by instant_detail fails_if is_none
instant-unread t e r = record { form = rw (e, r); fields = rw (e, r) }

pub instant-read : (t : Text) {f : Fields} → begins_with_dollar t ≡ false → instant t ≡ some f → TextReadAs t (Ok (Some f))
unfolding instant_text literal_text form_of literal_by fails_if is_none
instant-read t e r = record { form = rw (e, r); fields = rw (e, r) }

pub form-instant : {e : ℕ} {t text : Text} {r : Result (Optional Fields) InstantFault} (v : Value) → v ≡ string e t → text ≡ t → TextReadAs text r
    → ReadAs (instant_form v) (literal_instant v) r
unfolding instant_form literal_instant
form-instant v g s p = record { form = rw (g, sym s) p.form; fields = rw (g, sym s) p.fields }

pub holder-instant : (v : Value) → is_string v ≡ false → ReadAs (instant_form v) (literal_instant v) (Err Unreadable)
unfolding instant_form literal_instant form_of literal_by instant_detail is_string
holder-instant (constant e type) s = record { form = refl; fields = refl }
holder-instant (number e digits) s = record { form = refl; fields = refl }
holder-instant (string e t) s = absurd (false≢true (sym s))
holder-instant (array e values) s = record { form = refl; fields = refl }
holder-instant (object e pairs) s = record { form = refl; fields = refl }

-- Checks of an operand.

pub value-entry : (rule words : List ℕ) (i : ℕ) (v : Value) → ValueAt rule words i v → entry_of v ≡ i + 1
unfolding entry_of
value-entry rule words i (constant e type) a = a.is_entry
value-entry rule words i (number e digits) a = a.is_entry
value-entry rule words i (string e t) a = a.is_entry
value-entry rule words i (array e values) a = a.0.is_entry
value-entry rule words i (object e pairs) a = a.0.is_entry

pub asked-outcome : (setting : Setting) (tree : Schema) (binders : List Binder) (env : Environment) (n p : ℕ) (q : Question) (o : Option ℕ)
    → environment tree binders ≡ some env
    → q ≡ settled o
    → outcome setting tree (check n p binders q) ≡ unasked o
unfolding outcome answer_in answer check
asked-outcome setting tree binders env n p q o e s = rw (e, s)

-- the check that an operand's form passes
form-passes : {f : Frame} (n : ℕ) {q : Question} {b r : Progress} (setting : Setting) (tree : Schema) (binders : List Binder) (env : Environment) (v : Value)
    → Stands f setting tree binders env
    → PassedOn b r
    → q ≡ settled none
    → GoesOn (outcome setting tree) b (check n (entry_of v) binders q ∷ []) r
unfolding unasked
form-passes {f} n {q} setting tree binders env v s p e =
    p.goes (outcome setting tree) _ (asked-outcome setting tree binders env n (entry_of v) q none s.bound e)

form-fails : {f : Frame} (n : ℕ) {q : Question} {fault : Fault} {place : ℕ} {b r : Progress} (setting : Setting) (tree : Schema) (binders : List Binder) (env : Environment) (v : Value)
    → Stands f setting tree binders env
    → entry_of v ≡ place
    → Failed b fault place f.over r
    → n ≡ number_of fault
    → q ≡ settled (some (detail_of fault))
    → refused_at fault ≡ 0
    → (others : List Check)
    → GoesOn (outcome setting tree) b (check n (entry_of v) binders q ∷ others) r
unfolding check unasked failure_of
form-fails {f} n {q} {fault} setting tree binders env v s w p m e z others =
    p.goes (outcome setting tree) _ others
    (record { numbered = m; placed = w; held = s.held })
    (asked-outcome setting tree binders env n (entry_of v) q (some (detail_of fault)) s.bound e ∙ ap (λ (x : ℕ). some (failure (detail_of fault) x)) (sym z))

-- What the value of a word is asked besides its references.

module _ {rule words : List ℕ} {over : Optional ℕ} {i : ℕ} {a : Progress} where
  pub nothing-asked : {questions : List Binder → Value → List Check} → ((binders : List Binder) (v : Value) → questions binders v ≡ []) → ValueJudged rule words over questions i a a
  nothing-asked e = record { at_most = omega arith; goes = λ schema scope setting tree binders env v s w. rw (e binders v) goes-nothing }

  pub instant-passes : {x : Result (Optional Fields) InstantFault} {r : Progress}
      → ((v : Value) → ValueAt rule words i v → ReadAs (instant_form v) (literal_instant v) x)
      → form_of x ≡ settled none
      → PassedOn a r
      → ValueJudged rule words over instant_check i a r
  unfolding instant_check
  instant-passes g y p =
      record {
        at_most = p.at_most;
        goes = λ schema scope setting tree binders env v s w. form-passes 20 setting tree binders env v s p ((g v w).form ∙ y);
      }

  pub instant-fails : {x : Result (Optional Fields) InstantFault} {fault : InstantFault} {r : Progress}
      → ((v : Value) → ValueAt rule words i v → ReadAs (instant_form v) (literal_instant v) x)
      → x ≡ Err fault
      → Failed a (Instant fault) (i + 1) over r
      → ValueJudged rule words over instant_check i a r
  unfolding instant_check form_of number_of failure_of
  instant-fails g y p =
      record {
        at_most = omega (arith, p.same);
        goes =
            λ schema scope setting tree binders env v s w.
            form-fails 20 setting tree binders env v s (value-entry rule words i v w) p refl (rw y at (g v w).form) refl [];
      }

  module _ {at digit : ℕ} (start : at ≡ start_of words i) (kind : TypeAt rule at digit) where
    pub affix-passes : {r : Progress} → digit ≡ 53 → PassedOn a r → ValueJudged rule words over affix_check i a r
    unfolding affix_check fails_if
    affix-passes d p =
        record {
          at_most = p.at_most;
          goes =
              λ schema scope setting tree binders env v s w.
              form-passes 19 setting tree binders env v s p (rw (string-by rule words i start kind d v w));
        }

    pub affix-fails : {r : Progress} → (digit ≡ 53 → ⊥) → Failed a Affix (i + 1) over r → ValueJudged rule words over affix_check i a r
    unfolding affix_check fails_if number_of failure_of
    affix-fails d p =
        record {
          at_most = omega (arith, p.same);
          goes =
              λ schema scope setting tree binders env v s w.
              form-fails 19 setting tree binders env v s (value-entry rule words i v w) p refl (rw (no-string-by rule words i start kind d v w)) refl [];
        }

    pub side-asked : {op : ℕ} {which : Side} {r : Progress}
        → op ≡ 18
        → Required a (ltb 53 digit) (Operand which) (i + 1) over r
        → ValueJudged rule words over (asked_before op which) i a r
    unfolding asked_before number_of failure_of check
    side-asked {op} {which} e p =
        record {
          at_most = p.at_most;
          goes =
              λ schema scope setting tree binders env v s w.
              rw (eq-eqb op 18 e)
              (p.goes (outcome setting tree) _
              (record { numbered = refl; placed = value-entry rule words i v w; held = s.held })
              (settled-outcome setting tree binders env 17 (entry_of v) (is_holder v) (side_detail which) s.bound
              ∙ ap (λ (x : Bool). failed x (failure (side_detail which) 0)) (holder-by rule words i start kind v w)));
        }

  pub side-unasked : (op : ℕ) (which : Side) → (op ≡ 18 → ⊥) → ValueJudged rule words over (asked_before op which) i a a
  unfolding asked_before
  side-unasked op which n = nothing-asked (λ binders v. rw (ne_eqb op 18 n))

  module _ (op : ℕ) {instants : Bool} (said : instants ≡ is_instant_test op) where
    pub after-instant : {r : Progress} → instants ≡ true → ValueJudged rule words over instant_check i a r → ValueJudged rule words over (asked_after op) i a r
    unfolding asked_after
    after-instant t p =
        let q : is_instant_test op ≡ true = sym said ∙ t in
        record { at_most = p.at_most; goes = λ schema scope setting tree binders env v s w. rw q (p.goes schema scope setting tree binders env v s w) }

    module _ {affixes : Bool} (also : affixes ≡ is_affix op) (none : instants ≡ false) where
      pub after-affix : {r : Progress} → affixes ≡ true → ValueJudged rule words over affix_check i a r → ValueJudged rule words over (asked_after op) i a r
      unfolding asked_after
      after-affix t p =
          let q : is_instant_test op ≡ false = sym said ∙ none in
          let k : is_affix op ≡ true = sym also ∙ t in
          record { at_most = p.at_most; goes = λ schema scope setting tree binders env v s w. rw (q, k) (p.goes schema scope setting tree binders env v s w) }

      pub after-other : affixes ≡ false → ValueJudged rule words over (asked_after op) i a a
      unfolding asked_after
      after-other t =
          let q : is_instant_test op ≡ false = sym said ∙ none in
          let k : is_affix op ≡ false = sym also ∙ t in
          nothing-asked (λ binders v. rw (q, k))

-- One operand.

module _ {schema rule words : List ℕ} {scope : Scope} {over : Optional ℕ} {op : ℕ} {which : Side} {start end : ℕ} (inside : start < end) {a : Progress} where
  pub operand-judged : {b c r : Progress}
      → ValueJudged rule words over (asked_before op which) start a b
      → ReferencesIn (frame schema rule words scope over) start (end - start) b c
      → ValueJudged rule words over (asked_after op) start c r
      → OperandJudged (frame schema rule words scope over) op which start end a r
  unfolding asked
  operand-judged p l q =
      record {
        at_most = omega (arith, p.at_most, l.at_most, q.at_most);
        goes =
            λ setting tree binders env v s w.
            goes_then (p.goes schema scope setting tree binders env v s w.stands)
            (goes_then (references-judged l setting tree binders env v s w) (q.goes schema scope setting tree binders env v s w.stands));
      }

  -- where the check before the references failed
  pub operand-refused : {r : Progress} {fault : Fault} {place : ℕ} {o : Optional ℕ}
      → ValueJudged rule words over (asked_before op which) start a r
      → r.verdict ≡ Err (fault, place, o)
      → OperandJudged (frame schema rule words scope over) op which start end a r
  operand-refused p t =
      operand-judged p
      (record { at_most = omega arith; goes = λ setting tree binders env s w. goes-stopped t })
      (record { at_most = omega arith; goes = λ schema scope setting tree binders env v s w. goes-stopped t })

  -- where one of its references failed
  pub operand-stopped : {b r : Progress} {fault : Fault} {place : ℕ} {o : Optional ℕ}
      → ValueJudged rule words over (asked_before op which) start a b
      → ReferencesIn (frame schema rule words scope over) start (end - start) b r
      → r.verdict ≡ Err (fault, place, o)
      → OperandJudged (frame schema rule words scope over) op which start end a r
  operand-stopped p l t =
      operand-judged p l (record { at_most = omega arith; goes = λ schema scope setting tree binders env v s w. goes-stopped t })

-- Several operands: what is asked of those that are left is asked of all.

pub record OperandsLeft (f : Frame) (op : ℕ) (which : Side) (start i end : ℕ) (a b : Progress) : Type 0 where
  pub at_most : b.passed ≤ a.passed + 3 * (i - start)
  pub rest : (vs : Values) → AreValues f.rule f.words start end vs → Values
  pub stand : (vs : Values) (w : AreValues f.rule f.words start end vs) → AreValues f.rule f.words i end (rest vs w)
  pub onward : (setting : Setting) (tree : Schema) (binders : List Binder) (env : Environment) (vs : Values) (w : AreValues f.rule f.words start end vs) (r : Progress)
      → Stands f setting tree binders env
      → GoesOn (outcome setting tree) b (asked_of op which binders (rest vs w)) r
      → GoesOn (outcome setting tree) a (asked_of op Left binders vs) r

pub operands_begin : {f : Frame} {op start end : ℕ} {a : Progress} → OperandsLeft f op Left start start end a a
operands_begin =
    record {
      at_most = omega arith;
      rest = λ vs w. vs;
      stand = λ vs w. w;
      onward = λ setting tree binders env vs w r s g. g;
    }

module _ {f : Frame} {op : ℕ} {which : Side} {i end next : ℕ} {b d : Progress} (inside : i < end) (k : Behind f.words i end next) (p : OperandJudged f op which i next b d) where
  first-asked : (setting : Setting) (tree : Schema) (binders : List Binder) (env : Environment) (vs : Values) (r : Progress)
      → AreValues f.rule f.words i end vs
      → Stands f setting tree binders env
      → GoesOn (outcome setting tree) d (asked_of op Right binders (others_of vs)) r
      → GoesOn (outcome setting tree) b (asked_of op which binders vs) r
  unfolding others_of asked_of
  first-asked setting tree binders env no_values r w s g = absurd (omega (arith, no-values-end w, inside))
  first-asked setting tree binders env (value v others) r w s g =
      goes_then (p.goes setting tree binders env v s (value-stands inside k w)) g

  pub operands_next : {start : ℕ} {a : Progress} → start ≤ i → OperandsLeft f op which start i end a b → OperandsLeft f op Right start next end a d
  operands_next {start} {a} low l =
      record {
        at_most = omega (arith, l.at_most, p.at_most, k.past inside);
        rest = λ vs w. others_of (l.rest vs w);
        stand = λ vs w. others-stand inside k (l.rest vs w) (l.stand vs w);
        onward =
            λ setting tree binders env vs w r s g.
            l.onward setting tree binders env vs w r s
            (first-asked setting tree binders env (l.rest vs w) r (l.stand vs w) s g);
      }

pub operands-stopped : {f : Frame} {op start i end : ℕ} {which : Side} {a b : Progress} {fault : Fault} {place : ℕ} {o : Optional ℕ}
    → b.verdict ≡ Err (fault, place, o)
    → i - start ≤ end - start
    → OperandsLeft f op which start i end a b
    → OperandsJudged f op start end a b
operands-stopped {b = b} t m l =
    record {
      at_most = omega (arith, l.at_most);
      goes = λ setting tree binders env vs s w. l.onward setting tree binders env vs w b s (goes-stopped t);
    }

pub operands-all : {f : Frame} {op start i end : ℕ} {which : Side} {a b : Progress}
    → end ≤ i
    → i - start ≤ end - start
    → OperandsLeft f op which start i end a b
    → OperandsJudged f op start end a b
unfolding asked_of
operands-all {b = b} h m l =
    record {
      at_most = omega (arith, l.at_most);
      goes =
          λ setting tree binders env vs s w.
          let e : l.rest vs w ≡ no_values = no-values-left (l.rest vs w) h (l.stand vs w) in
          l.onward setting tree binders env vs w b s (rw e goes-nothing);
    }

-- What is asked, beside the definitions of the check list.

asked-plain : (op : ℕ) (which : Side) (binders : List Binder) (v : Value) → asked_before op which binders v ≡ [] → asked_after op binders v ≡ [] → asked op which binders v ≡ references binders v
unfolding asked
asked-plain op which binders v e f = rw (e, f) (append-nil (references binders v))

pub asked-one : (op : ℕ) (which : Side) (binders : List Binder) (v : Value) → (op ≡ 5) ⊎ (op ≡ 19) → asked op which binders v ≡ references binders v
unfolding asked_before asked_after is_instant_test is_affix
asked-one op which binders v (inl e) = asked-plain op which binders v (rw e) (rw e)
asked-one op which binders v (inr e) = asked-plain op which binders v (rw e) (rw e)

pub asked-side : (which : Side) (binders : List Binder) (v : Value) → asked 18 which binders v ≡ compare_side binders (side_detail which) v
unfolding asked asked_before asked_after compare_side is_instant_test is_affix
asked-side which binders v = ap (λ (l : List Check). check 17 (entry_of v) binders (fails_if (is_holder v) (side_detail which)) ∷ l) (append-nil (references binders v))

module _ (op : ℕ) (which : Side) (binders : List Binder) (v : Value) (high : op ≤ 17) where
  no-side : asked_before op which binders v ≡ []
  unfolding asked_before
  no-side = rw (ne_eqb op 18 (λ e. omega arith))

  asked-instant : is_instant_test op ≡ true → asked op which binders v ≡ operand op binders v
  unfolding asked asked_after instant_check operand instant_operand
  asked-instant h = rw (no-side, h)

  asked-affix : is_instant_test op ≡ false → is_affix op ≡ true → asked op which binders v ≡ operand op binders v
  unfolding asked asked_after affix_check operand affix_operand
  asked-affix h k = rw (no-side, h, k)

  asked-other : is_instant_test op ≡ false → is_affix op ≡ false → asked op which binders v ≡ operand op binders v
  unfolding asked_after operand
  asked-other h k =
      let p : asked_after op binders v ≡ [] = rw (h, k) in
      rw (h, k) (asked-plain op which binders v no-side p)

  pub asked-two : asked op which binders v ≡ operand op binders v
  asked-two = by-test (is_instant_test op) asked-instant (λ h. by-test (is_affix op) (asked-affix h) (asked-other h))
