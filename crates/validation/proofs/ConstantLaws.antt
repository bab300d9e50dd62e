-- Laws of constant marks: which entries are marked, that marks rise and have room in a list of 2,048, that equal instants are neither before nor
-- after one another, and that the marks of an accepted rule depend on its sheet alone.
use Rattle.std.specs.Prelude.{ℕ, ◌+◌, ◌*◌, ◌/◌, ◌^◌, ◌≤◌, ◌<◌, Bool, true, false, ◌||◌, List, [], ◌∷◌, ◌++◌, ◌⊎◌, ◌↔◌, ◌≡◌, refl, eqb, length}
use Rattle.std.proofs.Common.{arith, inl, inr, sym, ap, subst, ◌∙◌, length-append}
use Rattle.std.proofs.lemmas.Bool.{false≢true}
use Rattle.std.proofs.Math.Option.{Option, none, some, some-injective, none-ne-some}
use borrow.Author.Tests.{eqb-true, eq-eqb}
use Rattle.text.proofs.Bools.{or-true-cases}
use Rattle.text.specs.CaseLaws.{by-test}
use Rattle.timestamp.specs.Order.{is_earlier}
use Rattle.timestamp.proofs.OrderLaws.{earlier-irreflexive}
use Rattle.timestamp.specs.declared.Fields.{Fields}
use Rattle.definition.specs.Tree.{Value, Condition, literal, many, negation, one, two, comparison, quantifier, Conditions, no_conditions, condition, Rule, rule, template}
use Rattle.definition.specs.Within.{value_entries, condition_entries, conditions_entries, rule_entries, ConditionFrom, ConditionsFrom, RuleFrom}
use Rattle.definition.proofs.ValueLaws.{value-takes}
use Rattle.definition.specs.Decode.{decode_rule}
use Rattle.definition.proofs.RoundTrip.{rule-round-trip}
use Rattle.buffer.specs.Bytes.{InFourBytes, no_more, one_more}
use Rattle.reference.specs.Setting.{one_of}
use Rattle.validation.specs.Result.{mark_bytes, Answer, accepted}
use Rattle.validation.specs.Constant.{literal_instant, truth_of, truth_in, constant_of, mark_of, mark_if, marks_of, marks_of_conditions, marks_in, marks_heard}
use Rattle.validation.specs.Marked.{StandsIn, StandsAmong, StandsInRule, IsConstant, Rises}

-- A condition with two operands.

cases : (op : ℕ) (f g : Fields) (truth : Bool) → truth_of op f g ≡ some truth
    → ((op ≡ 6) × (truth ≡ is_earlier f g)) ⊎ ((op ≡ 7) × (truth ≡ is_earlier g f))
unfolding truth_of
cases op f g truth e =
    by-test (eqb op 6) (λ q. inl (eqb-true op 6 q, sym (some-injective _ _ (rw q at e))))
    (λ q.
    by-test (eqb op 7) (λ p. inr (eqb-true op 7 p, sym (some-injective _ _ (rw (q, p) at e))))
    (λ p. absurd (none-ne-some truth (rw (q, p) at e))))

truth-known : (op : ℕ) (f g : Fields) (truth : Bool) → ((op ≡ 6) × (truth ≡ is_earlier f g)) ⊎ ((op ≡ 7) × (truth ≡ is_earlier g f)) → truth_of op f g ≡ some truth
unfolding truth_of
truth-known op f g truth (inl h) = rw (h.0, h.1)
truth-known op f g truth (inr h) = rw (h.0, h.1)

-- Among marks.

one-of-append : (m : ℕ) (xs ys : List ℕ) → one_of m (xs ++ ys) ≡ (one_of m xs || one_of m ys)
unfolding one_of
one-of-append m [] ys = refl
one-of-append m (x ∷ xs) ys = assoc (eqb m x) (one-of-append m xs ys)
  where
    assoc : (b : Bool) → one_of m (xs ++ ys) ≡ (one_of m xs || one_of m ys) → (b || one_of m (xs ++ ys)) ≡ ((b || one_of m xs) || one_of m ys)
    assoc true e = refl
    assoc false e = e

one-of-left : (m : ℕ) (xs ys : List ℕ) → one_of m xs ≡ true → one_of m (xs ++ ys) ≡ true
one-of-left m xs ys h = rw (one-of-append m xs ys, h)

one-of-right : (m : ℕ) (xs ys : List ℕ) → one_of m ys ≡ true → one_of m (xs ++ ys) ≡ true
one-of-right m xs ys h = rw (one-of-append m xs ys, h) (or-true (one_of m xs))
  where
    or-true : (b : Bool) → (b || true) ≡ true
    or-true true = refl
    or-true false = refl

mark-entry : (e n : ℕ) (s t : Bool) → mark_of e s ≡ mark_of n t → (e ≡ n) × (s ≡ t)
unfolding mark_of
mark-entry e n true true q = (omega arith, refl)
mark-entry e n true false q = absurd (omega arith)
mark-entry e n false true q = absurd (omega arith)
mark-entry e n false false q = (omega arith, refl)

-- A marked entry is that of a constant condition.

marks-one : (e n : ℕ) (truth : Bool) (o : Option Bool) → one_of (mark_of e truth) (mark_if n o) ≡ true → (e ≡ n) × (o ≡ some truth)
unfolding one_of mark_if
marks-one e n truth none h = absurd (false≢true h)
marks-one e n truth (some t) h =
    or-true-cases (eqb (mark_of e truth) (mark_of n t)) false
    (λ q. let p = mark-entry e n truth t (eqb-true _ _ q) in (p.0, ap (λ (b : Bool). some b) (sym p.1)))
    (λ q. absurd (false≢true q)) h

found-pair : (e n op : ℕ) (left right : Value) (truth : Bool) (f g : Option Fields)
    → literal_instant left ≡ f
    → literal_instant right ≡ g
    → e ≡ n
    → truth_in op f g ≡ some truth
    → IsConstant (λ c. StandsIn c (two n op left right)) e truth
unfolding truth_in
found-pair e n op left right truth none g p q s h = absurd (none-ne-some truth h)
found-pair e n op left right truth (some f) none p q s h = absurd (none-ne-some truth h)
found-pair e n op left right truth (some f) (some g) p q s h =
    record {
      op = op;
      left = left;
      right = right;
      stands = ap (λ (k : ℕ). two k op left right) s;
      first = f;
      second = g;
      is_first = p;
      is_second = q;
      holds = cases op f g truth h;
    }

moved : {P Q : Condition → Type 0} {e : ℕ} {truth : Bool} → ((c : Condition) → P c → Q c) → IsConstant P e truth → IsConstant Q e truth
moved f k =
    record {
      op = k.op;
      left = k.left;
      right = k.right;
      stands = f _ k.stands;
      first = k.first;
      second = k.second;
      is_first = k.is_first;
      is_second = k.is_second;
      holds = k.holds;
    }

module _ (e : ℕ) (truth : Bool) where
  mutual
    unfolding marks_of one_of constant_of

    found : (d : Condition) → one_of (mark_of e truth) (marks_of d) ≡ true → IsConstant (λ c. StandsIn c d) e truth
    found (literal n t) h = absurd (false≢true h)
    found (many n op children) h = moved (λ c s. inr s) (found_among children h)
    found (negation n child) h = moved (λ c s. inr s) (found child h)
    found (one n op v) h = absurd (false≢true h)
    found (two n op left right) h =
        let m = marks-one e n truth (constant_of op left right) h in
        found-pair e n op left right truth (literal_instant left) (literal_instant right) refl refl m.0 m.1
    found (comparison n which left right) h = absurd (false≢true h)
    found (quantifier n op bind over body) h = moved (λ c s. inr s) (found body h)

    found_among : (ds : Conditions) → one_of (mark_of e truth) (marks_of_conditions ds) ≡ true → IsConstant (λ c. StandsAmong c ds) e truth
    found_among no_conditions h = absurd (false≢true h)
    found_among (condition d others) h =
        or-true-cases (one_of (mark_of e truth) (marks_of d)) (one_of (mark_of e truth) (marks_of_conditions others))
        (λ q. moved (λ c s. inl s) (found d q)) (λ q. moved (λ c s. inr s) (found_among others q))
        (sym (one-of-append (mark_of e truth) (marks_of d) (marks_of_conditions others)) ∙ h)

  -- A constant condition's entry is marked.

  module _ (c : Condition) (own : one_of (mark_of e truth) (marks_of c) ≡ true) where
    itself : (d : Condition) → c ≡ d → one_of (mark_of e truth) (marks_of d) ≡ true
    itself d s = subst (λ (x : Condition). one_of (mark_of e truth) (marks_of x) ≡ true) s own

    mutual
      unfolding marks_of

      kept : (d : Condition) → StandsIn c d → one_of (mark_of e truth) (marks_of d) ≡ true
      kept (literal n t) s = itself (literal n t) s
      kept (many n op children) (inl s) = itself (many n op children) s
      kept (many n op children) (inr s) = kept-among children s
      kept (negation n child) (inl s) = itself (negation n child) s
      kept (negation n child) (inr s) = kept child s
      kept (one n op v) s = itself (one n op v) s
      kept (two n op left right) s = itself (two n op left right) s
      kept (comparison n which left right) s = itself (comparison n which left right) s
      kept (quantifier n op bind over body) (inl s) = itself (quantifier n op bind over body) s
      kept (quantifier n op bind over body) (inr s) = kept body s

      kept-among : (ds : Conditions) → StandsAmong c ds → one_of (mark_of e truth) (marks_of_conditions ds) ≡ true
      kept-among no_conditions s = elim s [ ]
      kept-among (condition d others) (inl s) = one-of-left (mark_of e truth) (marks_of d) (marks_of_conditions others) (kept d s)
      kept-among (condition d others) (inr s) = one-of-right (mark_of e truth) (marks_of d) (marks_of_conditions others) (kept-among others s)

  own-mark : {P : Condition → Type 0} (k : IsConstant P e truth) → one_of (mark_of e truth) (marks_of (two e k.op k.left k.right)) ≡ true
  unfolding marks_of constant_of truth_in mark_if one_of
  own-mark k =
      rw (k.is_first, k.is_second, truth-known k.op k.first k.second truth k.holds, eq-eqb (mark_of e truth) (mark_of e truth) refl)

  -- an entry is marked exactly if it is that of a `before` or an `after` with two literal instants, and its mark says its truth
  pub exactly : (r : Rule) → (one_of (mark_of e truth) (marks_in r) ≡ true) ↔ IsConstant (StandsInRule r) e truth
  unfolding marks_in one_of
  exactly (rule name message assert) = (found assert, λ k. kept (two e k.op k.left k.right) (own-mark k) assert k.stands)
  exactly (template v) = (λ h. absurd (false≢true h), λ k. absurd k.stands)

-- Where marks lie: those of a condition are those of its entries, each of these once.

abbrev MarksLie : (low high : ℕ) → List ℕ → Type 0
MarksLie low high [] = low ≤ high
MarksLie low high (m ∷ ms) = (2 * low ≤ m) × MarksLie (m / 2 + 1) high ms

lie-within : (lower low high higher : ℕ) (ms : List ℕ) → lower ≤ low → high ≤ higher → MarksLie low high ms → MarksLie lower higher ms
lie-within lower low high higher [] l r h = omega arith
lie-within lower low high higher (m ∷ ms) l r h = (omega (arith, h.0), lie-within (m / 2 + 1) (m / 2 + 1) high higher ms (omega arith) r h.1)

lie-append : (low mid high : ℕ) (xs ys : List ℕ) → MarksLie low mid xs → MarksLie mid high ys → MarksLie low high (xs ++ ys)
lie-append low mid high [] ys h k = lie-within low mid high high ys h (omega arith) k
lie-append low mid high (x ∷ xs) ys h k = (h.0, lie-append (x / 2 + 1) mid high xs ys h.1 k)

one_lies : (n high : ℕ) (o : Option Bool) → n < high → MarksLie n high (mark_if n o)
unfolding mark_if mark_of
one_lies n high none l = omega arith
one_lies n high (some true) l = (omega arith, omega arith)
one_lies n high (some false) l = (omega arith, omega arith)

mutual
  unfolding marks_of condition_entries

  marks-lie : (n : ℕ) (c : Condition) → ConditionFrom n c → MarksLie n (n + condition_entries c) (marks_of c)
  marks-lie n (literal e truth) f = omega arith
  marks-lie n (many e op children) f =
      lie-within n (n + 1) (n + 1 + conditions_entries children) _ (marks_of_conditions children) (omega arith) (omega arith) (among-lie (n + 1) children f.1)
  marks-lie n (negation e child) f =
      lie-within n (n + 1) (n + 1 + condition_entries child) _ (marks_of child) (omega arith) (omega arith) (marks-lie (n + 1) child f.1)
  marks-lie n (one e op v) f = omega arith
  marks-lie n (two e op left right) f = rw f.0 (one_lies n _ (constant_of op left right) (omega arith))
  marks-lie n (comparison e which left right) f = omega arith
  marks-lie n (quantifier e op bind over body) f =
      lie-within n (n + 1 + value_entries over) (n + 1 + value_entries over + condition_entries body) _ (marks_of body) (omega arith) (omega arith)
      (marks-lie (n + 1 + value_entries over) body f.2)

  among-lie : (n : ℕ) (cs : Conditions) → ConditionsFrom n cs → MarksLie n (n + conditions_entries cs) (marks_of_conditions cs)
  among-lie n no_conditions f = omega arith
  among-lie n (condition c others) f =
      lie-append n (n + condition_entries c) _ (marks_of c) (marks_of_conditions others) (marks-lie n c f.0)
      (lie-within (n + condition_entries c) (n + condition_entries c) (n + condition_entries c + conditions_entries others) _ (marks_of_conditions others) (omega arith)
      (omega arith) (among-lie (n + condition_entries c) others f.1))

rule-lies : (r : Rule) → RuleFrom 1 r → MarksLie 1 (1 + rule_entries r) (marks_in r)
unfolding marks_in rule_entries
rule-lies (rule name message assert) f =
    lie-within 1 2 (2 + condition_entries assert) _ (marks_of assert) (omega arith) (omega arith) (marks-lie 2 assert f)
rule-lies (template v) f = omega arith

lie-rise : (low high : ℕ) (ms : List ℕ) → MarksLie low high ms → (least : ℕ) → least ≤ 2 * low → Rises least ms
lie-rise low high [] h least l = tt
lie-rise low high (m ∷ ms) h least l = (omega (arith, h.0), lie-rise (m / 2 + 1) high ms h.1 (m + 1) (omega arith))

lie-least : (low high k : ℕ) (ms : List ℕ) → MarksLie low high ms → one_of k ms ≡ true → 2 * low ≤ k
unfolding one_of
lie-least low high k [] h o = absurd (false≢true o)
lie-least low high k (m ∷ ms) h o =
    or-true-cases (eqb k m) (one_of k ms) (λ q. let e = eqb-true k m q in omega (arith, h.0))
    (λ q. let l = lie-least (m / 2 + 1) high k ms h.1 q in omega (arith, h.0)) o

lie-once : (low high e : ℕ) (ms : List ℕ) → MarksLie low high ms → one_of (mark_of e true) ms ≡ true → one_of (mark_of e false) ms ≡ true → ⊥
unfolding one_of mark_of
lie-once low high e [] h t f = false≢true t
lie-once low high e (m ∷ ms) h t f =
    or-true-cases (eqb (2 * e + 1) m) (one_of (2 * e + 1) ms)
    (λ p.
    let a = eqb-true (2 * e + 1) m p in
    or-true-cases (eqb (2 * e + 0) m) (one_of (2 * e + 0) ms) (λ q. let b = eqb-true (2 * e + 0) m q in omega arith)
    (λ q. let b = lie-least (m / 2 + 1) high (2 * e + 0) ms h.1 q in omega arith) f)
    (λ p.
    let a = lie-least (m / 2 + 1) high (2 * e + 1) ms h.1 p in
    or-true-cases (eqb (2 * e + 0) m) (one_of (2 * e + 0) ms) (λ q. let b = eqb-true (2 * e + 0) m q in omega arith)
    (λ q. lie-once (m / 2 + 1) high e ms h.1 p q) f)
    t

lie-high : (low high : ℕ) (ms : List ℕ) → MarksLie low high ms → low ≤ high
lie-high low high [] h = h
lie-high low high (m ∷ ms) h = omega (arith, h.0, lie-high (m / 2 + 1) high ms h.1)

lie-small : (low high : ℕ) (ms : List ℕ) → 2 * high < 2 ^ 32 → MarksLie low high ms → InFourBytes ms
lie-small low high [] s h = no_more
lie-small low high (m ∷ ms) s h =
    one_more {n = m} {ns = ms} (omega (arith, lie-high (m / 2 + 1) high ms h.1)) (lie-small (m / 2 + 1) high ms s h.1)

-- How many marks there are: a constant condition takes three entries.

one-mark : (e : ℕ) (o : Option Bool) → length (mark_if e o) ≤ 1
unfolding mark_if
one-mark e none = omega arith
one-mark e (some truth) = omega arith

mutual
  unfolding marks_of condition_entries

  marks-third : (c : Condition) → 3 * length (marks_of c) ≤ condition_entries c
  marks-third (literal e truth) = omega arith
  marks-third (many e op children) = let h = among-third children in omega arith
  marks-third (negation e child) = let h = marks-third child in omega arith
  marks-third (one e op v) = omega arith
  marks-third (two e op left right) =
      let h = one-mark e (constant_of op left right) in
      let l = value-takes left in
      let r = value-takes right in
      omega arith
  marks-third (comparison e which left right) = omega arith
  marks-third (quantifier e op bind over body) = let h = marks-third body in omega arith

  among-third : (cs : Conditions) → 3 * length (marks_of_conditions cs) ≤ conditions_entries cs
  among-third no_conditions = omega arith
  among-third (condition c others) =
      let h = marks-third c in
      let k = among-third others in
      let n = length-append (marks_of c) (marks_of_conditions others) in
      omega arith

rule-third : (r : Rule) → 3 * length (marks_in r) ≤ rule_entries r
unfolding marks_in rule_entries
rule-third (rule name message assert) = let h = marks-third assert in omega arith
rule-third (template v) = omega arith

-- The marks of a well formed sheet.
module _ (sheet : List ℕ) (r : Rule) (decodes : decode_rule sheet ≡ some r) where
  lies : MarksLie 1 (1 + rule_entries r) (marks_in r)
  lies = rule-lies r ((rule-round-trip sheet r).0 decodes).1.numbers

  pub marks-rise : Rises 0 (marks_in r)
  marks-rise = lie-rise 1 (1 + rule_entries r) (marks_in r) lies 0 (omega arith)

  -- no entry is marked both true and false
  pub marks-once : (e : ℕ) → one_of (mark_of e true) (marks_in r) ≡ true → one_of (mark_of e false) (marks_in r) ≡ true → ⊥
  marks-once e = lie-once 1 (1 + rule_entries r) e (marks_in r) lies

  -- four bytes for each have room in a list that is not refused
  pub marks-few : 4 * length (marks_in r) ≤ mark_bytes
  marks-few = omega (arith, rule-third r, ((rule-round-trip sheet r).0 decodes).1.entries)

  pub marks-small : InFourBytes (marks_in r)
  marks-small = lie-small 1 (1 + rule_entries r) (marks_in r) (omega (arith, ((rule-round-trip sheet r).0 decodes).1.entries)) lies

-- equal instants are neither before nor after one another
pub equal-is-neither : (left right : Value) (f : Fields) → literal_instant left ≡ some f → literal_instant right ≡ some f
    → (constant_of 6 left right ≡ some false) × (constant_of 7 left right ≡ some false)
unfolding constant_of truth_in truth_of
equal-is-neither left right f p q = (rw (p, q, earlier-irreflexive f), rw (p, q, earlier-irreflexive f))

-- Demand 3's companion: two calls that accept one rule hand back the same marks, whatever their schemas are.
pub marks-same : {a b : Answer} {n m : ℕ} (r : Option Rule) → a ≡ accepted n → b ≡ accepted m → marks_heard a r ≡ marks_heard b r
unfolding marks_heard
marks-same r p q = rw (p, q)
