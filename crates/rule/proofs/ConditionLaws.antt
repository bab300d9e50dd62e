-- Each way through the reader of a condition, on the decoder's side.
use Prim.Native.Nat.{ℕ, zero, suc, ◌+◌, ◌≤◌, ◌<◌}
use mathlib.Core.Bool.{Bool, true}
use mathlib.Core.List.{List}
use mathlib.Core.Option.{Option, none, some}
use mathlib.Core.Path.{◌≡◌, refl, sym, ap, ◌∙◌}
use native.Mathlib.Omega.{arith}
use Rattle.text.specs.Reader.{Reader, pure, refuse, and_then, ◌>>=◌, ◌>>◌}
use Rattle.sheet.specs.Entries.{ConditionHead, literal_head, many_head, negation_head, one_head, two_head, comparison_head, quantifier_head, condition_head}
use Rattle.definition.specs.Tree.{Value, constant, Values, no_values, value, Condition, literal, many, negation, one, two, comparison, quantifier, Conditions, no_conditions, condition}
use Rattle.definition.specs.Decode.{Ahead, entered, entry, any_value, values_of, conditions_of, condition_of, condition_in}
use Rattle.definition.specs.Within.{condition_entries, conditions_entries, values_entries}
use Rattle.definition.specs.Write.{count_of_values, count_of_conditions}
use Rattle.rule.specs.Index.{EntryAt, ValuesAt, ConditionAt, ConditionsAt}
use Rattle.rule.proofs.ReaderLaws.{some-both, First, then-first, paid, announced, not-announced, nothing-paid}
use Rattle.rule.proofs.ValueLaws.{values-count}

-- nothing may nest any more
pub condition-too-deep : (a : Ahead) (depth : ℕ) → depth ≡ 0 → condition_in depth a ≡ none
unfolding condition_in refuse
condition-too-deep a depth e = rw e

-- a condition's entry, and what it holds
under : (k : ℕ) (a : Ahead) → Option (ConditionHead × List ℕ) → Option (Condition × Ahead)
under k a o = and_then (entered a.next a.left o) (λ h. condition_of h.0 h.1 (condition_in k))

condition-under : (k : ℕ) (a : Ahead) → condition_in (suc k) a ≡ under k a (condition_head a.rest)
unfolding under condition_in ◌>>=◌ entry
condition-under k a = refl

pub condition-headless : (k : ℕ) (a : Ahead) → condition_head a.rest ≡ none → condition_in (suc k) a ≡ none
unfolding under and_then entered
condition-headless k a e = condition-under k a ∙ ap (under k a) e

pub condition-headed : (k : ℕ) (a : Ahead) (h : ConditionHead) (behind : List ℕ)
    → condition_head a.rest ≡ some (h, behind)
    → condition_in (suc k) a ≡ condition_of a.next h (condition_in k) (record { next = a.next + 1; left = a.left; rest = behind })
unfolding under and_then entered
condition-headed k a h behind e = condition-under k a ∙ ap (under k a) e

-- The siblings that the decoder read, one by one.

pub conditions-none : (p : Reader Ahead Condition) (a b : Ahead) (cs : Conditions)
    → conditions_of 0 p a ≡ some (cs, b)
    → (no_conditions ≡ cs) × (a ≡ b)
unfolding conditions_of pure
conditions-none p a b cs e = some-both e

pub conditions-first : (n : ℕ) (p : Reader Ahead Condition) (a b : Ahead) (cs : Conditions)
    → conditions_of (suc n) p a ≡ some (cs, b)
    → First (p a) (conditions_of n p) condition cs b
unfolding conditions_of ◌>>=◌
conditions-first n p a b cs e = then-first (p a) (conditions_of n p) condition cs b e

pub conditions-count : (n : ℕ) (p : Reader Ahead Condition) (a b : Ahead) (cs : Conditions) → conditions_of n p a ≡ some (cs, b) → count_of_conditions cs ≡ n
unfolding count_of_conditions
conditions-count zero p a b cs e = rw (← (conditions-none p a b cs e).0)
conditions-count (suc n) p a b cs e =
    let x = conditions-first n p a b cs e in
    let y : count_of_conditions x.others ≡ n = conditions-count n p x.mid b x.others x.are_others in
    ap count_of_conditions (sym x.is_first) ∙ omega arith

-- What a condition's head announces: so many values, then so many conditions, of `cost` entries together.
pub data Announces : ConditionHead → (values conditions cost : ℕ) → Type 0 where
  literal-announces : {truth : Bool} → Announces (literal_head truth) 0 0 0
  many-announces : {op n : ℕ} → Announces (many_head op n) 0 n n
  negation-announces : Announces negation_head 0 1 1
  one-announces : {op : ℕ} → Announces (one_head op) 1 0 1
  two-announces : {op : ℕ} → Announces (two_head op) 2 0 2
  comparison-announces : {which : ℕ} → Announces (comparison_head which) 2 0 2
  quantifier-announces : {op : ℕ} {bind : List ℕ} → Announces (quantifier_head op bind) 1 1 2

-- The condition with that head over its values and conditions.

value-at : ℕ → Values → Value
value-at i no_values = constant 0 0
value-at zero (value v others) = v
value-at (suc i) (value v others) = value-at i others

condition-of : Conditions → Condition
condition-of no_conditions = literal 0 true
condition-of (condition c others) = c

built : ℕ → ConditionHead → Values → Conditions → Condition
built e (literal_head truth) vs cs = literal e truth
built e (many_head op n) vs cs = many e op cs
built e negation_head vs cs = negation e (condition-of cs)
built e (one_head op) vs cs = one e op (value-at 0 vs)
built e (two_head op) vs cs = two e op (value-at 0 vs) (value-at 1 vs)
built e (comparison_head which) vs cs = comparison e which (value-at 0 vs) (value-at 1 vs)
built e (quantifier_head op bind) vs cs = quantifier e op bind (value-at 0 vs) (condition-of cs)

module _ (e : ℕ) (p : Reader Ahead Condition) (a : Ahead) where
  pub operands-unpaid : {h : ConditionHead} {v k cost : ℕ} → Announces h v k cost → a.left < cost → condition_of e h p a ≡ none
  unfolding condition_of ◌>>=◌ ◌>>◌ and_then
  operands-unpaid literal-announces q = absurd (omega arith)
  operands-unpaid (many-announces {n}) q = rw (not-announced n a q)
  operands-unpaid negation-announces q = rw (not-announced 1 a q)
  operands-unpaid one-announces q = rw (not-announced 1 a q)
  operands-unpaid two-announces q = rw (not-announced 2 a q)
  operands-unpaid comparison-announces q = rw (not-announced 2 a q)
  operands-unpaid quantifier-announces q = rw (not-announced 2 a q)

  with-conditions : ConditionHead → ℕ → Values → Reader Ahead Condition
  with-conditions h k vs = conditions_of k p >>= λ cs. pure (built e h vs cs)

  one_value : (f : Value → Condition) (o : Option (Value × Ahead))
      → and_then o (λ v. pure (f v)) ≡ and_then (and_then o (λ v m. some (value v no_values, m))) (λ vs. pure (f (value-at 0 vs)))
  unfolding and_then pure value-at
  one_value f none = refl
  one_value f (some r) = refl

  one-condition : (f : Condition → Condition) (o : Option (Condition × Ahead))
      → and_then o (λ c. pure (f c)) ≡ and_then (and_then o (λ c m. some (condition c no_conditions, m))) (λ cs. pure (f (condition-of cs)))
  unfolding and_then pure condition-of
  one-condition f none = refl
  one-condition f (some r) = refl

  two-values : (f : Value → Value → Condition) (o : Option (Value × Ahead))
      → and_then o (λ l. any_value >>= λ r. pure (f l r))
      ≡ and_then (and_then o (λ l. values_of 1 any_value >>= λ others. pure (value l others))) (λ vs. pure (f (value-at 0 vs) (value-at 1 vs)))
  unfolding and_then pure value-at values_of ◌>>=◌
  two-values f none = refl
  two-values f (some t) = right (any_value t.1)
    where
      right : (o : Option (Value × Ahead))
          → and_then o (λ r. pure (f t.0 r))
          ≡ and_then (and_then (and_then o (λ r m. some (value r no_values, m))) (λ others. pure (value t.0 others))) (λ vs. pure (f (value-at 0 vs) (value-at 1 vs)))
      right none = refl
      right (some u) = refl

  value-then-condition : (f : Value → Condition → Condition) (o : Option (Value × Ahead))
      → and_then o (λ v. p >>= λ c. pure (f v c))
      ≡ and_then (and_then o (λ v m. some (value v no_values, m))) (λ vs. conditions_of 1 p >>= λ cs. pure (f (value-at 0 vs) (condition-of cs)))
  unfolding and_then pure value-at conditions_of ◌>>=◌
  value-then-condition f none = refl
  value-then-condition f (some t) = one-condition (f t.0) (p t.1)

  -- the values are read before the conditions
  operands-read : {h : ConditionHead} {v k cost : ℕ}
      → Announces h v k cost
      → cost ≤ a.left
      → condition_of e h p a ≡ and_then (values_of v any_value (paid cost a)) (with-conditions h k)
  unfolding condition_of conditions_of values_of with-conditions built pure ◌>>=◌ ◌>>◌ and_then
  operands-read (literal-announces {truth}) q = ap (λ (m : Ahead). some (literal e truth, m)) (nothing-paid a (paid 0 a) refl)
  operands-read (many-announces {n}) q = rw (announced n a q)
  operands-read negation-announces q = rw (announced 1 a q) (one-condition (negation e) (p (paid 1 a)))
  operands-read (one-announces {op}) q = rw (announced 1 a q) (one_value (one e op) (any_value (paid 1 a)))
  operands-read (two-announces {op}) q = rw (announced 2 a q) (two-values (two e op) (any_value (paid 2 a)))
  operands-read (comparison-announces {which}) q = rw (announced 2 a q) (two-values (comparison e which) (any_value (paid 2 a)))
  operands-read (quantifier-announces {op} {bind}) q = rw (announced 2 a q) (value-then-condition (quantifier e op bind) (any_value (paid 2 a)))

  module _ {h : ConditionHead} {v k cost : ℕ} (announces : Announces h v k cost) (pays : cost ≤ a.left) where
    pub operands-valueless : values_of v any_value (paid cost a) ≡ none → condition_of e h p a ≡ none
    unfolding and_then
    operands-valueless f = operands-read announces pays ∙ ap (λ o. and_then o (with-conditions h k)) f

    pub operands-conditionless : {vs : Values} {b : Ahead}
        → values_of v any_value (paid cost a) ≡ some (vs, b)
        → conditions_of k p b ≡ none
        → condition_of e h p a ≡ none
    unfolding and_then with-conditions ◌>>=◌
    operands-conditionless {vs} {b} f g =
        operands-read announces pays ∙ ap (λ o. and_then o (with-conditions h k)) f ∙ ap (λ o. and_then o (λ cs. pure (built e h vs cs))) g

    operands-good : (vs : Values) (cs : Conditions) (b d : Ahead)
        → values_of v any_value (paid cost a) ≡ some (vs, b)
        → conditions_of k p b ≡ some (cs, d)
        → condition_of e h p a ≡ some (built e h vs cs, d)
    unfolding and_then with-conditions pure ◌>>=◌
    operands-good vs cs b d f g =
        operands-read announces pays ∙ ap (λ o. and_then o (with-conditions h k)) f ∙ ap (λ o. and_then o (λ cs. pure (built e h vs cs))) g

-- Trees of a known count.

no_value : (vs : Values) → count_of_values vs ≡ 0 → no_values ≡ vs
unfolding count_of_values
no_value no_values e = refl
no_value (value v others) e = absurd (omega arith)

record OneValue (vs : Values) : Type 0 where
  v : Value
  is_one : value v no_values ≡ vs

one-value-of : (vs : Values) → count_of_values vs ≡ 1 → OneValue vs
unfolding count_of_values
one-value-of no_values e = absurd (omega arith)
one-value-of (value v others) e = record { v = v; is_one = ap (value v) (no_value others (omega arith)) }

record TwoValues (vs : Values) : Type 0 where
  left : Value
  right : Value
  are_two : value left (value right no_values) ≡ vs

two-values-of : (vs : Values) → count_of_values vs ≡ 2 → TwoValues vs
unfolding count_of_values
two-values-of no_values e = absurd (omega arith)
two-values-of (value v others) e =
    let x = one-value-of others (omega arith) in
    record { left = v; right = x.v; are_two = ap (value v) x.is_one }

no-condition : (cs : Conditions) → count_of_conditions cs ≡ 0 → no_conditions ≡ cs
unfolding count_of_conditions
no-condition no_conditions e = refl
no-condition (condition c others) e = absurd (omega arith)

record OneCondition (cs : Conditions) : Type 0 where
  c : Condition
  is_one : condition c no_conditions ≡ cs

one-condition-of : (cs : Conditions) → count_of_conditions cs ≡ 1 → OneCondition cs
unfolding count_of_conditions
one-condition-of no_conditions e = absurd (omega arith)
one-condition-of (condition c others) e = record { c = c; is_one = ap (condition c) (no-condition others (omega arith)) }

entry-resized : {sheet words : List ℕ} {i size other e : ℕ} {h : ConditionHead}
    → size ≡ other
    → EntryAt condition_head sheet words i size e h
    → EntryAt condition_head sheet words i other e h
entry-resized z at = rw z at at

moved : (sheet words : List ℕ) {i j : ℕ} (cs : Conditions) → i ≡ j → ConditionsAt sheet words i cs → ConditionsAt sheet words j cs
moved sheet words cs z at = rw z at at

moved-one : (sheet words : List ℕ) {i j : ℕ} (c : Condition) → i ≡ j → ConditionAt sheet words i c → ConditionAt sheet words j c
moved-one sheet words c z at = rw z at at

-- the size and the index of a condition over its operands
pub record Operands (sheet : List ℕ) (e : ℕ) (h : ConditionHead) (vs : Values) (cs : Conditions) (tree : Condition) : Type 0 where
  pub is_size : condition_entries tree ≡ 1 + (values_entries vs + conditions_entries cs)
  pub is_at : (words : List ℕ) (i : ℕ)
      → EntryAt condition_head sheet words i (1 + (values_entries vs + conditions_entries cs)) e h
      → ValuesAt sheet words (i + 1) vs
      → ConditionsAt sheet words (i + 1 + values_entries vs) cs
      → ConditionAt sheet words i tree

module _ (sheet : List ℕ) (e : ℕ) where
  operands-built : {h : ConditionHead} {v k cost : ℕ}
      → Announces h v k cost
      → (vs : Values) (cs : Conditions)
      → count_of_values vs ≡ v
      → count_of_conditions cs ≡ k
      → Operands sheet e h vs cs (built e h vs cs)
  unfolding built value-at condition-of condition_entries conditions_entries values_entries
  operands-built literal-announces vs cs f g =
      rw (← no_value vs f, ← no-condition cs g) (record { is_size = refl; is_at = λ words i at values conditions. at })
  operands-built many-announces vs cs f g =
      rw (← no_value vs f)
      (record {
        is_size = omega arith;
        is_at = λ words i at values conditions. (rw g (entry-resized (omega arith) at), moved sheet words cs (omega arith) conditions);
      })
  operands-built negation-announces vs cs f g =
      let x = one-condition-of cs g in
      rw (← no_value vs f, ← x.is_one)
      (record { is_size = omega arith; is_at = λ words i at values conditions. (entry-resized (omega arith) at, moved-one sheet words x.c (omega arith) conditions.0) })
  operands-built one-announces vs cs f g =
      let x = one-value-of vs f in
      rw (← x.is_one, ← no-condition cs g)
      (record { is_size = omega arith; is_at = λ words i at values conditions. (entry-resized (omega arith) at, values.0) })
  operands-built two-announces vs cs f g =
      let x = two-values-of vs f in
      rw (← x.are_two, ← no-condition cs g)
      (record { is_size = omega arith; is_at = λ words i at values conditions. (entry-resized (omega arith) at, values.0, values.1.0) })
  operands-built comparison-announces vs cs f g =
      let x = two-values-of vs f in
      rw (← x.are_two, ← no-condition cs g)
      (record { is_size = omega arith; is_at = λ words i at values conditions. (entry-resized (omega arith) at, values.0, values.1.0) })
  operands-built quantifier-announces vs cs f g =
      let x = one-value-of vs f in
      let y = one-condition-of cs g in
      rw (← x.is_one, ← y.is_one)
      (record {
        is_size = omega arith;
        is_at = λ words i at values conditions. (entry-resized (omega arith) at, values.0, moved-one sheet words y.c (omega arith) conditions.0);
      })

-- the condition over what was read inside it
pub record Holder (sheet : List ℕ) (e : ℕ) (h : ConditionHead) (p : Reader Ahead Condition) (a d : Ahead) (vs : Values) (cs : Conditions) : Type 0 where
  pub tree : Condition
  pub reads : condition_of e h p a ≡ some (tree, d)
  pub operands : Operands sheet e h vs cs tree

pub operands-held : (sheet : List ℕ) (e : ℕ) (p : Reader Ahead Condition) (a b d : Ahead) {h : ConditionHead} {v k cost : ℕ} (vs : Values) (cs : Conditions)
    → Announces h v k cost
    → cost ≤ a.left
    → values_of v any_value (paid cost a) ≡ some (vs, b)
    → conditions_of k p b ≡ some (cs, d)
    → Holder sheet e h p a d vs cs
operands-held sheet e p a b d {h} {v} {k} {cost} vs cs announces pays f g =
    record {
      tree = built e h vs cs;
      reads = operands-good e p a announces pays vs cs b d f g;
      operands = operands-built sheet e announces vs cs (values-count v any_value (paid cost a) b vs f) (conditions-count k p b d cs g);
    }
