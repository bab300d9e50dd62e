-- A value or a condition that is found in a tree by the number of its entry is at the word before that number.
use Prim.Native.Nat.{ℕ, ◌+◌, ◌-◌}
use native.Mathlib.Omega.{arith}
use mathlib.Core.Bool.{Bool, true, false}
use mathlib.Core.List.{List, []}
use mathlib.Core.Option.{Option, none, some, some-injective, none-ne-some}
use mathlib.Core.Path.{◌≡◌, refl, sym, ap, subst, ◌∙◌}
use lib.Dec.{eqb}
use lib.ListN.{drop}
use borrow.Author.Tests.{eqb-true}
use Rattle.text.specs.Reader.{or_else}
use Rattle.sheet.specs.Entries.{ConditionHead, literal_head, many_head, negation_head, one_head, two_head, comparison_head, quantifier_head, condition_head}
use Rattle.definition.specs.Tree.{Text, Value, constant, number, string, array, object, Values, no_values, value, Pairs, no_pairs, pair, Condition, literal, many, negation, one, two, comparison, quantifier, Conditions, no_conditions, condition, Rule, rule, template}
use Rattle.definition.specs.Within.{value_entries, condition_entries}
use Rattle.rule.specs.Index.{start_of, EntryAt, ValueAt, ValuesAt, PairsAt, ConditionAt, ConditionsAt, RuleAt}
use Rattle.rule.specs.Kinds.{operator_in}
use Rattle.message.specs.Message.{here_else, value_in, value_in_values, value_in_pairs, value_in_condition, value_in_conditions, value_at, Head, head, head_in, head_in_conditions}

-- found here, or among the others
here-or : {A : Type 0} (b : Bool) (a u : A) (o : Option A) (P : Type 0) → here_else b a o ≡ some u → (b ≡ true → a ≡ u → P) → (o ≡ some u → P) → P
unfolding here_else
here-or true a u o P e f g = f refl (some-injective a u e)
here-or false a u o P e f g = g e

or-else : {A : Type 0} (x y : Option A) (u : A) (P : Type 0) → or_else x y ≡ some u → (x ≡ some u → P) → (y ≡ some u → P) → P
unfolding or_else
or-else none y u P e f g = g e
or-else (some a) y u P e f g = f e

nowhere : {A : Type 0} {P : Type 0} (u : A) → none ≡ some u → P
nowhere u e = absurd (none-ne-some u e)

module _ (sheet words : List ℕ) (place : ℕ) where
  -- the bind of a quantifier's head
  unfoldable pub bind_in : ConditionHead → Text
  bind_in (literal_head truth) = []
  bind_in (many_head op count) = []
  bind_in negation_head = []
  bind_in (one_head op) = []
  bind_in (two_head op) = []
  bind_in (comparison_head which) = []
  bind_in (quantifier_head op bind) = bind

  pub record HeadPlaced (h : Head) : Type 0 where
    pub is : ConditionHead
    pub rest : List ℕ
    pub reads : condition_head (drop (start_of words (place - 1)) sheet) ≡ some (is, rest)
    pub op : operator_in is ≡ h.op
    pub bind : bind_in is ≡ h.bind

  value-here : (i e : ℕ) (v u : Value) → e ≡ i + 1 → ValueAt sheet words i v → eqb e place ≡ true → v ≡ u → ValueAt sheet words (place - 1) u
  value-here i e v u n h t same =
      let same_place : e ≡ place = eqb-true e place t in
      let word : place - 1 ≡ i = omega arith in
      subst (λ (y : Value). ValueAt sheet words (place - 1) y) same (subst (λ (k : ℕ). ValueAt sheet words k v) (sym word) h)

  mutual
    unfolding value_in

    value-indexed : (i : ℕ) (v u : Value) → ValueAt sheet words i v → value_in place v ≡ some u → ValueAt sheet words (place - 1) u
    value-indexed i (constant e type) u h f = here-or (eqb e place) (constant e type) u none _ f (value-here i e (constant e type) u h.is_entry h) (λ k. nowhere u k)
    value-indexed i (number e digits) u h f = here-or (eqb e place) (number e digits) u none _ f (value-here i e (number e digits) u h.is_entry h) (λ k. nowhere u k)
    value-indexed i (string e t) u h f = here-or (eqb e place) (string e t) u none _ f (value-here i e (string e t) u h.is_entry h) (λ k. nowhere u k)
    value-indexed i (array e values) u h f =
        here-or (eqb e place) (array e values) u (value_in_values place values) _ f (value-here i e (array e values) u h.0.is_entry h) (λ k. values-indexed (i + 1) values u h.1 k)
    value-indexed i (object e pairs) u h f =
        here-or (eqb e place) (object e pairs) u (value_in_pairs place pairs) _ f (value-here i e (object e pairs) u h.0.is_entry h) (λ k. pairs-indexed (i + 1) pairs u h.1 k)

    values-indexed : (i : ℕ) (vs : Values) (u : Value) → ValuesAt sheet words i vs → value_in_values place vs ≡ some u → ValueAt sheet words (place - 1) u
    values-indexed i no_values u h f = nowhere u f
    values-indexed i (value v others) u h f =
        or-else (value_in place v) (value_in_values place others) u _ f (λ k. value-indexed i v u h.0 k) (λ k. values-indexed (i + value_entries v) others u h.1 k)

    pairs-indexed : (i : ℕ) (ps : Pairs) (u : Value) → PairsAt sheet words i ps → value_in_pairs place ps ≡ some u → ValueAt sheet words (place - 1) u
    pairs-indexed i no_pairs u h f = nowhere u f
    pairs-indexed i (pair key v others) u h f =
        or-else (value_in place v) (value_in_pairs place others) u _ f (λ k. value-indexed (i + 1) v u h.1 k) (λ k. pairs-indexed (i + (1 + value_entries v)) others u h.2 k)

  mutual
    unfolding value_in_condition

    condition-indexed : (i : ℕ) (c : Condition) (u : Value) → ConditionAt sheet words i c → value_in_condition place c ≡ some u → ValueAt sheet words (place - 1) u
    condition-indexed i (literal e truth) u h f = nowhere u f
    condition-indexed i (many e op children) u h f = conditions-indexed (i + 1) children u h.1 f
    condition-indexed i (negation e child) u h f = condition-indexed (i + 1) child u h.1 f
    condition-indexed i (one e op v) u h f = value-indexed (i + 1) v u h.1 f
    condition-indexed i (two e op left right) u h f =
        or-else (value_in place left) (value_in place right) u _ f (λ k. value-indexed (i + 1) left u h.1 k) (λ k. value-indexed (i + 1 + value_entries left) right u h.2 k)
    condition-indexed i (comparison e which left right) u h f =
        or-else (value_in place left) (value_in place right) u _ f (λ k. value-indexed (i + 1) left u h.1 k) (λ k. value-indexed (i + 1 + value_entries left) right u h.2 k)
    condition-indexed i (quantifier e op bind over that) u h f =
        or-else (value_in place over) (value_in_condition place that) u _ f (λ k. value-indexed (i + 1) over u h.1 k) (λ k. condition-indexed (i + 1 + value_entries over) that u h.2 k)

    conditions-indexed : (i : ℕ) (cs : Conditions) (u : Value) → ConditionsAt sheet words i cs → value_in_conditions place cs ≡ some u → ValueAt sheet words (place - 1) u
    conditions-indexed i no_conditions u h f = nowhere u f
    conditions-indexed i (condition c others) u h f =
        or-else (value_in_condition place c) (value_in_conditions place others) u _ f (λ k. condition-indexed i c u h.0 k) (λ k. conditions-indexed (i + condition_entries c) others u h.1 k)

  pub rule-indexed : (r : Rule) (u : Value) → RuleAt sheet words r → value_at place r ≡ some u → ValueAt sheet words (place - 1) u
  unfolding value_at
  rule-indexed (rule name message assert) u h f = condition-indexed 1 assert u h.1 f
  rule-indexed (template v) u h f = value-indexed 1 v u h.1 f

  head-here : (i size e : ℕ) (x : ConditionHead) (a h : Head) → EntryAt condition_head sheet words i size e x → operator_in x ≡ a.op → bind_in x ≡ a.bind → eqb e place ≡ true → a ≡ h → HeadPlaced h
  head-here i size e x a h entry op bind t same =
      let same_place : e ≡ place = eqb-true e place t in
      let word : place - 1 ≡ i = omega (arith, entry.is_entry) in
      subst HeadPlaced same
      (record {
        is = x;
        rest = entry.rest;
        reads = subst (λ (k : ℕ). condition_head (drop (start_of words k) sheet) ≡ some (x, entry.rest)) (sym word) entry.reads;
        op = op;
        bind = bind;
      })

  mutual
    unfolding head_in operator_in bind_in

    pub head-indexed : (i : ℕ) (c : Condition) (h : Head) → ConditionAt sheet words i c → head_in place c ≡ some h → HeadPlaced h
    head-indexed i (literal e truth) h w f = here-or (eqb e place) (head 1 []) h none _ f (head-here i 1 e (literal_head truth) (head 1 []) h w refl refl) (λ k. nowhere h k)
    head-indexed i (many e op children) h w f =
        here-or (eqb e place) (head op []) h (head_in_conditions place children) _ f (head-here i _ e _ (head op []) h w.0 refl refl) (λ k. heads-indexed (i + 1) children h w.1 k)
    head-indexed i (negation e child) h w f =
        here-or (eqb e place) (head 4 []) h (head_in place child) _ f (head-here i _ e negation_head (head 4 []) h w.0 refl refl) (λ k. head-indexed (i + 1) child h w.1 k)
    head-indexed i (one e op v) h w f = here-or (eqb e place) (head op []) h none _ f (head-here i _ e (one_head op) (head op []) h w.0 refl refl) (λ k. nowhere h k)
    head-indexed i (two e op left right) h w f = here-or (eqb e place) (head op []) h none _ f (head-here i _ e (two_head op) (head op []) h w.0 refl refl) (λ k. nowhere h k)
    head-indexed i (comparison e which left right) h w f =
        here-or (eqb e place) (head 18 []) h none _ f (head-here i _ e (comparison_head which) (head 18 []) h w.0 refl refl) (λ k. nowhere h k)
    head-indexed i (quantifier e op bind over that) h w f =
        here-or (eqb e place) (head op bind) h (head_in place that) _ f (head-here i _ e (quantifier_head op bind) (head op bind) h w.0 refl refl)
        (λ k. head-indexed (i + 1 + value_entries over) that h w.2 k)

    heads-indexed : (i : ℕ) (cs : Conditions) (h : Head) → ConditionsAt sheet words i cs → head_in_conditions place cs ≡ some h → HeadPlaced h
    heads-indexed i no_conditions h w f = nowhere h f
    heads-indexed i (condition c others) h w f =
        or-else (head_in place c) (head_in_conditions place others) h _ f (λ k. head-indexed i c h w.0 k) (λ k. heads-indexed (i + condition_entries c) others h w.1 k)
