-- Where a rule or template does not mention a name, no check of its list asks for it, and no binder around a check does.
use Rattle.std.specs.Prelude.{ℕ, Bool, cond, ◌&&◌, ◌||◌, refl}
use Rattle.std.proofs.Math.Bool.{true, false, not}
use Rattle.std.proofs.lemmas.Bool.{false≢true}
use mathlib.Core.List.{List, [], ◌∷◌, ◌++◌, map}
use Rattle.std.proofs.Math.Option.{Option, none, some}
use Rattle.std.proofs.Math.Path.{◌≡◌}
use Rattle.std.proofs.Common.{sym, arith}
use Rattle.sheet.specs.Operators.{compare_operator, is_instant_test, is_affix, literal_operator, not_operator}
use Rattle.definition.specs.Tree.{Text, Value, constant, number, string, array, object, Values, no_values, value, Pairs, no_pairs, pair, Condition, literal, many, negation, one, two, comparison, quantifier, Conditions, no_conditions, condition, Rule, rule, template}
use Rattle.reference.specs.Setting.{Setting}
use Rattle.reference.specs.Path.{split}
use Rattle.reference.specs.Reference.{begins_with_dollar}
use Rattle.validation.specs.Check.{Binder, Question, settled, readable, walkable, fails_if, Check, check, reference_text, reference_check, references, references_of_values, references_of_pairs, Literal, literals, literal_check, entry_of, is_string, is_holder, instant_text, instant_form, is_none, instant_operand, affix_operand, compare_side, operand, operator_check, body, bodies, literal_checks, checks}
use Rattle.validation.proofs.CheckLaws.{Every, every_append, every-if}
use Rattle.field_changes.specs.Mention.{is_next, past_first, is_named, in_reference, in_value, in_values, in_pairs, in_over, in_condition, in_conditions, mentions}

or-first : (x y : Bool) → (x || y) ≡ false → x ≡ false
or-first true y e = e
or-first false y e = refl

or-second : (x y : Bool) → (x || y) ≡ false → y ≡ false
or-second true y e = absurd (false≢true (sym e))
or-second false y e = e

module _ (name : Text) where
  -- the question does not ask for the name
  abbrev pub Clear : Question → Type 0
  Clear (settled o) = Unit {0}
  Clear (readable t) = is_next name (split t).others ≡ false
  Clear (walkable v) = in_over name v ≡ false

  abbrev pub ClearBinders : List Binder → Type 0
  ClearBinders [] = Unit {0}
  ClearBinders (b ∷ bs) = (in_over name b.over ≡ false) × ClearBinders bs

  pub record Clears (c : Check) : Type 0 where
    pub question : Clear c.question
    pub binders : ClearBinders c.binders

  clears : (n p : ℕ) (bs : List Binder) (q : Question) → ClearBinders bs → Clear q → Clears (check n p bs q)
  unfolding check
  clears n p bs q b h = record { question = h; binders = b }

  clear-if : (b : Bool) (d : ℕ) → Clear (fails_if b d)
  unfolding fails_if
  clear-if true d = tt
  clear-if false d = tt

  some-if : (b : Bool) (t u : Text) → cond b (some t) none ≡ some u → t ≡ u
  some-if true t u e = cc
  some-if false t u e = let z : ◌≡◌ {A = ℕ} 0 1 = cc in absurd (omega arith)

  -- the reference's text is the string past its first byte
  reference-past : (t u : Text) → reference_text t ≡ some u → past_first t ≡ u
  unfolding reference_text past_first
  reference-past [] u e = let z : ◌≡◌ {A = ℕ} 0 1 = cc in absurd (omega arith)
  reference-past (a ∷ t) u e = some-if (begins_with_dollar (a ∷ t) && not (begins_with_dollar t)) t u e

  clear-reference : (bs : List Binder) (e : ℕ) (t : Text) (o : Option Text)
      → ClearBinders bs
      → reference_text t ≡ o
      → in_reference name t o ≡ false
      → Every Clears (reference_check bs e o)
  unfolding reference_check in_reference is_named
  clear-reference bs e t none b same h = tt
  clear-reference bs e t (some u) b same h = (clears 18 e bs (readable u) b (rw (reference-past t u same) at h), tt)

  mutual
    unfolding references in_value

    clear-value : (bs : List Binder) → ClearBinders bs → (v : Value) → in_value name v ≡ false → Every Clears (references bs v)
    clear-value bs b (constant e type) h = tt
    clear-value bs b (number e digits) h = tt
    clear-value bs b (string e t) h = clear-reference bs e t (reference_text t) b refl h
    clear-value bs b (array e values) h = clear-values bs b values h
    clear-value bs b (object e pairs) h = clear-pairs bs b pairs h

    clear-values : (bs : List Binder) → ClearBinders bs → (vs : Values) → in_values name vs ≡ false → Every Clears (references_of_values bs vs)
    clear-values bs b no_values h = tt
    clear-values bs b (value v others) h =
        every_append Clears (references bs v) _ (clear-value bs b v (or-first (in_value name v) _ h)) (clear-values bs b others (or-second (in_value name v) _ h))

    clear-pairs : (bs : List Binder) → ClearBinders bs → (ps : Pairs) → in_pairs name ps ≡ false → Every Clears (references_of_pairs bs ps)
    clear-pairs bs b no_pairs h = tt
    clear-pairs bs b (pair key v others) h =
        every_append Clears (references bs v) _ (clear-value bs b v (or-first (in_value name v) _ h)) (clear-pairs bs b others (or-second (in_value name v) _ h))

  clear-cond : (b : Bool) (q r : Question) → Clear q → Clear r → Clear (cond b q r)
  clear-cond true q r h k = h
  clear-cond false q r h k = k

  clear-form : (v : Value) → Clear (instant_form v)
  unfolding instant_form instant_text
  clear-form (constant e type) = tt
  clear-form (number e digits) = tt
  clear-form (string e t) = clear-cond (begins_with_dollar t) (fails_if (is_none (reference_text t)) 1) _ (clear-if _ 1) (clear-if _ 2)
  clear-form (array e values) = tt
  clear-form (object e pairs) = tt

  clear-with : (bs : List Binder) → ClearBinders bs → (v : Value) (n : ℕ) (q : Question) → in_value name v ≡ false → Clear q
      → Every Clears (references bs v ++ (check n (entry_of v) bs q ∷ []))
  clear-with bs b v n q h k = every_append Clears (references bs v) _ (clear-value bs b v h) (clears n (entry_of v) bs q b k, tt)

  clear-operand : (bs : List Binder) → ClearBinders bs → (op : ℕ) (v : Value) → in_value name v ≡ false → Every Clears (operand op bs v)
  unfolding operand instant_operand affix_operand
  clear-operand bs b op v h =
      every-if Clears (is_instant_test op) (instant_operand bs v) _ (clear-with bs b v 20 (instant_form v) h (clear-form v))
      (every-if Clears (is_affix op) (affix_operand bs v) _ (clear-with bs b v 19 (fails_if (not (is_string v)) 0) h (clear-if _ 0)) (clear-value bs b v h))

  clear-side : (bs : List Binder) → ClearBinders bs → (d : ℕ) (v : Value) → in_value name v ≡ false → Every Clears (compare_side bs d v)
  unfolding compare_side
  clear-side bs b d v h = (clears 17 (entry_of v) bs _ b (clear-if (is_holder v) d), clear-value bs b v h)

  clear-operator : (setting : Setting) (bs : List Binder) (e op : ℕ) → ClearBinders bs → Clears (operator_check setting bs e op)
  unfolding operator_check
  clear-operator setting bs e op b = clears 15 e bs _ b (clear-if _ 0)

  module _ (setting : Setting) where
    mutual
      unfolding body bodies in_condition

      clear-body : (bs : List Binder) → ClearBinders bs → (c : Condition) → in_condition name c ≡ false → Every Clears (body setting bs c)
      clear-body bs b (literal e truth) h = (clear-operator setting bs e literal_operator b, tt)
      clear-body bs b (many e op children) h =
          (clear-operator setting bs e op b, (clears 16 e bs _ b (clear-if _ 0), clear-bodies bs b children h))
      clear-body bs b (negation e child) h = (clear-operator setting bs e not_operator b, clear-body bs b child h)
      clear-body bs b (one e op v) h = (clear-operator setting bs e op b, clear-value bs b v h)
      clear-body bs b (two e op left right) h = (
        clear-operator setting bs e op b,
        every_append Clears (operand op bs left) (operand op bs right)
            (clear-operand bs b op left (or-first (in_value name left) _ h))
            (clear-operand bs b op right (or-second (in_value name left) _ h)),
      )
      clear-body bs b (comparison e which left right) h = (
        clear-operator setting bs e compare_operator b,
        every_append Clears (compare_side bs 1 left) (compare_side bs 2 right)
            (clear-side bs b 1 left (or-first (in_value name left) _ h))
            (clear-side bs b 2 right (or-second (in_value name left) _ h)),
      )
      clear-body bs b (quantifier e op bind over that) h =
          let over-clear = or-first (in_over name over) _ h in
          let below = or-second (in_over name over) _ h in (
            clear-operator setting bs e op b,
            (
              clears 21 e bs _ b (clear-if _ 0),
              every_append Clears (references bs over) _
                  (clear-value bs b over (or-first (in_value name over) _ below)) (
                    clears 22 e bs (walkable over) b over-clear,
                    clear-body (record { name = bind; over = over } ∷ bs) (over-clear, b) that (or-second (in_value name over) _ below),
                  ),
            ),
          )

      clear-bodies : (bs : List Binder) → ClearBinders bs → (cs : Conditions) → in_conditions name cs ≡ false → Every Clears (bodies setting bs cs)
      clear-bodies bs b no_conditions h = tt
      clear-bodies bs b (condition c others) h =
          every_append Clears (body setting bs c) _
          (clear-body bs b c (or-first (in_condition name c) _ h))
          (clear-bodies bs b others (or-second (in_condition name c) _ h))

    clear-literals : (ls : List Literal) → Every Clears (map literal_check ls)
    unfolding literal_check
    clear-literals [] = tt
    clear-literals (l ∷ ls) = (clears 14 l.entry [] _ tt (clear-if _ 0), clear-literals ls)

    pub clear-checks : (r : Rule) → mentions name r ≡ false → Every Clears (checks setting r)
    unfolding checks literal_checks mentions
    clear-checks (rule rule_name message assert) h = (
      clears 11 1 [] _ tt (clear-if _ 0),
      (
        clears 12 1 [] _ tt (clear-if _ 0),
        (
          clears 13 2 [] _ tt (clear-if _ 0),
          every_append Clears (literal_checks setting assert) (body setting [] assert)
              (every-if Clears setting.is_service (map literal_check (literals assert)) [] (clear-literals (literals assert)) tt)
              (clear-body [] tt assert h),
        ),
      ),
    )
    clear-checks (template v) h = clear-value [] tt v h
