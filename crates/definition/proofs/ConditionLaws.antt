-- A condition is read back as it was written, and what is read as a condition is one as it is written.
use Rattle.std.specs.Prelude.{ℕ, zero, suc, ◌+◌, ◌≤◌, ◌++◌, ◌≡◌}
use Rattle.std.proofs.Math.Path.{refl}
use native.Mathlib.Omega.{arith}
use Rattle.text.specs.Reader.{Reader, ◌>>=◌, pure}
use Rattle.text.specs.ReaderLaws.{Reads, bind-reads, pure-inv, refuse-inv}
use Rattle.sheet.specs.Entries.{max_count, ConditionHead, literal_head, many_head, negation_head, one_head, two_head, comparison_head, quantifier_head, condition_head}
use Rattle.sheet.specs.Write.{write_condition_head}
use Rattle.sheet.proofs.RuleHeadLaws.{ConditionHeadFits, condition_head-exact}
use Rattle.definition.specs.Tree.{Value, Condition, literal, many, negation, one, two, comparison, quantifier, Conditions, no_conditions, condition}
use Rattle.definition.specs.Limits.{max_value_nesting}
use Rattle.definition.specs.Decode.{Ahead, entry, any_value, conditions_of, condition_of, condition_in}
use Rattle.definition.specs.Write.{write_value, count_of_conditions, write_condition, write_conditions}
use Rattle.definition.specs.Within.{value_entries, OperandFits, ValueFrom, condition_entries, conditions_entries, condition_nesting, conditions_nesting, ConditionFits, ConditionsFit, ConditionFrom, ConditionsFrom}
use Rattle.definition.proofs.SiblingLaws.{conditions-of, Written, siblings-law}
use Rattle.definition.proofs.TreeLaws.{Moves, TreeLaw, Enters, entering, entry-reads, announced-inv, announced-reads, announced-both-inv, announced-both-reads, enters-alone, enters-moves, enters-first}
use Rattle.definition.proofs.ValueLaws.{value-law, value-takes}

pub record ConditionGood (depth next : ℕ) (c : Condition) : Type 0 where
  pub nesting : condition_nesting c ≤ depth
  pub fits : ConditionFits c
  pub numbers : ConditionFrom next c

pub record ConditionsGood (depth n next : ℕ) (cs : Conditions) : Type 0 where
  pub count : count_of_conditions cs ≡ n
  pub nesting : conditions_nesting cs ≤ depth
  pub fits : ConditionsFit cs
  pub numbers : ConditionsFrom next cs

abbrev pub ConditionLaw : ℕ → Reader Ahead Condition → Type 0
ConditionLaw depth p = TreeLaw p write_condition condition_entries (λ c. 1) (ConditionGood depth)

-- a value in a condition
abbrev pub OperandGood : ℕ → Value → Type 0
OperandGood next v = OperandFits v × ValueFrom next v

pub operand-law : TreeLaw any_value write_value value_entries (λ v. 1) OperandGood
operand-law =
    let law = value-law max_value_nesting in
    record {
      sound = λ a v b e. let m = law.sound a v b e in (m.0, (record { nesting = m.1.nesting; fits = m.1.fits }, m.1.numbers));
      complete = λ a v b l m g. law.complete a v b l m (record { nesting = g.0.nesting; fits = g.0.fits; numbers = g.1 });
      announced-first = value-takes;
    }

pub condition-takes : (c : Condition) → 1 ≤ condition_entries c
unfolding condition_entries
condition-takes (literal e truth) = omega arith
condition-takes (many e op children) = omega arith
condition-takes (negation e child) = omega arith
condition-takes (one e op v) = omega arith
condition-takes (two e op left right) = omega arith
condition-takes (comparison e which left right) = omega arith
condition-takes (quantifier e op bind over body) = omega arith

conditions-take : (cs : Conditions) → count_of_conditions cs ≤ conditions_entries cs
unfolding count_of_conditions conditions_entries
conditions-take no_conditions = omega arith
conditions-take (condition c others) = omega (arith, condition-takes c, conditions-take others)

no-conditions-good : (depth next : ℕ) (cs : Conditions) → ConditionsGood depth 0 next cs → cs ≡ no_conditions
unfolding count_of_conditions
no-conditions-good depth next no_conditions g = refl
no-conditions-good depth next (condition c others) g = absurd (omega (arith, g.count))

first-condition-good : (depth n next : ℕ) (cs : Conditions) → ConditionsGood depth (suc n) next cs
    → (c : Condition) × (others : Conditions) × (cs ≡ condition c others) × ConditionGood depth next c × ConditionsGood depth n (next + condition_entries c) others
unfolding count_of_conditions conditions_nesting
first-condition-good depth n next no_conditions g = absurd (omega (arith, g.count))
first-condition-good depth n next (condition c others) g = (
  c,
  others,
  refl,
  record { nesting = omega (arith, g.nesting); fits = g.fits.0; numbers = g.numbers.0 },
  record { count = omega (arith, g.count); nesting = omega (arith, g.nesting); fits = g.fits.1; numbers = g.numbers.1 },
)

conditions-written : (depth : ℕ) (p : Reader Ahead Condition) → Written (conditions-of p) write_condition write_conditions 1 count_of_conditions (ConditionGood depth) (ConditionsGood depth)
unfolding write_conditions count_of_conditions conditions_nesting
conditions-written depth p =
    record {
      none_written = refl;
      cons-written = λ c cs. refl;
      none-announced = refl;
      cons-announced = λ c cs. refl;
      announced-first = conditions-take;
      none-good = λ next. record { count = refl; nesting = omega arith; fits = tt; numbers = tt };
      cons-good = λ n next c cs g h. record { count = omega (arith, h.count); nesting = omega (arith, g.nesting, h.nesting); fits = (g.fits, h.fits); numbers = (g.numbers, h.numbers) };
      good_none = no-conditions-good depth;
      good-cons = first-condition-good depth;
    }

module _ (depth : ℕ) (p : Reader Ahead Condition) (law : ConditionLaw depth p) where
  conditions-law : (n : ℕ) → TreeLaw (conditions_of n p) write_conditions conditions_entries count_of_conditions (ConditionsGood depth n)
  conditions-law = siblings-law (conditions-of p) (conditions-written depth p) law

  -- a condition of each kind, whose parts are read by `p`
  condition_of-sound : (h : ConditionHead) (a a₁ : Ahead) (c : Condition) (b : Ahead) → Enters write_condition_head ConditionHeadFits a h a₁
      → Reads (condition_of a.next h p) a₁ c b → Moves (write_condition c) (condition_entries c) 1 a b × ConditionGood (suc depth) a.next c
  unfolding condition_of write_condition condition_entries condition_nesting
  condition_of-sound (literal_head truth) a a₁ c b m e =
      let q = pure-inv _ _ e in
      rw (← q.0, ← q.1) (record { rest = m.rest; next = m.next; left = omega arith }, record { nesting = omega arith; fits = tt; numbers = refl })
  condition_of-sound (many_head op n) a a₁ c b m e =
      announced-inv (conditions-law n) _ (λ next x g. g.count) _ _ e λ children a₂ m₂ g e.
      let q = pure-inv _ _ e in
      rw (← q.0, ← q.1, g.count)
      (enters-moves m m₂, record { nesting = omega arith; fits = (m.fits.0, g.fits); numbers = (refl, rw m.next at g.numbers) })
  condition_of-sound negation_head a a₁ c b m e =
      announced-inv law _ (λ next x g. refl) _ _ e λ child a₂ m₂ g e.
      let q = pure-inv _ _ e in
      rw (← q.0, ← q.1)
      (enters-moves m m₂, record { nesting = omega arith; fits = g.fits; numbers = (refl, rw m.next at g.numbers) })
  condition_of-sound (one_head op) a a₁ c b m e =
      announced-inv operand-law _ (λ next x g. refl) _ _ e λ v a₂ m₂ g e.
      let q = pure-inv _ _ e in
      rw (← q.0, ← q.1)
      (enters-moves m m₂, record { nesting = omega arith; fits = (m.fits, g.0); numbers = (refl, rw m.next at g.1) })
  condition_of-sound (two_head op) a a₁ c b m e =
      announced-both-inv operand-law operand-law 1 1 (λ next x g. refl) (λ next x g. refl) _ _ e λ left right a₂ m₂ g₁ g₂ e.
      let q = pure-inv _ _ e in
      rw (← q.0, ← q.1) (
        enters-moves m m₂,
        record { nesting = omega arith; fits = (m.fits, g₁.0, g₂.0); numbers = (refl, rw m.next at g₁.1, rw m.next at g₂.1) },
      )
  condition_of-sound (comparison_head which) a a₁ c b m e =
      announced-both-inv operand-law operand-law 1 1 (λ next x g. refl) (λ next x g. refl) _ _ e λ left right a₂ m₂ g₁ g₂ e.
      let q = pure-inv _ _ e in
      rw (← q.0, ← q.1) (
        enters-moves m m₂,
        record { nesting = omega arith; fits = (m.fits, g₁.0, g₂.0); numbers = (refl, rw m.next at g₁.1, rw m.next at g₂.1) },
      )
  condition_of-sound (quantifier_head op bind) a a₁ c b m e =
      announced-both-inv operand-law law 1 1 (λ next x g. refl) (λ next x g. refl) _ _ e λ over body a₂ m₂ g₁ g₂ e.
      let q = pure-inv _ _ e in
      rw (← q.0, ← q.1) (
        enters-moves m m₂,
        record {
          nesting = omega arith;
          fits = (m.fits.0, m.fits.1, g₁.0, g₂.fits);
          numbers = (refl, rw m.next at g₁.1, rw m.next at g₂.numbers);
        },
      )

  condition_of-complete : (a : Ahead) (c : Condition) (b : Ahead) → a.left ≤ max_count → Moves (write_condition c) (condition_entries c) 1 a b
      → ConditionGood (suc depth) a.next c → Reads (entry condition_head >>= λ h. condition_of h.0 h.1 p) a c b
  unfolding condition_of write_condition condition_entries condition_nesting pure
  condition_of-complete a (literal e truth) b l m g =
      bind-reads _ _ (entry-reads condition_head-exact a (literal_head truth) b (enters-alone _ tt a b m)) (rw g.numbers)
  condition_of-complete a (many e op children) b l m g =
      let k = conditions-take children in
      enters-first (many_head op (count_of_conditions children)) (g.fits.0, omega arith) (write_conditions children) _ 0 a b m λ a₁ m₁ m₂.
      bind-reads _ _ (entry-reads condition_head-exact a (many_head op (count_of_conditions children)) a₁ m₁)
      (announced-reads (conditions-law (count_of_conditions children)) _ children a₁ b (omega arith) m₂
      (record { count = refl; nesting = omega arith; fits = g.fits.1; numbers = rw m₁.next g.numbers.1 })
      (rw g.numbers.0))
  condition_of-complete a (negation e child) b l m g =
      enters-first negation_head tt (write_condition child) _ 0 a b m λ a₁ m₁ m₂.
      bind-reads _ _ (entry-reads condition_head-exact a negation_head a₁ m₁)
      (announced-reads law _ child a₁ b (omega arith) m₂
      (record { nesting = omega arith; fits = g.fits; numbers = rw m₁.next g.numbers.1 })
      (rw g.numbers.0))
  condition_of-complete a (one e op v) b l m g =
      enters-first (one_head op) g.fits.0 (write_value v) _ 0 a b m λ a₁ m₁ m₂.
      bind-reads _ _ (entry-reads condition_head-exact a (one_head op) a₁ m₁)
      (announced-reads operand-law _ v a₁ b (omega arith) m₂ (g.fits.1, rw m₁.next g.numbers.1) (rw g.numbers.0))
  condition_of-complete a (two e op left right) b l m g =
      enters-first (two_head op) g.fits.0 (write_value left ++ write_value right) _ 0 a b m λ a₁ m₁ m₂.
      bind-reads _ _ (entry-reads condition_head-exact a (two_head op) a₁ m₁)
      (announced-both-reads operand-law operand-law _ left right a₁ b (omega arith) m₂
      (g.fits.1, rw m₁.next g.numbers.1) (g.fits.2, rw m₁.next g.numbers.2)
      (rw g.numbers.0))
  condition_of-complete a (comparison e which left right) b l m g =
      enters-first (comparison_head which) g.fits.0 (write_value left ++ write_value right) _ 0 a b m λ a₁ m₁ m₂.
      bind-reads _ _ (entry-reads condition_head-exact a (comparison_head which) a₁ m₁)
      (announced-both-reads operand-law operand-law _ left right a₁ b (omega arith) m₂
      (g.fits.1, rw m₁.next g.numbers.1) (g.fits.2, rw m₁.next g.numbers.2)
      (rw g.numbers.0))
  condition_of-complete a (quantifier e op bind over body) b l m g =
      enters-first (quantifier_head op bind) (g.fits.0, g.fits.1) (write_value over ++ write_condition body) _ 0 a b m λ a₁ m₁ m₂.
      bind-reads _ _ (entry-reads condition_head-exact a (quantifier_head op bind) a₁ m₁)
      (announced-both-reads operand-law law _ over body a₁ b (omega arith) m₂
      (g.fits.2, rw m₁.next g.numbers.1)
      (record { nesting = omega arith; fits = g.fits.3; numbers = rw m₁.next g.numbers.2 })
      (rw g.numbers.0))

condition-nests : (c : Condition) → 1 ≤ condition_nesting c
unfolding condition_nesting
condition-nests (literal e truth) = omega arith
condition-nests (many e op children) = omega arith
condition-nests (negation e child) = omega arith
condition-nests (one e op v) = omega arith
condition-nests (two e op left right) = omega arith
condition-nests (comparison e which left right) = omega arith
condition-nests (quantifier e op bind over body) = omega arith

pub condition-law : (depth : ℕ) → ConditionLaw depth (condition_in depth)
unfolding condition_in
condition-law zero =
    record {
      sound = λ a c b e. absurd (refuse-inv _ e);
      complete = λ a c b l m g. absurd (omega (arith, condition-nests c));
      announced-first = condition-takes;
    }
condition-law (suc depth) =
    record {
      sound = λ a c b e. entering condition_head-exact _ _ e λ h a₁ m₁ e. condition_of-sound depth (condition_in depth) (condition-law depth) h a a₁ c b m₁ e;
      complete = condition_of-complete depth (condition_in depth) (condition-law depth);
      announced-first = condition-takes;
    }
