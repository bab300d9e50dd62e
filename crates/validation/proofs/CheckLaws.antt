-- As long as the checks of a list pass, the binders of the next one walk collections, since their own checks come before it; and if the next one
-- asks for a collection, it is not refused with a detail that stands for a sentence which never occurs, since the references come before it.
use Rattle.std.specs.Prelude.{ℕ, ◌≤◌, Bool, true, false, cond, not, ◌≡◌, refl}
use Prim.Native.Char.{code}
use mathlib.Core.List.{List, [], ◌∷◌, ◌++◌, map}
use Rattle.std.proofs.Math.Option.{Option, none, some, IsSome}
use Rattle.std.proofs.Common.{arith, ne_eqb}
use Rattle.text.specs.CaseLaws.{zero-not-one}
use Rattle.sheet.specs.Operators.{is_instant_test, is_affix}
use Rattle.definition.specs.Tree.{Text, Schema, Value, constant, number, string, array, object, Values, no_values, value, Pairs, no_pairs, pair, Condition, literal, many, negation, one, two, comparison, quantifier, Conditions, no_conditions, condition, Rule, rule, template}
use Rattle.reference.specs.Setting.{Setting}
use Rattle.reference.specs.Walk.{Reached, refused, unknown, known}
use Rattle.reference.specs.Reference.{Environment, reference, collection_text, collection, begins_with_dollar}
use Rattle.reference.proofs.CollectionLaws.{Reads, Listed, Explained, text-explained}
use Rattle.validation.specs.Check.{Binder, Question, settled, readable, walkable, IsDefect, fails_if, Check, check, reference_text, reference_check, references, references_of_values, references_of_pairs, Literal, literals, literal_check, entry_of, is_string, is_holder, instant_form, instant_operand, affix_operand, compare_side, operand, operator_check, body, bodies, literal_checks, checks}
use Rattle.validation.specs.Judge.{CheckOutcome, verdict, extend, enter, environment, answer, answer_in, outcome}

-- the numbers that checks of values and operands have
record IsOperandDefect (n : ℕ) : Type 0 where
  low : 17 ≤ n
  high : n ≤ 20

any-defect : {n : ℕ} → IsOperandDefect n → IsDefect n
any-defect d = omega (arith, d)

abbrev IsReadable : Question → Type 0
IsReadable (settled o) = ⊥
IsReadable (readable t) = Unit {0}
IsReadable (walkable v) = ⊥

-- a check of number 18 asks for a reference
abbrev pub Asks : ℕ → Question → Type 0
Asks n q = n ≡ 18 → IsReadable q

abbrev pub Every : (Check → Type 0) → List Check → Type 0
Every P [] = Unit {0}
Every P (c ∷ cs) = P c × Every P cs

pub every_append : (P : Check → Type 0) (xs ys : List Check) → Every P xs → Every P ys → Every P (xs ++ ys)
every_append P [] ys u w = w
every_append P (c ∷ xs) ys u w = (u.0, every_append P xs ys u.1 w)

pub every-if : (P : Check → Type 0) (b : Bool) (xs ys : List Check) → Every P xs → Every P ys → Every P (cond b xs ys)
every-if P true xs ys u w = u
every-if P false xs ys u w = w

-- what holds of every check under the binders holds of the checks of a value and of an operand
module _ (P : Check → Type 0) (bs : List Binder) (h : (n p : ℕ) (q : Question) → IsOperandDefect n → Asks n q → P (check n p bs q)) where
  every-reference : (e : ℕ) (o : Option Text) → Every P (reference_check bs e o)
  unfolding reference_check
  every-reference e none = tt
  every-reference e (some t) = (h 18 _ (readable t) (omega arith) (λ _. tt), tt)

  mutual
    unfolding references

    every-references : (v : Value) → Every P (references bs v)
    every-references (constant e type) = tt
    every-references (number e digits) = tt
    every-references (string e t) = every-reference e (reference_text t)
    every-references (array e values) = every-values values
    every-references (object e pairs) = every-pairs pairs

    every-values : (vs : Values) → Every P (references_of_values bs vs)
    every-values no_values = tt
    every-values (value v others) =
        every_append P (references bs v) (references_of_values bs others) (every-references v) (every-values others)

    every-pairs : (ps : Pairs) → Every P (references_of_pairs bs ps)
    every-pairs no_pairs = tt
    every-pairs (pair key v others) =
        every_append P (references bs v) (references_of_pairs bs others) (every-references v) (every-pairs others)

  every-with : (v : Value) (n : ℕ) (q : Question) → IsOperandDefect n → Asks n q → Every P (references bs v ++ (check n (entry_of v) bs q ∷ []))
  every-with v n q d asks = every_append P (references bs v) _ (every-references v) (h n (entry_of v) q d asks, tt)

  every-operand : (op : ℕ) (v : Value) → Every P (operand op bs v)
  unfolding operand instant_operand affix_operand
  every-operand op v =
      every-if P (is_instant_test op) (instant_operand bs v) _ (every-with v 20 (instant_form v) (omega arith) (λ e. absurd (omega arith)))
      (every-if P (is_affix op) (affix_operand bs v) _ (every-with v 19 (fails_if (not (is_string v)) 0) (omega arith) (λ e. absurd (omega arith))) (every-references v))

  every-side : (d : ℕ) (v : Value) → Every P (compare_side bs d v)
  unfolding compare_side
  every-side d v = (h 17 (entry_of v) (fails_if (is_holder v) d) (omega arith) (λ e. absurd (omega arith)), every-references v)

-- what holds of every check holds of those of a rule or template
module _ (P : Check → Type 0) (h : (n p : ℕ) (bs : List Binder) (q : Question) → IsDefect n → Asks n q → P (check n p bs q)) (setting : Setting) where
  mutual
    unfolding body bodies operator_check

    every_body : (bs : List Binder) (c : Condition) → Every P (body setting bs c)
    every_body bs (literal e truth) = (h 15 e bs _ (omega arith) (λ x. absurd (omega arith)), tt)
    every_body bs (many e op children) = (h 15 e bs _ (omega arith) (λ x. absurd (omega arith)), (h 16 e bs _ (omega arith) (λ x. absurd (omega arith)), every-bodies bs children))
    every_body bs (negation e child) = (h 15 e bs _ (omega arith) (λ x. absurd (omega arith)), every_body bs child)
    every_body bs (one e op v) = (h 15 e bs _ (omega arith) (λ x. absurd (omega arith)), every-references P bs (λ n p q d asks. h n p bs q (any-defect d) asks) v)
    every_body bs (two e op left right) = (
      h 15 e bs _ (omega arith) (λ x. absurd (omega arith)),
      every_append P (operand op bs left) (operand op bs right)
          (every-operand P bs (λ n p q d asks. h n p bs q (any-defect d) asks) op left)
          (every-operand P bs (λ n p q d asks. h n p bs q (any-defect d) asks) op right),
    )
    every_body bs (comparison e which left right) = (
      h 15 e bs _ (omega arith) (λ x. absurd (omega arith)),
      every_append P (compare_side bs 1 left) (compare_side bs 2 right)
          (every-side P bs (λ n p q d asks. h n p bs q (any-defect d) asks) 1 left)
          (every-side P bs (λ n p q d asks. h n p bs q (any-defect d) asks) 2 right),
    )
    every_body bs (quantifier e op bind over that) = (
      h 15 e bs _ (omega arith) (λ x. absurd (omega arith)),
      (
        h 21 e bs _ (omega arith) (λ x. absurd (omega arith)),
        every_append P (references bs over) _
            (every-references P bs (λ n p q d asks. h n p bs q (any-defect d) asks) over)
            (h 22 e bs _ (omega arith) (λ x. absurd (omega arith)), every_body _ that),
      ),
    )

    every-bodies : (bs : List Binder) (cs : Conditions) → Every P (bodies setting bs cs)
    every-bodies bs no_conditions = tt
    every-bodies bs (condition c others) =
        every_append P (body setting bs c) (bodies setting bs others) (every_body bs c) (every-bodies bs others)

  every-literal : (ls : List Literal) → Every P (map literal_check ls)
  unfolding literal_check
  every-literal [] = tt
  every-literal (l ∷ ls) = (h 14 l.entry [] _ (omega arith) (λ x. absurd (omega arith)), every-literal ls)

  pub every-check : (r : Rule) → Every P (checks setting r)
  unfolding checks literal_checks
  every-check (rule name message assert) = (
    h 11 1 [] _ (omega arith) (λ x. absurd (omega arith)),
    (
      h 12 1 [] _ (omega arith) (λ x. absurd (omega arith)),
      (
        h 13 _ [] _ (omega arith) (λ x. absurd (omega arith)),
        every_append P (literal_checks setting assert) (body setting [] assert)
            (every-if P setting.is_service (map literal_check (literals assert)) [] (every-literal (literals assert)) tt)
            (every_body [] assert),
      ),
    ),
  )
  every-check (template v) = every-references P [] (λ n p q d asks. h n p [] q (any-defect d) asks) v

-- a check under the binders that asks for no collection
record Under (bs : List Binder) (c : Check) : Type 0 where
  binders : c.binders ≡ bs
  other : c.number ≡ 22 → ⊥

under : (bs : List Binder) (n p : ℕ) (q : Question) → IsOperandDefect n → Asks n q → Under bs (check n p bs q)
unfolding check
under bs n p q d asks = record { binders = refl; other = λ e. omega (arith, d) }

under-literals : (ls : List Literal) → Every (Under []) (map literal_check ls)
unfolding literal_check check
under-literals [] = tt
under-literals (l ∷ ls) = (record { binders = refl; other = λ e. omega arith }, under-literals ls)

-- passes, or fails with one of the details of number 22
abbrev pub Explains : CheckOutcome → Type 0
Explains none = Unit {0}
Explains (some why) = Listed why.detail

passes-reads : (r : Reached) → verdict r ≡ none → Reads r
unfolding verdict
passes-reads (refused d at left) e = zero-not-one cc
passes-reads unknown e = tt
passes-reads (known f) e = tt

explained-verdict : (r : Reached) → Explained r → Explains (verdict r)
unfolding verdict
explained-verdict (refused d at left) h = h
explained-verdict unknown h = tt
explained-verdict (known f) h = tt

single-dollar : (b : ℕ) (t : Text) → (b ≡ code "$" → ⊥) → reference_text (code "$" ∷ b ∷ t) ≡ some (b ∷ t)
unfolding reference_text begins_with_dollar
single-dollar b t h = rw (ne_eqb b (code "$") h)

module _ (setting : Setting) (schema : Schema) where
  -- the binders walk collections
  abbrev pub Resolved : List Binder → Type 0
  Resolved bs = IsSome (environment schema bs)

  pub record Fit (c : Check) : Type 0 where
    pub resolved : Resolved c.binders
    pub explained : c.number ≡ 22 → Explains (outcome setting schema c)

  abbrev pub Sure : List Check → Type 0
  Sure [] = Unit {0}
  Sure (c ∷ cs) = Fit c × (outcome setting schema c ≡ none → Sure cs)

  abbrev Passes : Check → Type 0
  Passes c = outcome setting schema c ≡ none

  fit-under : (bs : List Binder) (c : Check) → Resolved bs → Under bs c → Fit c
  fit-under bs c r u = record { resolved = rw u.binders r; explained = λ e. absurd (u.other e) }

  fit-other : (n p : ℕ) (bs : List Binder) (q : Question) → Resolved bs → (n ≡ 22 → ⊥) → Fit (check n p bs q)
  unfolding check
  fit-other n p bs q r h = record { resolved = r; explained = λ e. absurd (h e) }

  sure-append : (bs : List Binder) (xs ys : List Check) → Resolved bs → Every (Under bs) xs → (Every Passes xs → Sure ys) → Sure (xs ++ ys)
  sure-append bs [] ys r u s = s tt
  sure-append bs (c ∷ xs) ys r u s = (fit-under bs c r u.0, λ e. sure-append bs xs ys r u.1 (λ ps. s (e, ps)))

  sure-both : (xs ys : List Check) → Sure xs → Sure ys → Sure (xs ++ ys)
  sure-both [] ys s t = t
  sure-both (c ∷ xs) ys s t = (s.0, λ e. sure-both xs ys (s.1 e) t)

  sure-under : (bs : List Binder) (xs : List Check) → Resolved bs → Every (Under bs) xs → Sure xs
  sure-under bs [] r u = tt
  sure-under bs (c ∷ xs) r u = (fit-under bs c r u.0, λ e. sure-under bs xs r u.1)

  extend-resolved : (name : Text) (env : Environment) (r : Reached) → verdict r ≡ none → IsSome (extend name env r)
  unfolding verdict extend
  extend-resolved name env (refused d at left) e = zero-not-one cc
  extend-resolved name env unknown e = tt
  extend-resolved name env (known f) e = tt

  enter-resolved : (name : Text) (over : Value) (x : Option Environment)
      → answer_in setting schema (walkable over) x ≡ none
      → IsSome (enter schema (record { name = name; over = over }) x)
  unfolding answer_in answer enter
  enter-resolved name over none e = zero-not-one cc
  enter-resolved name over (some env) e = extend-resolved name env (collection schema env over) e

  reference-passes : (e : ℕ) (bs : List Binder) (o : Option Text) (t : Text)
      → Every Passes (reference_check bs e o)
      → o ≡ some t
      → answer_in setting schema (readable t) (environment schema bs) ≡ none
  unfolding reference_check check outcome
  reference-passes e bs none t ps same = zero-not-one cc
  reference-passes e bs (some u) t ps same = let h : u ≡ t = cc in rw (← h) ps.0

  value-listed : (x : Option Environment) (v : Value)
      → IsSome x
      → ((env : Environment) → Explained (collection schema env v))
      → Explains (answer_in setting schema (walkable v) x)
  unfolding answer_in answer
  value-listed none v r h = elim r [ ]
  value-listed (some env) v r h = explained-verdict (collection schema env v) (h env)

  text-listed : (x : Option Environment) (e : ℕ) (t : Text)
      → IsSome x
      → ((u : Text) → reference_text t ≡ some u → answer_in setting schema (readable u) x ≡ none)
      → Explains (answer_in setting schema (walkable (string e t)) x)
  unfolding answer_in answer collection
  text-listed none e t r h = elim r [ ]
  text-listed (some env) e t r h =
      explained-verdict (collection_text schema env t)
      (text-explained setting schema env t
      (λ b u same other. passes-reads (reference setting schema env (b ∷ u)) (h (b ∷ u) (rw same (single-dollar b u other)))))

  -- an `in` value whose references pass
  over-listed : (bs : List Binder) (over : Value)
      → Resolved bs
      → Every Passes (references bs over)
      → Explains (answer_in setting schema (walkable over) (environment schema bs))
  unfolding references collection
  over-listed bs (constant e type) r ps = value-listed (environment schema bs) (constant e type) r (λ env. omega arith)
  over-listed bs (number e digits) r ps = value-listed (environment schema bs) (number e digits) r (λ env. omega arith)
  over-listed bs (string e t) r ps =
      text-listed (environment schema bs) e t r (λ u same. reference-passes e bs (reference_text t) u ps same)
  over-listed bs (array e values) r ps = value-listed (environment schema bs) (array e values) r (λ env. omega arith)
  over-listed bs (object e pairs) r ps = value-listed (environment schema bs) (object e pairs) r (λ env. omega arith)

  mutual
    unfolding body bodies operator_check check outcome environment

    sure-body : (bs : List Binder) → Resolved bs → (c : Condition) → Sure (body setting bs c)
    sure-body bs r (literal e truth) = (fit-other 15 e bs _ r (λ n. omega arith), λ _. tt)
    sure-body bs r (many e op children) = (
      fit-other 15 e bs _ r (λ n. omega arith),
      λ _. (fit-other 16 e bs _ r (λ n. omega arith), λ _. sure-bodies bs r children),
    )
    sure-body bs r (negation e child) = (fit-other 15 e bs _ r (λ n. omega arith), λ _. sure-body bs r child)
    sure-body bs r (one e op v) = (
      fit-other 15 e bs _ r (λ n. omega arith),
      λ _. sure-under bs (references bs v) r (every-references (Under bs) bs (under bs) v),
    )
    sure-body bs r (two e op left right) = (
      fit-other 15 e bs _ r (λ n. omega arith),
      λ _. sure-append bs (operand op bs left) (operand op bs right) r (every-operand (Under bs) bs (under bs) op left)
          (λ _. sure-under bs (operand op bs right) r (every-operand (Under bs) bs (under bs) op right)),
    )
    sure-body bs r (comparison e which left right) = (
      fit-other 15 e bs _ r (λ n. omega arith),
      λ _. sure-append bs (compare_side bs 1 left) (compare_side bs 2 right) r (every-side (Under bs) bs (under bs) 1 left)
          (λ _. sure-under bs (compare_side bs 2 right) r (every-side (Under bs) bs (under bs) 2 right)),
    )
    sure-body bs r (quantifier e op bind over that) = (
      fit-other 15 e bs _ r (λ n. omega arith),
      λ _. (
        fit-other 21 e bs _ r (λ n. omega arith),
        λ _. sure-append bs (references bs over) _ r (every-references (Under bs) bs (under bs) over)
            (λ ps. (
              record { resolved = r; explained = λ _. over-listed bs over r ps },
              λ p. sure-body _ (enter-resolved bind over (environment schema bs) p) that,
            )),
      ),
    )

    sure-bodies : (bs : List Binder) → Resolved bs → (cs : Conditions) → Sure (bodies setting bs cs)
    sure-bodies bs r no_conditions = tt
    sure-bodies bs r (condition c others) = sure-both (body setting bs c) (bodies setting bs others) (sure-body bs r c) (sure-bodies bs r others)

  pub sure-checks : (r : Rule) → Sure (checks setting r)
  unfolding checks check literal_checks environment
  sure-checks (rule name message assert) = (
    fit-other 11 1 [] _ tt (λ n. omega arith),
    λ _. (
      fit-other 12 1 [] _ tt (λ n. omega arith),
      λ _. (
        fit-other 13 _ [] _ tt (λ n. omega arith),
        λ _. sure-append [] (literal_checks setting assert) (body setting [] assert) tt
            (every-if (Under []) setting.is_service (map literal_check (literals assert)) [] (under-literals (literals assert)) tt)
            (λ _. sure-body [] tt assert),
      ),
    ),
  )
  sure-checks (template v) = sure-under [] (references [] v) tt (every-references (Under []) [] (under []) v)
