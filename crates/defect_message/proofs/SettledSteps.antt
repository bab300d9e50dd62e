-- What is said of a check that no schema answers: each sentence as a law.
use Rattle.std.specs.Prelude.{Option as Optional, Some, None}
use Prim.Native.Nat.{ℕ, ◌+◌, ◌-◌, ◌≤◌, ◌<◌, min}
use native.Mathlib.Omega.{arith}
use mathlib.Core.Bool.{Bool, true, false, cond, false≢true}
use mathlib.Core.List.{List, [], ◌∷◌, ◌++◌, append_assoc}
use mathlib.Core.Option.{Option, none, some, IsSome, get_or, some-injective}
use mathlib.Core.Path.{◌≡◌, refl, ap, sym, subst, ◌∙◌}
use lib.Dec.{eqb}
use lib.ListN.{length, take, drop}
use borrow.Author.Tests.{eqb-false, ne_eqb}
use Rattle.text.specs.CaseLaws.{by-test, zero-not-one}
use Rattle.text.specs.Ascii.{ascii}
use Rattle.text.specs.Numeral.{decimal_of}
use Rattle.text.specs.Parts.{part_of}
use Rattle.text.specs.declared.part.Part.{Part}
use Rattle.sheet.specs.Entries.{ConditionHead, literal_head, many_head, negation_head, one_head, two_head, comparison_head, quantifier_head, condition_head}
use Rattle.buffer.specs.Laid.{most_place, Laid}
use Rattle.buffer.specs.LaidLaws.{laid_then}
use Rattle.definition.specs.Tree as Tree
use Rattle.definition.specs.Tree.{Text, Value, string, Condition, Rule, rule, template}
use Rattle.definition.specs.Within.{condition_entries}
use Rattle.json_rule.specs.AsJson.{json_of}
use Rattle.json_value.specs.Lays.{LaysValue}
use Rattle.rule.specs.Index.{start_of, end_of, ValueAt, ConditionAt, RuleAt}
use Rattle.validation.specs.Check.{entry_of, is_string, depth}
use Rattle.sheet.specs.Operators.{operator_name}
use Rattle.rule.specs.Kinds.{operator_in, OperatorAt}
use Rattle.rule.specs.Nodes.{IsCondition}
use Rattle.condition_checks.specs.Bodies.{bind_by, BindAt}
use Rattle.condition_checks.specs.Depth.{DepthIs}
use Rattle.message.specs.Words.{in_quotes}
use Rattle.message.specs.Message.{value_at, json_at, unescaped_at, instant_forms, instant_sentence, literal_sentence, affix_sentence, names_value, value_sentence, Head, head, head_of, head_at, names_head, head_sentence, empty_sentence, depth_in, settled_sentence}
use Rattle.defect_message.specs.Settled.{IsSettled, QuantifierAt, ValueLaid, UnescapedLaid, InstantLaid, ValuedLaid, BindLaid, HeadedLaid, DepthLaid, IsRule, SettledLaid}
use Rattle.defect_message.proofs.LayingLaws.{laid-three}
use Rattle.defect_message.proofs.RefusalLaws.{from-whole}
use Rattle.defect_message.proofs.IndexLaws.{bind_in, HeadPlaced, rule-indexed, head-indexed}

pub value-laid : {rule words : List ℕ} {i : ℕ} {behind : Text} {b c a : List ℕ} {o m n : ℕ} → length b ≤ most_place → LaysValue rule words i b c o m → Laid c a m behind n
    → ValueLaid rule words i behind b a o n
value-laid room u v = record { lays = λ x h. laid_then room (u.lays x h) v }

blank : (v : Value) → is_string v ≡ false → unescaped_at (some v) ≡ []
unfolding unescaped_at is_string
blank (Tree.constant e type) h = refl
blank (Tree.number e digits) h = refl
blank (string e t) h = absurd (false≢true (sym h))
blank (Tree.array e values) h = refl
blank (Tree.object e pairs) h = refl

read_at : (sheet words : List ℕ) (i at op : ℕ) → at ≡ start_of words i → OperatorAt sheet at op → (x : ConditionHead) (rest : List ℕ) (h : Head)
    → condition_head (drop (start_of words i) sheet) ≡ some (x, rest)
    → operator_in x ≡ h.op
    → op ≡ h.op
read_at sheet words i at op begins is x rest h reads same = is.is x rest (subst (λ (k : ℕ). condition_head (drop k sheet) ≡ some (x, rest)) (sym begins) reads) ∙ same

nothing-behind : (text : Text) → length text ≡ 0 → text ≡ drop 1 text
nothing-behind [] h = refl
nothing-behind (x ∷ text) h = absurd (omega arith)

pub behind-none : (text : Text) {b a : List ℕ} {o n : ℕ} → length text ≡ 0 → Laid b a o (in_quotes text) n → Laid b a o (in_quotes (drop 1 text)) n
behind-none text {b} {a} {o} {n} h u = subst (λ (t : Text). Laid b a o (in_quotes t) n) (nothing-behind text h) u

pub behind-some : (text : Text) {b a : List ℕ} {o n : ℕ} → Laid b a o (in_quotes (take (length text - 1) (drop 1 text))) n → Laid b a o (in_quotes (drop 1 text)) n
behind-some text {b} {a} {o} {n} u = subst (λ (t : Text). Laid b a o (in_quotes t) n) (from-whole text 1) u

pub empty-laid : (op : ℕ) {b c d a : List ℕ} {o m p n : ℕ} → length b ≤ most_place → Laid b c o (ascii "'") m → Laid c d m (operator_name op) p → Laid d a p (ascii "'" ++ ascii " must contain at least one condition") n
    → Laid b a o (empty_sentence op) n
unfolding empty_sentence in_quotes
empty-laid op {b = b} {a = a} {o = o} {n = n} room u v w =
    let more = ascii " must contain at least one condition" in
    subst (λ (t : Text). Laid b a o t n)
    (sym (append_assoc (ascii "'") (operator_name op ++ ascii "'") more ∙ ap (λ (t : Text). ascii "'" ++ t) (append_assoc (operator_name op) (ascii "'") more)))
    (laid-three room u v w)

module _ {rule words : List ℕ} {i : ℕ} {b a : List ℕ} {o n : ℕ} where
  pub unescaped-string : {text t : Text} → ((v : Value) → ValueAt rule words i v → v ≡ string (entry_of v) t) → text ≡ t → Laid b a o (in_quotes (drop 1 text)) n → UnescapedLaid rule words i b a o n
  unfolding unescaped_at
  unescaped-string {text} {t} form same u = record {
    lays = λ v h.
        let q = form v h ∙ ap (string (entry_of v)) (sym same) in
        subst (λ (y : Value). Laid b a o (in_quotes (unescaped_at (some y))) n) (sym q) u;
  }

  pub unescaped-other : ((v : Value) → ValueAt rule words i v → is_string v ≡ false) → Laid b a o (in_quotes []) n → UnescapedLaid rule words i b a o n
  unescaped-other form u = record { lays = λ v h. subst (λ (t : Text). Laid b a o (in_quotes t) n) (sym (blank v (form v h))) u }

  module _ (detail : ℕ) {c : List ℕ} {m : ℕ} (room : length b ≤ most_place) where
    pub instant-escaped : {d e : List ℕ} {p q : ℕ} → detail ≡ 1 → ValueLaid rule words i (ascii " escapes to the literal ") b c o m → UnescapedLaid rule words i c d m p
        → Laid d e p (ascii ", which is not an instant this kernel reads") q → Laid e a q instant_forms n → InstantLaid rule words detail i b a o n
    unfolding instant_sentence json_at
    instant-escaped is u v w l = record {
      lays = λ x h.
          rw is
          (subst (λ (t : Text). Laid b a o t n)
          (append_assoc (json_of x) (ascii " escapes to the literal ") (in_quotes (unescaped_at (some x)) ++ (ascii ", which is not an instant this kernel reads" ++ instant_forms)))
          (laid_then room (u.lays x h) (laid-three (omega (arith, (u.lays x h).len)) (v.lays x h) w l)));
    }

    pub instant-unread : (detail ≡ 1 → ⊥) → ValueLaid rule words i (ascii " is not an instant this kernel reads") b c o m → Laid c a m instant_forms n → InstantLaid rule words detail i b a o n
    unfolding instant_sentence json_at
    instant-unread not_is u v = record {
      lays = λ x h.
          rw (ne_eqb detail 1 not_is)
          (subst (λ (t : Text). Laid b a o t n) (append_assoc (json_of x) (ascii " is not an instant this kernel reads") instant_forms) (laid_then room (u.lays x h) v));
    }

  module _ (number detail : ℕ) where
    pub valued-literal : number ≡ 14
        → ValueLaid rule words i (ascii " is outside the source observation domain, so the comparison would be unevaluable at every evaluation") b a o n
        → ValuedLaid rule words number detail i b a o n
    unfolding value_sentence literal_sentence json_at
    valued-literal e u = record { lays = λ x h. rw e (u.lays x h) }

    pub valued-affix : number ≡ 19
        → ValueLaid rule words i (ascii " is not a string, so the rule would be false at every evaluation; quote it if it is meant as text") b a o n
        → ValuedLaid rule words number detail i b a o n
    unfolding value_sentence affix_sentence json_at
    valued-affix e u = record { lays = λ x h. rw e (u.lays x h) }

    pub valued-instant : (number ≡ 14 → ⊥) → (number ≡ 19 → ⊥) → InstantLaid rule words detail i b a o n → ValuedLaid rule words number detail i b a o n
    unfolding value_sentence
    valued-instant n14 n19 u = record { lays = λ x h. rw (ne_eqb number 14 n14, ne_eqb number 19 n19) (u.lays x h) }

  pub bind-laid : {r : Optional Part} {p : Part} {text : Text} → BindAt rule words i r → r ≡ Some p → text ≡ part_of rule p → Laid b a o text n → BindLaid rule words i b a o n
  unfolding bind_by
  bind-laid {p = p} {text = text} is e same u = record {
    lays = λ op bind rest reads.
        let q : some (part_of rule p) ≡ some bind = rw e at (is.is op bind rest reads) in
        subst (λ (t : Text). Laid b a o t n) (same ∙ some-injective (part_of rule p) bind q) u;
  }

  pub bind-bad : {r : Optional Part} → BindAt rule words i r → r ≡ None → BindLaid rule words i b a o n
  unfolding bind_by
  bind-bad is e = record {
    lays = λ op bind rest reads.
        let q : none ≡ some bind = rw e at (is.is op bind rest reads) in
        zero-not-one cc;
  }

  module _ (number : ℕ) (at op : ℕ) (begins : at ≡ start_of words i) (is : OperatorAt rule at op) where
    pub headed-operator : number ≡ 15 → Laid b a o (operator_name op) n → HeadedLaid rule words number i b a o n
    unfolding head_sentence
    headed-operator e u = record { lays = λ x rest h reads same q. rw e (subst (λ (k : ℕ). Laid b a o (operator_name k) n) (read_at rule words i at op begins is x rest h reads same) u) }

    pub headed-empty : number ≡ 16 → Laid b a o (empty_sentence op) n → HeadedLaid rule words number i b a o n
    unfolding head_sentence
    headed-empty e u = record { lays = λ x rest h reads same q. rw e (subst (λ (k : ℕ). Laid b a o (empty_sentence k) n) (read_at rule words i at op begins is x rest h reads same) u) }

  pub headed-bind : (number : ℕ) → (number ≡ 15 → ⊥) → (number ≡ 16 → ⊥) → BindLaid rule words i b a o n → HeadedLaid rule words number i b a o n
  unfolding head_sentence
  headed-bind number n15 n16 u = record {
    lays = λ x rest h reads same q.
        let k = q n15 n16 in
        rw (ne_eqb number 15 n15, ne_eqb number 16 n16)
        (u.lays k.0 h.bind rest (subst (λ (y : ConditionHead). condition_head (drop (start_of words i) rule) ≡ some (y, rest)) k.1 reads));
  }

pub condition-nonempty : (c : Condition) → 1 ≤ condition_entries c
unfolding condition_entries
condition-nonempty (Tree.literal e truth) = omega arith
condition-nonempty (Tree.many e op children) = omega arith
condition-nonempty (Tree.negation e child) = omega arith
condition-nonempty (Tree.one e op v) = omega arith
condition-nonempty (Tree.two e op left right) = omega arith
condition-nonempty (Tree.comparison e which left right) = omega arith
condition-nonempty (Tree.quantifier e op bind over body) = omega arith

module _ {rule words : List ℕ} {b a : List ℕ} {o n : ℕ} where
  pub depth-none : {end : ℕ} → end ≡ end_of words 0 → end ≤ 1 → DepthLaid rule words b a o n
  depth-none e h = record { lays = λ c w ends few. let some-entry = condition-nonempty c in absurd (omega arith) }

  pub depth-past : {end : ℕ} → end ≡ end_of words 0 → 4096 < end → DepthLaid rule words b a o n
  depth-past e h = record { lays = λ c w ends few. absurd (omega arith) }

  pub depth-laid : {end d : ℕ} → end ≡ end_of words 0 → DepthIs rule words 1 end 257 d → Laid b a o (decimal_of d) n → DepthLaid rule words b a o n
  depth-laid {end} {d} e is u = record {
    lays = λ c w ends few.
        let there : IsCondition rule words 1 end c = record { stands = w; ends = e ∙ ends } in
        let q : d ≡ min 257 (depth c) = is.exact c there in
        let same : d ≡ depth c = omega arith in
        subst (λ (k : ℕ). Laid b a o (decimal_of k) n) same u;
  }

-- By its number

some_of : {A : Type 0} (x : Option A) → IsSome x → (u : A) × (x ≡ some u)
some_of none h = absurd h
some_of (some u) h = (u, refl)

above : (n k : ℕ) → k ≤ n → (n ≡ k → ⊥) → k + 1 ≤ n
above n k low other = omega arith

exactly : (n k : ℕ) → k ≤ n → n ≤ k → n ≡ k
exactly n k low high = omega arith

-- neither of the three values, and none of the others
names-none : (n : ℕ) → names_value n ≡ false → (n ≡ 14 → ⊥) × (n ≡ 19 → ⊥) × (n ≡ 20 → ⊥)
unfolding names_value
names-none n e = (
  λ h. false≢true (sym e ∙ ap names_value h),
  λ h. false≢true (sym e ∙ ap names_value h),
  λ h. false≢true (sym e ∙ ap names_value h),
)

left_over : (n : ℕ) → IsSettled n → (n ≡ 11 → ⊥) → (n ≡ 12 → ⊥) → (n ≡ 13 → ⊥) → (n ≡ 17 → ⊥) → names_value n ≡ false → (n ≡ 15 → ⊥) → (n ≡ 16 → ⊥) → n ≡ 21
left_over n is n11 n12 n13 n17 e n15 n16 =
    let q = names-none n e in
    let from12 = above n 11 is.low n11 in
    let from14 = above n 13 (above n 12 from12 n12) n13 in
    let from16 = above n 15 (above n 14 from14 q.0) n15 in
    let from18 = above n 17 (above n 16 from16 n16) n17 in
    let from20 = above n 19 (above n 18 from18 is.other) q.1 in
    exactly n 21 (above n 20 from20 q.2) is.high

names-head : (n : ℕ) → ((n ≡ 15 → ⊥) → (n ≡ 16 → ⊥) → n ≡ 21) → names_head n ≡ true
unfolding names_head
names-head n h =
    by-test (eqb n 15) (λ e. rw e refl)
    (λ e15. by-test (eqb n 16) (λ e. rw (e15, e) refl) (λ e16. rw (h (eqb-false n 15 e15) (eqb-false n 16 e16)) refl))

same_head : (x y : ConditionHead) (s t : List ℕ) → ◌≡◌ {A = Option (ConditionHead × List ℕ)} (some (x, s)) (some (y, t)) → x ≡ y
same_head x y s t e = let q : ◌≡◌ {A = ConditionHead × List ℕ} (x, s) (y, t) = some-injective (x, s) (y, t) e in ap (λ (z : ConditionHead × List ℕ). z.0) q

-- the head that is found, where it must be a quantifier's
quantifier-is : (sheet words : List ℕ) (place : ℕ) (k : Head) → (p : HeadPlaced sheet words place k) → QuantifierAt sheet words (place - 1) → (op : ℕ) × (p.is ≡ quantifier_head op k.bind)
unfolding bind_in
quantifier-is sheet words place k p q =
    let same : p.is ≡ quantifier_head q.op q.bind = same_head p.is (quantifier_head q.op q.bind) p.rest q.rest (sym p.reads ∙ q.reads) in
    let bind : q.bind ≡ k.bind = sym (ap (bind_in sheet words place) same) ∙ p.bind in
    (q.op, same ∙ ap (quantifier_head q.op) bind)

head-placed : (sheet words : List ℕ) (place : ℕ) (r : Rule) (k : Head) → RuleAt sheet words r → head_of r place ≡ some k → HeadPlaced sheet words place k
unfolding head_of
head-placed sheet words place (rule name message assert) k at e = head-indexed sheet words place 1 assert k at.1 e
head-placed sheet words place (template v) k at e = zero-not-one cc

depth-of : {sheet words : List ℕ} {b a : List ℕ} {o n : ℕ} (r : Rule) → DepthLaid sheet words b a o n → RuleAt sheet words r → depth_in r ≤ 256 → IsRule r → Laid b a o (decimal_of (depth_in r)) n
unfolding depth_in
depth-of (rule name message assert) u at few is = u.lays assert at.1 (omega (arith, at.0.ends)) few
depth-of (template v) u at few is = absurd is

module _ {sheet words : List ℕ} {number detail place : ℕ} {b a : List ℕ} {o n : ℕ} where
  pub settled-name : number ≡ 11 → Laid b a o (ascii "rule name cannot be empty") n → SettledLaid sheet words number detail place b a o n
  unfolding settled_sentence
  settled-name e u = record { lays = λ r at few is v h q x. rw e u }

  pub settled-message : number ≡ 12 → Laid b a o (ascii "rule message cannot be empty") n → SettledLaid sheet words number detail place b a o n
  unfolding settled_sentence
  settled-message e u = record { lays = λ r at few is v h q x. rw e u }

  pub settled-depth : number ≡ 13 → DepthLaid sheet words b a o n → SettledLaid sheet words number detail place b a o n
  unfolding settled_sentence
  settled-depth e u = record { lays = λ r at few is v h q x. let w = depth-of r u at few (x e) in rw e w }

  pub settled-side : number ≡ 17 → Laid b a o (cond (eqb detail 1) (ascii "left") (ascii "right")) n → SettledLaid sheet words number detail place b a o n
  unfolding settled_sentence
  settled-side e u = record { lays = λ r at few is v h q x. rw e u }

  module _ (n11 : number ≡ 11 → ⊥) (n12 : number ≡ 12 → ⊥) (n13 : number ≡ 13 → ⊥) (n17 : number ≡ 17 → ⊥) {names : Bool} {word : ℕ} (named : names ≡ names_value number) (placed : word ≡ place - 1) where
    pub settled-valued : names ≡ true → ValuedLaid sheet words number detail word b a o n → SettledLaid sheet words number detail place b a o n
    unfolding settled_sentence
    settled-valued t u = record {
      lays = λ r at few is v h q x.
          let so : names_value number ≡ true = sym named ∙ t in
          let k = some_of (value_at place r) (v so) in
          let there : ValueAt sheet words word k.0 = subst (λ (i : ℕ). ValueAt sheet words i k.0) (sym placed) (rule-indexed sheet words place r k.0 at k.1) in
          rw (ne_eqb number 11 n11, ne_eqb number 12 n12, ne_eqb number 13 n13, ne_eqb number 17 n17, so, k.1) (u.lays k.0 there);
    }

    pub settled-headed : names ≡ false → HeadedLaid sheet words number word b a o n → SettledLaid sheet words number detail place b a o n
    unfolding settled_sentence head_at
    settled-headed t u = record {
      lays = λ r at few is v h q x.
          let so : names_value number ≡ false = sym named ∙ t in
          let last = left_over number is n11 n12 n13 n17 so in
          let k = some_of (head_of r place) (h (names-head number last)) in
          let p = head-placed sheet words place r k.0 at k.1 in
          let reads : condition_head (drop (start_of words word) sheet) ≡ some (p.is, p.rest) = subst (λ (i : ℕ). condition_head (drop (start_of words i) sheet) ≡ some (p.is, p.rest)) (sym placed) p.reads in
          rw (ne_eqb number 11 n11, ne_eqb number 12 n12, ne_eqb number 13 n13, ne_eqb number 17 n17, so, k.1)
          (u.lays p.is p.rest k.0 reads p.op (λ a15 a16. quantifier-is sheet words place k.0 p (q (last a15 a16))));
    }
