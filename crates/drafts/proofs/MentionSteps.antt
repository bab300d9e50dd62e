-- Mentions, step by step: what the words of an index say is what the tree says.
use Prim.Native.Nat.{ℕ, ◌+◌, ◌-◌, ◌≤◌, ◌<◌}
use native.Mathlib.Omega.{arith}
use mathlib.Core.Bool.{Bool, true, false, cond, not, ◌||◌, false≢true}
use mathlib.Core.List.{List, [], ◌∷◌, ◌++◌, append-nil}
use mathlib.Core.Logic.{⊎_elim}
use mathlib.Core.Option.{Option, none, some, none-ne-some}
use mathlib.Core.Path.{◌≡◌, refl, sym, ap, ap₂, subst, ◌∙◌}
use lib.ListN.{length, take, drop, length-drop}
use lib.Seq.{take_all, drop-length}
use Rattle.text.specs.Order.{same_bytes}
use Rattle.text.specs.Parts.{part_of}
use Rattle.text.specs.declared.part.Part.{Part}
use Rattle.sheet.specs.Operators.{truthy_operator}
use Rattle.sheet.specs.Entries.{ValueHead, constant_head, number_head, string_head, array_head, object_head, value_head, key_head}
use Rattle.sheet.proofs.RuleHeadLaws.{value_head-exact}
use Rattle.definition.specs.Tree.{Text, Value, constant, number, string, array, object, Values, no_values, value, Pairs, no_pairs, pair, Condition, literal, many, negation, one, two, comparison, quantifier, Conditions, no_conditions, condition, Rule, rule, template}
use Rattle.definition.specs.Within.{value_entries, condition_entries, conditions_entries, rule_entries}
use Rattle.reference.specs.Path.{Segments, split}
use Rattle.validation.specs.Check.{reference_text}
use Rattle.rule.specs.Index.{start_of, end_of, EntryAt, ValueAt, RuleAt}
use Rattle.rule.specs.IndexLaws.{value-next}
use Rattle.rule.specs.Rule.{is_template}
use Rattle.rule.specs.Kinds.{type_in, HasType, TextAt, OperatorAt}
use Rattle.rule.specs.Leaves.{leaves, leaves_of_values, leaves_of_pairs, says_at, says_if, said_in, said-append, said-value}
use Rattle.rule.specs.Nodes.{EntriesIn, IsCondition, AreConditions, Behind, children_of, ChildrenFrom}
use Rattle.rule.proofs.NodeSteps.{has-operator, value-size, first-stands, none_left, none-ends}
use Rattle.rule.proofs.EntrySteps.{entries_none, entries-both, entries-part, entries-value}
use Rattle.rule.proofs.Opening.{beside, opened, opened-stand}
use Rattle.walk.specs.Dots.{Ends}
use Rattle.walk.specs.DotLaws.{rest-whole}
use Rattle.value_checks.specs.Frames.{IsReference}
use Rattle.field_changes.specs.Mention.{is_next, past_first, is_named, in_reference, in_value, in_values, in_pairs, in_over, in_condition, in_conditions, mentions}
use Rattle.drafts.specs.Mentions.{string_in, StringAt, mention_says, is_met, NamedIn, OverNamed, ConditionsNamed, RuleNamed}

-- A text that has the name.

past-first : (t : Text) → past_first t ≡ drop 1 t
unfolding past_first
past-first [] = refl
past-first (b ∷ t) = refl

pub named-empty : (name t : Text) → length t ≡ 0 → false ≡ is_named name t
unfolding is_named is_next past_first split
named-empty name [] e = refl
named-empty name (b ∷ t) e = absurd (omega arith)

abbrev behind_one : Text → Text
behind_one t = take (length t - 1) (drop 1 t)

one-whole : (t : Text) → behind_one t ≡ past_first t
one-whole t = rest-whole t 0 ∙ sym (past-first t)

module _ (name t : Text) {end : ℕ} (e : Ends (behind_one t) end) where
  ends-past : Ends (past_first t) end
  ends-past = subst (λ (x : Text). Ends x end) (one-whole t) e

  pub named-last : length (behind_one t) ≤ end → false ≡ is_named name t
  unfolding is_named is_next
  named-last h =
      let same : length (behind_one t) ≡ length (past_first t) = ap length (one-whole t) in
      rw (ends-past.last (omega (arith, ends-past.within)))

  pub named_more : {segment : ℕ} {r : Bool}
      → end < length (behind_one t)
      → Ends (take (length (behind_one t) - (end + 1)) (drop (end + 1) (behind_one t))) segment
      → r ≡ same_bytes name (take (segment - 0) (take (length (behind_one t) - (end + 1)) (drop (end + 1) (behind_one t))))
      → r ≡ is_named name t
  unfolding is_named is_next
  named_more {segment} {r} less f q =
      let same : length (behind_one t) ≡ length (past_first t) = ap length (one-whole t) in
      let path : take (length (behind_one t) - (end + 1)) (drop (end + 1) (behind_one t)) ≡ drop (end + 1) (past_first t) = rest-whole (behind_one t) end ∙ ap (drop (end + 1)) (one-whole t) in
      let ends : Ends (drop (end + 1) (past_first t)) segment = subst (λ (x : Text). Ends x segment) path f in
      let zero-off : segment - 0 ≡ segment = omega arith in
      q ∙ rw (path, zero-off, ends-past.more (omega arith), ends.first) refl

-- The text of an entry.

no-string : (h : ValueHead) → (53 ≡ 48 + type_in h → ⊥) → [] ≡ string_in h
unfolding string_in type_in
no-string (constant_head type) k = refl
no-string (number_head digits) k = refl
no-string (string_head t) k = absurd (k refl)
no-string (array_head count) k = refl
no-string (object_head count) k = refl

module _ {rule words : List ℕ} {i at : ℕ} {test : Bool} (start : at ≡ start_of words i) (typed : HasType rule at 53 test) where
  pub other-string : {t : Text} (from : ℕ) → test ≡ false → t ≡ part_of rule (record { start = from; len = 0 }) → StringAt rule words i t
  unfolding part_of
  other-string {t} from e none-there =
      let m : HasType rule at 53 false = subst (λ (x : Bool). HasType rule at 53 x) e typed in
      record {
        value = λ h rest r. let q : value_head (drop at rule) ≡ some (h, rest) = rw start r in none-there ∙ no-string h (m h rest q);
        key = λ w r. none-there;
      }

  pub that-string : {p : Part} {t : Text} → test ≡ true → TextAt rule at p → t ≡ part_of rule p → StringAt rule words i t
  unfolding string_in type_in
  that-string {p} {t} e known same =
      let m : HasType rule at 53 true = subst (λ (x : Bool). HasType rule at 53 x) e typed in
      record {
        value = λ h rest r. let q : value_head (drop at rule) ≡ some (h, rest) = rw start r in same ∙ of-type h rest q (m.0 h rest q);
        key =
            λ w r.
            ⊎_elim
            (λ (v : (h : ValueHead) × (rest : List ℕ) × (value_head (drop (start_of words i) rule) ≡ some (h, rest))). absurd (none-ne-some _ (sym r ∙ v.2)))
            (λ (k : (key : Text) × (rest : List ℕ) × (key_head (drop (start_of words i) rule) ≡ some (key, rest))). let q : key_head (drop at rule) ≡ some (k.0, k.1) = rw start k.2 in absurd (m.1 k.0 k.1 q))
            w;
      }
    where
      of-type : (h : ValueHead) (rest : List ℕ) → value_head (drop at rule) ≡ some (h, rest) → 53 ≡ 48 + type_in h → part_of rule p ≡ string_in h
      of-type (constant_head type) rest q k = absurd (omega (arith, k, (value_head-exact.sound (drop at rule) (constant_head type) rest q).1.1))
      of-type (number_head digits) rest q k = absurd (omega arith)
      of-type (string_head t) rest q k = known.string t rest q
      of-type (array_head count) rest q k = absurd (omega arith)
      of-type (object_head count) rest q k = absurd (omega arith)

-- One word.

abbrev as_reference : Text → Text → Bool
as_reference name t = in_reference name t (reference_text t)

met-if : (b : Bool) (e : ℕ) → is_met (cond b (e ∷ []) [] ++ []) ≡ b
met-if true e = refl
met-if false e = refl

no-name : (name : Text) → as_reference name [] ≡ false
unfolding in_reference reference_text
no-name name = refl

module _ (name rule words : List ℕ) (i : ℕ) (t : Text) (s : StringAt rule words i t) where
  one-said : EntriesIn rule words i 1 → is_met (said_in (mention_says name) rule words 1 i) ≡ as_reference name t
  unfolding said_in says_at says_if mention_says
  one-said w = go (value_head (drop (start_of words i) rule)) refl
    where
      go : (o : Option (ValueHead × List ℕ)) → value_head (drop (start_of words i) rule) ≡ o → is_met (says_if (mention_says name) (i + 1) o ++ []) ≡ as_reference name t
      go none r = sym (no-name name) ∙ ap (as_reference name) (sym (s.key (w.each i (omega arith) (omega arith)) r))
      go (some h) r = met-if (as_reference name (string_in h.0)) (i + 1) ∙ ap (as_reference name) (sym (s.value h.0 h.1 r))

  pub named-reference : {test r : Bool} → IsReference t test → test ≡ true → r ≡ is_named name t → NamedIn name rule words i 1 r
  unfolding in_reference
  named-reference {test} {r} is e q =
      let m : IsReference t true = subst (λ (x : Bool). IsReference t x) e is in
      record { is = λ w. q ∙ rw (one-said w, m) refl }

  pub named_other : {test : Bool} → IsReference t test → test ≡ false → NamedIn name rule words i 1 false
  unfolding in_reference
  named_other {test} is e =
      let m : IsReference t false = subst (λ (x : Bool). IsReference t x) e is in
      record { is = λ w. rw (one-said w, m) refl }

-- Several words.

met-append : (xs ys : List ℕ) → is_met (xs ++ ys) ≡ (is_met xs || is_met ys)
met-append [] ys = refl
met-append (x ∷ xs) ys = refl

-- what is left to look at decides
pub record NamedLeft (name rule words : List ℕ) (start end i : ℕ) : Type 0 where
  pub low : start ≤ i
  pub high : i - start ≤ end - start
  pub same : EntriesIn rule words start (end - start) → is_met (said_in (mention_says name) rule words (end - start) start) ≡ is_met (said_in (mention_says name) rule words (end - i) i)

module _ {name rule words : List ℕ} {start end : ℕ} where
  pub left-begin : NamedLeft name rule words start end start
  left-begin = record { low = omega arith; high = omega arith; same = λ w. refl }

  module _ {i : ℕ} (l : NamedLeft name rule words start end i) (less : i < end) where
    first_then : is_met (said_in (mention_says name) rule words (end - i) i) ≡ (is_met (said_in (mention_says name) rule words 1 i) || is_met (said_in (mention_says name) rule words (end - (i + 1)) (i + 1)))
    first_then =
        let e : end - i ≡ 1 + (end - (i + 1)) = omega arith in
        rw (e, said-append (mention_says name) rule words 1 (end - (i + 1)) i)
        (met-append (said_in (mention_says name) rule words 1 i) (said_in (mention_says name) rule words (end - (i + 1)) (i + 1)))

    pub left-next : {r : Bool} → NamedIn name rule words i 1 r → r ≡ false → NamedLeft name rule words start end (i + 1)
    left-next {r} n e =
        record {
          low = omega (arith, l.low);
          high = omega (arith, l.low);
          same = λ w. let one = n.is (entries-part l.low (omega (arith, l.low)) w) in l.same w ∙ first_then ∙ rw (← one, e) refl;
        }

    pub left-found : {r : Bool} → NamedIn name rule words i 1 r → r ≡ true → NamedIn name rule words start (end - start) true
    left-found {r} n e =
        record { is = λ w. let one = n.is (entries-part l.low (omega (arith, l.low)) w) in sym (l.same w ∙ first_then ∙ rw (← one, e) refl) }

  pub left-none : {i : ℕ} → NamedLeft name rule words start end i → end ≤ i → NamedIn name rule words start (end - start) false
  unfolding said_in
  left-none {i} l h =
      let e : end - i ≡ 0 = omega arith in
      record { is = λ w. sym (l.same w ∙ rw e refl) }

-- What the entries of a value say is whether it mentions the field.

mutual
  unfolding leaves in_value mention_says string_in

  value-met : (name : Text) (v : Value) → is_met (leaves (mention_says name) v) ≡ in_value name v
  value-met name (constant e type) = rw (no-name name) refl
  value-met name (number e digits) = rw (no-name name) refl
  value-met name (string e t) = rw (← (append-nil (cond (as_reference name t) (e ∷ []) []))) (met-if (as_reference name t) e)
  value-met name (array e values) = rw (no-name name) (values-met name values)
  value-met name (object e pairs) = rw (no-name name) (pairs-met name pairs)

  values-met : (name : Text) (vs : Values) → is_met (leaves_of_values (mention_says name) vs) ≡ in_values name vs
  values-met name no_values = refl
  values-met name (value v others) = met-append (leaves (mention_says name) v) (leaves_of_values (mention_says name) others) ∙ ap₂ ◌||◌ (value-met name v) (values-met name others)

  pairs-met : (name : Text) (ps : Pairs) → is_met (leaves_of_pairs (mention_says name) ps) ≡ in_pairs name ps
  pairs-met name no_pairs = refl
  pairs-met name (pair key v others) = met-append (leaves (mention_says name) v) (leaves_of_pairs (mention_says name) others) ∙ ap₂ ◌||◌ (value-met name v) (pairs-met name others)

-- A quantifier's `in`.

module _ (name rule words : List ℕ) (op i : ℕ) (t : Text) (s : StringAt rule words i t) where
  pub over-other : op ≤ truthy_operator → OverNamed name rule words op i false
  over-other h = record { text = t; at = s; others = λ k. refl; over = λ k. absurd (omega arith) }

  pub over-named : {r : Bool} → truthy_operator < op → r ≡ is_named name t → OverNamed name rule words op i r
  over-named h q = record { text = t; at = s; others = λ k. absurd (omega arith); over = λ k. q }

-- A condition's own values, without its children.

unfoldable own_mention : Text → Condition → Bool
own_mention name (literal e truth) = false
own_mention name (many e op children) = false
own_mention name (negation e child) = false
own_mention name (one e op v) = in_value name v
own_mention name (two e op left right) = in_value name left || in_value name right
own_mention name (comparison e which left right) = in_value name left || in_value name right
own_mention name (quantifier e op bind over body) = in_over name over || in_value name over

or-false-right : (b : Bool) → b ≡ (b || false)
or-false-right true = refl
or-false-right false = refl

or_assoc : (a b c : Bool) → (a || (b || c)) ≡ ((a || b) || c)
or_assoc true b c = refl
or_assoc false b c = refl

mention-parts : (name : Text) (c : Condition) → in_condition name c ≡ (own_mention name c || in_conditions name (children_of c))
unfolding in_condition in_conditions own_mention children_of
mention-parts name (literal e truth) = refl
mention-parts name (many e op children) = refl
mention-parts name (negation e child) = or-false-right (in_condition name child)
mention-parts name (one e op v) = or-false-right (in_value name v)
mention-parts name (two e op left right) = or-false-right (in_value name left || in_value name right)
mention-parts name (comparison e which left right) = or-false-right (in_value name left || in_value name right)
mention-parts name (quantifier e op bind over body) =
    ap (λ (b : Bool). in_over name over || (in_value name over || b)) (or-false-right (in_condition name body))
    ∙ or_assoc (in_over name over) (in_value name over) (in_condition name body || false)

beside-mentions : (name : Text) (cs ds : Conditions) → in_conditions name (beside cs ds) ≡ (in_conditions name cs || in_conditions name ds)
unfolding beside in_conditions
beside-mentions name no_conditions ds = refl
beside-mentions name (condition c others) ds = rw (beside-mentions name others ds) (or_assoc (in_condition name c) (in_conditions name others) (in_conditions name ds))

over-is : (name sheet words : List ℕ) (i : ℕ) (t : Text) (v : Value) → StringAt sheet words i t → ValueAt sheet words i v → is_named name t ≡ in_over name v
unfolding in_over string_in
over-is name sheet words i t (constant e type) s a = ap (is_named name) (s.value _ a.rest a.reads) ∙ sym (named-empty name [] refl)
over-is name sheet words i t (number e digits) s a = ap (is_named name) (s.value _ a.rest a.reads) ∙ sym (named-empty name [] refl)
over-is name sheet words i t (string e u) s a = ap (is_named name) (s.value _ a.rest a.reads)
over-is name sheet words i t (array e values) s a = ap (is_named name) (s.value _ a.0.rest a.0.reads) ∙ sym (named-empty name [] refl)
over-is name sheet words i t (object e pairs) s a = ap (is_named name) (s.value _ a.0.rest a.0.reads) ∙ sym (named-empty name [] refl)

module _ (name rule words : List ℕ) where
  value-said : (i : ℕ) (v : Value) → ValueAt rule words i v → is_met (said_in (mention_says name) rule words (value_entries v) i) ≡ in_value name v
  value-said i v w = ap is_met (said-value (mention_says name) rule words i v w) ∙ value-met name v

  both-said : (i : ℕ) (left right : Value) → ValueAt rule words i left → ValueAt rule words (i + value_entries left) right
      → is_met (said_in (mention_says name) rule words (value_entries left + value_entries right) i) ≡ (in_value name left || in_value name right)
  both-said i left right w u =
      ap is_met (said-append (mention_says name) rule words (value_entries left) (value_entries right) i)
      ∙ met-append (said_in (mention_says name) rule words (value_entries left) i) (said_in (mention_says name) rule words (value_entries right) (i + value_entries left))
      ∙ ap₂ ◌||◌ (value-said i left w) (value-said (i + value_entries left) right u)

  no_words : {i n : ℕ} {r : Bool} → n ≡ 0 → NamedIn name rule words i n r → r ≡ false
  unfolding said_in
  no_words {i} {n} {r} z p =
      let q : NamedIn name rule words i 0 r = subst (λ (k : ℕ). NamedIn name rule words i k r) z p in
      q.is entries_none

  one_value : {i n : ℕ} {r : Bool} (v : Value) → n ≡ value_entries v → ValueAt rule words i v → NamedIn name rule words i n r → r ≡ in_value name v
  one_value {i} {n} {r} v z w p =
      let q : NamedIn name rule words i (value_entries v) r = subst (λ (k : ℕ). NamedIn name rule words i k r) z p in
      q.is (entries-value i v w) ∙ value-said i v w

  two-values : {i n : ℕ} {r : Bool} (left right : Value) → n ≡ value_entries left + value_entries right → ValueAt rule words i left → ValueAt rule words (i + value_entries left) right
      → NamedIn name rule words i n r
      → r ≡ (in_value name left || in_value name right)
  two-values {i} {n} {r} left right z w u p =
      let q : NamedIn name rule words i (value_entries left + value_entries right) r = subst (λ (k : ℕ). NamedIn name rule words i k r) z p in
      q.is (entries-both (entries-value i left w) (entries-value (i + value_entries left) right u)) ∙ both-said i left right w u

  module _ {i end at op next : ℕ} {a b : Bool} (start : at ≡ start_of words i) (kind : OperatorAt rule at op) (k : ChildrenFrom words op i end next)
      (over : OverNamed name rule words op (i + 1) a) (values : NamedIn name rule words (i + 1) (next - (i + 1)) b) where
    own-found : (c : Condition) → IsCondition rule words i end c → (a || b) ≡ own_mention name c
    unfolding own_mention condition_entries
    own-found (literal e truth) w =
        let p = has-operator rule words i start kind (literal e truth) w.stands in
        let f : next ≡ end = k.literal (omega arith) in
        ap₂ ◌||◌ (over.others (omega arith)) (no_words (omega (arith, w.ends)) values)
    own-found (many e own children) w =
        let p = has-operator rule words i start kind (many e own children) w.stands in
        let f : next ≡ i + 1 = k.inner p.1 (omega (arith, p.2)) in
        ap₂ ◌||◌ (over.others (omega (arith, p.2))) (no_words (omega arith) values)
    own-found (negation e child) w =
        let p = has-operator rule words i start kind (negation e child) w.stands in
        let f : next ≡ i + 1 = k.inner (omega arith) (omega arith) in
        ap₂ ◌||◌ (over.others (omega arith)) (no_words (omega arith) values)
    own-found (one e own v) w =
        let p = has-operator rule words i start kind (one e own v) w.stands in
        let f : next ≡ end = ⊎_elim (λ q. k.values (omega arith) (omega arith)) (λ q. k.values (omega arith) (omega arith)) p.1 in
        let o : op ≤ truthy_operator = ⊎_elim (λ q. omega arith) (λ q. omega arith) p.1 in
        ap₂ ◌||◌ (over.others o) (one_value v (omega (arith, w.ends)) w.stands.1 values)
    own-found (two e own left right) w =
        let p = has-operator rule words i start kind (two e own left right) w.stands in
        let f : next ≡ end = k.values (omega (arith, p.1)) (omega (arith, p.2)) in
        ap₂ ◌||◌ (over.others (omega (arith, p.2))) (two-values left right (omega (arith, w.ends)) w.stands.1 w.stands.2 values)
    own-found (comparison e which left right) w =
        let p = has-operator rule words i start kind (comparison e which left right) w.stands in
        let f : next ≡ end = k.values (omega arith) (omega arith) in
        ap₂ ◌||◌ (over.others (omega arith)) (two-values left right (omega (arith, w.ends)) w.stands.1 w.stands.2 values)
    own-found (quantifier e own bind v body) w =
        let p = has-operator rule words i start kind (quantifier e own bind v body) w.stands in
        let behind : Behind words (i + 1) end next = k.body (omega (arith, p.1)) in
        let m : end_of words (i + 1) ≡ i + 1 + value_entries v = value-next rule words (i + 1) v w.stands.1 in
        let z : 1 ≤ value_entries v = value-size v in
        let f : next ≡ i + 1 + value_entries v = behind.exact (omega arith) (omega (arith, w.ends)) ∙ m in
        ap₂ ◌||◌ (over.over (omega (arith, p.1)) ∙ over-is name rule words (i + 1) over.text v over.at w.stands.1)
        (one_value v (omega arith) w.stands.1 values)

-- what is left of the conditions at word `i`
pub record ConditionsLeft (name rule words : List ℕ) (start i end : ℕ) : Type 0 where
  pub rest : (cs : Conditions) → AreConditions rule words start end cs → Conditions
  pub stand : (cs : Conditions) (w : AreConditions rule words start end cs) → AreConditions rule words i end (rest cs w)
  pub same : (cs : Conditions) (w : AreConditions rule words start end cs) → in_conditions name cs ≡ in_conditions name (rest cs w)

pub conditions-begin : {name rule words : List ℕ} {start end : ℕ} → ConditionsLeft name rule words start start end
conditions-begin = record { rest = λ cs w. cs; stand = λ cs w. w; same = λ cs w. refl }

module _ {name rule words : List ℕ} {from i end own at op next : ℕ} {a b : Bool} (l : ConditionsLeft name rule words from i end)
    (inside : i < end) (start : at ≡ start_of words i) (kind : OperatorAt rule at op) (ends : Behind words i end own) (first : ChildrenFrom words op i own next)
    (over : OverNamed name rule words op (i + 1) a) (values : NamedIn name rule words (i + 1) (next - (i + 1)) b) where
  opened-same : (cs : Conditions) → AreConditions rule words i end cs → in_conditions name cs ≡ ((a || b) || in_conditions name (opened cs))
  unfolding opened in_conditions
  opened-same no_conditions w = absurd (omega (arith, none-ends w, inside))
  opened-same (condition c others) w =
      let found = own-found name rule words start kind first over values c (first-stands inside ends w) in
      rw (mention-parts name c, ← found, beside-mentions name (children_of c) others) (sym (or_assoc (a || b) (in_conditions name (children_of c)) (in_conditions name others)))

  pub conditions-next : a ≡ false → b ≡ false → ConditionsLeft name rule words from next end
  conditions-next e f =
      record {
        rest = λ cs w. opened (l.rest cs w);
        stand = λ cs w. opened-stand inside start kind ends first (l.rest cs w) (l.stand cs w);
        same = λ cs w. l.same cs w ∙ opened-same (l.rest cs w) (l.stand cs w) ∙ rw (e, f) refl;
      }

  pub conditions-values : b ≡ true → ConditionsNamed name rule words from end true
  conditions-values e = record { is = λ cs w. sym (l.same cs w ∙ opened-same (l.rest cs w) (l.stand cs w) ∙ rw e (by a (in_conditions name (opened (l.rest cs w))))) }
    where
      by : (x y : Bool) → ((x || true) || y) ≡ true
      by true y = refl
      by false y = refl

module _ {name rule words : List ℕ} {from i end own at op next : ℕ} {a : Bool} (l : ConditionsLeft name rule words from i end)
    (inside : i < end) (start : at ≡ start_of words i) (kind : OperatorAt rule at op) (ends : Behind words i end own) (first : ChildrenFrom words op i own next)
    (over : OverNamed name rule words op (i + 1) a) where
  -- whatever its values say
  itself : NamedIn name rule words (i + 1) (next - (i + 1)) (is_met (said_in (mention_says name) rule words (next - (i + 1)) (i + 1)))
  itself = record { is = λ w. refl }

  pub conditions-over : a ≡ true → ConditionsNamed name rule words from end true
  conditions-over e = record { is = λ cs w. sym (l.same cs w ∙ opened-same l inside start kind ends first over itself (l.rest cs w) (l.stand cs w) ∙ rw e refl) }

pub conditions-none : {name rule words : List ℕ} {from i end : ℕ} → ConditionsLeft name rule words from i end → end ≤ i → ConditionsNamed name rule words from end false
unfolding in_conditions
conditions-none l h = record { is = λ cs w. sym (l.same cs w ∙ rw (none_left (l.rest cs w) h (l.stand cs w)) refl) }

-- A whole rule or template.

module _ (name sheet words : List ℕ) (flag : Bool) (entries : ℕ) where
  pub template-named : {r : Bool} → flag ≡ true → NamedIn name sheet words 1 (entries - 1) r → RuleNamed name sheet words flag entries r
  unfolding mentions is_template rule_entries
  template-named {r} t p = record { is = by }
    where
      by : (x : Rule) → RuleAt sheet words x → flag ≡ is_template x → entries ≡ rule_entries x → r ≡ mentions name x
      by (rule n message assert) at kind size = absurd (false≢true (sym kind ∙ t))
      by (template v) at kind size = one_value name sheet words v (omega arith) at.1 p

  pub rule-named : {r : Bool} → flag ≡ false → ConditionsNamed name sheet words 1 entries r → RuleNamed name sheet words flag entries r
  unfolding mentions is_template rule_entries in_conditions conditions_entries
  rule-named {r} t p = record { is = by }
    where
      by : (x : Rule) → RuleAt sheet words x → flag ≡ is_template x → entries ≡ rule_entries x → r ≡ mentions name x
      by (rule n message assert) at kind size =
          p.is (condition assert no_conditions) (record { stand = (at.1, tt); ends = omega arith }) ∙ sym (or-false-right (in_condition name assert))
      by (template v) at kind size = absurd (false≢true (sym t ∙ kind))
