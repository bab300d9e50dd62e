-- The words of a value are those of values and keys.
use Prim.Native.Nat.{ℕ, ◌+◌, ◌≤◌}
use native.Mathlib.Omega.{arith}
use mathlib.Core.List.{List}
use mathlib.Core.Logic.{inl, inr}
use mathlib.Core.Path.{◌≡◌, subst}
use lib.Dec.{ltb}
use borrow.Author.Tests.{ltb-true, ltb-false}
use Rattle.text.specs.CaseLaws.{by-test}
use Rattle.sheet.specs.Entries.{ValueHead, value_head, key_head}
use Rattle.definition.specs.Tree.{Text, Value, constant, number, string, array, object, Values, no_values, value, Pairs, no_pairs, pair}
use Rattle.definition.specs.Within.{value_entries, values_entries, pairs_entries}
use Rattle.rule.specs.Index.{EntryAt, ValueAt, ValuesAt, PairsAt}
use Rattle.rule.specs.Nodes.{EntryIn, EntriesIn}

module _ {rule words : List ℕ} where
  entries-one : {i : ℕ} → EntryIn rule words i → EntriesIn rule words i 1
  entries-one {i} e = record { each = λ k low high. let q : i ≡ k = omega arith in subst (λ (x : ℕ). EntryIn rule words x) q e }

  pub entries_none : {i : ℕ} → EntriesIn rule words i 0
  entries_none = record { each = λ k low high. absurd (omega arith) }

  pub entries-both : {i m n : ℕ} → EntriesIn rule words i m → EntriesIn rule words (i + m) n → EntriesIn rule words i (m + n)
  entries-both {i} {m} {n} p q =
      record {
        each = λ k low high.
            by-test (ltb k (i + m)) (λ e. p.each k low (ltb-true k (i + m) e)) (λ e. q.each k (ltb-false k (i + m) e) (omega arith));
      }

  pub entries-part : {i n k m : ℕ} → i ≤ k → k + m ≤ i + n → EntriesIn rule words i n → EntriesIn rule words k m
  entries-part low high p = record { each = λ j l h. p.each j (omega arith) (omega arith) }

  of-value : {i size e : ℕ} {h : ValueHead} → EntryAt value_head rule words i size e h → EntriesIn rule words i 1
  of-value {h = h} a = entries-one (inl (h, a.rest, a.reads))

  of-key : {i size e : ℕ} {key : Text} → EntryAt key_head rule words i size e key → EntriesIn rule words i 1
  of-key {key = key} a = entries-one (inr (key, a.rest, a.reads))

  mutual
    unfolding value_entries

    pub entries-value : (i : ℕ) (v : Value) → ValueAt rule words i v → EntriesIn rule words i (value_entries v)
    entries-value i (constant e type) a = of-value a
    entries-value i (number e digits) a = of-value a
    entries-value i (string e t) a = of-value a
    entries-value i (array e values) a = entries-both (of-value a.0) (entries-values (i + 1) values a.1)
    entries-value i (object e pairs) a = entries-both (of-value a.0) (entries-pairs (i + 1) pairs a.1)

    entries-values : (i : ℕ) (vs : Values) → ValuesAt rule words i vs → EntriesIn rule words i (values_entries vs)
    entries-values i no_values a = entries_none
    entries-values i (value v others) a = entries-both (entries-value i v a.0) (entries-values (i + value_entries v) others a.1)

    entries-pairs : (i : ℕ) (ps : Pairs) → PairsAt rule words i ps → EntriesIn rule words i (pairs_entries ps)
    entries-pairs i no_pairs a = entries_none
    entries-pairs i (pair key v others) a =
        let e : 1 + value_entries v + pairs_entries others ≡ 1 + (value_entries v + pairs_entries others) = omega arith in
        subst (λ (n : ℕ). EntriesIn rule words i n) e
        (entries-both (entries-both (of-key a.0) (entries-value (i + 1) v a.1)) (entries-pairs (i + (1 + value_entries v)) others a.2))
