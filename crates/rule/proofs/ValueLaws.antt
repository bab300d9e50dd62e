-- Each way through the reader of a value, on the decoder's side.
use Prim.Native.Nat.{ℕ, zero, suc, ◌+◌, ◌*◌, ◌≤◌, ◌<◌}
use mathlib.Core.Bool.{Bool, true, false}
use mathlib.Core.List.{List}
use mathlib.Core.Option.{Option, none, some, none-ne-some}
use mathlib.Core.Path.{◌≡◌, refl, sym, ap, ◌∙◌}
use native.Mathlib.Omega.{arith}
use Rattle.text.specs.Reader.{Reader, pure, refuse, ensure, and_then, ◌>>=◌, ◌>>◌}
use Rattle.text.specs.Order.{none_twice}
use Rattle.text.specs.CaseLaws.{zero-not-one}
use Rattle.sheet.specs.Entries.{ValueHead, constant_head, number_head, string_head, array_head, object_head, value_head, key_head}
use Rattle.definition.specs.Tree.{Text, Value, constant, number, string, array, object, Values, no_values, value, Pairs, no_pairs, pair}
use Rattle.definition.specs.Decode.{Ahead, entered, entry, values_of, pairs_of, keys_of, object_of, value_of, value_in}
use Rattle.definition.specs.Within.{pairs_entries, value_entries, values_entries}
use Rattle.definition.specs.Write.{count_of_values, count_of_pairs}
use Rattle.rule.specs.Index.{EntryAt, ValueAt, ValuesAt, PairsAt}
use Rattle.rule.specs.Read.{pair_in}
use Rattle.rule.proofs.ReaderLaws.{some-both, then_some, First, then-first, paid, announced, not-announced, nothing-paid}

-- nothing may nest any more
pub value-too-deep : (a : Ahead) (depth : ℕ) → depth ≡ 0 → value_in depth a ≡ none
unfolding value_in refuse
value-too-deep a depth e = rw e

-- a value's entry, and what it holds
under : (k : ℕ) (a : Ahead) → Option (ValueHead × List ℕ) → Option (Value × Ahead)
under k a o = and_then (entered a.next a.left o) (λ h. value_of h.0 h.1 (value_in k))

value-under : (k : ℕ) (a : Ahead) → value_in (suc k) a ≡ under k a (value_head a.rest)
unfolding under value_in ◌>>=◌ entry
value-under k a = refl

pub value-headless : (k : ℕ) (a : Ahead) → value_head a.rest ≡ none → value_in (suc k) a ≡ none
unfolding under and_then entered
value-headless k a e = value-under k a ∙ ap (under k a) e

pub value-headed : (k : ℕ) (a : Ahead) (h : ValueHead) (behind : List ℕ)
    → value_head a.rest ≡ some (h, behind)
    → value_in (suc k) a ≡ value_of a.next h (value_in k) (record { next = a.next + 1; left = a.left; rest = behind })
unfolding under and_then entered
value-headed k a h behind e = value-under k a ∙ ap (under k a) e

-- The siblings that the decoder read, one by one.

pub values-none : (p : Reader Ahead Value) (a b : Ahead) (vs : Values) → values_of 0 p a ≡ some (vs, b) → (no_values ≡ vs) × (a ≡ b)
unfolding values_of pure
values-none p a b vs e = some-both e

pub values-first : (n : ℕ) (p : Reader Ahead Value) (a b : Ahead) (vs : Values)
    → values_of (suc n) p a ≡ some (vs, b)
    → First (p a) (values_of n p) value vs b
unfolding values_of ◌>>=◌
values-first n p a b vs e = then-first (p a) (values_of n p) value vs b e

pub values-count : (n : ℕ) (p : Reader Ahead Value) (a b : Ahead) (vs : Values) → values_of n p a ≡ some (vs, b) → count_of_values vs ≡ n
unfolding count_of_values
values-count zero p a b vs e = rw (← (values-none p a b vs e).0)
values-count (suc n) p a b vs e =
    let x = values-first n p a b vs e in
    let y : count_of_values x.others ≡ n = values-count n p x.mid b x.others x.are_others in
    ap count_of_values (sym x.is_first) ∙ omega arith

pub pairs-none : (p : Reader Ahead Value) (a b : Ahead) (ps : Pairs) → pairs_of 0 p a ≡ some (ps, b) → (no_pairs ≡ ps) × (a ≡ b)
unfolding pairs_of pure
pairs-none p a b ps e = some-both e

module _ (n : ℕ) (p : Reader Ahead Value) where
  abbrev pairs-behind : Text × Value → Reader Ahead Pairs
  pairs-behind kv = pairs_of n p >>= λ others. pure (pair kv.0 kv.1 others)

  -- a key, and its value
  pub pairs_first : (a : Ahead) → pairs_of (suc n) p a ≡ and_then (pair_in p a) pairs-behind
  unfolding pairs_of pair_in ◌>>=◌ and_then pure
  pairs_first a = key (entry key_head a)
    where
      with_value : (k : Text) (o : Option (Value × Ahead))
          → and_then o (λ v. pairs-behind (k, v)) ≡ and_then (and_then o (λ v. pure (k, v))) pairs-behind
      with_value k none = refl
      with_value k (some r) = refl

      key : (o : Option ((ℕ × Text) × Ahead))
          → and_then o (λ k. p >>= λ v. pairs-behind (k.1, v)) ≡ and_then (and_then o (λ k. p >>= λ v. pure (k.1, v))) pairs-behind
      key none = refl
      key (some r) = with_value r.0.1 (p r.1)

pub pairs-count : (n : ℕ) (p : Reader Ahead Value) (a b : Ahead) (ps : Pairs) → pairs_of n p a ≡ some (ps, b) → count_of_pairs ps ≡ n
unfolding count_of_pairs ◌>>=◌ pure
pairs-count zero p a b ps e = rw (← (pairs-none p a b ps e).0)
pairs-count (suc n) p a b ps e =
    let x = then_some (pair_in p a) (pairs-behind n p) (sym (pairs_first n p a) ∙ e) in
    let y = then_some (pairs_of n p x.mid) (λ others. pure (pair x.fst.0 x.fst.1 others)) x.second in
    let z : count_of_pairs y.fst ≡ n = pairs-count n p x.mid y.mid y.fst y.first in
    ap count_of_pairs (sym (some-both y.second).0) ∙ omega arith

-- An object's keys and values, by whether a key occurs twice.
module _ (n : ℕ) (p : Reader Ahead Value) (a : Ahead) where
  tested : Option (Pairs × Ahead) → Option (Pairs × Ahead)
  tested o = and_then o (λ ps. ensure (none_twice (keys_of ps)) >> pure ps)

  object-tested : object_of n p a ≡ tested (pairs_of n p a)
  unfolding tested object_of ◌>>=◌
  object-tested = refl

  pub object-unread : pairs_of n p a ≡ none → object_of n p a ≡ none
  unfolding tested and_then
  object-unread e = object-tested ∙ ap tested e

  module _ (ps : Pairs) (b : Ahead) (read : pairs_of n p a ≡ some (ps, b)) where
    told-apart : (t : Bool) → none_twice (keys_of ps) ≡ t → object_of n p a ≡ (ensure t >> pure ps) b
    unfolding tested and_then
    told-apart t e = object-tested ∙ ap tested read ∙ ap (λ (t : Bool). (ensure t >> pure ps) b) e

    pub object-read : none_twice (keys_of ps) ≡ true → object_of n p a ≡ some (ps, b)
    unfolding ◌>>◌ ◌>>=◌ ensure and_then pure
    object-read e = told-apart true e

    pub object-twice : none_twice (keys_of ps) ≡ false → object_of n p a ≡ none
    unfolding ◌>>◌ ◌>>=◌ ensure and_then pure
    object-twice e = told-apart false e

passed : (t : Bool) (r : Pairs × Ahead) {u : Pairs × Ahead} → (ensure t >> pure r.0) r.1 ≡ some u → some r ≡ some u
unfolding ◌>>◌ ◌>>=◌ ensure and_then pure
passed true r e = e
passed false r e = absurd (none-ne-some _ e)

tested-inv : (o : Option (Pairs × Ahead)) {u : Pairs × Ahead} → and_then o (λ ps. ensure (none_twice (keys_of ps)) >> pure ps) ≡ some u → o ≡ some u
unfolding and_then
tested-inv none e = e
tested-inv (some r) e = passed (none_twice (keys_of r.0)) r e

object-pairs : (n : ℕ) (p : Reader Ahead Value) (a b : Ahead) (ps : Pairs) → object_of n p a ≡ some (ps, b) → pairs_of n p a ≡ some (ps, b)
unfolding tested
object-pairs n p a b ps e = tested-inv (pairs_of n p a) (sym (object-tested n p a) ∙ e)

pub object-count : (n : ℕ) (p : Reader Ahead Value) (a b : Ahead) (ps : Pairs) → object_of n p a ≡ some (ps, b) → count_of_pairs ps ≡ n
object-count n p a b ps e = pairs-count n p a b ps (object-pairs n p a b ps e)

-- What a value's head announces: so many values, where it is no object.
pub data HoldsValues : ValueHead → ℕ → Type 0 where
  constant-holds : {type : ℕ} → HoldsValues (constant_head type) 0
  number-holds : {digits : List ℕ} → HoldsValues (number_head digits) 0
  string-holds : {t : List ℕ} → HoldsValues (string_head t) 0
  array-holds : {n : ℕ} → HoldsValues (array_head n) n

module _ (e : ℕ) (p : Reader Ahead Value) (a : Ahead) where
  pub values-unpaid : {h : ValueHead} {n : ℕ} → HoldsValues h n → a.left < n → value_of e h p a ≡ none
  unfolding value_of ◌>>=◌ ◌>>◌ and_then
  values-unpaid constant-holds q = absurd (omega arith)
  values-unpaid number-holds q = absurd (omega arith)
  values-unpaid string-holds q = absurd (omega arith)
  values-unpaid (array-holds {n}) q = rw (not-announced n a q)

  pub values-bad : {h : ValueHead} {n : ℕ} → HoldsValues h n → n ≤ a.left → values_of n p (paid n a) ≡ none → value_of e h p a ≡ none
  unfolding value_of values_of pure ◌>>=◌ ◌>>◌ and_then
  values-bad constant-holds q f = zero-not-one cc
  values-bad number-holds q f = zero-not-one cc
  values-bad string-holds q f = zero-not-one cc
  values-bad (array-holds {n}) q f = rw (announced n a q, f)

-- the value with that head, over what was read inside it
pub record Holder (sheet : List ℕ) (e : ℕ) (h : ValueHead) (p : Reader Ahead Value) (a b : Ahead) (size : ℕ)
    (Inside : (words : List ℕ) (i : ℕ) → Type 0)
    : Type 0 where
  pub tree : Value
  pub reads : value_of e h p a ≡ some (tree, b)
  pub is_size : value_entries tree ≡ 1 + size
  pub is_at : (words : List ℕ) (i : ℕ) → EntryAt value_head sheet words i (1 + size) e h → Inside words (i + 1) → ValueAt sheet words i tree

module _ (sheet : List ℕ) (e : ℕ) (p : Reader Ahead Value) (a b : Ahead) where
  single : (h : ValueHead) (v : Value) (vs : Values)
      → value_of e h p a ≡ some (v, a)
      → value_entries v ≡ 1
      → ((words : List ℕ) (i : ℕ) → EntryAt value_head sheet words i 1 e h → ValueAt sheet words i v)
      → values_of 0 p (paid 0 a) ≡ some (vs, b)
      → Holder sheet e h p a b (values_entries vs) (λ words i. ValuesAt sheet words i vs)
  unfolding values_entries
  single h v vs r z t f =
      let both = values-none p (paid 0 a) b vs f in
      let none_inside : values_entries vs ≡ 0 = ap values_entries (sym both.0) in
      record {
        tree = v;
        reads = r ∙ ap (λ (m : Ahead). some (v, m)) (nothing-paid a b both.1);
        is_size = omega arith;
        is_at = λ words i at inside. t words i (rw none_inside at at);
      }

  pub values-held : {h : ValueHead} {n : ℕ} (vs : Values)
      → HoldsValues h n
      → n ≤ a.left
      → values_of n p (paid n a) ≡ some (vs, b)
      → Holder sheet e h p a b (values_entries vs) (λ words i. ValuesAt sheet words i vs)
  unfolding value_of pure ◌>>=◌ ◌>>◌ and_then value_entries
  values-held vs (constant-holds {type}) q f = single (constant_head type) (constant e type) vs refl refl (λ words i at. at) f
  values-held vs (number-holds {digits}) q f = single (number_head digits) (number e digits) vs refl refl (λ words i at. at) f
  values-held vs (string-holds {t}) q f = single (string_head t) (string e t) vs refl refl (λ words i at. at) f
  values-held vs (array-holds {n}) q f =
      record {
        tree = array e vs;
        reads = rw (announced n a q, f);
        is_size = refl;
        is_at = λ words i at inside. (rw (← values-count n p (paid n a) b vs f) at at, inside);
      }

  pub pairs-held : (n : ℕ) (ps : Pairs)
      → 2 * n ≤ a.left
      → object_of n p (paid (2 * n) a) ≡ some (ps, b)
      → Holder sheet e (object_head n) p a b (pairs_entries ps) (λ words i. PairsAt sheet words i ps)
  unfolding value_of pure ◌>>=◌ ◌>>◌ and_then value_entries
  pairs-held n ps q f =
      record {
        tree = object e ps;
        reads = rw (announced (2 * n) a q, f);
        is_size = refl;
        is_at = λ words i at inside. (rw (← object-count n p (paid (2 * n) a) b ps f) at at, inside);
      }

module _ (e : ℕ) (p : Reader Ahead Value) (a : Ahead) (n : ℕ) where
  pub pairs-unpaid : a.left < 2 * n → value_of e (object_head n) p a ≡ none
  unfolding value_of ◌>>=◌ ◌>>◌ and_then
  pairs-unpaid q = rw (not-announced (2 * n) a q)

  pub pairs-bad : 2 * n ≤ a.left → object_of n p (paid (2 * n) a) ≡ none → value_of e (object_head n) p a ≡ none
  unfolding value_of ◌>>=◌ ◌>>◌ and_then
  pairs-bad q f = rw (announced (2 * n) a q, f)

-- Each way through the reader of a key and its value.
module _ (p : Reader Ahead Value) (a : Ahead) where
  with-key : Option (List ℕ × List ℕ) → Option ((Text × Value) × Ahead)
  with-key o = and_then (entered a.next a.left o) (λ k. p >>= λ v. pure (k.1, v))

  pair-with-key : pair_in p a ≡ with-key (key_head a.rest)
  unfolding with-key pair_in ◌>>=◌ entry
  pair-with-key = refl

  pub pair-keyless : key_head a.rest ≡ none → pair_in p a ≡ none
  unfolding with-key and_then entered
  pair-keyless e = pair-with-key ∙ ap with-key e

  module _ (key : Text) (behind : List ℕ) (head : key_head a.rest ≡ some (key, behind)) where
    pair-headed : pair_in p a ≡ (p >>= λ v. pure (key, v)) (record { next = a.next + 1; left = a.left; rest = behind })
    unfolding with-key and_then entered
    pair-headed = pair-with-key ∙ ap with-key head

    pub pair-valueless : p (record { next = a.next + 1; left = a.left; rest = behind }) ≡ none → pair_in p a ≡ none
    unfolding ◌>>=◌ and_then
    pair-valueless f = pair-headed ∙ rw f

pub pair_read : (p : Reader Ahead Value) (a b : Ahead) (key : Text) (behind : List ℕ) (v : Value)
    → key_head a.rest ≡ some (key, behind)
    → p (record { next = a.next + 1; left = a.left; rest = behind }) ≡ some (v, b)
    → pair_in p a ≡ some ((key, v), b)
unfolding ◌>>=◌ and_then pure
pair_read p a b key behind v head f = pair-headed p a key behind head ∙ rw f
