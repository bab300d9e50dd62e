-- The kinds of siblings: values, conditions, keys with their values.
use Rattle.std.specs.Prelude.{Option, Some, None}
use Prim.Native.Nat.{ℕ, suc, ◌+◌, ◌*◌, ◌-◌, ◌<◌}
use mathlib.Core.List.{List}
use mathlib.Core.Bool.{Bool, true, false, ◌&&◌}
use mathlib.Core.Option.{none, some}
use mathlib.Core.Path.{◌≡◌, refl, sym, ap, ◌∙◌}
use native.Mathlib.Omega.{arith}
use Rattle.text.specs.Reader.{Reader, pure, ◌>>=◌}
use Rattle.text.specs.Order.{follows, none_twice}
use Rattle.text.specs.Parts.{part_of, optional_of}
use Rattle.text.specs.declared.part.Part.{Part}
use Rattle.definition.specs.Limits.{max_rule_entries}
use Rattle.definition.specs.Tree.{Text, Value, Values, Pairs, no_pairs, pair, Condition, Conditions}
use Rattle.definition.specs.Decode.{Ahead, value_in, pairs_of, keys_of, condition_in}
use Rattle.definition.specs.Within.{pairs_entries}
use Rattle.definition.specs.Write.{count_of_pairs}
use Rattle.definition.proofs.SiblingLaws.{Siblings, values-of, conditions-of}
use Rattle.rule.specs.declared.cursor.Cursor.{Cursor}
use Rattle.rule.specs.Index.{ValueAt, ValuesAt, PairsAt, ConditionAt, ConditionsAt}
use Rattle.rule.specs.IndexLaws.{Agree, agree-within, entry_frame, value_frame, condition-frame}
use Rattle.rule.specs.Read.{ahead_of, pair_in, PairAt, size_of_pair, Kept, Indexed, PairsAnswer}
use Rattle.rule.specs.Keys.{NoneTwice}
use Rattle.rule.proofs.SiblingLaws.{Indexing, Passing, siblings-next, siblings-bad, siblings-ended}
use Rattle.rule.proofs.KeptLaws.{kept-wider}
use Rattle.rule.proofs.KeyLaws.{Risen, risen_by, risen, risen-none, risen-pair, risen-differ}
use Rattle.rule.proofs.ValueLaws.{pairs_first, pairs-count, object-unread, object-read, object-twice}

pub pairs-zero : (p : Reader Ahead Value) (a : Ahead) → pairs_of 0 p a ≡ some (no_pairs, a)
unfolding pairs_of pure
pairs-zero p a = refl

pub pairs-suc : (p : Reader Ahead Value) (n : ℕ) (a : Ahead) → pairs_of (suc n) p a ≡ (pair_in p >>= λ kv. pairs_of n p >>= λ ps. pure (pair kv.0 kv.1 ps)) a
unfolding ◌>>=◌
pairs-suc p n a = pairs_first n p a

pub pairs-size : (kv : Text × Value) (ps : Pairs) → pairs_entries (pair kv.0 kv.1 ps) ≡ size_of_pair kv + pairs_entries ps
unfolding pairs_entries size_of_pair
pairs-size kv ps = omega arith

pub no-pairs-size : pairs_entries no_pairs ≡ 0
unfolding pairs_entries
no-pairs-size = refl

abbrev pub pairs-of : Reader Ahead Value → Siblings (Text × Value) Pairs
pairs-of p =
    record {
      item = pair_in p;
      all = λ n. pairs_of n p;
      none_of = no_pairs;
      cons = λ kv. pair kv.0 kv.1;
      item_size = size_of_pair;
      all_size = pairs_entries;
      all-zero = pairs-zero p;
      all-suc = pairs-suc p;
      none-size = no-pairs-size;
      cons-size = pairs-size;
    }

module _ (s : List ℕ) where
  pub pair-frame : (words later : List ℕ) (i : ℕ) (kv : Text × Value) → PairAt s words i kv → Agree words later i (i + size_of_pair kv) → PairAt s later i kv
  unfolding size_of_pair
  pair-frame words later i kv at agree =
      (entry_frame at.0 agree (omega arith) (omega arith), value_frame s words later kv.1 (i + 1) at.1 (agree-within agree (omega arith) (omega arith)))

  pub pairs-more : (words : List ℕ) (i : ℕ) (kv : Text × Value) (ps : Pairs) → PairAt s words i kv → PairsAt s words (i + size_of_pair kv) ps → PairsAt s words i (pair kv.0 kv.1 ps)
  unfolding size_of_pair
  pairs-more words i kv ps at others = (at.0, at.1, others)

  -- the values of an array
  abbrev pub values-kind : ℕ → Indexing (Unit {0}) Value Values
  values-kind depth =
      record {
        kind = values-of (value_in depth);
        told = λ k v. tt;
        ending = λ k vs. tt;
        ItemAt = ValueAt s;
        AllAt = ValuesAt s;
        none-ending = λ k. refl;
        cons-ending = λ k v vs. refl;
        none-at = λ words i. tt;
        cons-at = λ words i v vs at others. (at, others);
        item-frame = λ words later i v at agree. value_frame s words later v i at agree;
      }

  -- the conditions of `all`, `any` and `not`, and a quantifier's body
  abbrev pub conditions-kind : ℕ → Indexing (Unit {0}) Condition Conditions
  conditions-kind depth =
      record {
        kind = conditions-of (condition_in depth);
        told = λ k c. tt;
        ending = λ k cs. tt;
        ItemAt = ConditionAt s;
        AllAt = ConditionsAt s;
        none-ending = λ k. refl;
        cons-ending = λ k c cs. refl;
        none-at = λ words i. tt;
        cons-at = λ words i c cs at others. (at, others);
        item-frame = λ words later i c at agree. condition-frame s words later c i at agree;
      }

  -- the keys and values of an object: whether the keys rise is carried along, and the key before
  abbrev pub pairs-kind : ℕ → Indexing Risen (Text × Value) Pairs
  pairs-kind depth =
      record {
        kind = pairs-of (value_in depth);
        told = λ k kv. risen_by k kv.0;
        ending = risen;
        ItemAt = PairAt s;
        AllAt = PairsAt s;
        none-ending = risen-none;
        cons-ending = λ k kv ps. risen-pair k kv.0 kv.1 ps;
        none-at = λ words i. tt;
        cons-at = pairs-more;
        item-frame = pair-frame;
      }

-- whether the keys rise up to `previous`
abbrev pub sofar : List ℕ → Bool → Option Part → Risen
sofar s rise previous = (rise, optional_of s previous)

-- one key more
pub pairs_next : {s before words later : List ℕ} (depth : ℕ) {count cost n : ℕ} {first : Risen} (rise : Bool) (previous : Option Part) {still : Bool} {c here next : Cursor} (key : Part)
    → Passing (pairs-kind s depth) s before words first (sofar s rise previous) count cost n (2 * n) c here
    → 0 < n
    → (item : Indexed (pair_in (value_in depth)) (PairAt s) size_of_pair s words later 2 here next) × (item.tree.0 ≡ part_of s key)
    → still ≡ (rise && follows (optional_of s previous) (part_of s key))
    → Passing (pairs-kind s depth) s before later first (sofar s still (Some key)) count cost (n - 1) (2 * (n - 1)) c next
unfolding optional_of risen_by
pairs_next depth {n} rise previous key passing h item e = rw (e, ← item.1) (siblings-next passing (2 * (n - 1)) h (omega arith) item.0)

-- All keys have been read.
module _ {s before words : List ℕ} (depth : ℕ) {count : ℕ} {rise : Bool} (previous : Option Part) {n : ℕ} {c here : Cursor}
    (passing : Passing (pairs-kind s depth) s before words (true, none) (sofar s rise previous) count (2 * count) n (2 * n) c here) (e : n ≡ 0)
  where
    abbrev all_read : (i : Indexed (pairs_of count (value_in depth)) (PairsAt s) pairs_entries s before words (2 * count) c here) × (risen (true, none) i.tree ≡ sofar s rise previous)
    all_read = siblings-ended passing e (omega arith)

    all-count : count_of_pairs all_read.0.tree ≡ count
    all-count = pairs-count count (value_in depth) (ahead_of s c) (ahead_of s here) all_read.0.tree all_read.0.reads

    object-good : none_twice (keys_of all_read.0.tree) ≡ true → PairsAnswer s before words depth count c (Some here)
    object-good e =
        let i = all_read.0 in
        record {
          tree = i.tree;
          reads = object-read count (value_in depth) (ahead_of s c) i.tree (ahead_of s here) i.reads e;
          indexed = i.indexed;
          size = i.size;
          kept = i.kept;
          inside = i.inside;
          budget = i.budget;
        }

    pub object-rises : rise ≡ true → PairsAnswer s before words depth count c (Some here)
    object-rises q = object-good (risen-differ all_read.0.tree (ap (λ (k : Risen). k.0) all_read.1 ∙ q))

    pub object-differs : {r : Bool} → NoneTwice s words c.word count r → r ≡ true → PairsAnswer s before words depth count c (Some here)
    object-differs none-twice q = object-good (sym (none-twice.told all_read.0.tree all_read.0.indexed all-count) ∙ q)

    pub object-repeats : {r : Bool} → NoneTwice s words c.word count r → r ≡ false → PairsAnswer s before words depth count c None
    object-repeats none-twice q =
        let i = all_read.0 in
        (object-twice count (value_in depth) (ahead_of s c) i.tree (ahead_of s here) i.reads (sym (none-twice.told i.tree i.indexed all-count) ∙ q), kept-wider i.kept (omega arith) (omega (arith, passing.ready.budget)))

-- a key or a value is not well formed
pub object-bad : {s before words later : List ℕ} (depth : ℕ) {count : ℕ} {first k : Risen} {n : ℕ} {c here : Cursor}
    → Passing (pairs-kind s depth) s before words first k count (2 * count) n (2 * n) c here
    → 0 < n
    → (pair_in (value_in depth) (ahead_of s here) ≡ none) × Kept words later here.word max_rule_entries
    → PairsAnswer s before later depth count c None
object-bad {s} depth {count} {c} passing h bad =
    let all = siblings-bad passing h bad in
    (object-unread count (value_in depth) (ahead_of s c) all.0, all.1)
