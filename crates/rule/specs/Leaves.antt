-- What the entries of a value say one by one, in the order of the sheet: as the index has them, and as the tree has them.
use Prim.Native.Nat.{ℕ, zero, suc, ◌+◌}
use mathlib.Core.List.{List, [], ◌∷◌, ◌++◌, append_assoc, append-nil}
use Rattle.std.proofs.Math.Option.{Option, none, some}
use Rattle.std.specs.Prelude.{◌≡◌, refl, Bool, true, false, drop, eqb}
use Rattle.std.proofs.Common.{ap, ap₂, ◌∙◌, eqb-true}
use native.Mathlib.Omega.{arith}
use Rattle.text.specs.Reader.{◌>>=◌, ◌>>◌, and_then}
use Rattle.text.specs.ByteReaders.{byte}
use Rattle.sheet.specs.Entries.{ValueHead, constant_head, number_head, string_head, array_head, object_head, value_head, key_head}
use Rattle.definition.specs.Tree.{Text, Value, constant, number, string, array, object, Values, no_values, value, Pairs, no_pairs, pair}
use Rattle.definition.specs.Within.{pairs_entries, value_entries, values_entries}
use Rattle.definition.specs.Write.{count_of_values, count_of_pairs}
use Rattle.rule.specs.Index.{start_of, EntryAt, ValueAt, ValuesAt, PairsAt}

-- a key's entry is not a value
begins-otherwise : (b : ℕ) (t : List ℕ) (is_value : Bool) → eqb b 86 ≡ is_value → (key : Text) (rest : List ℕ) → key_head (b ∷ t) ≡ some (key, rest) → value_head (b ∷ t) ≡ none
unfolding key_head value_head ◌>>=◌ ◌>>◌ and_then byte
begins-otherwise b t true e key rest r =
    let f : key_head (86 ∷ t) ≡ some (key, rest) = rw (eqb-true b 86 e) at r in
    let z : ◌≡◌ {A = Option (Text × List ℕ)} none (some (key, rest)) = f in
    cc
begins-otherwise b t false e key rest r = rw e

key-no-value : (s : List ℕ) (key : Text) (rest : List ℕ) → key_head s ≡ some (key, rest) → value_head s ≡ none
unfolding key_head value_head ◌>>=◌ ◌>>◌ and_then byte
key-no-value [] key rest r = refl
key-no-value (b ∷ t) key rest r = begins-otherwise b t (eqb b 86) refl key rest r

module _ {A : Type 0} (says : ℕ → ValueHead → List A) where
  -- by the tree
  unfoldable mutual
    pub leaves : Value → List A
    leaves (constant e type) = says e (constant_head type)
    leaves (number e digits) = says e (number_head digits)
    leaves (string e t) = says e (string_head t)
    leaves (array e vs) = says e (array_head (count_of_values vs)) ++ leaves_of_values vs
    leaves (object e pairs) = says e (object_head (count_of_pairs pairs)) ++ leaves_of_pairs pairs

    pub leaves_of_values : Values → List A
    leaves_of_values no_values = []
    leaves_of_values (value v others) = leaves v ++ leaves_of_values others

    pub leaves_of_pairs : Pairs → List A
    leaves_of_pairs no_pairs = []
    leaves_of_pairs (pair key v others) = leaves v ++ leaves_of_pairs others

  -- by the index: an entry that is not a value says nothing
  unfoldable pub says_if : ℕ → Option (ValueHead × List ℕ) → List A
  says_if e none = []
  says_if e (some h) = says e h.0

  unfoldable pub says_at : (sheet words : List ℕ) → ℕ → List A
  says_at sheet words i = says_if (i + 1) (value_head (drop (start_of words i) sheet))

  -- the `n` entries from word `i` on
  unfoldable pub said_in : (sheet words : List ℕ) (n i : ℕ) → List A
  said_in sheet words zero i = []
  said_in sheet words (suc n) i = says_at sheet words i ++ said_in sheet words n (i + 1)

  pub said-append : (sheet words : List ℕ) (m n i : ℕ) → said_in sheet words (m + n) i ≡ said_in sheet words m i ++ said_in sheet words n (i + m)
  unfolding said_in
  said-append sheet words zero n i =
      let e : 0 + n ≡ n = omega arith in
      let f : i + 0 ≡ i = omega arith in
      rw (e, f)
  said-append sheet words (suc m) n i =
      let e : suc m + n ≡ suc (m + n) = omega arith in
      let f : i + 1 + m ≡ i + suc m = omega arith in
      rw (e, said-append sheet words m n (i + 1), f, append_assoc)

  says-entry : (sheet words : List ℕ) (i size e : ℕ) (h : ValueHead) → EntryAt value_head sheet words i size e h → says_at sheet words i ≡ says e h
  unfolding says_at says_if
  says-entry sheet words i size e h a = rw (a.reads, a.is_entry)

  said-one : (sheet words : List ℕ) (i size e : ℕ) (h : ValueHead) → EntryAt value_head sheet words i size e h → said_in sheet words 1 i ≡ says e h
  unfolding said_in
  said-one sheet words i size e h a = rw append-nil (says-entry sheet words i size e h a)

  said-key : (sheet words : List ℕ) (i size e : ℕ) (key : Text) → EntryAt key_head sheet words i size e key → said_in sheet words 1 i ≡ []
  unfolding said_in says_at says_if
  said-key sheet words i size e key a = rw (key-no-value (drop (start_of words i) sheet) key a.rest a.reads)

  mutual
    unfolding leaves said_in value_entries says_at says_if

    pub said-value : (sheet words : List ℕ) (i : ℕ) (v : Value) → ValueAt sheet words i v → said_in sheet words (value_entries v) i ≡ leaves v
    said-value sheet words i (constant e type) a = said-one sheet words i 1 e (constant_head type) a
    said-value sheet words i (number e digits) a = said-one sheet words i 1 e (number_head digits) a
    said-value sheet words i (string e t) a = said-one sheet words i 1 e (string_head t) a
    said-value sheet words i (array e vs) a =
        said-append sheet words 1 (values_entries vs) i
        ∙ ap₂ ◌++◌ (said-one sheet words i _ e _ a.0) (said-values sheet words (i + 1) vs a.1)
    said-value sheet words i (object e pairs) a =
        said-append sheet words 1 (pairs_entries pairs) i
        ∙ ap₂ ◌++◌ (said-one sheet words i _ e _ a.0) (said-pairs sheet words (i + 1) pairs a.1)

    said-values : (sheet words : List ℕ) (i : ℕ) (vs : Values) → ValuesAt sheet words i vs → said_in sheet words (values_entries vs) i ≡ leaves_of_values vs
    said-values sheet words i no_values a = refl
    said-values sheet words i (value v others) a =
        said-append sheet words (value_entries v) (values_entries others) i
        ∙ ap₂ ◌++◌ (said-value sheet words i v a.0) (said-values sheet words (i + value_entries v) others a.1)

    said-pairs : (sheet words : List ℕ) (i : ℕ) (ps : Pairs) → PairsAt sheet words i ps → said_in sheet words (pairs_entries ps) i ≡ leaves_of_pairs ps
    said-pairs sheet words i no_pairs a = refl
    said-pairs sheet words i (pair key v others) a =
        let sizes : 1 + (value_entries v + pairs_entries others) ≡ 1 + value_entries v + pairs_entries others = omega arith in
        ap (λ (n : ℕ). said_in sheet words n i) sizes
        ∙ said-append sheet words (1 + value_entries v) (pairs_entries others) i
        ∙ ap₂ ◌++◌
        (said-append sheet words 1 (value_entries v) i
        ∙ ap₂ ◌++◌ (said-key sheet words i _ _ key a.0) (said-value sheet words (i + 1) v a.1))
        (said-pairs sheet words (i + (1 + value_entries v)) others a.2)
