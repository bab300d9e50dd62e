-- A value is read back as it was written, and what is read as a value is one as it is written.
use Prim.Native.Nat.{ℕ, zero, suc, ◌+◌, ◌*◌, ◌≤◌}
use Rattle.std.specs.Prelude.{◌++◌, ◌≡◌}
use Rattle.std.proofs.Common.{append_assoc}
use Rattle.std.proofs.Math.Path.{refl, ap}
use native.Mathlib.Omega.{arith}
use Rattle.text.specs.Reader.{Reader, ◌>>=◌, pure}
use Rattle.text.specs.ReaderLaws.{Reads, bind_inv, then-inv, bind-reads, then-reads, pure-inv, ensure-inv, ensure-reads, refuse-inv}
use Rattle.sheet.specs.Entries.{max_count, ValueHead, constant_head, number_head, string_head, array_head, object_head, value_head}
use Rattle.sheet.specs.Write.{write_value_head}
use Rattle.sheet.proofs.RuleHeadLaws.{ValueHeadFits, value_head-exact, key_head-exact}
use Rattle.definition.specs.Tree.{Value, constant, number, string, array, object, Values, no_values, value, Pairs, no_pairs, pair}
use Rattle.definition.specs.Decode.{Ahead, entry, values_of, pairs_of, object_of, value_of, value_in}
use Rattle.definition.specs.Write.{count_of_values, count_of_pairs, write_value, write_values, write_pairs}
use Rattle.definition.specs.Within.{value_entries, values_entries, pairs_entries, value_nesting, values_nesting, pairs_nesting, KeysDiffer, ValueFits, ValuesFit, PairsFit, ValueFrom, ValuesFrom, PairsFrom}
use Rattle.definition.proofs.KeyLaws.{none-twice-differ, differ-none-twice}
use Rattle.definition.proofs.SiblingLaws.{values-of, Written, siblings-law}
use Rattle.definition.proofs.TreeLaws.{Moves, TreeLaw, moves-none, moves-split, Enters, entering, entry-reads, announced-inv, announced-reads, enters-alone, enters-moves, enters-first}

pub record ValueGood (depth next : ℕ) (v : Value) : Type 0 where
  pub nesting : value_nesting v ≤ depth
  pub fits : ValueFits v
  pub numbers : ValueFrom next v

pub record ValuesGood (depth n next : ℕ) (vs : Values) : Type 0 where
  pub count : count_of_values vs ≡ n
  pub nesting : values_nesting vs ≤ depth
  pub fits : ValuesFit vs
  pub numbers : ValuesFrom next vs

pub record PairsGood (depth n next : ℕ) (ps : Pairs) : Type 0 where
  pub count : count_of_pairs ps ≡ n
  pub nesting : pairs_nesting ps ≤ depth
  pub fits : PairsFit ps
  pub numbers : PairsFrom next ps

pub record ObjectGood (depth n next : ℕ) (ps : Pairs) : Type 0 where
  pub pairs : PairsGood depth n next ps
  pub differ : KeysDiffer ps

abbrev pub ValueLaw : ℕ → Reader Ahead Value → Type 0
ValueLaw depth p = TreeLaw p write_value value_entries (λ v. 1) (ValueGood depth)

pub value-takes : (v : Value) → 1 ≤ value_entries v
unfolding value_entries
value-takes (constant e type) = omega arith
value-takes (number e digits) = omega arith
value-takes (string e text) = omega arith
value-takes (array e values) = omega arith
value-takes (object e pairs) = omega arith

values-take : (vs : Values) → count_of_values vs ≤ values_entries vs
unfolding count_of_values values_entries
values-take no_values = omega arith
values-take (value v others) = omega (arith, value-takes v, values-take others)

pairs-take : (ps : Pairs) → 2 * count_of_pairs ps ≤ pairs_entries ps
unfolding count_of_pairs pairs_entries
pairs-take no_pairs = omega arith
pairs-take (pair key v others) = omega (arith, value-takes v, pairs-take others)

no-values-good : (depth next : ℕ) (vs : Values) → ValuesGood depth 0 next vs → vs ≡ no_values
unfolding count_of_values
no-values-good depth next no_values g = refl
no-values-good depth next (value v others) g = absurd (omega (arith, g.count))

first-value-good : (depth n next : ℕ) (vs : Values) → ValuesGood depth (suc n) next vs
    → (v : Value) × (others : Values) × (vs ≡ value v others) × ValueGood depth next v × ValuesGood depth n (next + value_entries v) others
unfolding count_of_values values_nesting
first-value-good depth n next no_values g = absurd (omega (arith, g.count))
first-value-good depth n next (value v others) g = (
  v,
  others,
  refl,
  record { nesting = omega (arith, g.nesting); fits = g.fits.0; numbers = g.numbers.0 },
  record { count = omega (arith, g.count); nesting = omega (arith, g.nesting); fits = g.fits.1; numbers = g.numbers.1 },
)

values-written : (depth : ℕ) (p : Reader Ahead Value) → Written (values-of p) write_value write_values 1 count_of_values (ValueGood depth) (ValuesGood depth)
unfolding write_values count_of_values values_nesting
values-written depth p =
    record {
      none_written = refl;
      cons-written = λ v vs. refl;
      none-announced = refl;
      cons-announced = λ v vs. refl;
      announced-first = values-take;
      none-good = λ next. record { count = refl; nesting = omega arith; fits = tt; numbers = tt };
      cons-good = λ n next v vs g h. record { count = omega (arith, h.count); nesting = omega (arith, g.nesting, h.nesting); fits = (g.fits, h.fits); numbers = (g.numbers, h.numbers) };
      good_none = no-values-good depth;
      good-cons = first-value-good depth;
    }

module _ (depth : ℕ) (p : Reader Ahead Value) (law : ValueLaw depth p) where
  pub values-law : (n : ℕ) → TreeLaw (values_of n p) write_values values_entries count_of_values (ValuesGood depth n)
  values-law = siblings-law (values-of p) (values-written depth p) law

  pairs-sound : (n : ℕ) (a : Ahead) (ps : Pairs) (b : Ahead) → Reads (pairs_of n p) a ps b
      → Moves (write_pairs ps) (pairs_entries ps) (2 * count_of_pairs ps) a b × PairsGood depth n a.next ps
  unfolding pairs_of write_pairs pairs_entries count_of_pairs pairs_nesting
  pairs-sound zero a ps b e =
      let q = pure-inv _ _ e in
      rw (← q.0, ← q.1) (record { rest = refl; next = omega arith; left = omega arith }, record { count = refl; nesting = omega arith; fits = tt; numbers = tt })
  pairs-sound (suc n) a ps b e =
      entering key_head-exact _ _ e λ key a₁ m₁ e.
      bind_inv _ _ _ e λ v a₂ e₂ e.
      bind_inv _ _ _ e λ others a₃ e₃ e.
      let q = pure-inv _ _ e in
      let m₂ = law.sound a₁ v a₂ e₂ in
      let m₃ = pairs-sound n a₂ others a₃ e₃ in
      rw (← q.0, ← q.1) (
        record { rest = rw (m₁.rest, m₂.0.rest, m₃.0.rest) (simp append_assoc); next = omega arith; left = omega arith },
        record {
          count = omega arith;
          nesting = omega arith;
          fits = (m₁.fits, m₂.1.fits, m₃.1.fits);
          numbers = (rw m₁.next at m₂.1.numbers, rw (m₂.0.next, m₁.next) at m₃.1.numbers);
        },
      )

  pairs-complete : (n : ℕ) (a : Ahead) (ps : Pairs) (b : Ahead) → a.left ≤ max_count
      → Moves (write_pairs ps) (pairs_entries ps) (2 * count_of_pairs ps) a b → PairsGood depth n a.next ps → Reads (pairs_of n p) a ps b
  unfolding pairs_of write_pairs pairs_entries count_of_pairs pairs_nesting pure
  pairs-complete zero a no_pairs b l m g = rw (moves-none a b m)
  pairs-complete zero a (pair key v others) b l m g = absurd (omega arith)
  pairs-complete (suc n) a no_pairs b l m g = absurd (omega arith)
  pairs-complete (suc n) a (pair key v others) b l m g =
      let f = g.fits in
      enters-first key f.0 (write_value v ++ write_pairs others) _ (2 * count_of_pairs others + 1) a b
      (record { rest = m.rest; next = m.next; left = omega arith }) λ a₁ m₁ m₂.
      moves-split (write_value v) (write_pairs others) _ _ _ _ a₁ b m₂ (pairs-take others) λ a₂ m₃ m₄.
      bind-reads _ _ (entry-reads key_head-exact a key a₁ m₁)
      (bind-reads _ _
      (law.complete a₁ v a₂ (omega arith) m₃ (record { nesting = omega arith; fits = f.1; numbers = rw m₁.next g.numbers.0 }))
      (bind-reads _ _
      (pairs-complete n a₂ others b (omega (arith, value-takes v)) m₄
      (record { count = omega arith; nesting = omega arith; fits = f.2; numbers = rw (m₃.next, m₁.next) g.numbers.1 }))
      refl))

  object-sound : (n : ℕ) (a : Ahead) (ps : Pairs) (b : Ahead) → Reads (object_of n p) a ps b
      → Moves (write_pairs ps) (pairs_entries ps) (2 * count_of_pairs ps) a b × ObjectGood depth n a.next ps
  unfolding object_of
  object-sound n a ps b e =
      bind_inv _ _ _ e λ pairs a₁ e₁ e.
      then-inv _ _ _ e λ _ a₂ e₂ e.
      let h = ensure-inv _ _ e₂ in
      let q = pure-inv _ _ e in
      let m = pairs-sound n a pairs a₁ e₁ in
      rw (← q.0, ← q.1, ← h.1) (m.0, record { pairs = m.1; differ = none-twice-differ pairs h.0 })

  object-complete : (n : ℕ) (a : Ahead) (ps : Pairs) (b : Ahead) → a.left ≤ max_count
      → Moves (write_pairs ps) (pairs_entries ps) (2 * count_of_pairs ps) a b → ObjectGood depth n a.next ps → Reads (object_of n p) a ps b
  unfolding object_of pure
  object-complete n a ps b l m g =
      bind-reads _ _ (pairs-complete n a ps b l m g.pairs)
      (then-reads _ _ (ensure-reads _ _ (differ-none-twice ps g.differ)) refl)

  pub object-law : (n : ℕ) → TreeLaw (object_of n p) write_pairs pairs_entries (λ ps. 2 * count_of_pairs ps) (ObjectGood depth n)
  object-law n = record { sound = object-sound n; complete = object-complete n; announced-first = pairs-take }

  -- a value of each kind, whose parts are read by `p`
  value_of-sound : (h : ValueHead) (a a₁ : Ahead) (v : Value) (b : Ahead) → Enters write_value_head ValueHeadFits a h a₁ → Reads (value_of a.next h p) a₁ v b
      → Moves (write_value v) (value_entries v) 1 a b × ValueGood (suc depth) a.next v
  unfolding value_of write_value value_entries value_nesting
  value_of-sound (constant_head type) a a₁ v b m e =
      let q = pure-inv _ _ e in
      rw (← q.0, ← q.1) (record { rest = m.rest; next = m.next; left = omega arith }, record { nesting = omega arith; fits = m.fits; numbers = refl })
  value_of-sound (number_head digits) a a₁ v b m e =
      let q = pure-inv _ _ e in
      rw (← q.0, ← q.1) (record { rest = m.rest; next = m.next; left = omega arith }, record { nesting = omega arith; fits = m.fits; numbers = refl })
  value_of-sound (string_head text) a a₁ v b m e =
      let q = pure-inv _ _ e in
      rw (← q.0, ← q.1) (record { rest = m.rest; next = m.next; left = omega arith }, record { nesting = omega arith; fits = m.fits; numbers = refl })
  value_of-sound (array_head n) a a₁ v b m e =
      announced-inv (values-law n) _ (λ next x g. g.count) _ _ e λ values a₂ m₂ g e.
      let q = pure-inv _ _ e in
      rw (← q.0, ← q.1, g.count)
      (enters-moves m m₂, record { nesting = omega arith; fits = g.fits; numbers = (refl, rw m.next at g.numbers) })
  value_of-sound (object_head n) a a₁ v b m e =
      announced-inv (object-law n) _ (λ next x g. ap (λ (k : ℕ). 2 * k) g.pairs.count) _ _ e λ pairs a₂ m₂ g e.
      let q = pure-inv _ _ e in
      let each = g.pairs in
      rw (← q.0, ← q.1, each.count)
      (enters-moves m m₂, record { nesting = omega arith; fits = (g.differ, each.fits); numbers = (refl, rw m.next at each.numbers) })

  value_of-complete : (a : Ahead) (v : Value) (b : Ahead) → a.left ≤ max_count → Moves (write_value v) (value_entries v) 1 a b → ValueGood (suc depth) a.next v
      → Reads (entry value_head >>= λ h. value_of h.0 h.1 p) a v b
  unfolding value_of write_value value_entries value_nesting pure
  value_of-complete a (constant e type) b l m g =
      bind-reads _ _ (entry-reads value_head-exact a (constant_head type) b (enters-alone _ g.fits a b m)) (rw g.numbers)
  value_of-complete a (number e digits) b l m g =
      bind-reads _ _ (entry-reads value_head-exact a (number_head digits) b (enters-alone _ g.fits a b m)) (rw g.numbers)
  value_of-complete a (string e text) b l m g =
      bind-reads _ _ (entry-reads value_head-exact a (string_head text) b (enters-alone _ g.fits a b m)) (rw g.numbers)
  value_of-complete a (array e values) b l m g =
      let k = values-take values in
      enters-first (array_head (count_of_values values)) (omega arith) (write_values values) _ 0 a b m λ a₁ m₁ m₂.
      bind-reads _ _ (entry-reads value_head-exact a (array_head (count_of_values values)) a₁ m₁)
      (announced-reads (values-law (count_of_values values)) _ values a₁ b (omega arith) m₂
      (record { count = refl; nesting = omega arith; fits = g.fits; numbers = rw m₁.next g.numbers.1 })
      (rw g.numbers.0))
  value_of-complete a (object e pairs) b l m g =
      let k = pairs-take pairs in
      enters-first (object_head (count_of_pairs pairs)) (omega arith) (write_pairs pairs) _ 0 a b m λ a₁ m₁ m₂.
      bind-reads _ _ (entry-reads value_head-exact a (object_head (count_of_pairs pairs)) a₁ m₁)
      (announced-reads (object-law (count_of_pairs pairs)) _ pairs a₁ b (omega arith) m₂
      (record {
        pairs = record { count = refl; nesting = omega arith; fits = g.fits.1; numbers = rw m₁.next g.numbers.1 };
        differ = g.fits.0;
      })
      (rw g.numbers.0))

value-nests : (v : Value) → 1 ≤ value_nesting v
unfolding value_nesting
value-nests (constant e type) = omega arith
value-nests (number e digits) = omega arith
value-nests (string e text) = omega arith
value-nests (array e values) = omega arith
value-nests (object e pairs) = omega arith

pub value-law : (depth : ℕ) → ValueLaw depth (value_in depth)
unfolding value_in
value-law zero =
    record {
      sound = λ a v b e. absurd (refuse-inv _ e);
      complete = λ a v b l m g. absurd (omega (arith, value-nests v));
      announced-first = value-takes;
    }
value-law (suc depth) =
    record {
      sound = λ a v b e. entering value_head-exact _ _ e λ h a₁ m₁ e. value_of-sound depth (value_in depth) (value-law depth) h a a₁ v b m₁ e;
      complete = value_of-complete depth (value_in depth) (value-law depth);
      announced-first = value-takes;
    }
