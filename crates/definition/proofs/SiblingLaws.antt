-- Siblings are read one after the other: values, conditions, the keys of an object with their values. What holds of the reader of one holds
-- of the reader of several.
use Rattle.std.specs.Prelude.{ℕ, zero, suc, ◌+◌, ◌≤◌, List, [], ◌++◌, ◌≡◌}
use Rattle.std.proofs.Common.{append_assoc, sym, ap, ap₂, ◌∙◌, arith}
use Rattle.std.proofs.Math.Option.{some, some-injective}
use Rattle.std.proofs.Math.Path.{refl}
use Rattle.text.specs.Reader.{Reader, ◌>>=◌, pure}
use Rattle.text.specs.ReaderLaws.{Reads, bind_inv, bind-reads, pure-inv}
use Rattle.sheet.specs.Entries.{max_count}
use Rattle.definition.specs.Tree.{Value, Values, no_values, value, Condition, Conditions, no_conditions, condition}
use Rattle.definition.specs.Decode.{Ahead, values_of, conditions_of}
use Rattle.definition.specs.Within.{value_entries, values_entries, condition_entries, conditions_entries}
use Rattle.definition.proofs.TreeLaws.{Moves, TreeLaw, moves-none, moves-split}

-- A kind of siblings: the readers of one and of so many, and how many entries they take.
pub record Siblings (E T : Type 0) : Type 0 where
  pub item : Reader Ahead E
  pub all : ℕ → Reader Ahead T
  pub none_of : T
  pub cons : E → T → T
  pub item_size : E → ℕ
  pub all_size : T → ℕ
  pub all-zero : (a : Ahead) → all 0 a ≡ some (none_of, a)
  pub all-suc : (n : ℕ) (a : Ahead) → all (suc n) a ≡ (item >>= λ e. all n >>= λ t. pure (cons e t)) a
  pub none-size : all_size none_of ≡ 0
  pub cons-size : (e : E) (t : T) → all_size (cons e t) ≡ item_size e + all_size t

module _ (p : Reader Ahead Value) where
  pub values-zero : (a : Ahead) → values_of 0 p a ≡ some (no_values, a)
  unfolding values_of pure
  values-zero a = refl

  pub values-suc : (n : ℕ) (a : Ahead) → values_of (suc n) p a ≡ (p >>= λ v. values_of n p >>= λ vs. pure (value v vs)) a
  unfolding values_of
  values-suc n a = refl

pub no-values-size : values_entries no_values ≡ 0
unfolding values_entries
no-values-size = refl

pub values-size : (v : Value) (vs : Values) → values_entries (value v vs) ≡ value_entries v + values_entries vs
unfolding values_entries
values-size v vs = refl

abbrev pub values-of : Reader Ahead Value → Siblings Value Values
values-of p =
    record {
      item = p;
      all = λ n. values_of n p;
      none_of = no_values;
      cons = value;
      item_size = value_entries;
      all_size = values_entries;
      all-zero = values-zero p;
      all-suc = values-suc p;
      none-size = no-values-size;
      cons-size = values-size;
    }

module _ (p : Reader Ahead Condition) where
  pub conditions-zero : (a : Ahead) → conditions_of 0 p a ≡ some (no_conditions, a)
  unfolding conditions_of pure
  conditions-zero a = refl

  pub conditions-suc : (n : ℕ) (a : Ahead) → conditions_of (suc n) p a ≡ (p >>= λ c. conditions_of n p >>= λ cs. pure (condition c cs)) a
  unfolding conditions_of
  conditions-suc n a = refl

pub no-conditions-size : conditions_entries no_conditions ≡ 0
unfolding conditions_entries
no-conditions-size = refl

pub conditions-size : (c : Condition) (cs : Conditions) → conditions_entries (condition c cs) ≡ condition_entries c + conditions_entries cs
unfolding conditions_entries
conditions-size c cs = refl

abbrev pub conditions-of : Reader Ahead Condition → Siblings Condition Conditions
conditions-of p =
    record {
      item = p;
      all = λ n. conditions_of n p;
      none_of = no_conditions;
      cons = condition;
      item_size = condition_entries;
      all_size = conditions_entries;
      all-zero = conditions-zero p;
      all-suc = conditions-suc p;
      none-size = no-conditions-size;
      cons-size = conditions-size;
    }

-- How siblings of a kind are written, which of them are good as the n from an entry's number on, and how many are announced of each.
pub record Written {E T : Type 0} (S : Siblings E T) (w : E → List ℕ) (ws : T → List ℕ) (each : ℕ) (announced : T → ℕ) (Good : ℕ → E → Type 0) (AllGood : ℕ → ℕ → T → Type 0) : Type 0 where
  pub none_written : ws S.none_of ≡ []
  pub cons-written : (e : E) (t : T) → ws (S.cons e t) ≡ w e ++ ws t
  pub none-announced : announced S.none_of ≡ 0
  pub cons-announced : (e : E) (t : T) → announced (S.cons e t) ≡ announced t + each
  pub announced-first : (t : T) → announced t ≤ S.all_size t
  pub none-good : (next : ℕ) → AllGood 0 next S.none_of
  pub cons-good : (n next : ℕ) (e : E) (t : T) → Good next e → AllGood n (next + S.item_size e) t → AllGood (suc n) next (S.cons e t)
  pub good_none : (next : ℕ) (t : T) → AllGood 0 next t → t ≡ S.none_of
  pub good-cons : (n next : ℕ) (t : T) → AllGood (suc n) next t → (e : E) × (others : T) × (t ≡ S.cons e others) × Good next e × AllGood n (next + S.item_size e) others

pure-same : {A : Type 0} {x y : A} (b : Ahead) → y ≡ x → Reads (pure x) b y b
unfolding pure
pure-same {A} b q = ap (λ (y : A). some (y, b)) (sym q)

module _ {E T : Type 0} (S : Siblings E T) {w : E → List ℕ} {ws : T → List ℕ} {each : ℕ} {announced : T → ℕ} {Good : ℕ → E → Type 0} {AllGood : ℕ → ℕ → T → Type 0}
    (W : Written S w ws each announced Good AllGood) (law : TreeLaw S.item w S.item_size (λ e. each) Good)
  where
    sound : (n : ℕ) (a : Ahead) (t : T) (b : Ahead) → Reads (S.all n) a t b → Moves (ws t) (S.all_size t) (announced t) a b × AllGood n a.next t
    sound zero a t b e =
        let r = some-injective (S.none_of, a) (t, b) (sym (S.all-zero a) ∙ e) in
        let q₀ = ap (λ (r : T × Ahead). r.0) r in
        let q₁ = ap (λ (r : T × Ahead). r.1) r in
        rw (← q₀, ← q₁) (
          record { rest = rw W.none_written; next = omega (arith, S.none-size); left = omega (arith, S.none-size, W.none-announced) },
          W.none-good a.next,
        )
    sound (suc n) a t b e =
        bind_inv _ _ _ (sym (S.all-suc n a) ∙ e) λ x a₁ e₁ e.
        bind_inv _ _ _ e λ others a₂ e₂ e.
        let q = pure-inv _ _ e in
        let m₁ = law.sound a x a₁ e₁ in
        let m₂ = sound n a₁ others a₂ e₂ in
        let size = S.cons-size x others in
        let paid = W.cons-announced x others in
        rw (← q.0, ← q.1) (
          record { rest = rw (W.cons-written x others, m₁.0.rest, m₂.0.rest) (simp append_assoc); next = omega arith; left = omega arith },
          W.cons-good n a.next x others m₁.1 (rw m₁.0.next at m₂.1),
        )

    complete : (n : ℕ) (a : Ahead) (t : T) (b : Ahead) → a.left ≤ max_count → Moves (ws t) (S.all_size t) (announced t) a b → AllGood n a.next t → Reads (S.all n) a t b
    complete zero a t b l m g =
        let q = W.good_none a.next t g in
        let m₀ : Moves (ws S.none_of) (S.all_size S.none_of) (announced S.none_of) a b = rw q at m in
        let same = moves-none a b (rw (W.none_written, S.none-size, W.none-announced) at m₀) in
        S.all-zero a ∙ ap₂ (λ (t : T) (b : Ahead). some (t, b)) (sym q) same
    complete (suc n) a t b l m g =
        let (x, others, q, gx, go) = W.good-cons n a.next t g in
        let m₀ : Moves (ws (S.cons x others)) (S.all_size (S.cons x others)) (announced (S.cons x others)) a b = rw q at m in
        moves-split (w x) (ws others) _ _ _ _ a b (rw (W.cons-written x others, S.cons-size x others, W.cons-announced x others) at m₀) (W.announced-first others) λ a₁ m₁ m₂.
        S.all-suc n a
        ∙ bind-reads _ _ (law.complete a x a₁ l m₁ gx)
        (bind-reads _ _ (complete n a₁ others b (omega (arith, law.announced-first x)) m₂ (rw m₁.next go)) (pure-same b q))

    pub siblings-law : (n : ℕ) → TreeLaw (S.all n) ws S.all_size announced (AllGood n)
    siblings-law n = record { sound = sound n; complete = complete n; announced-first = W.announced-first }
