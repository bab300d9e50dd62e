-- The binders in scope, innermost first.
use Rattle.std.specs.Prelude.{Option as Optional, Some, None}
use Prim.Native.Nat.{ℕ, zero, suc, ◌+◌, ◌-◌, ◌*◌, ◌/◌, ◌%◌, ◌<◌, ◌≤◌}
use native.Mathlib.Omega.{arith}
use native.Mathlib.Nat.{eq-zero-or-pos}
use native.Mathlib.Numerals.{add-one}
use mathlib.Core.Bool.{Bool, true, false}
use mathlib.Core.List.{List, [], ◌∷◌}
use mathlib.Core.Option.{Option, none, some}
use mathlib.Core.Logic.{⊎_elim}
use mathlib.Core.Path.{◌≡◌, refl, ap, sym, ◌∙◌}
use lib.ListN.{length, get_or, set, take, drop, length-drop, drop_of_length-le}
use lib.Seq.{get_or-set_same, get_or-set_other, take_all, take-nil}
use Rattle.text.specs.Order.{same_bytes}
use Rattle.text.specs.Parts.{part_of}
use Rattle.text.specs.declared.part.Part.{Part}
use Rattle.definition.specs.Limits.{max_sheet_bytes}
use Rattle.definition.specs.Tree.{Text, Field}
use Rattle.reference.specs.Reference as Reference
use Rattle.reference.specs.Reference.{Environment, bound}
use Rattle.schema.specs.declared.read.Schema.{Schema}
use Rattle.walk.specs.declared.answer.Reader.{Reader}
use Rattle.scope.specs.Binders.{capped, length_unit, start_unit, element_number, binder_number, binder_name, element_by, binder_element}
use Rattle.scope.specs.Scopes.{chain_of, BoundElement, BinderAt, ChainAt, Unbound, Binds, BoundIs}
use Rattle.scope.specs.declared.name.Row.{Row}
use Rattle.scope.specs.declared.binder.Scope.{Scope}

chain-step : (bs : List ℕ) (i : ℕ) → 0 < i → chain_of i bs ≡ get_or bs (i - 1) 0 ∷ chain_of (i - 1) bs
unfolding chain_of
chain-step bs zero h = absurd (omega arith)
chain-step bs (suc i) h = let e : suc i - 1 ≡ i = omega arith in rw e

-- a chain that is not empty goes with an environment that is not
record Opened (sheet rule words : List ℕ) (x : ℕ) (xs : List ℕ) (env : Environment) : Type 0 where
  b : Reference.Bound
  others : Environment
  is : env ≡ b ∷ others
  here : BinderAt sheet rule words x b
  rest : ChainAt sheet rule words xs others

opened : (sheet rule words : List ℕ) (x : ℕ) (xs : List ℕ) (env : Environment) → ChainAt sheet rule words (x ∷ xs) env → Opened sheet rule words x xs env
opened sheet rule words x xs [] h = absurd h
opened sheet rule words x xs (b ∷ env) h = record { b = b; others = env; is = refl; here = h.0; rest = h.1 }

closed : (sheet rule words : List ℕ) (env : Environment) → ChainAt sheet rule words [] env → env ≡ []
closed sheet rule words [] h = refl
closed sheet rule words (b ∷ env) h = absurd h

bound-passed : (name : Text) (env : Environment) (b : Reference.Bound) (others : Environment) → env ≡ b ∷ others → same_bytes b.name name ≡ false → bound name env ≡ bound name others
unfolding bound
bound-passed name env b others e q = rw (e, q)

bound-hit : (name : Text) (env : Environment) (b : Reference.Bound) (others : Environment) → env ≡ b ∷ others → same_bytes b.name name ≡ true → bound name env ≡ some b.element
unfolding bound
bound-hit name env b others e q = rw (e, q)

bound-none : (name : Text) (env : Environment) → env ≡ [] → bound name env ≡ none
unfolding bound
bound-none name env e = rw e

-- Of `n` binders all but the first `i` have another name
pub record Searched (rule name : List ℕ) (bs : List ℕ) (n i : ℕ) : Type 0 where
  pub rest : (sheet words : List ℕ) (env : Environment) → ChainAt sheet rule words (chain_of n bs) env
      → (left : Environment) × ChainAt sheet rule words (chain_of i bs) left × (bound name env ≡ bound name left)

pub searched-none : (rule name : List ℕ) (bs : List ℕ) (n : ℕ) → Searched rule name bs n n
searched-none rule name bs n = record { rest = λ sheet words env h. (env, h, refl) }

module _ (rule name : List ℕ) (scope : Scope) (i : ℕ) (so_far : Searched rule name scope.binders scope.count i) (some_left : 0 < i)
    (q : Part) (named : q ≡ binder_name (get_or scope.binders (i - 1) 0)) (p : List ℕ) (part : p ≡ part_of rule q) (b : Bool) (compared : b ≡ same_bytes p name) where
  abbrev last-binder : ℕ
  last-binder = get_or scope.binders (i - 1) 0

  last_of : (sheet words : List ℕ) (left : Environment) → ChainAt sheet rule words (chain_of i scope.binders) left
      → Opened sheet rule words last-binder (chain_of (i - 1) scope.binders) left
  last_of sheet words left h =
      opened sheet rule words last-binder (chain_of (i - 1) scope.binders) left (rw (chain-step scope.binders i some_left) at h)

  named-so : (sheet words : List ℕ) (x : Reference.Bound) → BinderAt sheet rule words last-binder x → same_bytes x.name name ≡ b
  named-so sheet words x at = ap (λ (z : List ℕ). same_bytes z name) (sym at.name ∙ ap (part_of rule) (sym named) ∙ sym part) ∙ sym compared

  pub searched-more : b ≡ false → Searched rule name scope.binders scope.count (i - 1)
  searched-more differs = record {
    rest = λ sheet words env h.
        let so = so_far.rest sheet words env h in
        let first = last_of sheet words so.0 so.1 in
        (first.others, first.rest, so.2 ∙ bound-passed name so.0 first.b first.others first.is (named-so sheet words first.b first.here ∙ differs));
  }

  pub searched-found : (x : Optional ℕ) → x ≡ binder_element (get_or scope.binders (i - 1) 0) → b ≡ true → BoundIs rule scope name (Some x)
  searched-found x is same = rw is (record {
    leads = λ sheet words env at.
        let so = so_far.rest sheet words env at.chain in
        let first = last_of sheet words so.0 so.1 in
        (first.b.element, so.2 ∙ bound-hit name so.0 first.b first.others first.is (named-so sheet words first.b first.here ∙ same), first.here.element);
  })

chain-empty : (bs : List ℕ) (i : ℕ) → (0 < i → ⊥) → chain_of i bs ≡ []
unfolding chain_of
chain-empty bs zero h = refl
chain-empty bs (suc i) h = absurd (h (omega arith))

pub searched-all : (rule name : List ℕ) (i : ℕ) (scope : Scope) → Searched rule name scope.binders scope.count i → i ≤ 0 → BoundIs rule scope name None
searched-all rule name i scope so_far none_left = record {
  leads = λ sheet words env at.
      let so = so_far.rest sheet words env at.chain in
      so.2 ∙ bound-none name so.0 (closed sheet rule words so.0 (rw (chain-empty scope.binders i (λ h. omega arith)) at so.1));
}

pub bound-bare : (rule name : List ℕ) (scope : Scope) → scope.count ≡ 0 → BoundIs rule scope name None
bound-bare rule name scope bare = searched-all rule name scope.count scope (searched-none rule name scope.binders scope.count) (omega arith)

pub bound-crowded : (rule name : List ℕ) (scope : Scope) → 31 < scope.count → BoundIs rule scope name None
bound-crowded rule name scope many = record { leads = λ sheet words env at. absurd (omega (arith, at.few)) }

-- One binder more

pub bind-crowded : (scope : Scope) (name : Part) (element : Optional ℕ) → 31 ≤ scope.count → Binds scope name element scope
bind-crowded scope name element many = record {
  row = refl;
  service = refl;
  reader = refl;
  schema = refl;
  counted = λ room. absurd (omega arith);
  binders = λ room. absurd (omega arith);
}

chain-kept : (bs : List ℕ) (v : ℕ) (m n : ℕ) → n ≤ m → chain_of n (set bs m v) ≡ chain_of n bs
unfolding chain_of
chain-kept bs v m zero h = refl
chain-kept bs v m (suc n) h = rw (get_or-set_other bs m n v 0 (omega arith), chain-kept bs v m n (omega arith))

chain_more : (bs : List ℕ) (v : ℕ) (n : ℕ) → n < length bs → chain_of (n + 1) (set bs n v) ≡ v ∷ chain_of n bs
unfolding chain_of
chain_more bs v n h = rw (add-one, get_or-set_same bs n v 0 h, chain-kept bs v n n (omega arith))

-- A binder as a number

pub known-number : (element : Optional ℕ) (k n : ℕ) → element ≡ Some k → n ≡ capped k → n + 1 ≡ element_number element
unfolding element_number
known-number element k n e m = rw (e, m)

pub unknown-number : (element : Optional ℕ) → element ≡ None → 0 ≡ element_number element
unfolding element_number
unknown-number element e = rw e

unknown-by : (n : ℕ) → n ≡ 0 → None ≡ element_by n
unfolding element_by
unknown-by n e = rw e

known_by : (n : ℕ) → (n ≡ 0 → ⊥) → Some (n - 1) ≡ element_by n
unfolding element_by
known_by zero h = absurd (h refl)
known_by (suc n) h = let e : suc n - 1 ≡ n = omega arith in rw e

pub unknown-in : (b : ℕ) → b % length_unit ≡ 0 → None ≡ binder_element b
unfolding binder_element
unknown-in b e = unknown-by (b % length_unit) e

pub known_in : (b : ℕ) → (b % length_unit ≡ 0 → ⊥) → Some (b % length_unit - 1) ≡ binder_element b
unfolding binder_element
known_in b h = known_by (b % length_unit) h

taken : (l : List ℕ) (n : ℕ) → length l ≤ 65535 → take (capped n) l ≡ take n l
taken l n small =
    ⊎_elim
    (λ (h : n - 65535 ≡ 0). let e : capped n ≡ n = omega arith in rw e)
    (λ (h : 0 < n - 65535). take_all (capped n) l (omega arith) ∙ sym (take_all n l (omega arith)))
    (eq-zero-or-pos (n - 65535))

part-capped : (rule : List ℕ) (start n : ℕ) → length rule ≤ 65535 → take (capped n) (drop (capped start) rule) ≡ take n (drop start rule)
part-capped rule start n small =
    ⊎_elim
    (λ (h : start - 65535 ≡ 0).
    let e : capped start ≡ start = omega arith in
    rw e (taken (drop start rule) n (omega (arith, length-drop start rule))))
    (λ (h : 0 < start - 65535).
    let p : drop start rule ≡ [] = drop_of_length-le rule {i = start} (omega arith) in
    let q : drop (capped start) rule ≡ [] = drop_of_length-le rule {i = capped start} (omega arith) in
    rw (p, q, take-nil n, take-nil (capped n)) refl)
    (eq-zero-or-pos (start - 65535))

pub number-element : (element : Optional ℕ) → element_number element < length_unit
unfolding element_number
number-element (Some k) = omega arith
number-element None = omega arith

name-kept : (rule : List ℕ) (name : Part) (element : Optional ℕ) → length rule ≤ max_sheet_bytes → part_of rule (binder_name (binder_number name element)) ≡ part_of rule name
unfolding binder_number part_of
name-kept rule name element small =
    let n = number-element element in
    let s : (capped name.start * start_unit + capped name.len * length_unit + element_number element) / start_unit ≡ capped name.start = omega arith in
    let l : (capped name.start * start_unit + capped name.len * length_unit + element_number element) % start_unit / length_unit ≡ capped name.len = omega arith in
    rw (s, l) (part-capped rule name.start name.len (omega arith))

number-kept : (name : Part) (element : Optional ℕ) → binder_number name element % length_unit ≡ element_number element
unfolding binder_number
number-kept name element = let n = number-element element in omega arith

element-kept : (sheet words : List ℕ) (element : Optional ℕ) (f : Option Field) → BoundElement sheet words element f → BoundElement sheet words (element_by (element_number element)) f
unfolding element_number element_by
element-kept sheet words (Some k) none e = absurd e
element-kept sheet words (Some k) (some f) e =
    let slot = e.slot in
    let c : capped k + 1 ≡ suc k = omega arith in
    rw c e
element-kept sheet words None f e = e

binder-at : (sheet rule words : List ℕ) (name : Part) (element : Optional ℕ) (x : ℕ) (f : Option Field) → x ≡ binder_number name element → length rule ≤ max_sheet_bytes
    → BoundElement sheet words element f → BinderAt sheet rule words x (record { name = part_of rule name; element = f })
unfolding binder_element
binder-at sheet rule words name element x f is small e =
    rw is (record { name = name-kept rule name element small; element = rw (number-kept name element) (element-kept sheet words element f e) })

pub bind-more : (scope : Scope) (name : Part) (element : Optional ℕ) (x : ℕ) → x ≡ binder_number name element → scope.count < 31 → length scope.binders ≡ 31
    → Binds scope name element (record {
      row = scope.row;
      service = scope.service;
      reader = scope.reader;
      schema = scope.schema;
      binders = set scope.binders scope.count x;
      count = scope.count + 1;
    })
bind-more scope name element x is few whole = record {
  row = refl;
  service = refl;
  reader = refl;
  schema = refl;
  counted = λ room. add-one scope.count;
  binders = λ room sheet rule words env f small at e. record {
    few = omega arith;
    chain = rw (chain_more scope.binders x scope.count (omega arith)) (binder-at sheet rule words name element x f is small e, at.chain);
  };
}

pub unbound-none : (x : Row) (is_service : Bool) (y : Reader) (s : Schema) (bs : List ℕ)
    → Unbound x is_service y s (record { row = x; service = is_service; reader = y; schema = s; binders = bs; count = 0 })
unfolding chain_of
unbound-none x is_service y s bs = record {
  row = refl;
  service = refl;
  reader = refl;
  schema = refl;
  binders = λ sheet rule words. record { few = omega arith; chain = tt };
}
