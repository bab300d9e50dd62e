-- What a chain of readers read, taken apart again.
use Prim.Native.Nat.{ℕ, ◌-◌, ◌≤◌, ◌<◌}
use mathlib.Core.Option.{Option, none, some, some-injective}
use mathlib.Core.Path.{◌≡◌, refl, ap, ◌∙◌}
use native.Mathlib.Omega.{arith}
use borrow.Author.Tests.{le-leb, lt-leb}
use Rattle.text.specs.Reader.{Reader, and_then, pure, ◌>>=◌}
use Rattle.text.specs.CaseLaws.{zero-not-one}
use Rattle.definition.specs.Decode.{Ahead, announce}

pub some-both : {A S : Type 0} {x y : A} {a b : S} → ◌≡◌ {A = Option (A × S)} (some (x, a)) (some (y, b)) → (x ≡ y) × (a ≡ b)
some-both {x} {y} {a} {b} e =
    let both = some-injective (x, a) (y, b) e in
    (ap (λ r. r.0) both, ap (λ r. r.1) both)

pub record Chain {A B S : Type 0} (o : Option (A × S)) (k : A → Reader S B) (r : Option (B × S)) : Type 0 where
  pub fst : A
  pub mid : S
  pub first : o ≡ some (fst, mid)
  pub second : k fst mid ≡ r

pub then_some : {A B S : Type 0} (o : Option (A × S)) (k : A → Reader S B) {t : B × S} → and_then o k ≡ some t → Chain o k (some t)
unfolding and_then
then_some none k e = zero-not-one cc
then_some (some r) k e = record { fst = r.0; mid = r.1; first = refl; second = e }

-- the first of several siblings, and the others
pub record First {E T S : Type 0} (o : Option (E × S)) (rest : Reader S T) (cons : E → T → T) (t : T) (b : S) : Type 0 where
  pub item : E
  pub others : T
  pub mid : S
  pub is_item : o ≡ some (item, mid)
  pub are_others : rest mid ≡ some (others, b)
  pub is_first : cons item others ≡ t

pub then-first : {E T S : Type 0} (o : Option (E × S)) (rest : Reader S T) (cons : E → T → T) (t : T) (b : S)
    → and_then o (λ v. rest >>= λ others. pure (cons v others)) ≡ some (t, b)
    → First o rest cons t b
unfolding ◌>>=◌ pure
then-first {S} o rest cons t b e =
    let x = then_some o (λ v. rest >>= λ others. pure (cons v others)) e in
    let y = then_some (rest x.mid) (λ others. pure (cons x.fst others)) x.second in
    let z = some-both y.second in
    record {
      item = x.fst;
      others = y.fst;
      mid = x.mid;
      is_item = x.first;
      are_others = y.first ∙ ap (λ (m : S). some (y.fst, m)) z.1;
      is_first = z.0;
    }

-- What is announced is paid for.

abbrev pub paid : ℕ → Ahead → Ahead
paid n a = record { next = a.next; left = a.left - n; rest = a.rest }

pub announced : (n : ℕ) (a : Ahead) → n ≤ a.left → announce n a ≡ some (tt, paid n a)
unfolding announce
announced n a h = rw (le-leb n a.left h)

pub not-announced : (n : ℕ) (a : Ahead) → a.left < n → announce n a ≡ none
unfolding announce
not-announced n a h = rw (lt-leb n a.left h)

pub nothing-paid : (a b : Ahead) → paid 0 a ≡ b → a ≡ b
nothing-paid a b f = ap (λ (l : ℕ). record { next = a.next; left = l; rest = a.rest }) (omega arith) ∙ f
