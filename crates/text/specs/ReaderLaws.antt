-- What a chain of readers reads is what its parts read, one after the other.
use Rattle.std.specs.Prelude.{Bool, ◌⊎◌, ◌≡◌}
use Rattle.std.proofs.Math.Bool.{true, false}
use Rattle.std.proofs.Math.Option.{Option, none, some, none-ne-some, some-injective}
use Rattle.std.proofs.Math.Logic.{inl, inr}
use Rattle.std.proofs.Math.Path.{refl, ap}
use Rattle.text.specs.Reader.{Reader, ◌>>=◌, ◌>>◌, ensure, pure, either, and_then, or_else, refuse}

-- `p` reads `a` from `s` and stops at `t`
abbrev pub Reads : {S A : Type 0} → Reader S A → S → A → S → Type 0
Reads p s a t = p s ≡ some (a, t)

-- a chain read something: its first reader did, and the others went on from there
module _ {S A B C : Type 0} where
  and_then-inv : (o : Option (A × S)) (k : A → Reader S B) (b : B) (u : S) → and_then o k ≡ some (b, u)
      → ((a : A) (t : S) → o ≡ some (a, t) → Reads (k a) t b u → C) → C
  unfolding and_then
  and_then-inv none k b u e f = absurd (none-ne-some _ e)
  and_then-inv (some r) k b u e f = f r.0 r.1 refl e

  pub bind_inv : (p : Reader S A) (k : A → Reader S B) (s : S) {b : B} {u : S} → Reads (p >>= k) s b u
      → ((a : A) (t : S) → Reads p s a t → Reads (k a) t b u → C) → C
  unfolding ◌>>=◌
  bind_inv p k s {b} {u} e f = and_then-inv (p s) k b u e f

  pub then-inv : (p : Reader S A) (q : Reader S B) (s : S) {b : B} {u : S} → Reads (p >> q) s b u
      → ((a : A) (t : S) → Reads p s a t → Reads q t b u → C) → C
  unfolding ◌>>◌
  then-inv p q s e f = bind_inv p (λ a. q) s e f

-- and the other way round
module _ {S A B : Type 0} where
  pub bind-reads : (p : Reader S A) (k : A → Reader S B) {s : S} {a : A} {t : S} {b : B} {u : S}
      → Reads p s a t → Reads (k a) t b u → Reads (p >>= k) s b u
  unfolding ◌>>=◌ and_then
  bind-reads p k e f = rw e f

  pub then-reads : (p : Reader S A) (q : Reader S B) {s : S} {a : A} {t : S} {b : B} {u : S}
      → Reads p s a t → Reads q t b u → Reads (p >> q) s b u
  unfolding ◌>>◌
  then-reads p q e f = bind-reads p (λ a. q) e f

-- Readers that read nothing.

module _ {S A : Type 0} where
  pub pure-inv : (a : A) (s : S) {b : A} {u : S} → Reads (pure a) s b u → (a ≡ b) × (s ≡ u)
  unfolding pure
  pure-inv a s {b} {u} e =
      let r = some-injective (a, s) (b, u) e in
      (ap (λ (r : A × S). r.0) r, ap (λ (r : A × S). r.1) r)

  pub refuse-inv : (s : S) {b : A} {u : S} → Reads refuse s b u → ⊥
  unfolding refuse
  refuse-inv s e = none-ne-some _ e

module _ {S : Type 0} where
  pub ensure-inv : (b : Bool) (s : S) {a : Unit {0}} {u : S} → Reads (ensure b) s a u → (b ≡ true) × (s ≡ u)
  unfolding ensure
  ensure-inv true s {a} {u} e = (refl, ap (λ (r : Unit {0} × S). r.1) (some-injective (tt, s) (a, u) e))
  ensure-inv false s e = absurd (none-ne-some _ e)

  pub ensure-reads : (b : Bool) (s : S) → b ≡ true → Reads (ensure b) s tt s
  unfolding ensure
  ensure-reads b s e = rw e

-- Two ways to read.

module _ {S A : Type 0} where
  or_else-inv : (o q : Option (A × S)) {r : A × S} → or_else o q ≡ some r → (o ≡ some r) ⊎ (q ≡ some r)
  unfolding or_else
  or_else-inv none q e = inr e
  or_else-inv (some r) q e = inl e

  pub either-inv : (p q : Reader S A) (s : S) {a : A} {t : S} → Reads (either p q) s a t → Reads p s a t ⊎ Reads q s a t
  unfolding either
  either-inv p q s e = or_else-inv (p s) (q s) e

  pub either_first : (p q : Reader S A) (s : S) {a : A} {t : S} → Reads p s a t → Reads (either p q) s a t
  unfolding either or_else
  either_first p q s e = rw e

  pub either_second : (p q : Reader S A) (s : S) {a : A} {t : S} → p s ≡ none → Reads q s a t → Reads (either p q) s a t
  unfolding either or_else
  either_second p q s n e = rw n e
