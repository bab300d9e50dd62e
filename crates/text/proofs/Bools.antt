-- What the two ways through `p && q` show of the result.
use mathlib.Core.Path.{◌≡◌, refl}
use mathlib.Core.Bool.{Bool, true, false, cond, ◌&&◌, ◌||◌, false≢true}
use mathlib.Core.Option.{none, some, some-injective, none-ne-some, some-ne-none}

pub and-taken : (p q : Bool) {x r : Bool} → x ≡ p → x ≡ true → r ≡ q → r ≡ (p && q)
and-taken p q e t h = let f : p ≡ true = cc in rw f h

pub and_left : (p q : Bool) {x : Bool} → x ≡ p → x ≡ false → x ≡ (p && q)
and_left p q e t = let f : p ≡ false = cc in rw f t

pub and_none : (p q : Bool) {x : Bool} → x ≡ p → x ≡ false → false ≡ (p && q)
and_none p q e t = let f : p ≡ false = cc in rw f

pub and-true-0 : (p q : Bool) → (p && q) ≡ true → p ≡ true
and-true-0 true q e = refl
and-true-0 false q e = e

pub and-true-1 : (p q : Bool) → (p && q) ≡ true → q ≡ true
and-true-1 true q e = e
and-true-1 false q e = absurd (false≢true e)

pub or-true-cases : {A : Type 0} (p q : Bool) → (p ≡ true → A) → (q ≡ true → A) → (p || q) ≡ true → A
or-true-cases true q f g e = f refl
or-true-cases false q f g e = g e

pub cond-some : {A : Type 0} (b : Bool) {x r : A} → cond b (some x) none ≡ some r → (b ≡ true) × (x ≡ r)
cond-some true {x} {r} e = (refl, some-injective x r e)
cond-some false {r = r} e = absurd (none-ne-some r e)

pub cond-none : {A : Type 0} (b : Bool) (x : A) → cond b (some x) none ≡ none → b ≡ false
cond-none true x e = absurd (some-ne-none x e)
cond-none false x e = refl
