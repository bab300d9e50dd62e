-- What decodes to a code point is the UTF-8 of that code point.
use Rattle.std.specs.Prelude.{ℕ, ◌+◌, ◌*◌, ◌/◌, ◌%◌, ◌≤◌, ◌<◌, true, ◌&&◌, List, [], ◌∷◌, ◌++◌, ◌≡◌, refl, length, leb}
use Rattle.std.proofs.Math.Option.{Option, none, some, none-ne-some}
use Rattle.std.proofs.Common.{subst, ap₂, arith, leb-true, le-leb}
use Rattle.std.proofs.lemmas.Bool.{lt-leb}
use Rattle.text.specs.Utf8.{between, is_tail, utf8-1, is_utf8-2, code_of2, utf8-2, is_second_of3, is_utf8-3, code_of3, utf8-3, is_second_of4, is_utf8-4, code_of4, utf8-4, or_else, decode_one}
use Rattle.text.proofs.Bools.{and-true-0, and-true-1, or-true-cases, cond-some}
use Rattle.text.specs.CaseLaws.{by-test}
use Rattle.json_text.specs.Encode.{utf8_of}

record Inside (low high b : ℕ) : Type 0 where
  from : low ≤ b
  to : b ≤ high

inside : (low high b : ℕ) → between low high b ≡ true → Inside low high b
unfolding between
inside low high b e =
    record { from = leb-true low b (and-true-0 _ _ e); to = leb-true b high (and-true-1 (leb low b) _ e) }

tail : (b : ℕ) → is_tail b ≡ true → Inside 0x80 0xBF b
unfolding is_tail
tail b e = inside 0x80 0xBF b e

-- The bytes of a code point, by its digits of six bits.

pub one_of : (a : ℕ) → a ≤ 0x7F → utf8_of a ≡ a ∷ []
unfolding utf8_of
one_of a h = rw (le-leb a 0x7F h)

two-of : (x y : ℕ) → 2 ≤ x → x < 32 → y < 64 → utf8_of (x * 64 + y) ≡ (0xC0 + x) ∷ (0x80 + y) ∷ []
unfolding utf8_of
two-of x y low high h =
    let first : (x * 64 + y) / 64 ≡ x = omega arith in
    let last : (x * 64 + y) % 64 ≡ y = omega arith in
    rw (lt-leb (x * 64 + y) 0x7F (omega arith), le-leb (x * 64 + y) 0x7FF (omega arith), first, last)

three-of : (x y z : ℕ) → 32 ≤ x * 64 + y → x < 16 → y < 64 → z < 64
    → utf8_of (x * 4096 + y * 64 + z) ≡ (0xE0 + x) ∷ (0x80 + y) ∷ (0x80 + z) ∷ []
unfolding utf8_of
three-of x y z low high h k =
    let w = x * 4096 + y * 64 + z in
    let first : (x * 4096 + y * 64 + z) / 4096 ≡ x = omega arith in
    let second : (x * 4096 + y * 64 + z) / 64 % 64 ≡ y = omega arith in
    let last : (x * 4096 + y * 64 + z) % 64 ≡ z = omega arith in
    rw (lt-leb (x * 4096 + y * 64 + z) 0x7F (omega arith), lt-leb (x * 4096 + y * 64 + z) 0x7FF (omega arith), le-leb (x * 4096 + y * 64 + z) 0xFFFF (omega arith), first, second, last)

four-of : (x y z v : ℕ) → 16 ≤ x * 64 + y → x < 8 → y < 64 → z < 64 → v < 64
    → utf8_of (x * 262144 + y * 4096 + z * 64 + v) ≡ (0xF0 + x) ∷ (0x80 + y) ∷ (0x80 + z) ∷ (0x80 + v) ∷ []
unfolding utf8_of
four-of x y z v low high h k l =
    let first : (x * 262144 + y * 4096 + z * 64 + v) / 262144 ≡ x = omega arith in
    let second : (x * 262144 + y * 4096 + z * 64 + v) / 4096 % 64 ≡ y = omega arith in
    let third : (x * 262144 + y * 4096 + z * 64 + v) / 64 % 64 ≡ z = omega arith in
    let last : (x * 262144 + y * 4096 + z * 64 + v) % 64 ≡ v = omega arith in
    rw (lt-leb (x * 262144 + y * 4096 + z * 64 + v) 0x7F (omega arith), lt-leb (x * 262144 + y * 4096 + z * 64 + v) 0x7FF (omega arith), lt-leb (x * 262144 + y * 4096 + z * 64 + v) 0xFFFF (omega arith), first, second, third, last)

-- what the grammar asks of the first two bytes of three, and of four: no form is overlong
record Opens (base most low a b : ℕ) : Type 0 where
  first : Inside base (base + most) a
  second : Inside 0x80 0xBF b
  long : base * 64 + 0x80 + low ≤ a * 64 + b

opens : {base most low a b : ℕ} → base ≤ a → a ≤ base + most → 0x80 ≤ b → b ≤ 0xBF → base * 64 + 0x80 + low ≤ a * 64 + b → Opens base most low a b
opens p q r s l = record { first = record { from = p; to = q }; second = record { from = r; to = s }; long = l }

opens-3 : (a b : ℕ) → is_second_of3 a b ≡ true → Opens 0xE0 15 32 a b
unfolding is_second_of3
opens-3 a b =
    or-true-cases _ _
    (or-true-cases _ _
    (or-true-cases _ _
    (λ e.
    let p = inside 0xE0 0xE0 a (and-true-0 _ _ e) in
    let q = inside 0xA0 0xBF b (and-true-1 (between 0xE0 0xE0 a) _ e) in
    opens (omega arith) (omega arith) (omega arith) (omega arith) (omega arith))
    (λ e.
    let p = inside 0xE1 0xEC a (and-true-0 _ _ e) in
    let q = tail b (and-true-1 (between 0xE1 0xEC a) _ e) in
    opens (omega arith) (omega arith) (omega arith) (omega arith) (omega arith)))
    (λ e.
    let p = inside 0xED 0xED a (and-true-0 _ _ e) in
    let q = inside 0x80 0x9F b (and-true-1 (between 0xED 0xED a) _ e) in
    opens (omega arith) (omega arith) (omega arith) (omega arith) (omega arith)))
    (λ e.
    let p = inside 0xEE 0xEF a (and-true-0 _ _ e) in
    let q = tail b (and-true-1 (between 0xEE 0xEF a) _ e) in
    opens (omega arith) (omega arith) (omega arith) (omega arith) (omega arith))

opens-4 : (a b : ℕ) → is_second_of4 a b ≡ true → Opens 0xF0 4 16 a b
unfolding is_second_of4
opens-4 a b =
    or-true-cases _ _
    (or-true-cases _ _
    (λ e.
    let p = inside 0xF0 0xF0 a (and-true-0 _ _ e) in
    let q = inside 0x90 0xBF b (and-true-1 (between 0xF0 0xF0 a) _ e) in
    opens (omega arith) (omega arith) (omega arith) (omega arith) (omega arith))
    (λ e.
    let p = inside 0xF1 0xF3 a (and-true-0 _ _ e) in
    let q = tail b (and-true-1 (between 0xF1 0xF3 a) _ e) in
    opens (omega arith) (omega arith) (omega arith) (omega arith) (omega arith)))
    (λ e.
    let p = inside 0xF4 0xF4 a (and-true-0 _ _ e) in
    let q = inside 0x80 0x8F b (and-true-1 (between 0xF4 0xF4 a) _ e) in
    opens (omega arith) (omega arith) (omega arith) (omega arith) (omega arith))

-- Each rule of the grammar.

module _ (s : List ℕ) (r : ℕ × List ℕ) where
  abbrev Is : Type 0
  Is = s ≡ utf8_of r.0 ++ r.1

  is : (w : ℕ) (t : List ℕ) → s ≡ utf8_of w ++ t → (w, t) ≡ r → Is
  is w t h e = subst (λ (p : ℕ × List ℕ). s ≡ utf8_of p.0 ++ p.1) e h

is-1 : (s : List ℕ) (r : ℕ × List ℕ) → utf8-1 s ≡ some r → s ≡ utf8_of r.0 ++ r.1
unfolding utf8-1
is-1 [] r e = absurd (none-ne-some r e)
is-1 (a ∷ t) r e =
    let p = cond-some (leb a 0x7F) e in
    is (a ∷ t) r a t (rw (one_of a (leb-true a 0x7F p.0))) p.1

is-2 : (s : List ℕ) (r : ℕ × List ℕ) → utf8-2 s ≡ some r → s ≡ utf8_of r.0 ++ r.1
unfolding utf8-2 is_utf8-2
is-2 [] r e = absurd (none-ne-some r e)
is-2 (a ∷ []) r e = absurd (none-ne-some r e)
is-2 (a ∷ b ∷ t) r e =
    let p = cond-some (is_utf8-2 a b) e in
    let h = inside 0xC2 0xDF a (and-true-0 _ _ p.0) in
    let k = tail b (and-true-1 (between 0xC2 0xDF a) _ p.0) in
    let x : a ≡ 0xC0 + a % 32 = omega arith in
    let y : b ≡ 0x80 + b % 64 = omega arith in
    is (a ∷ b ∷ t) r (code_of2 a b) t (rw (two-of (a % 32) (b % 64) (omega arith) (omega arith) (omega arith)) (ap₂ (λ (u v : ℕ). u ∷ v ∷ t) x y)) p.1

is-3 : (s : List ℕ) (r : ℕ × List ℕ) → utf8-3 s ≡ some r → s ≡ utf8_of r.0 ++ r.1
unfolding utf8-3 is_utf8-3
is-3 [] r e = absurd (none-ne-some r e)
is-3 (a ∷ []) r e = absurd (none-ne-some r e)
is-3 (a ∷ b ∷ []) r e = absurd (none-ne-some r e)
is-3 (a ∷ b ∷ c ∷ t) r e =
    let p = cond-some (is_utf8-3 a b c) e in
    let h = opens-3 a b (and-true-0 _ _ p.0) in
    let k = tail c (and-true-1 (is_second_of3 a b) _ p.0) in
    let x : a ≡ 0xE0 + a % 16 = omega arith in
    let y : b ≡ 0x80 + b % 64 = omega arith in
    let z : c ≡ 0x80 + c % 64 = omega arith in
    is (a ∷ b ∷ c ∷ t) r (code_of3 a b c) t
    (rw (three-of (a % 16) (b % 64) (c % 64) (omega arith) (omega arith) (omega arith) (omega arith))
    (ap₂ (λ (u : ℕ) (v : List ℕ). u ∷ v) x (ap₂ (λ (u v : ℕ). u ∷ v ∷ t) y z)))
    p.1

is-4 : (s : List ℕ) (r : ℕ × List ℕ) → utf8-4 s ≡ some r → s ≡ utf8_of r.0 ++ r.1
unfolding utf8-4 is_utf8-4
is-4 [] r e = absurd (none-ne-some r e)
is-4 (a ∷ []) r e = absurd (none-ne-some r e)
is-4 (a ∷ b ∷ []) r e = absurd (none-ne-some r e)
is-4 (a ∷ b ∷ c ∷ []) r e = absurd (none-ne-some r e)
is-4 (a ∷ b ∷ c ∷ d ∷ t) r e =
    let p = cond-some (is_utf8-4 a b c d) e in
    let h = opens-4 a b (and-true-0 _ _ p.0) in
    let q = and-true-1 (is_second_of4 a b) (is_tail c && is_tail d) p.0 in
    let k = tail c (and-true-0 _ _ q) in
    let l = tail d (and-true-1 (is_tail c) _ q) in
    let x : a ≡ 0xF0 + a % 8 = omega arith in
    let y : b ≡ 0x80 + b % 64 = omega arith in
    let z : c ≡ 0x80 + c % 64 = omega arith in
    let w : d ≡ 0x80 + d % 64 = omega arith in
    is (a ∷ b ∷ c ∷ d ∷ t) r (code_of4 a b c d) t
    (rw (four-of (a % 8) (b % 64) (c % 64) (d % 64) (omega arith) (omega arith) (omega arith) (omega arith) (omega arith))
    (ap₂ (λ (u : ℕ) (v : List ℕ). u ∷ v) x (ap₂ (λ (u : ℕ) (v : List ℕ). u ∷ v) y (ap₂ (λ (u v : ℕ). u ∷ v ∷ t) z w))))
    p.1

or-else : {A : Type 0} (p q : Option (ℕ × List ℕ)) (r : ℕ × List ℕ) → (p ≡ some r → A) → (q ≡ some r → A) → or_else p q ≡ some r → A
unfolding or_else
or-else none q r f g e = g e
or-else (some x) q r f g e = f e

pub decoded-is : (s : List ℕ) {c : ℕ} {t : List ℕ} → decode_one s ≡ some (c, t) → s ≡ utf8_of c ++ t
unfolding decode_one
decoded-is s {c} {t} =
    or-else (utf8-1 s) _ (c, t) (is-1 s (c, t))
    (or-else (utf8-2 s) _ (c, t) (is-2 s (c, t)) (or-else (utf8-3 s) _ (c, t) (is-3 s (c, t)) (is-4 s (c, t))))

-- How many bytes

pub size-1 : (c : ℕ) → c ≤ 0x7F → 1 ≡ length (utf8_of c)
unfolding utf8_of
size-1 c h = rw (le-leb c 0x7F h)

pub size-2 : (c : ℕ) → 0x7F < c → c ≤ 0x7FF → 2 ≡ length (utf8_of c)
unfolding utf8_of
size-2 c l h = rw (lt-leb c 0x7F l, le-leb c 0x7FF h)

pub size-of-3 : (c : ℕ) → 0x7FF < c → c ≤ 0xFFFF → 3 ≡ length (utf8_of c)
unfolding utf8_of
size-of-3 c l h = rw (lt-leb c 0x7F (omega arith), lt-leb c 0x7FF l, le-leb c 0xFFFF h)

pub size-of-4 : (c : ℕ) → 0xFFFF < c → 4 ≡ length (utf8_of c)
unfolding utf8_of
size-of-4 c l = rw (lt-leb c 0x7F (omega arith), lt-leb c 0x7FF (omega arith), lt-leb c 0xFFFF l)

pub size-4 : (c : ℕ) → length (utf8_of c) ≤ 4
unfolding utf8_of
size-4 c =
    by-test (leb c 0x7F) (λ e. rw e (omega arith))
    (λ e. by-test (leb c 0x7FF) (λ f. rw (e, f) (omega arith))
    (λ f. by-test (leb c 0xFFFF) (λ g. rw (e, f, g) (omega arith)) (λ g. rw (e, f, g) (omega arith))))

pub size-3 : (c : ℕ) → c ≤ 0xFFFF → length (utf8_of c) ≤ 3
unfolding utf8_of
size-3 c h =
    by-test (leb c 0x7F) (λ e. rw e (omega arith))
    (λ e. by-test (leb c 0x7FF) (λ f. rw (e, f) (omega arith)) (λ f. rw (e, f, le-leb c 0xFFFF h) (omega arith)))

-- No code point needs more than 21 bits

below-1 : (s : List ℕ) (r : ℕ × List ℕ) → utf8-1 s ≡ some r → r.0 < 0x200000
unfolding utf8-1
below-1 [] r e = absurd (none-ne-some r e)
below-1 (a ∷ t) r e =
    let p = cond-some (leb a 0x7F) e in
    let h = leb-true a 0x7F p.0 in
    subst (λ (q : ℕ × List ℕ). q.0 < 0x200000) p.1 (omega arith)

below-2 : (s : List ℕ) (r : ℕ × List ℕ) → utf8-2 s ≡ some r → r.0 < 0x200000
unfolding utf8-2
below-2 [] r e = absurd (none-ne-some r e)
below-2 (a ∷ []) r e = absurd (none-ne-some r e)
below-2 (a ∷ b ∷ t) r e =
    let small : code_of2 a b < 0x200000 = omega arith in
    subst (λ (q : ℕ × List ℕ). q.0 < 0x200000) (cond-some (is_utf8-2 a b) e).1 small

below-3 : (s : List ℕ) (r : ℕ × List ℕ) → utf8-3 s ≡ some r → r.0 < 0x200000
unfolding utf8-3
below-3 [] r e = absurd (none-ne-some r e)
below-3 (a ∷ []) r e = absurd (none-ne-some r e)
below-3 (a ∷ b ∷ []) r e = absurd (none-ne-some r e)
below-3 (a ∷ b ∷ c ∷ t) r e =
    let small : code_of3 a b c < 0x200000 = omega arith in
    subst (λ (q : ℕ × List ℕ). q.0 < 0x200000) (cond-some (is_utf8-3 a b c) e).1 small

below-4 : (s : List ℕ) (r : ℕ × List ℕ) → utf8-4 s ≡ some r → r.0 < 0x200000
unfolding utf8-4
below-4 [] r e = absurd (none-ne-some r e)
below-4 (a ∷ []) r e = absurd (none-ne-some r e)
below-4 (a ∷ b ∷ []) r e = absurd (none-ne-some r e)
below-4 (a ∷ b ∷ c ∷ []) r e = absurd (none-ne-some r e)
below-4 (a ∷ b ∷ c ∷ d ∷ t) r e =
    let small : code_of4 a b c d < 0x200000 = omega arith in
    subst (λ (q : ℕ × List ℕ). q.0 < 0x200000) (cond-some (is_utf8-4 a b c d) e).1 small

pub decoded-below : (s : List ℕ) {c : ℕ} {t : List ℕ} → decode_one s ≡ some (c, t) → c < 0x200000
unfolding decode_one
decoded-below s {c} {t} =
    or-else (utf8-1 s) _ (c, t) (below-1 s (c, t))
    (or-else (utf8-2 s) _ (c, t) (below-2 s (c, t)) (or-else (utf8-3 s) _ (c, t) (below-3 s (c, t)) (below-4 s (c, t))))
