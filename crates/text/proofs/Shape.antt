-- The bytes that `decode_one` takes: one to four, all but the first of them tail bytes, and no tail byte first.
use Prim.Native.Nat.{ℕ, ◌≤◌, ◌<◌}
use mathlib.Core.Path.{◌≡◌, refl, subst}
use mathlib.Core.Bool.{true, ◌&&◌}
use mathlib.Core.List.{List, [], ◌∷◌}
use mathlib.Core.Option.{Option, none, some, none-ne-some}
use native.Mathlib.Omega.{arith}
use lib.Dec.{leb}
use lib.ListN.{length}
use borrow.Author.Tests.{leb-true}
use Rattle.text.specs.Utf8.{between, is_tail, utf8-1, is_utf8-2, code_of2, utf8-2, is_second_of3, is_utf8-3, code_of3, utf8-3, is_second_of4, is_utf8-4, code_of4, utf8-4, or_else, decode_one}
use Rattle.text.proofs.Bools.{and-true-0, and-true-1, or-true-cases, cond-some, cond-none}
use Rattle.text.proofs.Bytes.{between-inside}

-- the text, the code point that it begins with, and the rest; the same bytes are read before any other rest
pub data Shape : List ℕ → ℕ → List ℕ → Type 0 where
  one : {a w : ℕ} {t : List ℕ} → ((u : List ℕ) → decode_one (a ∷ u) ≡ some (w, u)) → Shape (a ∷ t) w t
  two
      : {a b w : ℕ} {t : List ℕ}
      → ((u : List ℕ) → decode_one (a ∷ b ∷ u) ≡ some (w, u))
      → is_tail b ≡ true
      → Shape (a ∷ b ∷ t) w t
  three
      : {a b c w : ℕ} {t : List ℕ}
      → ((u : List ℕ) → decode_one (a ∷ b ∷ c ∷ u) ≡ some (w, u))
      → is_tail b ≡ true
      → is_tail c ≡ true
      → Shape (a ∷ b ∷ c ∷ t) w t
  four
      : {a b c d w : ℕ} {t : List ℕ}
      → ((u : List ℕ) → decode_one (a ∷ b ∷ c ∷ d ∷ u) ≡ some (w, u))
      → is_tail b ≡ true
      → is_tail c ≡ true
      → is_tail d ≡ true
      → Shape (a ∷ b ∷ c ∷ d ∷ t) w t

narrow : (low high b : ℕ) → 0x80 ≤ low → high ≤ 0xBF → between low high b ≡ true → is_tail b ≡ true
unfolding is_tail between
narrow low high b p q e =
    let l = leb-true low b (and-true-0 _ _ e) in
    let h = leb-true b high (and-true-1 (leb low b) _ e) in
    between-inside 0x80 0xBF b (omega arith) (omega arith)

second3-tail : (a b : ℕ) → is_second_of3 a b ≡ true → is_tail b ≡ true
unfolding is_second_of3
second3-tail a b =
    or-true-cases _ _
    (or-true-cases _ _
    (or-true-cases _ _ (λ e. narrow 0xA0 0xBF b (omega arith) (omega arith) (and-true-1 (between 0xE0 0xE0 a) _ e))
    (λ e. and-true-1 (between 0xE1 0xEC a) _ e))
    (λ e. narrow 0x80 0x9F b (omega arith) (omega arith) (and-true-1 (between 0xED 0xED a) _ e)))
    (λ e. and-true-1 (between 0xEE 0xEF a) _ e)

second4-tail : (a b : ℕ) → is_second_of4 a b ≡ true → is_tail b ≡ true
unfolding is_second_of4
second4-tail a b =
    or-true-cases _ _
    (or-true-cases _ _ (λ e. narrow 0x90 0xBF b (omega arith) (omega arith) (and-true-1 (between 0xF0 0xF0 a) _ e))
    (λ e. and-true-1 (between 0xF1 0xF3 a) _ e))
    (λ e. narrow 0x80 0x8F b (omega arith) (omega arith) (and-true-1 (between 0xF4 0xF4 a) _ e))

-- a rule's answer is what it read and the rest
module _ (s : List ℕ) (r : ℕ × List ℕ) where
  abbrev Shaped : Type 0
  Shaped = Shape s r.0 r.1

  moved : {w : ℕ} {t : List ℕ} → Shape s w t → (w, t) ≡ r → Shaped
  moved h e = subst (λ (p : ℕ × List ℕ). Shape s p.0 p.1) e h

shape-1 : (s : List ℕ) (r : ℕ × List ℕ) → utf8-1 s ≡ some r → Shape s r.0 r.1
unfolding decode_one utf8-1 or_else
shape-1 [] r e = absurd (none-ne-some r e)
shape-1 (a ∷ t) r e =
    let p = cond-some (leb a 0x7F) e in
    moved (a ∷ t) r (one {w = a} (λ u. rw p.0)) p.1

shape-2 : (s : List ℕ) (r : ℕ × List ℕ) → utf8-1 s ≡ none → utf8-2 s ≡ some r → Shape s r.0 r.1
unfolding decode_one utf8-1 utf8-2 is_utf8-2 or_else
shape-2 [] r n e = absurd (none-ne-some r e)
shape-2 (a ∷ []) r n e = absurd (none-ne-some r e)
shape-2 (a ∷ b ∷ t) r n e =
    let p = cond-some (is_utf8-2 a b) e in
    moved (a ∷ b ∷ t) r
    (two {a = a} {b = b} {w = code_of2 a b} (λ u. rw (cond-none (leb a 0x7F) (a, b ∷ t) n, p.0))
    (and-true-1 (between 0xC2 0xDF a) (is_tail b) p.0))
    p.1

shape-3 : (s : List ℕ) (r : ℕ × List ℕ) → utf8-1 s ≡ none → utf8-2 s ≡ none → utf8-3 s ≡ some r → Shape s r.0 r.1
unfolding decode_one utf8-1 utf8-2 utf8-3 is_utf8-3 or_else
shape-3 [] r n m e = absurd (none-ne-some r e)
shape-3 (a ∷ []) r n m e = absurd (none-ne-some r e)
shape-3 (a ∷ b ∷ []) r n m e = absurd (none-ne-some r e)
shape-3 (a ∷ b ∷ c ∷ t) r n m e =
    let p = cond-some (is_utf8-3 a b c) e in
    moved (a ∷ b ∷ c ∷ t) r
    (three {a = a} {b = b} {c = c} {w = code_of3 a b c}
    (λ u. rw (cond-none (leb a 0x7F) (a, b ∷ c ∷ t) n, cond-none (is_utf8-2 a b) (code_of2 a b, c ∷ t) m, p.0))
    (second3-tail a b (and-true-0 _ _ p.0))
    (and-true-1 (is_second_of3 a b) _ p.0))
    p.1

shape-4
    : (s : List ℕ) (r : ℕ × List ℕ)
    → utf8-1 s ≡ none
    → utf8-2 s ≡ none
    → utf8-3 s ≡ none
    → utf8-4 s ≡ some r
    → Shape s r.0 r.1
unfolding decode_one utf8-1 utf8-2 utf8-3 utf8-4 is_utf8-4 or_else
shape-4 [] r n m l e = absurd (none-ne-some r e)
shape-4 (a ∷ []) r n m l e = absurd (none-ne-some r e)
shape-4 (a ∷ b ∷ []) r n m l e = absurd (none-ne-some r e)
shape-4 (a ∷ b ∷ c ∷ []) r n m l e = absurd (none-ne-some r e)
shape-4 (a ∷ b ∷ c ∷ d ∷ t) r n m l e =
    let p = cond-some (is_utf8-4 a b c d) e in
    let q = and-true-1 (is_second_of4 a b) (is_tail c && is_tail d) p.0 in
    moved (a ∷ b ∷ c ∷ d ∷ t) r
    (four {a = a} {b = b} {c = c} {d = d} {w = code_of4 a b c d}
    (λ u. rw (
      cond-none (leb a 0x7F) (a, b ∷ c ∷ d ∷ t) n,
      cond-none (is_utf8-2 a b) (code_of2 a b, c ∷ d ∷ t) m,
      cond-none
          (is_utf8-3 a b c) (code_of3 a b c, d ∷ t) l,
      p.0,
    ))
    (second4-tail a b (and-true-0 _ _ p.0))
    (and-true-0 _ _ q)
    (and-true-1 (is_tail c) _ q))
    p.1

either
    : {A : Type 0} (p q : Option (ℕ × List ℕ)) (r : ℕ × List ℕ)
    → (p ≡ some r → A)
    → (p ≡ none → q ≡ some r → A)
    → or_else p q ≡ some r
    → A
unfolding or_else
either none q r f g e = g refl e
either (some x) q r f g e = f e

pub decoded-shape : (s : List ℕ) (r : ℕ × List ℕ) → decode_one s ≡ some r → Shape s r.0 r.1
unfolding decode_one
decoded-shape s r =
    either (utf8-1 s) _ r (shape-1 s r)
    (λ n. either (utf8-2 s) _ r (shape-2 s r n)
    (λ m. either (utf8-3 s) _ r (shape-3 s r n m) (λ l. shape-4 s r n m l)))

pub shape-shorter : {s t : List ℕ} {w : ℕ} → Shape s w t → length t < length s
shape-shorter (one f) = omega arith
shape-shorter (two f p) = omega arith
shape-shorter (three f p q) = omega arith
shape-shorter (four f p q r) = omega arith
