-- How the definitions go on after the first code point: the turns that they count are always enough.
use Prim.Native.Nat.{ℕ, zero, suc, ◌≤◌, ◌<◌}
use mathlib.Core.Path.{◌≡◌, refl, sym, ap, ◌∙◌}
use mathlib.Core.Bool.{Bool, true, false, cond, ◌&&◌}
use mathlib.Core.List.{List, [], ◌∷◌}
use mathlib.Core.Option.{Option, none, some, map}
use native.Mathlib.Omega.{arith}
use lib.ListN.{length}
use Rattle.text.specs.Utf8.{decode_one, points_from, code_points_in, code_points, is_some, is_utf8}
use Rattle.text.specs.WhiteSpace.{is_white_space}
use Rattle.text.specs.Blank.{all_white_space, blank_points, is_blank, start_from, trim_start_in, trim_start}
use Rattle.text.proofs.Shape.{decoded-shape, shape-shorter}

-- two continuations that agree on what is shorter
points-agree
    : (f g : List ℕ → Option (List ℕ)) (s : List ℕ) (o : Option (ℕ × List ℕ))
    → decode_one s ≡ o
    → ((t : List ℕ) → length t < length s → f t ≡ g t)
    → points_from f o ≡ points_from g o
unfolding points_from
points-agree f g s none e h = refl
points-agree f g s (some r) e h =
    ap (λ (o : Option (List ℕ)). map (λ (l : List ℕ). r.0 ∷ l) o) (h r.1 (shape-shorter (decoded-shape s r e)))

points-enough : (n m : ℕ) (s : List ℕ) → length s ≤ n → length s ≤ m → code_points_in n s ≡ code_points_in m s
unfolding code_points_in
points-enough zero zero s p q = refl
points-enough zero (suc m) [] p q = refl
points-enough zero (suc m) (a ∷ t) p q = absurd (omega arith)
points-enough (suc n) zero [] p q = refl
points-enough (suc n) zero (a ∷ t) p q = absurd (omega arith)
points-enough (suc n) (suc m) [] p q = refl
points-enough (suc n) (suc m) (a ∷ t) p q =
    points-agree (λ u. code_points_in n u) (λ u. code_points_in m u) (a ∷ t) (decode_one (a ∷ t)) refl
    (λ u h. points-enough n m u (omega arith) (omega arith))

points-next : (s : List ℕ) → 0 < length s → code_points s ≡ points_from code_points (decode_one s)
unfolding code_points code_points_in
points-next [] h = absurd (omega arith)
points-next (a ∷ t) h =
    points-agree (λ u. code_points_in (length t) u) code_points (a ∷ t) (decode_one (a ∷ t)) refl
    (λ u k. points-enough (length t) (length u) u (omega arith) (omega arith))

pub points_none : (s : List ℕ) → 0 < length s → decode_one s ≡ none → code_points s ≡ none
unfolding points_from
points_none s h e = points-next s h ∙ rw e

pub points-some
    : (s : List ℕ) {c : ℕ} {t : List ℕ}
    → decode_one s ≡ some (c, t)
    → code_points s ≡ map (λ (l : List ℕ). c ∷ l) (code_points t)
unfolding points_from
points-some s {c} {t} e =
    let k = shape-shorter (decoded-shape s (c, t) e) in
    points-next s (omega arith) ∙ rw e

-- UTF-8
pub utf8-empty : is_utf8 [] ≡ true
unfolding is_utf8 code_points code_points_in is_some
utf8-empty = refl

pub utf8-none : (s : List ℕ) → 0 < length s → decode_one s ≡ none → is_utf8 s ≡ false
unfolding is_utf8 is_some
utf8-none s h e = rw (points_none s h e)

pub utf8-some : (s : List ℕ) {c : ℕ} {t : List ℕ} → decode_one s ≡ some (c, t) → is_utf8 s ≡ is_utf8 t
unfolding is_utf8 is_some
utf8-some s {c} {t} e = rw (points-some s e) (go (code_points t))
  where
    go : (o : Option (List ℕ)) → is_some (map (λ (l : List ℕ). c ∷ l) o) ≡ is_some o
    go none = refl
    go (some l) = refl

-- blank
pub blank-empty : is_blank [] ≡ true
unfolding is_blank blank_points all_white_space code_points code_points_in
blank-empty = refl

pub blank_none : (s : List ℕ) → 0 < length s → decode_one s ≡ none → is_blank s ≡ false
unfolding is_blank blank_points
blank_none s h e = rw (points_none s h e)

pub blank-some : (s : List ℕ) {c : ℕ} {t : List ℕ} → decode_one s ≡ some (c, t) → is_blank s ≡ (is_white_space c && is_blank t)
unfolding is_blank blank_points all_white_space
blank-some s {c} {t} e = rw (points-some s e) (go (code_points t) (is_white_space c) refl)
  where
    go
        : (o : Option (List ℕ)) (w : Bool)
        → is_white_space c ≡ w
        → blank_points (map (λ (l : List ℕ). c ∷ l) o) ≡ (is_white_space c && blank_points o)
    go none true h = rw h
    go none false h = rw h
    go (some l) w h = refl

-- trimmed at the start
start-agree
    : (f g : List ℕ → List ℕ) (s : List ℕ) (o : Option (ℕ × List ℕ))
    → decode_one s ≡ o
    → ((t : List ℕ) → length t < length s → f t ≡ g t)
    → start_from f s o ≡ start_from g s o
unfolding start_from
start-agree f g s none e h = refl
start-agree f g s (some r) e h =
    ap (λ (t : List ℕ). cond (is_white_space r.0) t s) (h r.1 (shape-shorter (decoded-shape s r e)))

start-nothing : (f : List ℕ → List ℕ) (s : List ℕ) → length s ≤ 0 → start_from f s (decode_one s) ≡ s
unfolding start_from
start-nothing f s h = go (decode_one s) refl
  where
    go : (o : Option (ℕ × List ℕ)) → decode_one s ≡ o → start_from f s o ≡ s
    go none e = refl
    go (some r) e = let k = shape-shorter (decoded-shape s r e) in absurd (omega arith)

start-enough : (n m : ℕ) (s : List ℕ) → length s ≤ n → length s ≤ m → trim_start_in n s ≡ trim_start_in m s
unfolding trim_start_in
start-enough zero zero s p q = refl
start-enough zero (suc m) s p q = sym (start-nothing (λ u. trim_start_in m u) s p)
start-enough (suc n) zero s p q = start-nothing (λ u. trim_start_in n u) s q
start-enough (suc n) (suc m) s p q =
    start-agree (λ u. trim_start_in n u) (λ u. trim_start_in m u) s (decode_one s) refl
    (λ u h. start-enough n m u (omega arith) (omega arith))

start-next : (s : List ℕ) → trim_start s ≡ start_from trim_start s (decode_one s)
unfolding trim_start trim_start_in start_from
start-next s =
    start-enough (length s) (suc (length s)) s (omega arith) (omega arith)
    ∙ start-agree (λ u. trim_start_in (length s) u) trim_start s (decode_one s) refl
    (λ u h. start-enough (length s) (length u) u (omega arith) (omega arith))

pub start_none : (s : List ℕ) → decode_one s ≡ none → trim_start s ≡ s
unfolding start_from
start_none s e = start-next s ∙ rw e

pub start-white
    : (s : List ℕ) {c : ℕ} {t : List ℕ}
    → decode_one s ≡ some (c, t)
    → is_white_space c ≡ true
    → trim_start s ≡ trim_start t
unfolding start_from
start-white s e h = start-next s ∙ rw (e, h)

pub start-other : (s : List ℕ) {c : ℕ} {t : List ℕ} → decode_one s ≡ some (c, t) → is_white_space c ≡ false → trim_start s ≡ s
unfolding start_from
start-other s e h = start-next s ∙ rw (e, h)
