-- The tests on characters and months, at each arm of the code.
use Prim.Native.Nat.{ℕ, suc, ◌+◌, ◌-◌, ◌≤◌, ◌<◌}
use mathlib.Core.Path.{◌≡◌, refl, sym, ap, ◌∙◌}
use mathlib.Core.Bool.{Bool, true, false, cond}
use mathlib.Core.List.{List}
use mathlib.Core.Option.{none, some}
use mathlib.Core.Logic.{◌⊎◌, inl, inr}
use native.Mathlib.Omega.{arith}
use lib.Dec.{ltb, eqb}
use lib.ListN.{get_or}
use borrow.Author.Tests.{eqb-true, le-ltb, ne_eqb}
use Rattle.text.specs.Blank.{trim}
use Rattle.text.specs.Decimal.{is_digit}
use Rattle.timestamp.specs.Instant.{digit_value, is_separator, is_zone, is_leap, days_in, skip_digits, fields_of, is_instant, instant_in, instant}
use Rattle.timestamp.specs.declared.Fields.{Fields}

pub separator-yes : (b : ℕ) → (b ≡ 0x20) ⊎ (b ≡ 0x54) ⊎ (b ≡ 0x74) → true ≡ is_separator b
unfolding is_separator
separator-yes b (inl e) = rw e
separator-yes b (inr (inl e)) = rw e
separator-yes b (inr (inr e)) = rw e

pub separator-other : (b : ℕ) → ((b ≡ 0x20) ⊎ (b ≡ 0x54) ⊎ (b ≡ 0x74) → ⊥) → false ≡ is_separator b
unfolding is_separator
separator-other b n =
    rw (ne_eqb b 0x54 (λ e. n (inr (inl e))), ne_eqb b 0x74 (λ e. n (inr (inr e))), ne_eqb b 0x20 (λ e. n (inl e)))

pub zone-yes : (b : ℕ) → (b ≡ 0x5A) ⊎ (b ≡ 0x7A) → true ≡ is_zone b
unfolding is_zone
zone-yes b (inl e) = rw e
zone-yes b (inr e) = rw e

pub zone-other : (b : ℕ) → ((b ≡ 0x5A) ⊎ (b ≡ 0x7A) → ⊥) → false ≡ is_zone b
unfolding is_zone
zone-other b n = rw (ne_eqb b 0x5A (λ e. n (inl e)), ne_eqb b 0x7A (λ e. n (inr e)))

pub days-february : (year month : ℕ) → month ≡ 2 → days_in year month ≡ cond (is_leap year) 29 28
unfolding days_in
days-february year month e = rw e

pub days-thirty : (year month : ℕ) → (month ≡ 4) ⊎ (month ≡ 6) ⊎ (month ≡ 9) ⊎ (month ≡ 11) → 30 ≡ days_in year month
unfolding days_in
days-thirty year month (inl e) = rw e
days-thirty year month (inr (inl e)) = rw e
days-thirty year month (inr (inr (inl e))) = rw e
days-thirty year month (inr (inr (inr e))) = rw e

pub days-others
    : (year month : ℕ)
    → (month ≡ 2 → ⊥)
    → ((month ≡ 4) ⊎ (month ≡ 6) ⊎ (month ≡ 9) ⊎ (month ≡ 11) → ⊥)
    → 31 ≡ days_in year month
unfolding days_in
days-others year month f n =
    rw (
      ne_eqb month 2 f,
      ne_eqb month 4 (λ e. n (inl e)),
      ne_eqb month 6 (λ e. n (inr (inl e))),
      ne_eqb month 9 (λ e. n (inr (inr (inl e)))),
      ne_eqb month 11 (λ e. n (inr (inr (inr e)))),
    )

pub digit-worth : (b : ℕ) {r : Bool} → r ≡ is_digit b → r ≡ true → b - 0x30 ≡ digit_value b
unfolding digit_value
digit-worth b q t = rw (sym q ∙ t)

pub digit-none : (b : ℕ) {r : Bool} → r ≡ is_digit b → r ≡ false → 0 ≡ digit_value b
unfolding digit_value
digit-none b q f = rw (sym q ∙ f)

-- one digit more is passed, or none
pub skip-digit
    : (s : List ℕ) (at left : ℕ) {r : Bool}
    → 0 < left
    → r ≡ is_digit (get_or s at 0)
    → r ≡ true
    → skip_digits s at left ≡ skip_digits s (at + 1) (left - 1)
unfolding skip_digits
skip-digit s at left h q t =
    let e : left ≡ suc (left - 1) = omega arith in
    ap (λ n. skip_digits s at n) e ∙ rw (sym q ∙ t)

pub skip_stop
    : (s : List ℕ) (at left : ℕ) {r : Bool}
    → 0 < left
    → r ≡ is_digit (get_or s at 0)
    → r ≡ false
    → skip_digits s at left ≡ at
unfolding skip_digits
skip_stop s at left h q f =
    let e : left ≡ suc (left - 1) = omega arith in
    ap (λ n. skip_digits s at n) e ∙ rw (sym q ∙ f)

pub skip-none : (s : List ℕ) (at left : ℕ) → left ≤ 0 → skip_digits s at left ≡ at
unfolding skip_digits
skip-none s at left h = let e : left ≡ 0 = omega arith in rw e

-- what was found of the trimmed text is the answer
module _ (s t : List ℕ) (f : Fields) {r : Bool} (e : t ≡ trim s) (g : f ≡ fields_of t) (q : r ≡ is_instant t f) where
  pub instant-some : r ≡ true → instant s ≡ some f
  unfolding instant instant_in
  instant-some h =
      let i : is_instant (trim s) (fields_of (trim s)) ≡ true = cc in
      rw i (cc)

  pub instant-none : r ≡ false → instant s ≡ none
  unfolding instant instant_in
  instant-none h =
      let i : is_instant (trim s) (fields_of (trim s)) ≡ false = cc in
      rw i

-- where all fields but the last are the same, that one decides
pub last-decides : (a b : ℕ) → ltb a b ≡ cond (eqb a b) false (ltb a b)
last-decides a b = by (eqb a b) refl
  where
    by : (same : Bool) → eqb a b ≡ same → ltb a b ≡ cond same false (ltb a b)
    by true q = let e : a ≡ b = eqb-true a b q in le-ltb a b (omega arith)
    by false q = refl
