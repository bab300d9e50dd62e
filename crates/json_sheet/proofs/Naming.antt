-- Laws of names: those of another length need not be compared with.
use Prim.Native.Nat.{ℕ, suc, ◌+◌, ◌-◌, ◌<◌, ◌≤◌}
use mathlib.Core.Bool.{Bool, true, false, cond, not, ◌&&◌}
use mathlib.Core.List.{List, [], ◌∷◌}
use mathlib.Core.Path.{◌≡◌, refl, sym, ap, ◌∙◌}
use native.Mathlib.Omega.{arith}
use lib.ListN.{length, take, drop}
use lib.Dec.{leb, eqb}
use borrow.Author.Tests.{eq-eqb, ne_eqb, le-leb}
use Rattle.text.specs.Ascii.{ascii}
use Rattle.text.specs.CaseLaws.{by-test}
use Rattle.text.specs.Order.{same_bytes}
use Rattle.sheet.specs.Operators.{Operator, operators, row, first_operator}
use Rattle.buffer.specs.LaidLaws.{sets-read}
use Rattle.json_text.specs.Json.{Text}
use Rattle.json_text.specs.BetweenAt.{KeyAt}
use Rattle.json_text.specs.Unescaped.{LaysText}
use Rattle.json_rule.specs.Shape.{number_of, operator_of, place_in}
use Rattle.json_sheet.specs.Places.{word_bytes, Named, Chosen}

-- One name after the other

-- the number beside the first test that holds, or 0
unfoldable pub pick : List (Bool × ℕ) → ℕ
pick [] = 0
pick (p ∷ others) = let later = pick others in cond p.0 p.1 later

pub record Picks (x : ℕ) (tests : List (Bool × ℕ)) : Type 0 where
  pub is : x ≡ pick tests

pub passed : {x m : ℕ} {b r : Bool} {others : List (Bool × ℕ)} → Picks x ((b, m) ∷ others) → r ≡ b → r ≡ false → Picks x others
unfolding pick
passed e f g = record { is = e.is ∙ rw (sym f ∙ g) }

pub found : {x m : ℕ} {b r : Bool} {others : List (Bool × ℕ)} → Picks x ((b, m) ∷ others) → r ≡ b → r ≡ true → m ≡ x
unfolding pick
found e f g = sym (e.is ∙ rw (sym f ∙ g))

pub nothing : {x : ℕ} → Picks x [] → 0 ≡ x
unfolding pick
nothing e = sym e.is

-- Names of some lengths

pub same-lengths : (a b : List ℕ) → (length a ≡ length b → ⊥) → same_bytes a b ≡ false
unfolding same_bytes
same-lengths [] [] h = absurd (h refl)
same-lengths [] (y ∷ b) h = refl
same-lengths (x ∷ a) [] h = refl
same-lengths (x ∷ a) (y ∷ b) h = go (eqb x y) (same-lengths a b (λ e. h (ap suc e)))
  where
    go : (t : Bool) → same_bytes a b ≡ false → (t && same_bytes a b) ≡ false
    go true e = e
    go false e = refl

module _ (keep : ℕ → Bool) where
  unfoldable kept : List Operator → List Operator
  kept [] = []
  kept (r ∷ rows) = let later = kept rows in cond (keep (length r.name)) (r ∷ later) later

  lengths_differ : (t : Text) (name : List ℕ) → keep (length t) ≡ true → keep (length name) ≡ false → same_bytes t name ≡ false
  lengths_differ t name k n = same-lengths t name (λ e. true-not-false (sym k ∙ ap keep e ∙ n))
    where
      true-not-false : true ≡ false → ⊥
      true-not-false e = let z : ◌≡◌ {A = ℕ} 0 1 = sym (ap (λ (b : Bool). cond b 1 0) e) in omega arith

  number-kept : (t : Text) → keep (length t) ≡ true → (rows : List Operator) → number_of t rows ≡ number_of t (kept rows)
  unfolding number_of kept
  number-kept t k [] = refl
  number-kept t k (r ∷ rows) =
      by-test (keep (length r.name))
      (λ e. rw (e, number-kept t k rows))
      (λ e. rw (e, lengths_differ t r.name k e, number-kept t k rows))

  operators-kept : (t : Text) → keep (length t) ≡ true → operator_of t ≡ number_of t (kept operators)
  unfolding operator_of
  operators-kept t k = number-kept t k operators

pub operators-2 : (t : Text) → length t ≡ 2 → Picks (operator_of t) ((same_bytes t (ascii "eq"), 8) ∷ (same_bytes t (ascii "ne"), 9) ∷ (same_bytes t (ascii "gt"), 10) ∷ (same_bytes t (ascii "lt"), 12) ∷ (same_bytes t (ascii "in"), 14) ∷ [])
unfolding operators row first_operator kept number_of pick ascii
operators-2 t e = record { is = operators-kept (λ n. eqb n 2) t (eq-eqb (length t) 2 e) }

pub operators-3 : (t : Text) → length t ≡ 3 → Picks (operator_of t) ((same_bytes t (ascii "all"), 2) ∷ (same_bytes t (ascii "any"), 3) ∷ (same_bytes t (ascii "not"), 4) ∷ (same_bytes t (ascii "gte"), 11) ∷ (same_bytes t (ascii "lte"), 13) ∷ [])
unfolding operators row first_operator kept number_of pick ascii
operators-3 t e = record { is = operators-kept (λ n. eqb n 3) t (eq-eqb (length t) 3 e) }

pub operators-6 : (t : Text) → length t ≡ 6 → Picks (operator_of t) ((same_bytes t (ascii "exists"), 5) ∷ (same_bytes t (ascii "before"), 6) ∷ (same_bytes t (ascii "truthy"), 19) ∷ [])
unfolding operators row first_operator kept number_of pick ascii
operators-6 t e = record { is = operators-kept (λ n. eqb n 6) t (eq-eqb (length t) 6 e) }

pub operators-7 : (t : Text) → length t ≡ 7 → Picks (operator_of t) ((same_bytes t (ascii "literal"), 1) ∷ (same_bytes t (ascii "compare"), 18) ∷ (same_bytes t (ascii "for_all"), 20) ∷ (same_bytes t (ascii "for_any"), 21) ∷ [])
unfolding operators row first_operator kept number_of pick ascii
operators-7 t e = record { is = operators-kept (λ n. eqb n 7) t (eq-eqb (length t) 7 e) }

unfoldable is_other : ℕ → Bool
is_other n = not (eqb n 2) && (not (eqb n 3) && (not (eqb n 6) && not (eqb n 7)))

pub operators-other : (t : Text) → (length t ≡ 2 → ⊥) → (length t ≡ 3 → ⊥) → (length t ≡ 6 → ⊥) → (length t ≡ 7 → ⊥)
    → Picks (operator_of t) ((same_bytes t (ascii "after"), 7) ∷ (same_bytes t (ascii "contains"), 15) ∷ (same_bytes t (ascii "starts_with"), 16) ∷ (same_bytes t (ascii "ends_with"), 17) ∷ [])
unfolding operators row first_operator kept number_of pick ascii is_other
operators-other t a b c d =
    record { is = operators-kept is_other t (rw (ne_eqb (length t) 2 a, ne_eqb (length t) 3 b, ne_eqb (length t) 6 c, ne_eqb (length t) 7 d)) }

-- no operator's name is longer than a word
pub operators-long : (t : Text) → word_bytes < length t → 0 ≡ operator_of t
unfolding operators row first_operator kept number_of ascii
operators-long t h = sym (operators-kept (λ n. leb 13 n) t (le-leb 13 (length t) (omega arith)))

pub places : (t a b c : Text) → Picks (place_in 1 t (a ∷ b ∷ c ∷ [])) ((same_bytes t a, 1) ∷ (same_bytes t b, 2) ∷ (same_bytes t c, 3) ∷ [])
unfolding place_in pick
places t a b c = record { is = refl }

pub places-long : (t a b c : Text) → word_bytes < length t → length a ≤ word_bytes → length b ≤ word_bytes → length c ≤ word_bytes → 0 ≡ place_in 1 t (a ∷ b ∷ c ∷ [])
unfolding place_in
places-long t a b c h k l m =
    rw (same-lengths t a (λ e. absurd (omega arith)), same-lengths t b (λ e. absurd (omega arith)), same-lengths t c (λ e. absurd (omega arith)))

-- A name in a word

pub named : {s before after : List ℕ} {at len next r : ℕ} → KeyAt s at len next → LaysText s (at + 1) before after 0 r → Named s at before after len next
named {s} {before} {after} {at} {len} {next} k l =
    record {
      name = k.text;
      read = k.read;
      size = k.size;
      held = λ h. held h;
    }
  where
    held : len ≤ length before → take len after ≡ k.text
    held h =
        let size : length k.text ≡ len = k.size in
        let fits : 0 + length k.text ≤ length before = omega arith in
        ap (λ (n : ℕ). take n after) (sym size)
        ∙ ap (take (length k.text)) ((l.lies k.text k.behind k.quoted).stands fits)
        ∙ sets-read k.text before 0 fits

pub chosen : (f : Text → ℕ) {s before after : List ℕ} {at len next n : ℕ} → len ≤ length before → Named s at before after len next
    → ((t : Text) → t ≡ take (len - 0) (drop 0 after) → n ≡ f t)
    → Chosen f s at n next
chosen f {after = after} {len = len} h k e =
    let same : len - 0 ≡ len = omega arith in
    record { name = k.name; read = k.read; which = e k.name (sym (k.held h) ∙ ap (λ (m : ℕ). take m after) (sym same)) }

pub unchosen : (f : Text → ℕ) {s before after : List ℕ} {at len next : ℕ} → word_bytes < len → Named s at before after len next
    → ((t : Text) → word_bytes < length t → 0 ≡ f t)
    → Chosen f s at 0 next
unchosen f {len = len} h k e = record { name = k.name; read = k.read; which = e k.name (omega (arith, k.size)) }
