-- What is read where a string is asked for, by the first byte of a value.
use Prim.Native.Nat.{ℕ, zero, suc, ◌+◌, ◌-◌, ◌<◌}
use mathlib.Core.Bool.{Bool, true, false, cond}
use mathlib.Core.List.{List, ◌∷◌}
use mathlib.Core.Logic.{◌⊎◌, inl, inr}
use mathlib.Core.Option.{Option, none, some, none-ne-some}
use mathlib.Core.Path.{◌≡◌, refl, sym, ap, ◌∙◌}
use native.Mathlib.Omega.{arith}
use native.Mathlib.Numerals.{add-one}
use lib.ListN.{length, drop, get_or, drop_of_length-le}
use lib.Seq.{drop-cons}
use lib.Dec.{leb, eqb}
use borrow.Author.Tests.{eq-eqb, ne_eqb, eqb-true, leb-true, leb-false}
use Rattle.text.specs.Ascii.{ascii}
use Rattle.text.specs.CaseLaws.{by-test}
use Rattle.text.specs.Reader.{◌>>=◌, ◌>>◌, and_then, pure}
use Rattle.text.specs.ByteReaders.{byte}
use Rattle.text.specs.ReadAt.{ReadsTo, Refuses}
use Rattle.text.specs.ReadAtLaws.{byte_reads}
use Rattle.json_text.specs.Json.{Text, Json, null, truth, number, string, array, object, Elements, Members}
use Rattle.json_text.specs.Strings as Strings
use Rattle.json_text.specs.Grammar.{number_text, spelled, scalar, elements, members, value}
use Rattle.json_rule.specs.Streamed.{asked}
use Rattle.json_sheet.specs.Places.{elements_rest, members_rest}
use Rattle.json_sheet.proofs.Held.{value-other, value-opens, value-braces, flat-array, flat-object, value-nothing}

-- the byte that is read at a place, and one that is not
first-is : (b : ℕ) (s : List ℕ) (at : ℕ) (u : Unit {0}) → ReadsTo (byte b) s at u (at + 1) → get_or s at 0 ≡ b
first-is b s at u r =
    let h : at < length s = omega (arith, r.within) in
    by-test (eqb (get_or s at 0) b) (λ e. eqb-true (get_or s at 0) b e)
    (λ e. absurd (none-ne-some (u, drop (at + 1) s) (sym (rw e at (byte_reads b s at h)) ∙ r.reads)))

first-other : (b : ℕ) (s : List ℕ) (at : ℕ) → at < length s → Refuses (byte b) s at → eqb (get_or s at 0) b ≡ false
first-other b s at h r =
    by-test (eqb (get_or s at 0) b) (λ e. absurd (none-ne-some (tt, drop (at + 1) s) (sym r ∙ (rw e at (byte_reads b s at h)).reads))) (λ e. e)

module _ {B : Type 0} (f : Json → Option B) where
  -- nothing but strings, and perhaps null, is in the shape
  pub record OnOthers : Type 0 where
    pub on-truth : (b : Bool) → f (truth b) ≡ none
    pub on-number : (t : Text) → f (number t) ≡ none
    pub on-array : (vs : Elements) → f (array vs) ≡ none
    pub on-object : (ms : Members) → f (object ms) ≡ none

  never : {A : Type 0} (h : A → Json) → ((a : A) → f (h a) ≡ none) → (o : Option (A × List ℕ)) → and_then (and_then o (λ a. pure (h a))) (asked f) ≡ none
  unfolding and_then pure asked
  never h e none = refl
  never h e (some r) = rw (e r.0)

  then-asked : {A : Type 0} (h : A → Json) (o : Option (A × List ℕ)) → and_then (and_then o (λ a. pure (h a))) (asked f) ≡ and_then o (asked (λ a. f (h a)))
  unfolding and_then pure asked
  then-asked h none = refl
  then-asked h (some r) = refl

  no_value : and_then {S = List ℕ} none (asked f) ≡ none
  unfolding and_then
  no_value = refl

  module _ (d b : ℕ) (t : List ℕ) where
    plain_value : eqb b 0x5B ≡ false → eqb b 0x7B ≡ false → (value d >>= asked f) (b ∷ t) ≡ and_then (scalar (b ∷ t)) (asked f)
    unfolding ◌>>=◌
    plain_value e g = ap (λ (o : Option (Json × List ℕ)). and_then o (asked f)) (value-other d b t e g)

    string-first : b ≡ 0x22 → (value d >>= asked f) (b ∷ t) ≡ (Strings.string >>= asked (λ x. f (string x))) t
    unfolding scalar ◌>>=◌
    string-first e =
        plain_value (ne_eqb b 0x5B (λ q. absurd (omega arith))) (ne_eqb b 0x7B (λ q. absurd (omega arith))) ∙ rw (eq-eqb b 0x22 e) (then-asked string (Strings.string t))

    null-first : b ≡ 0x6E → (value d >>= asked f) (b ∷ t) ≡ (spelled (ascii "ull") >>= asked (λ u. f null)) t
    unfolding scalar ◌>>=◌ ◌>>◌
    null-first e =
        let other : eqb b 0x22 ≡ false = ne_eqb b 0x22 (λ q. absurd (omega arith)) in
        plain_value (ne_eqb b 0x5B (λ q. absurd (omega arith))) (ne_eqb b 0x7B (λ q. absurd (omega arith)))
        ∙ rw (other, eq-eqb b 0x6E e) (then-asked (λ (u : Unit {0}). null) (spelled (ascii "ull") t))

    array-never : OnOthers → b ≡ 0x5B → (value d >>= asked f) (b ∷ t) ≡ none
    unfolding ◌>>=◌ elements_rest
    array-never k e =
        by_zero d
        (λ z. ap (λ (o : Option (Json × List ℕ)). and_then o (asked f)) (flat-array d b t z e) ∙ no_value)
        (λ z. ap (λ (o : Option (Json × List ℕ)). and_then o (asked f)) (value-opens d b t z e) ∙ never array k.on-array (elements (value (d - 1)) t))
      where
        by_zero : {C : Type 0} (n : ℕ) → (n ≡ 0 → C) → ((n ≡ 0 → ⊥) → C) → C
        by_zero zero x y = x refl
        by_zero (suc n) x y = y (λ e. absurd (omega arith))

    object-never : OnOthers → b ≡ 0x7B → (value d >>= asked f) (b ∷ t) ≡ none
    unfolding ◌>>=◌ members_rest
    object-never k e =
        by_zero d
        (λ z. ap (λ (o : Option (Json × List ℕ)). and_then o (asked f)) (flat-object d b t z e) ∙ no_value)
        (λ z. ap (λ (o : Option (Json × List ℕ)). and_then o (asked f)) (value-braces d b t z e) ∙ never object k.on-object (members (value (d - 1)) t))
      where
        by_zero : {C : Type 0} (n : ℕ) → (n ≡ 0 → C) → ((n ≡ 0 → ⊥) → C) → C
        by_zero zero x y = x refl
        by_zero (suc n) x y = y (λ e. absurd (omega arith))

    scalar-none : OnOthers → eqb b 0x22 ≡ false → eqb b 0x6E ≡ false ⊎ f null ≡ none → and_then (scalar (b ∷ t)) (asked f) ≡ none
    unfolding scalar ◌>>=◌ ◌>>◌
    scalar-none k q n = rw q (by-test (eqb b 0x6E) (λ e. rw e (nulls n e)) (λ e. rw e (others (eqb b 0x74) (eqb b 0x66))))
      where
        nulls : eqb b 0x6E ≡ false ⊎ f null ≡ none → eqb b 0x6E ≡ true → and_then (and_then (spelled (ascii "ull") t) (λ u. pure null)) (asked f) ≡ none
        nulls (inl x) e = absurd (let z : ◌≡◌ {A = ℕ} 0 1 = ap (λ (v : Bool). cond v 1 0) (sym x ∙ e) in omega arith)
        nulls (inr x) e = never (λ (u : Unit {0}). null) (λ u. x) (spelled (ascii "ull") t)

        others : (x y : Bool)
            → and_then
            (cond x (and_then (spelled (ascii "rue") t) (λ u. pure (truth true)))
            (cond y (and_then (spelled (ascii "alse") t) (λ u. pure (truth false))) (and_then (number_text (b ∷ t)) (λ x. pure (number x)))))
            (asked f)
            ≡ none
        others true y = never (λ (u : Unit {0}). truth true) (λ u. k.on-truth true) (spelled (ascii "rue") t)
        others false true = never (λ (u : Unit {0}). truth false) (λ u. k.on-truth false) (spelled (ascii "alse") t)
        others false false = never number k.on-number (number_text (b ∷ t))

    other-first : OnOthers → eqb b 0x22 ≡ false → eqb b 0x6E ≡ false ⊎ f null ≡ none → (value d >>= asked f) (b ∷ t) ≡ none
    other-first k q n =
        by-test (eqb b 0x5B) (λ e. array-never k (eqb-true b 0x5B e))
        (λ e. by-test (eqb b 0x7B) (λ g. object-never k (eqb-true b 0x7B g)) (λ g. plain_value e g ∙ scalar-none k q n))

  -- the same at a place of the bytes

  module _ (s : List ℕ) (at : ℕ) (d : ℕ) where
    here : at < length s → drop at s ≡ get_or s at 0 ∷ drop (at + 1) s
    here h = rw (add-one, drop-cons s at 0 h)

    pub string-asked : {u : Unit {0}} → ReadsTo (byte 0x22) s at u (at + 1) → (value d >>= asked f) (drop at s) ≡ (Strings.string >>= asked (λ x. f (string x))) (drop (at + 1) s)
    string-asked {u} r = ap (value d >>= asked f) (here (omega (arith, r.within))) ∙ string-first d (get_or s at 0) (drop (at + 1) s) (first-is 0x22 s at u r)

    pub null-asked : {u : Unit {0}} → ReadsTo (byte 0x6E) s at u (at + 1) → (value d >>= asked f) (drop at s) ≡ (spelled (ascii "ull") >>= asked (λ u. f null)) (drop (at + 1) s)
    null-asked {u} r = ap (value d >>= asked f) (here (omega (arith, r.within))) ∙ null-first d (get_or s at 0) (drop (at + 1) s) (first-is 0x6E s at u r)

    pub other-asked : OnOthers → Refuses (byte 0x22) s at → Refuses (byte 0x6E) s at ⊎ f null ≡ none → Refuses (value d >>= asked f) s at
    unfolding ◌>>=◌
    other-asked k q n =
        by-test (leb (length s) at)
        (λ e. ap (λ (o : Option (Json × List ℕ)). and_then o (asked f)) (ap (value d) (drop_of_length-le s (leb-true (length s) at e)) ∙ value-nothing d) ∙ no_value)
        (λ e.
        let h : at < length s = leb-false (length s) at e in
        ap (value d >>= asked f) (here h) ∙ other-first d (get_or s at 0) (drop (at + 1) s) k (first-other 0x22 s at h q) (nulls h n))
      where
        nulls : at < length s → Refuses (byte 0x6E) s at ⊎ f null ≡ none → eqb (get_or s at 0) 0x6E ≡ false ⊎ f null ≡ none
        nulls h (inl x) = inl (first-other 0x6E s at h x)
        nulls h (inr x) = inr x
