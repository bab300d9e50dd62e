-- What is found in two lists one after the other, and what each function that hands it on finds.
use Prim.Native.Nat.{ℕ}
use mathlib.Core.Bool.{Bool, true, false, cond}
use mathlib.Core.List.{List, [], ◌∷◌, ◌++◌}
use mathlib.Core.Path.{◌≡◌, refl, ap, sym, ◌∙◌}
use Rattle.text.specs.CaseLaws.{zero-not-one}
use Rattle.widening.specs.Widening.{only, anything, marks}
use Rattle.widening.specs.Decision.{field_added, Difference, growth, breach, breach_if, Decision, widening, refuted, with_growth, decided}
use Rattle.widening.specs.Decision as Decision
use Rattle.schema_change.specs.declared.answer.Reason.{Reason}
use Rattle.schema_change.specs.declared.answer.Change.{Change}
use Rattle.schema_change.specs.declared.answer.Change.TheVariants.{Marks, Anything, Refuted}
use Rattle.schema_change.specs.Answers.{reason_of, decision_of, joined, Goes, is_open_yet}

growth-twice : (d : Decision) → with_growth (with_growth d) ≡ with_growth d
unfolding with_growth
growth-twice (widening l) = refl
growth-twice (refuted why e e') = refl

joined-grown : (a b : Decision) → joined (with_growth a) b ≡ with_growth (joined a b)
unfolding joined with_growth
joined-grown (widening (only may)) b = refl
joined-grown (widening anything) b = sym (growth-twice b)
joined-grown (refuted why e e') b = refl

decided-append : (xs ys : List Difference) → decided (xs ++ ys) ≡ joined (decided xs) (decided ys)
unfolding decided joined
decided-append [] ys = refl
decided-append (growth ∷ xs) ys = rw (decided-append xs ys) (sym (joined-grown (decided xs) (decided ys)))
decided-append (breach why e e' ∷ xs) ys = refl

joined-assoc : (a b c : Decision) → joined (joined a b) c ≡ joined a (joined b c)
unfolding joined
joined-assoc (widening (only may)) b c = refl
joined-assoc (widening anything) b c = joined-grown b c
joined-assoc (refuted why e e') b c = refl

pub goes-both : {a b c : Change} {xs ys : List Difference} → Goes a xs b → Goes b ys c → Goes a (xs ++ ys) c
goes-both {a} {b} {c} {xs} {ys} f g =
    record {
      is =
          g.is
          ∙ ap (λ (d : Decision). joined d (decided ys)) f.is
          ∙ joined-assoc (decision_of a) (decided xs) (decided ys)
          ∙ ap (λ (d : Decision). joined (decision_of a) d) (sym (decided-append xs ys));
    }

-- nothing differs
joined-nothing : (a : Change) → decision_of a ≡ joined (decision_of a) (widening marks)
unfolding joined with_growth
joined-nothing Marks = refl
joined-nothing Anything = refl
joined-nothing (Refuted why e e') = refl

pub goes-nothing : {a : Change} → Goes a [] a
unfolding decided
goes-nothing {a} = record { is = joined-nothing a }

-- a breach stays, whatever comes after it
pub goes-closed : (a : Change) (ds : List Difference) → is_open_yet a ≡ false → Goes a ds a
unfolding is_open_yet joined
goes-closed Marks ds h = zero-not-one cc
goes-closed Anything ds h = zero-not-one cc
goes-closed (Refuted why e e') ds h = record { is = refl }

pub open-or-closed : {a : Bool} → a ≡ true → a ≡ false → ⊥
open-or-closed e f = zero-not-one cc

-- after a breach nothing counts
pub goes-breach : {a b : Change} {why : Decision.Reason} {e e' : ℕ} {ds : List Difference} → Goes a (breach why e e' ∷ []) b → Goes a (breach why e e' ∷ ds) b
unfolding decided
goes-breach g = record { is = g.is }

pub refute-marks : {a : Change} {why : Reason} {e e' : ℕ} → a ≡ Marks → Goes a (breach (reason_of why) e e' ∷ []) (Refuted why e e')
unfolding decided joined
refute-marks h = record { is = rw h }

pub refute-anything : {a : Change} {why : Reason} {e e' : ℕ} → a ≡ Anything → Goes a (breach (reason_of why) e e' ∷ []) (Refuted why e e')
unfolding decided joined with_growth
refute-anything h = record { is = rw h }

pub refuted-stays : {a : Change} {why : Reason} {e e' : ℕ} (ds : List Difference) → a ≡ Refuted why e e' → Goes a ds (Refuted why e e')
unfolding joined
refuted-stays ds h = record { is = rw h }

pub grow-marks : {a : Change} → a ≡ Marks → Goes a (growth ∷ []) Anything
unfolding decided joined with_growth
grow-marks h = record { is = rw h }

pub grow-anything : {a : Change} → a ≡ Anything → Goes a (growth ∷ []) Anything
unfolding decided joined with_growth
grow-anything h = record { is = rw h }

pub refute-if-so : {a r : Change} {b : Bool} (why : Reason) (e e' : ℕ) → b ≡ true → Goes a (breach (reason_of why) e e' ∷ []) r → Goes a (breach_if b (reason_of why) e e') r
unfolding breach_if
refute-if-so why e e' h g = rw h g

pub refute-if-not : {a : Change} {b : Bool} (why : Reason) (e e' : ℕ) → b ≡ false → Goes a (breach_if b (reason_of why) e e') a
unfolding breach_if
refute-if-not why e e' h = rw h goes-nothing

-- a field that the first schema lacks
pub added-breach : {a r : Change} {o : Bool} {e : ℕ} → o ≡ true → Goes a (breach field_added 0 e ∷ []) r → Goes a (cond o (breach field_added 0 e) growth ∷ []) r
added-breach h g = rw h g

pub added-grows : {a r : Change} {o : Bool} (e : ℕ) → o ≡ false → Goes a (growth ∷ []) r → Goes a (cond o (breach field_added 0 e) growth ∷ []) r
added-grows e h g = rw h g

pub open-marks : {a : Change} → a ≡ Marks → true ≡ is_open_yet a
unfolding is_open_yet
open-marks h = rw h

pub open-anything : {a : Change} → a ≡ Anything → true ≡ is_open_yet a
unfolding is_open_yet
open-anything h = rw h

pub shut-refuted : {a : Change} {why : Reason} {e e' : ℕ} → a ≡ Refuted why e e' → false ≡ is_open_yet a
unfolding is_open_yet
shut-refuted h = rw h

-- Where no breach was found, there is none in what was gone through

unfoldable pub is_widening : Decision → Bool
is_widening (widening l) = true
is_widening (refuted why e e') = false

abbrev pub Breachless : List Difference → Type 0
Breachless ds = is_widening (decided ds) ≡ true

open-widening : (a : Change) → is_open_yet a ≡ is_widening (decision_of a)
unfolding is_open_yet is_widening
open-widening Marks = refl
open-widening Anything = refl
open-widening (Refuted why e e') = refl

joined-behind : (a b : Decision) → is_widening (joined a b) ≡ true → is_widening b ≡ true
unfolding joined with_growth is_widening
joined-behind (widening (only may)) b e = e
joined-behind (widening anything) (widening l) e = refl
joined-behind (widening anything) (refuted why k k') e = e
joined-behind (refuted why k k') b e = zero-not-one cc

joined-before : (a b : Decision) → is_widening (joined a b) ≡ true → is_widening a ≡ true
unfolding joined is_widening
joined-before (widening l) b e = refl
joined-before (refuted why k k') b e = e

pub open-found : {a r : Change} {ds : List Difference} → Goes a ds r → is_open_yet r ≡ true → Breachless ds
open-found {a} {r} {ds} g o = joined-behind (decision_of a) (decided ds) (rw g.is at (sym (open-widening r) ∙ o))

pub open-before : (xs ys : List Difference) → Breachless (xs ++ ys) → Breachless xs
open-before xs ys e = joined-before (decided xs) (decided ys) (rw (decided-append xs ys) at e)

pub open-behind : (xs ys : List Difference) → Breachless (xs ++ ys) → Breachless ys
open-behind xs ys e = joined-behind (decided xs) (decided ys) (rw (decided-append xs ys) at e)

pub open-breachless : (b : Bool) (why : Decision.Reason) (e e' : ℕ) → Breachless (breach_if b why e e') → b ≡ false
unfolding breach_if decided is_widening
open-breachless true why e e' h = zero-not-one cc
open-breachless false why e e' h = refl

pub breach-closes : {a r : Change} {why : Decision.Reason} {e e' : ℕ} {ds : List Difference} → Goes a (breach why e e' ∷ ds) r → is_open_yet r ≡ true → ⊥
unfolding decided is_widening
breach-closes g o = let h = open-found g o in zero-not-one cc
