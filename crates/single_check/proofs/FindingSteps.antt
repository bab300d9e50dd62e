-- Number, family and detail of a fault, and what a quantifier's body makes of them.
use Rattle.std.specs.Prelude.{Option, Some}
use Prim.Native.Nat.{ℕ}
use mathlib.Core.Bool.{Bool}
use mathlib.Core.Path.{◌≡◌}
use borrow.Author.Tests.{eq-eqb, ne_eqb}
use Rattle.reference.specs.Setting.{Setting}
use Rattle.validation.specs.Result.{own_family, family_in, over_place_in}
use Rattle.value_checks.specs.Verdicts.{number_of, detail_of, over_by}
use Rattle.value_checks.specs.declared.verdict.Fault.{Fault}
use Rattle.single_check.specs.Findings.{FindingIs}
use Rattle.single_check.specs.declared.finding.Finding.{Finding}

pub family-body : {over : Option ℕ} {e family : ℕ} → over ≡ Some e → family ≡ 1 → 8 ≡ family_in (over_by over) family
unfolding family_in over_by
family-body {family = family} h g = rw (h, eq-eqb family 1 g)

pub family-own : {over : Option ℕ} {e family : ℕ} → over ≡ Some e → (family ≡ 1 → ⊥) → family ≡ family_in (over_by over) family
unfolding family_in over_by
family-own {family = family} h g = rw (h, ne_eqb family 1 g)

pub place-body : {over : Option ℕ} {e family : ℕ} → over ≡ Some e → family ≡ 1 → e ≡ over_place_in (over_by over) family
unfolding over_place_in over_by
place-body {family = family} h g = rw (h, eq-eqb family 1 g)

pub place_none : {over : Option ℕ} {e family : ℕ} → over ≡ Some e → (family ≡ 1 → ⊥) → 0 ≡ over_place_in (over_by over) family
unfolding over_place_in over_by
place_none {family = family} h g = rw (h, ne_eqb family 1 g)

-- what the match on a fault says is right if it is right for that fault
pub finding-of : {k : Bool} {x fault : Fault} {n m d : ℕ} {r : Finding}
    → fault ≡ x
    → r ≡ record { number = n; family = m; detail = d }
    → n ≡ number_of x
    → ((setting : Setting) → k ≡ setting.is_rule_kind → m ≡ own_family setting (number_of x))
    → d ≡ detail_of x
    → FindingIs k fault r
finding-of h e p q t = rw (h, e) (record { number = p; family = q; detail = t })
