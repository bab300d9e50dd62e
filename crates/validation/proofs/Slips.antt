-- What is not a widening, each with sheets on which demand 3 would fail: the first call accepts, and the second finds a defect.
use Prim.Native.Nat.{ℕ, suc, ◌+◌, ◌≤◌}
use native.Mathlib.Omega.{arith}
use mathlib.Core.Bool.{Bool, true}
use mathlib.Core.List.{List}
use mathlib.Core.Option.{Option, none, some}
use mathlib.Core.Path.{◌≡◌, refl}
use Rattle.text.specs.Ascii.{ascii}
use Rattle.text.specs.CaseLaws.{zero-not-one}
use Rattle.definition.specs.Tree.{Text, Field, field, Items, absent, element, Members, no_members, member, Holder, Schema}
use Rattle.definition.specs.Decode.{decode_schema}
use Rattle.widening.specs.Widening.{Level, MayGrow, closed, WiderField, wider, WiderItems, neither, both, WiderMembers, end, keep, more, WiderArguments, without, appear, stay, WiderSchema}
use Rattle.validation.specs.Result.{Call, Numbers, numbers_of, result_of}
use Rattle.validation.specs.Growth.{against, Widens}
use Rattle.validation.proofs.Demands.{Demand3}
use Rattle.validation.proofs.Calls.{ask, heard, accepts, finds}
use Rattle.validation.proofs.Runs.{exact_run}

-- a call, and the same against another schema that is no widening, and to which the demand does not extend
pub record Slips (c : Call) (schema' : List ℕ) (passed : ℕ) (second : Numbers × Text) : Type 0 where
  pub before : heard c ≡ accepts passed
  pub after : heard (against c c.table schema' c.lent) ≡ second
  pub no_demand : (l : Level) → Demand3 l (exact_run c) (exact_run (against c c.table schema' c.lent)) → ⊥
  pub no_widening : (l : Level) → Widens l c.schema schema' → ⊥

no-demand : {l : Level} (c c' : Call) (k : ℕ)
    → (numbers_of (result_of c)).number ≡ 0
    → (numbers_of (result_of c')).number ≡ suc k
    → Demand3 l (exact_run c) (exact_run c')
    → ⊥
unfolding exact_run
no-demand c c' k e e' demand = omega (arith, e', (demand.accepts e).0)

no-widening : {l : Level} {sheet sheet' : List ℕ} (s s' : Schema)
    → decode_schema sheet ≡ some s
    → decode_schema sheet' ≡ some s'
    → (WiderSchema l s s' → ⊥)
    → Widens l sheet sheet'
    → ⊥
no-widening {l} s s' e e' h w =
    let same : w.first ≡ s = cc w.decodes_first in
    let same' : w.second ≡ s' = cc w.decodes_second in
    h (rw same at (rw same' at w.is_wider))

unfoldable size : Members → ℕ
size no_members = 0
size (member name f m) = 1 + size m

unfoldable kind_of : Field → ℕ
kind_of (field e kind o tag i m) = kind

unfoldable items_of : Field → Items
items_of (field e kind o tag i m) = i

unfoldable elements : Items → ℕ
elements absent = 0
elements (element f) = 1

unfoldable holders : Option Holder → ℕ
holders none = 0
holders (some h) = 1

kind-kept : {l : Level} {f f' : Field} → WiderField l f f' → kind_of f ≡ kind_of f'
unfolding kind_of
kind-kept (wider p i m) = refl

elements-kept : {l : Level} {i i' : Items} → WiderItems l i i' → elements i ≡ elements i'
unfolding elements
elements-kept neither = refl
elements-kept (both w) = refl

items_kept : {l : Level} {f f' : Field} → WiderField l f f' → WiderItems l (items_of f) (items_of f')
unfolding items_of
items_kept (wider p i m) = i

holders-stay : {l : Level} {x x' : Option Holder} → WiderArguments l x x' → holders x ≤ holders x'
unfolding holders
holders-stay without = omega arith
holders-stay appear = omega arith
holders-stay (stay w) = omega arith

size-grows : {l : Level} {o : Bool} {m m' : Members} → WiderMembers l o m m' → size m ≤ size m'
unfolding size
size-grows end = omega arith
size-grows (keep w ws) = omega (arith, size-grows ws)
size-grows (more g ws) = omega (arith, size-grows ws)

may-grow-closed : {l : Level} {o : Bool} → MayGrow l o → o ≡ true → ⊥
may-grow-closed closed e = zero-not-one cc

-- an open holder holds what it held
open-keeps : {l : Level} {o : Bool} {m m' : Members} → WiderMembers l o m m' → o ≡ true → size m ≡ size m'
unfolding size
open-keeps end e = refl
open-keeps (keep w ws) e = omega (arith, open-keeps ws e)
open-keeps (more g ws) e = absurd (may-grow-closed g e)

-- one field for one field of that name
only-member : {l : Level} {o : Bool} {name name' : Text} {f f' : Field}
    → WiderMembers l o (member name f no_members) (member name' f' no_members)
    → WiderField l f f'
unfolding size
only-member (keep w ws) = w
only-member (more g ws) = absurd (omega (arith, size-grows ws))

-- a change of kind to json: a quantifier may walk the one and not the other
pub to-json : Slips
    (ask 1 2 (ascii "H,0,1,-,0\nF,6,0,0,0,1,-,a\n") (ascii "R,-,-,\nC,20,1,b\nV,5,9,$fields.a\nC,19,0,\nV,5,2,$b\n"))
    (ascii "H,0,1,-,0\nF,8,0,0,0,1,-,a\n")
    9
    (finds 22 7 4 2 0 6 16 (ascii "r.assert.for_all"))
unfolding heard kind_of
to-json =
    record {
      before = refl;
      after = refl;
      no_demand = λ l. no-demand _ _ _ refl refl;
      no_widening = λ l. no-widening _ _ refl refl (λ w. omega (arith, kind-kept (only-member w.fields.members)));
    }

-- a field that is added under an open holder: what was free there is held to the field
pub under-open : Slips
    (ask 1 2 (ascii "H,1,0,-,0\n") (ascii "R,-,-,\nC,5,0,\nV,5,11,$fields.a.x\n"))
    (ascii "H,1,1,-,0\nF,2,0,0,0,1,-,a\n")
    5
    (finds 18 1 10 3 0 4 15 (ascii "r.assert.exists"))
unfolding heard size
under-open =
    record {
      before = refl;
      after = refl;
      no_demand = λ l. no-demand _ _ _ refl refl;
      no_widening = λ l. no-widening _ _ refl refl (λ w. omega (arith, open-keeps w.fields.members refl));
    }

-- items that are added: what was free there is held to the element
pub added-items : Slips
    (ask 1 2 (ascii "H,0,1,-,0\nF,6,0,0,0,1,-,a\n") (ascii "R,-,-,\nC,5,0,\nV,5,13,$fields.a.0.x\n"))
    (ascii "H,0,1,-,0\nF,6,0,1,0,1,-,a\nF,2,0,0,0,0,-,\n")
    5
    (finds 18 1 10 3 0 4 15 (ascii "r.assert.exists"))
unfolding heard elements items_of
added-items =
    record {
      before = refl;
      after = refl;
      no_demand = λ l. no-demand _ _ _ refl refl;
      no_widening = λ l. no-widening _ _ refl refl (λ w. omega (arith, elements-kept (items_kept (only-member w.fields.members))));
    }

-- arguments that are taken away
pub arguments-gone : Slips
    (ask 2 2 (ascii "H,0,0,0,1\nF,2,0,0,0,1,-,a\n") (ascii "R,-,-,\nC,5,0,\nV,5,7,$args.a\n"))
    (ascii "H,0,0,-,0\n")
    5
    (finds 18 1 11 3 0 4 15 (ascii "r.assert.exists"))
unfolding heard holders
arguments-gone =
    record {
      before = refl;
      after = refl;
      no_demand = λ l. no-demand _ _ _ refl refl;
      no_widening = λ l. no-widening _ _ refl refl (λ w. omega (arith, holders-stay w.arguments));
    }
