-- What differs is listed in the order of the first sheet: the entries of the breaches there never fall. A breach without one, a field that is added,
-- is where the order of names puts it.
use Rattle.std.specs.Prelude.{ℕ, ◌+◌, ◌≤◌, Bool, true, false, cond, List, [], ◌∷◌, ◌++◌, ◌≡◌}
use Rattle.std.proofs.Common.{append_assoc, append-nil, arith}
use Rattle.std.proofs.Math.Option.{Option, none, some}
use Rattle.text.specs.Order.{precedes, same_bytes}
use Rattle.definition.specs.Tree.{Text, Field, field, Items, absent, element, Members, no_members, member, Holder, Schema}
use Rattle.definition.specs.Decode.{decode_schema}
use Rattle.definition.specs.Within.{field_entries, items_entries, members_entries, FieldFrom, ItemsFrom, MembersFrom, ArgumentsFrom}
use Rattle.definition.proofs.RoundTrip.{schema-round-trip}
use Rattle.reference.specs.Walk.{entry_of}
use Rattle.widening.specs.Decision.{Reason, Difference, breach_if, own_differences, added, all_added, missing, sought, field_differences, items_differences, members_differences, arguments_marks, arguments_differences, differences}
use Rattle.widening.specs.Differences.{InOrder, end, growing, nowhere, at}

from-earlier : {k : ℕ} {ds : List Difference} (n : ℕ) → n ≤ k → InOrder k ds → InOrder n ds
from-earlier n l end = end
from-earlier n l (growing r) = growing (from-earlier n l r)
from-earlier n l (nowhere r) = nowhere (from-earlier n l r)
from-earlier {k} n l (at {e = e} m r) = at {n = n} {e = e} (omega arith) r

if-in-order : (b : Bool) (why : Reason) (e e' : ℕ) {rest : List Difference} → InOrder e rest → InOrder e (breach_if b why e e' ++ rest)
unfolding breach_if
if-in-order true why e e' r = at {n = e} {e = e} (omega arith) r
if-in-order false why e e' r = r

added-in-order : {n : ℕ} {rest : List Difference} (o : Bool) (f' : Field) → InOrder n rest → InOrder n (added o f' ∷ rest)
unfolding added
added-in-order true f' r = nowhere r
added-in-order false f' r = growing r

all-added-in-order : {n : ℕ} {rest : List Difference} (o : Bool) (m' : Members) → InOrder n rest → InOrder n (all_added o m' ++ rest)
unfolding all_added
all-added-in-order o no_members r = r
all-added-in-order o (member name f' m') r = added-in-order o f' (all-added-in-order o m' r)

missing-in-order : {n : ℕ} {rest : List Difference} (f : Field) → FieldFrom n f → InOrder n rest → InOrder n (missing f ∷ rest)
unfolding missing entry_of
missing-in-order {n} (field e kind o tag items members) g r = rw g.0 (at {n = n} {e = n} (omega arith) r)

step-in-order : {n : ℕ} (before same : Bool) (x y : Difference) (further here behind rest : List Difference)
    → InOrder n (x ∷ (further ++ rest))
    → InOrder n (here ++ rest)
    → InOrder n (y ∷ (behind ++ rest))
    → InOrder n (cond before (x ∷ further) (cond same here (y ∷ behind)) ++ rest)
step-in-order true same x y further here behind rest p q r = p
step-in-order false true x y further here behind rest p q r = q
step-in-order false false x y further here behind rest p q r = r

sought-in-order : {n : ℕ} (o : Bool) (name : Text) (f : Field) (found : Field → Members → List Difference) (lost : Members → List Difference) (rest : List Difference)
    → FieldFrom n f
    → ((f' : Field) (m' : Members) → InOrder n (found f' m' ++ rest))
    → ((m' : Members) → InOrder n (lost m' ++ rest))
    → (m' : Members)
    → InOrder n (sought o name f found lost m' ++ rest)
unfolding sought
sought-in-order o name f found lost rest g h k no_members = missing-in-order f g (k no_members)
sought-in-order o name f found lost rest g h k (member name' f' m') =
    step-in-order (precedes name' name) (same_bytes name name') (added o f') (missing f) _ _ _ rest
    (added-in-order o f' (sought-in-order o name f found lost rest g h k m'))
    (h f' m')
    (missing-in-order f g (k (member name' f' m')))

mutual
  unfolding field_differences items_differences members_differences own_differences field_entries items_entries members_entries

  field-in-order : (n : ℕ) (f f' : Field) (rest : List Difference) → FieldFrom n f → InOrder (n + field_entries f) rest → InOrder n (field_differences f f' ++ rest)
  field-in-order n (field e kind o tag i m) (field e' kind' o' tag' i' m') rest g r =
      simp append_assoc (rw g.0
      (if-in-order _ _ n e'
      (if-in-order _ _ n e'
      (if-in-order _ _ n e'
      (if-in-order _ _ n e'
      (from-earlier n (omega arith)
      (items-in-order (n + 1) i i' _ g.1
      (members-in-order (n + 1 + items_entries i) o m m' rest g.2 (from-earlier _ (omega arith) r)))))))))

  items-in-order : (n : ℕ) (i i' : Items) (rest : List Difference) → ItemsFrom n i → InOrder (n + items_entries i) rest → InOrder n (items_differences i i' ++ rest)
  items-in-order n absent i' rest g r = from-earlier n (omega arith) r
  items-in-order n (element f) absent rest g r = from-earlier n (omega arith) r
  items-in-order n (element f) (element f') rest g r = field-in-order n f f' rest g r

  members-in-order : (n : ℕ) (o : Bool) (m m' : Members) (rest : List Difference) → MembersFrom n m → InOrder (n + members_entries m) rest → InOrder n (members_differences o m m' ++ rest)
  members-in-order n o no_members m' rest g r = all-added-in-order o m' (from-earlier n (omega arith) r)
  members-in-order n o (member name f m) m' rest g r =
      sought-in-order o name f _ _ rest g.0
      (λ f' others'. simp append_assoc (field-in-order n f f' _ g.0 (members-in-order (n + field_entries f) o m others' rest g.1 (from-earlier _ (omega arith) r))))
      (λ left. from-earlier n (omega arith) (members-in-order (n + field_entries f) o m left rest g.1 (from-earlier _ (omega arith) r)))
      m'

marks-in-order : (x x' : Option Holder) {rest : List Difference} → InOrder 1 rest → InOrder 1 (arguments_marks x x' ++ rest)
unfolding arguments_marks
marks-in-order none none r = r
marks-in-order none (some h') r = growing r
marks-in-order (some h) none r = at {n = 1} {e = 1} (omega arith) r
marks-in-order (some h) (some h') r = if-in-order _ _ 1 1 r

arguments-in-order : (n : ℕ) (x x' : Option Holder) → ArgumentsFrom n x → InOrder n (arguments_differences x x')
unfolding arguments_differences
arguments-in-order n none x' g = end
arguments-in-order n (some h) none g = end
arguments-in-order n (some h) (some h') g =
    rw append-nil at (members-in-order n h.is_open h.members h'.members [] g end)

pub differences-in-order : (sheet : List ℕ) (s s' : Schema) → decode_schema sheet ≡ some s → InOrder 1 (differences s s')
unfolding differences
differences-in-order sheet s s' e =
    let g = ((schema-round-trip sheet s).0 e).1.numbers in
    if-in-order _ _ 1 1 (marks-in-order s.arguments s'.arguments
    (from-earlier 1 (omega arith)
    (members-in-order 2 s.fields.is_open s.fields.members s'.fields.members _ g.0
    (arguments-in-order _ s.arguments s'.arguments g.1))))
