-- What is summed up over members: a field more adds its share, and without a field there is not more.
use Rattle.std.specs.Prelude.{ℕ, ◌+◌, ◌≤◌, Bool, cond, ◌≡◌, refl, length}
use native.Mathlib.Omega.{arith}
use Rattle.std.proofs.Math.Bool.{true, false}
use Rattle.std.proofs.Common.{length-append}
use Rattle.text.specs.Order.{precedes, same_bytes}
use Rattle.definition.specs.Tree.{Text, Field, Members, no_members, member}
use Rattle.definition.specs.Write.{count_of_members, write_field, write_members}
use Rattle.definition.specs.Within.{field_entries, members_entries}
use Rattle.field_changes.specs.Change.{inserted, without}

module _ (sum : Members → ℕ) (share : Text → Field → ℕ) (sums : (n : Text) (g : Field) (m : Members) → sum (member n g m) ≡ share n g + sum m) where
  pub inserted-sum : (name : Text) (f : Field) (m : Members) → sum (inserted name f m) ≡ share name f + sum m
  unfolding inserted
  inserted-sum name f no_members = sums name f no_members
  inserted-sum name f (member n g m) = at (precedes name n) (inserted-sum name f m)
    where
      at : (x : Bool) → sum (inserted name f m) ≡ share name f + sum m
          → sum (cond x (member name f (member n g m)) (member n g (inserted name f m))) ≡ share name f + sum (member n g m)
      at true e = sums name f (member n g m)
      at false e = omega (arith, sums n g (inserted name f m), sums n g m)

  pub without-sum : (name : Text) (m : Members) → sum (without name m) ≤ sum m
  unfolding without
  without-sum name no_members = omega arith
  without-sum name (member n g m) = at (same_bytes n name) (without-sum name m)
    where
      at : (x : Bool) → sum (without name m) ≤ sum m → sum (cond x m (member n g (without name m))) ≤ sum (member n g m)
      at true e = omega (arith, sums n g m)
      at false e = omega (arith, sums n g m, sums n g (without name m))

-- members, entries and bytes

pub counts-sum : (n : Text) (g : Field) (m : Members) → count_of_members (member n g m) ≡ 1 + count_of_members m
unfolding count_of_members
counts-sum n g m = omega arith

pub entries-sum : (n : Text) (g : Field) (m : Members) → members_entries (member n g m) ≡ field_entries g + members_entries m
unfolding members_entries
entries-sum n g m = refl

pub bytes-sum : (n : Text) (g : Field) (m : Members) → length (write_members (member n g m)) ≡ length (write_field n g) + length (write_members m)
unfolding write_members
bytes-sum n g m = length-append (write_field n g) (write_members m)
