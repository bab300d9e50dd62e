-- What is at a place, and which of two members comes next.
use Rattle.std.specs.Prelude.{Option, Some, None}
use Prim.Native.Nat.{ℕ, ◌+◌, ◌<◌}
use mathlib.Core.List.{List}
use mathlib.Core.Path.{◌≡◌, refl}
use native.Mathlib.Omega.{arith}
use Rattle.text.specs.Compares.{Compares}
use Rattle.text.specs.Parts.{part_of}
use Rattle.sheet.specs.declared.schema_heads.FieldHead.{FieldHead}
use Rattle.schema_change.specs.declared.place.Place.{Place}
use Rattle.schema_change.specs.declared.place.FieldEntry.{FieldEntry}
use Rattle.schema_change.specs.declared.pairing.Pairing.{Pairing}
use Rattle.schema_change.specs.declared.pairing.Pairing.TheVariants.{Neither, Missing, Added, Both}
use Rattle.sheet.specs.Places.{KnownTo, Unread, KnownFieldIs}
use Rattle.schema_change.specs.Places.{Within, Enters, EnteredIs}
use Rattle.schema_change.specs.Pairs.{NextIs, MembersFrom, pair_of, pairing_of}
use Rattle.std.specs.declared.cmp.Ordering.TheVariants.{Equal, Greater, Less}
use Rattle.std.specs.declared.cmp.Ordering.{Ordering}

-- An entry

module _ (s : List ℕ) (p : Place) {r : Option (FieldHead × ℕ)} (read : KnownFieldIs s p.at r) where
  pub enter-bad : r ≡ None → Unread s p.at
  enter-bad e = rw e at read

  pub enter-good : {h : FieldHead} {at next : ℕ} → Within s p → r ≡ Some (h, at) → next ≡ p.entry + 1
      → Enters s p (record { number = p.entry; head = h; next = record { entry = next; at = at } })
  enter-good {h} {at} w e n =
      let t : KnownTo s p.at h at = rw e at read in
      let past = t.past in
      record { number = refl; known = t; next = n; within = record { sheet = w.sheet; at = t.within; entry = omega arith } }

-- The members that are left

next-is : (s : List ℕ) (p : Place) (left : ℕ) (e : Option FieldEntry) → 0 < left → EnteredIs s p e → NextIs s p left e
next-is s p left (Some x) n h = (n, h)
next-is s p left None n h = λ _. h

pub members-ended : {s : List ℕ} {p : Place} {left : ℕ} → Within s p → left ≡ 0 → MembersFrom s p left (record { left = left; place = p; next = None })
members-ended w e = record { place = refl; count = refl; within = w; next = λ n. absurd (omega arith) }

pub members-entered : {s : List ℕ} {p : Place} {left : ℕ} {e : Option FieldEntry} → Within s p → (left ≡ 0 → ⊥) → EnteredIs s p e
    → MembersFrom s p left (record { left = left; place = p; next = e })
members-entered {s} {p} {left} {e} w n h = record { place = refl; count = refl; within = w; next = next-is s p left e (omega arith) h }

-- Two of them

module _ (first second : List ℕ) (x y : FieldEntry) {s t : List ℕ} {o : Ordering} (is : s ≡ part_of first x.head.name) (is' : t ≡ part_of second y.head.name) (c : Compares s t o) where
  pub pair-less : o ≡ Less → Missing x ≡ pair_of first x second y
  unfolding pair_of
  pair-less e = let stand = rw e at c in rw (← is, ← is', stand.behind-is, stand.same-is)

  pub pair_same : o ≡ Equal → Both x y ≡ pair_of first x second y
  unfolding pair_of
  pair_same e = let stand = rw e at c in rw (← is, ← is', stand.behind-is, stand.same-is)

  pub pair-greater : o ≡ Greater → Added y ≡ pair_of first x second y
  unfolding pair_of
  pair-greater e = let stand = rw e at c in rw (← is, ← is', stand.behind-is)

module _ (first second : List ℕ) {x y : Option FieldEntry} where
  pub pair-both : {g h : FieldEntry} {r : Pairing} → x ≡ Some g → y ≡ Some h → r ≡ pair_of first g second h → r ≡ pairing_of first x second y
  unfolding pairing_of
  pair-both e f q = rw (e, f) q

  pub pair-missing : {g : FieldEntry} → x ≡ Some g → y ≡ None → Missing g ≡ pairing_of first x second y
  unfolding pairing_of
  pair-missing e f = rw (e, f)

  pub pair-added : {h : FieldEntry} → x ≡ None → y ≡ Some h → Added h ≡ pairing_of first x second y
  unfolding pairing_of
  pair-added e f = rw (e, f)

  pub pair-neither : x ≡ None → y ≡ None → Neither ≡ pairing_of first x second y
  unfolding pairing_of
  pair-neither e f = rw (e, f)
