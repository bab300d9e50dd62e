-- Members by their places, from 0, and the search that halves.
use Rattle.std.specs.Prelude.{Some, None}
use Prim.Native.Nat.{ℕ, zero, suc, ◌+◌, ◌≤◌, ◌<◌}
use mathlib.Core.Bool.{Bool, true, false}
use mathlib.Core.List.{List}
use mathlib.Core.Option.{Option, none, some}
use mathlib.Core.Path.{◌≡◌, refl, sym, ◌∙◌}
use mathlib.Core.Logic.{⊎_elim}
use native.Mathlib.Omega.{arith}
use native.Mathlib.Nat.{eq-or-lt_of_le}
use lib.Dec.{ltb}
use borrow.Author.Tests.{ltb-true, ltb-false}
use Rattle.text.specs.CaseLaws.{by-test}
use Rattle.text.specs.Parts.{part_of}
use Rattle.text.specs.Order.{precedes, same_bytes}
use Rattle.text.specs.OrderLaws.{same_bytes-equal, same_bytes-refl, same_bytes-symmetric, precedes-transitive, precedes-differs}
use Rattle.definition.specs.Tree as Tree
use Rattle.definition.specs.Tree.{Text, Field, Members, no_members, member}
use Rattle.definition.specs.Within.{FieldRises, MembersRise}
use Rattle.definition.proofs.RisingLaws.{AllBehind, rising-behind}
use Rattle.definition.specs.Write.{count_of_members}
use Rattle.reference.specs.Walk.{lookup}
use Rattle.schema.specs.Index.{max_slots, slot_name, below, below_members, FieldAt, MembersAt}
use Rattle.schema.specs.IndexLaws.{slot-named}
use Rattle.schema.specs.Slot.{HolderAt}
use Rattle.schema.specs.Lookup.{FoundAt, LookedUp}
use Rattle.schema.specs.declared.index.Holder.{Holder}

-- the `i`-th member
abbrev pub IsMember : ℕ → Members → Text → Field → Type 0
IsMember i no_members name f = ⊥
IsMember zero (member n g others) name f = (n ≡ name) × (g ≡ f)
IsMember (suc i) (member n g others) name f = IsMember i others name f

pub record MemberAt (s w : List ℕ) (k i : ℕ) (members : Members) (top : ℕ) : Type 0 where
  pub name : Text
  pub f : Field
  pub low : ℕ
  pub is : IsMember i members name f
  pub indexed : FieldAt s w (k + i) low name f
  pub room : low + below f ≤ top

pub member-at : (s w : List ℕ) (k low i : ℕ) (members : Members) (top : ℕ) → i < count_of_members members → low + below_members members ≤ top → MembersAt s w k low members → MemberAt s w k i members top
unfolding count_of_members below_members
member-at s w k low i no_members top h l m = absurd (omega arith)
member-at s w k low zero (member name f others) top h l m =
    let e : k + 0 ≡ k = omega arith in
    record { name = name; f = f; low = low; is = (refl, refl); indexed = rw e m.0; room = omega arith }
member-at s w k low (suc i) (member name f others) top h l m =
    let r = member-at s w (k + 1) (low + below f) i others top (omega arith) (omega arith) m.1 in
    let e : k + suc i ≡ k + 1 + i = omega arith in
    record { name = r.name; f = r.f; low = r.low; is = r.is; indexed = rw e r.indexed; room = r.room }

member-same : (i : ℕ) (members : Members) (n m : Text) (f g : Field) → IsMember i members n f → IsMember i members m g → n ≡ m
member-same i no_members n m f g p q = absurd p
member-same zero (member name e others) n m f g p q = sym p.0 ∙ q.0
member-same (suc i) (member name e others) n m f g p q = member-same i others n m f g p q

member-behind : (i : ℕ) (first : Text) (members : Members) (n : Text) (f : Field) → AllBehind first members → IsMember i members n f → precedes first n ≡ true
member-behind i first no_members n f b p = absurd p
member-behind zero first (member name e others) n f b p = rw (← p.0) b.0
member-behind (suc i) first (member name e others) n f b p = member-behind i first others n f b.1 p

member-rises : (before : Option Text) (i : ℕ) (members : Members) (n : Text) (f : Field) → MembersRise before members → IsMember i members n f → FieldRises f
member-rises before i no_members n f r p = absurd p
member-rises before zero (member name e others) n f r p = rw (← p.1) r.1
member-rises before (suc i) (member name e others) n f r p = member-rises (some name) i others n f r.2 p

-- an earlier member comes before a later one
members-ordered : (before : Option Text) (i j : ℕ) (members : Members) (n m : Text) (f g : Field) → MembersRise before members → i < j
    → IsMember i members n f → IsMember j members m g → precedes n m ≡ true
members-ordered before i j no_members n m f g r h p q = absurd p
members-ordered before zero zero (member name e others) n m f g r h p q = absurd (omega arith)
members-ordered before (suc i) zero (member name e others) n m f g r h p q = absurd (omega arith)
members-ordered before zero (suc j) (member name e others) n m f g r h p q =
    rw (← p.0) (member-behind j name others m g (rising-behind name others r.2) q)
members-ordered before (suc i) (suc j) (member name e others) n m f g r h p q =
    members-ordered (some name) i j others n m f g r.2 (omega arith) p q

member-found : (before : Option Text) (i : ℕ) (members : Members) (n : Text) (f : Field) → MembersRise before members → IsMember i members n f → lookup n members ≡ some f
unfolding lookup
member-found before i no_members n f r p = absurd p
member-found before zero (member name e others) n f r p = rw (p.0, same_bytes-refl n, p.1)
member-found before (suc i) (member name e others) n f r p =
    rw (precedes-differs name n (member-behind i name others n f (rising-behind name others r.2) p)) (member-found (some name) i others n f r.2 p)

member-missing : (members : Members) (name : Text) → ((i : ℕ) (n : Text) (f : Field) → IsMember i members n f → same_bytes n name ≡ false) → lookup name members ≡ none
unfolding lookup
member-missing no_members name h = refl
member-missing (member n f others) name h =
    rw (h 0 n f (refl, refl)) (member-missing others name (λ i m g p. h (suc i) m g p))

-- Only members from `low` up to `high` may have the name

pub record Between (members : Members) (name : Text) (low high : ℕ) : Type 0 where
  pub lower : (i : ℕ) (n : Text) (f : Field) → i < low → IsMember i members n f → precedes n name ≡ true
  pub upper : (i : ℕ) (n : Text) (f : Field) → high ≤ i → IsMember i members n f → precedes name n ≡ true

is-below : (i : ℕ) (members : Members) (n : Text) (f : Field) → IsMember i members n f → i < count_of_members members
unfolding count_of_members
is-below i no_members n f p = absurd p
is-below zero (member name g others) n f p = omega arith
is-below (suc i) (member name g others) n f p = omega (arith, is-below i others n f p)

pub between-all : (members : Members) (name : Text) → Between members name 0 (count_of_members members)
between-all members name =
    record {
      lower = λ i n f h p. absurd (omega arith);
      upper = λ i n f h p. absurd (omega (arith, is-below i members n f p));
    }

module _ (members : Members) (name : Text) (low high : ℕ) (b : Between members name low high) where
  pub between_none : high ≤ low → lookup name members ≡ none
  between_none h =
      member-missing members name λ i n f p.
      by-test (ltb i low)
      (λ q. precedes-differs n name (b.lower i n f (ltb-true i low q) p))
      (λ q. same_bytes-symmetric n name ∙ precedes-differs name n (b.upper i n f (omega (arith, ltb-false i low q)) p))

  module _ (rises : MembersRise none members) (middle : ℕ) (n : Text) (f : Field) (here : IsMember middle members n f) where
    pub between_lower : precedes n name ≡ true → Between members name (middle + 1) high
    between_lower e =
        record {
          lower = λ i m g h p.
              ⊎_elim (λ (q : i ≡ middle). rw (member-same middle members m n g f (rw q at p) here) e)
              (λ (q : i < middle). precedes-transitive m n name (members-ordered none i middle members m n g f rises q p here) e)
              (eq-or-lt_of_le (omega arith));
          upper = b.upper;
        }

    pub between-upper : precedes name n ≡ true → Between members name low middle
    between-upper e =
        record {
          lower = b.lower;
          upper = λ i m g h p.
              ⊎_elim (λ (q : middle ≡ i). rw (member-same middle members m n g f (rw (← q) at p) here) e)
              (λ (q : middle < i). precedes-transitive name n m e (members-ordered none middle i members n m f g rises q here p))
              (eq-or-lt_of_le h);
        }

-- the member that has the name
pub found_at : (s w : List ℕ) (k i : ℕ) (members : Members) (name : Text) → MembersRise none members → k + i < max_slots → (m : MemberAt s w k i members max_slots) → same_bytes m.name name ≡ true
    → FoundAt s w name members (k + i)
found_at s w k i members name rises slot m e =
    let q = same_bytes-equal m.name name e in
    record {
      f = m.f;
      found = rw (← q) (member-found none i members m.name m.f rises m.is);
      holds =
          record {
            name = m.name;
            low = m.low;
            indexed = m.indexed;
            rises = member-rises none i members m.name m.f rises m.is;
            slot = slot;
            room = m.room;
          };
    }

-- The name that a slot leads to

-- What is left of the `count` members in the slots from `first` on

pub record Narrowed (s w : List ℕ) (first count : ℕ) (name : Text) (low high : ℕ) : Type 0 where
  pub ordered : low ≤ high
  pub within : high ≤ count
  pub between : (o : Bool) (t : Tree.Holder) → HolderAt s w (record { opened = o; first = first; count = count }) t → Between t.members name low high

pub narrowed_none : (s w : List ℕ) (first count : ℕ) (name : Text) → Narrowed s w first count name 0 count
narrowed_none s w first count name =
    record { ordered = omega arith; within = omega arith; between = λ o t h. rw (← h.counted) (between-all t.members name) }

-- what would reach past the last slot is no holder
pub holder-past : (s w : List ℕ) (h : Holder) (name : Text) → max_slots < h.first + h.count → LookedUp s w h name None
holder-past s w h name past t here = absurd (omega arith)

module _ (s w : List ℕ) (first count : ℕ) (name : Text) (low high : ℕ) (narrowed : Narrowed s w first count name low high) where
  pub narrowed-all : (o : Bool) → high ≤ low → LookedUp s w (record { opened = o; first = first; count = count }) name None
  narrowed-all o e t h = between_none t.members name low high (narrowed.between o t h) e

  module _ (middle : ℕ) (lower : low ≤ middle) (upper : middle < high) where
    middle-at : (o : Bool) (t : Tree.Holder) → HolderAt s w (record { opened = o; first = first; count = count }) t → MemberAt s w first middle t.members max_slots
    middle-at o t h =
        let n = h.counted in
        member-at s w first h.low middle t.members max_slots (omega arith) h.room h.indexed

    middle-named : (o : Bool) (t : Tree.Holder) (h : HolderAt s w (record { opened = o; first = first; count = count }) t)
        → part_of s (slot_name w (first + middle)) ≡ (middle-at o t h).name
    middle-named o t h =
        let p = middle-at o t h in
        slot-named s w (first + middle) p.low p.name p.f p.indexed

    pub narrowed-lower : precedes (part_of s (slot_name w (first + middle))) name ≡ true → Narrowed s w first count name (middle + 1) high
    narrowed-lower e =
        record {
          ordered = omega arith;
          within = narrowed.within;
          between = λ o t h.
              let p = middle-at o t h in
              between_lower t.members name low high (narrowed.between o t h) h.rises middle p.name p.f p.is (rw (middle-named o t h) at e);
        }

    pub narrowed-upper : precedes name (part_of s (slot_name w (first + middle))) ≡ true → Narrowed s w first count name low middle
    narrowed-upper e =
        record {
          ordered = lower;
          within = omega arith;
          between = λ o t h.
              let p = middle-at o t h in
              between-upper t.members name low high (narrowed.between o t h) h.rises middle p.name p.f p.is (rw (middle-named o t h) at e);
        }

    pub narrowed-found : (o : Bool) → same_bytes (part_of s (slot_name w (first + middle))) name ≡ true
        → LookedUp s w (record { opened = o; first = first; count = count }) name (Some (first + middle))
    narrowed-found o e t h =
        let slots = h.slots in
        let within = narrowed.within in
        found_at s w first middle t.members name h.rises (omega arith) (middle-at o t h) (rw (middle-named o t h) at e)
