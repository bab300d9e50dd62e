-- Members side by side, by which of the two comes next.
use Rattle.std.specs.Prelude.{Option as Optional, Some, None}
use Prim.Native.Nat.{ℕ, zero, suc, ◌+◌, ◌-◌, ◌≤◌, ◌<◌}
use mathlib.Core.Bool.{Bool, true, false, cond}
use mathlib.Core.List.{List, [], ◌∷◌, ◌++◌}
use mathlib.Core.Option.{Option, some}
use mathlib.Core.Path.{◌≡◌, refl, sym, ap, ◌∙◌}
use native.Mathlib.Omega.{arith}
use Rattle.text.specs.Order.{precedes, same_bytes}
use Rattle.text.specs.Parts.{part_of}
use Rattle.text.specs.CaseLaws.{zero-not-one}
use Rattle.sheet.specs.Entries.{max_count}
use Rattle.sheet.specs.declared.schema_heads.HolderHead.{HolderHead}
use Rattle.definition.specs.Tree.{Text, Field, Members, no_members, member}
use Rattle.definition.specs.Decode.{Ahead, members_of, field_in}
use Rattle.widening.specs.Decision.{field_missing, field_added, Difference, growth, breach, missing, added, all_added, sought, field_differences, members_differences}
use Rattle.schema_change.specs.declared.answer.Change.{Change}
use Rattle.schema_change.specs.declared.place.Place.{Place}
use Rattle.schema_change.specs.declared.place.FieldEntry.{FieldEntry}
use Rattle.schema_change.specs.declared.pairing.Members as Left
use Rattle.schema_change.specs.declared.pairing.Pairing.{Pairing}
use Rattle.schema_change.specs.declared.pairing.Pairing.TheVariants.{Neither, Missing, Added, Both}
use Rattle.schema_change.specs.declared.field.Going.{Going}
use Rattle.schema_change.specs.Answers.{Goes, is_open_yet}
use Rattle.schema_change.specs.Places.{Within, Arrived, Reads, SkipsTo}
use Rattle.schema_change.specs.Pairs.{NextIs, MembersFrom, pair_of, pairing_of}
use Rattle.schema_change.specs.Fields.{going_at, FieldsGo, MembersGo}
use Rattle.schema_change.proofs.Joins.{goes-both, goes-nothing, goes-closed, goes-breach, open-or-closed, breach-closes}
use Rattle.schema_change.proofs.Behind.{field-none, field-behind, members-none, members-first}
use Rattle.schema_change.proofs.FieldLaws.{entry_read}

-- Which entries a pairing has

-- by the two tests that `pair_of` makes
module _ (g h : FieldEntry) where
  unlike : (b c : Bool) → Neither ≡ cond b (Added h) (cond c (Both g h) (Missing g)) → ⊥
  unlike true c e = zero-not-one cc
  unlike false true e = zero-not-one cc
  unlike false false e = zero-not-one cc

  tests-missing : {x : FieldEntry} (b c : Bool) → Missing x ≡ cond b (Added h) (cond c (Both g h) (Missing g)) → (g ≡ x) × (b ≡ false) × (c ≡ false)
  tests-missing true c e = zero-not-one cc
  tests-missing false true e = zero-not-one cc
  tests-missing false false e = (cc, refl, refl)

  tests-added : {x : FieldEntry} (b c : Bool) → Added x ≡ cond b (Added h) (cond c (Both g h) (Missing g)) → (h ≡ x) × (b ≡ true)
  tests-added true c e = (cc, refl)
  tests-added false true e = zero-not-one cc
  tests-added false false e = zero-not-one cc

  tests-both : {x y : FieldEntry} (b c : Bool) → Both x y ≡ cond b (Added h) (cond c (Both g h) (Missing g)) → (g ≡ x) × (h ≡ y) × (b ≡ false) × (c ≡ true)
  tests-both true c e = zero-not-one cc
  tests-both false true e = (cc, cc, refl, refl)
  tests-both false false e = zero-not-one cc

-- what is there is the first of the members, if there is one
abbrev Named : List ℕ → Optional FieldEntry → Members → Type 0
Named s None no_members = Unit {0}
Named s None (member name f others) = ⊥
Named s (Some x) no_members = ⊥
Named s (Some x) (member name f others) = name ≡ part_of s x.head.name

module _ (first second : List ℕ) (o : Bool) where
  abbrev before : FieldEntry → FieldEntry → Bool
  before g h = precedes (part_of second h.head.name) (part_of first g.head.name)

  abbrev same : FieldEntry → FieldEntry → Bool
  same g h = same_bytes (part_of first g.head.name) (part_of second h.head.name)

  is-neither : (e e' : Optional FieldEntry) → Neither ≡ pairing_of first e second e' → (e ≡ None) × (e' ≡ None)
  unfolding pairing_of pair_of
  is-neither None None q = (refl, refl)
  is-neither None (Some h) q = zero-not-one cc
  is-neither (Some g) None q = zero-not-one cc
  is-neither (Some g) (Some h) q = absurd (unlike g h (before g h) (same g h) q)

  is-missing : (e e' : Optional FieldEntry) {x : FieldEntry} → Missing x ≡ pairing_of first e second e' → e ≡ Some x
  unfolding pairing_of pair_of
  is-missing None None q = zero-not-one cc
  is-missing None (Some h) q = zero-not-one cc
  is-missing (Some g) None q = cc
  is-missing (Some g) (Some h) q = ap Some (tests-missing g h (before g h) (same g h) q).0

  is-added : (e e' : Optional FieldEntry) {y : FieldEntry} → Added y ≡ pairing_of first e second e' → e' ≡ Some y
  unfolding pairing_of pair_of
  is-added None None q = zero-not-one cc
  is-added None (Some h) q = cc
  is-added (Some g) None q = zero-not-one cc
  is-added (Some g) (Some h) q = ap Some (tests-added g h (before g h) (same g h) q).0

  is-both : (e e' : Optional FieldEntry) {x y : FieldEntry} → Both x y ≡ pairing_of first e second e' → (e ≡ Some x) × (e' ≡ Some y)
  unfolding pairing_of pair_of
  is-both None None q = zero-not-one cc
  is-both None (Some h) q = zero-not-one cc
  is-both (Some g) None q = zero-not-one cc
  is-both (Some g) (Some h) q = let t = tests-both g h (before g h) (same g h) q in (ap Some t.0, ap Some t.1)

  -- and what differs then
  differs-missing : (e e' : Optional FieldEntry) {x : FieldEntry} (name : Text) (f : Field) (others m' : Members) → Missing x ≡ pairing_of first e second e' → Named first e (member name f others) → Named second e' m'
      → (ds : List Difference) × (members_differences o (member name f others) m' ≡ missing f ∷ ds)
  unfolding pairing_of pair_of members_differences sought
  differs-missing None e' name f others m' q n n' = absurd n
  differs-missing (Some g) None name f others no_members q n n' = (_, refl)
  differs-missing (Some g) None name f others (member name' f' others') q n n' = absurd n'
  differs-missing (Some g) (Some h) name f others no_members q n n' = absurd n'
  differs-missing (Some g) (Some h) name f others (member name' f' others') q n n' =
      let t = tests-missing g h (before g h) (same g h) q in
      (members_differences o others (member name' f' others'), rw (n, n', t.1, t.2) refl)

  differs-added : (e e' : Optional FieldEntry) {y : FieldEntry} (m : Members) (name' : Text) (f' : Field) (others' : Members) → Added y ≡ pairing_of first e second e' → Named first e m → Named second e' (member name' f' others')
      → members_differences o m (member name' f' others') ≡ added o f' ∷ members_differences o m others'
  unfolding pairing_of pair_of members_differences sought all_added
  differs-added e None m name' f' others' q n n' = absurd n'
  differs-added None (Some h) no_members name' f' others' q n n' = refl
  differs-added None (Some h) (member name f others) name' f' others' q n n' = absurd n
  differs-added (Some g) (Some h) no_members name' f' others' q n n' = absurd n
  differs-added (Some g) (Some h) (member name f others) name' f' others' q n n' =
      let first_of : precedes name' name ≡ true = rw (n, n') (tests-added g h (before g h) (same g h) q).1 in rw first_of

  differs-both : (g h : FieldEntry) {x y : FieldEntry} (name : Text) (f : Field) (others : Members) (name' : Text) (f' : Field) (others' : Members) → Both x y ≡ pairing_of first (Some g) second (Some h)
      → name ≡ part_of first g.head.name
      → name' ≡ part_of second h.head.name
      → members_differences o (member name f others) (member name' f' others') ≡ field_differences f f' ++ members_differences o others others'
  unfolding pairing_of pair_of members_differences sought
  differs-both g h name f others name' f' others' q n n' =
      let t = tests-both g h (before g h) (same g h) q in
      rw (n, n', t.2, t.3) refl

-- The first of the members, as the definition reads it

module _ (s : List ℕ) (p : Place) (depth : ℕ) (before : Option Text) (a : Ahead) (m : Members) (b : Ahead) (at : Arrived s p a) where
  record Begins (n : ℕ) (x : FieldEntry) : Type 0 where
    pub name : Text
    pub f : Field
    pub others : Members
    pub behind : Ahead
    pub shape : m ≡ member name f others
    pub named : name ≡ part_of s x.head.name
    pub reads : Reads s x depth f behind
    pub rest : members_of (n - 1) (some name) (field_in depth) behind ≡ some (others, b)

  begins : (n : ℕ) (x : FieldEntry) → NextIs s p n (Some x) → members_of n before (field_in depth) a ≡ some (m, b) → Begins n x
  begins n x next e =
      let i = members-first n before (field_in depth) a m b next.0 e in
      let f = field-behind s p x a depth i.r i.behind at next.1 i.reads in
      record {
        name = i.r.0;
        f = i.r.1;
        others = i.others;
        behind = i.behind;
        shape = i.shape;
        named = f.named;
        reads = f.reads;
        rest = i.rest;
      }

  ended : (n : ℕ) → NextIs s p n None → members_of n before (field_in depth) a ≡ some (m, b) → (m ≡ no_members) × (a ≡ b)
  ended n next e = by n next e (members-none n before (field_in depth) a)
    where
      by : (n : ℕ) → NextIs s p n None → members_of n before (field_in depth) a ≡ some (m, b) → (n ≡ 0 → members_of n before (field_in depth) a ≡ some (m, b) → (m ≡ no_members) × (a ≡ b))
          → (m ≡ no_members) × (a ≡ b)
      by zero next e none_left = none_left refl e
      by (suc n) next e none_left =
          let i = members-first (suc n) before (field_in depth) a m b (omega arith) e in
          absurd (field-none s p a depth at (next (omega arith)) i.reads)

  named : (n : ℕ) (e : Optional FieldEntry) → NextIs s p n e → members_of n before (field_in depth) a ≡ some (m, b) → Named s e m
  named n None next e = rw (ended n next e).0 tt
  named n (Some x) next e = let i = begins n x next e in rw i.shape i.named

-- What is left of both

abbrev LeftGo : (first : List ℕ) → Bool → Left.Members → (second : List ℕ) → Left.Members → (depth : ℕ) → Change → Going → Type 0
LeftGo first o xs second ys depth now r =
    MembersGo first (record { opened = o; count = xs.left }) second (record { opened = o; count = ys.left }) depth (going_at now xs ys) r

-- the members that are left, as they were read
abbrev Here : List ℕ → Left.Members → Type 0
Here s xs = MembersFrom s xs.place xs.left xs

module _ {first : List ℕ} {o : Bool} {xs : Left.Members} {second : List ℕ} {ys : Left.Members} {depth : ℕ} {now : Change} (here : Here first xs) (here' : Here second ys) where
  left-closed : is_open_yet now ≡ false → LeftGo first o xs second ys depth now (going_at now xs ys)
  left-closed c =
      record {
        first-within = here.within;
        second-within = here'.within;
        go = λ before before' a a' m m' b b' at e e'.
            record {
              goes = goes-closed now _ c;
              at = record { first-at = λ q. absurd (open-or-closed q c); second_at = λ q. absurd (open-or-closed q c) };
            };
      }

  module _ (open-yet : is_open_yet now ≡ true) where
    left-neither : Neither ≡ pairing_of first xs.next second ys.next → LeftGo first o xs second ys depth now (going_at now xs ys)
    unfolding members_differences all_added
    left-neither q =
        record {
          first-within = here.within;
          second-within = here'.within;
          go = λ before before' a a' m m' b b' at e e'.
              let there = is-neither first second o xs.next ys.next q in
              let n = ended first xs.place depth before a m b (at.first-at open-yet) xs.left (rw there.0 at here.next) e in
              let n' = ended second ys.place depth before' a' m' b' (at.second_at open-yet) ys.left (rw there.1 at here'.next) e' in
              rw (n.0, n'.0, ← n.1, ← n'.1) (record { goes = goes-nothing; at = at });
        }

    left-missing : {x : FieldEntry} {r : Change} → Missing x ≡ pairing_of first xs.next second ys.next → Goes now (breach field_missing x.number 0 ∷ []) r
        → LeftGo first o xs second ys depth now (going_at r xs ys)
    unfolding missing
    left-missing {x} {r} q g =
        let there : xs.next ≡ Some x = is-missing first second o xs.next ys.next q in
        record {
          first-within = here.within;
          second-within = here'.within;
          go = λ before before' a a' m m' b b' at e e'.
              let i = begins first xs.place depth before a m b (at.first-at open-yet) xs.left x (rw there at here.next) e in
              let n = named first xs.place depth before a m b (at.first-at open-yet) xs.left xs.next here.next e in
              let n' = named second ys.place depth before' a' m' b' (at.second_at open-yet) ys.left ys.next here'.next e' in
              let d = differs-missing first second o xs.next ys.next i.name i.f i.others m' q (rw i.shape at n) n' in
              record {
                goes = rw (i.shape, d.1, entry_read first x depth i.f i.behind i.reads) (goes-breach g);
                at = record { first-at = λ c. absurd (breach-closes g c); second_at = λ c. absurd (breach-closes g c) };
              };
        }

    left-added : {y : FieldEntry} {p : Place} {ys' : Left.Members} {now' : Change} {r : Going} → Added y ≡ pairing_of first xs.next second ys.next
        → Goes now (cond o (breach field_added 0 y.number) growth ∷ []) now'
        → SkipsTo second y p
        → MembersFrom second p (ys.left - 1) ys'
        → LeftGo first o xs second ys' depth now' r
        → LeftGo first o xs second ys depth now r
    unfolding added
    left-added {y} {p} {ys'} {now'} q g skips from rest =
        let there : ys.next ≡ Some y = is-added first second o xs.next ys.next q in
        record {
          first-within = rest.first-within;
          second-within = rest.second-within;
          go = λ before before' a a' m m' b b' at e e'.
              let i = begins second ys.place depth before' a' m' b' (at.second_at open-yet) ys.left y (rw there at here'.next) e' in
              let n = named first xs.place depth before a m b (at.first-at open-yet) xs.left xs.next here.next e in
              let n' = named second ys.place depth before' a' m' b' (at.second_at open-yet) ys.left ys.next here'.next e' in
              let d = differs-added first second o xs.next ys.next m i.name i.f i.others q n (rw i.shape at n') in
              let behind : Arrived second ys'.place i.behind = rw from.place (skips.skips depth i.f i.behind i.reads) in
              let last = rest.go before (some i.name) a i.behind m i.others b b'
              (record { first-at = λ c. at.first-at open-yet; second_at = λ c. behind }) e (rw from.count i.rest) in
              record {
                goes = rw (i.shape, d, entry_read second y depth i.f i.behind i.reads) (goes-both g last.goes);
                at = last.at;
              };
        }

    left_both : {x y : FieldEntry} {both : Going} {xs' ys' : Left.Members} {r : Going} → Both x y ≡ pairing_of first xs.next second ys.next
        → FieldsGo first x second y depth now both
        → MembersFrom first both.x (xs.left - 1) xs'
        → MembersFrom second both.y (ys.left - 1) ys'
        → LeftGo first o xs' second ys' depth both.found r
        → LeftGo first o xs second ys depth now r
    left_both {x} {y} {both} {xs'} {ys'} q fields from from' rest =
        let there = is-both first second o xs.next ys.next q in
        record {
          first-within = rest.first-within;
          second-within = rest.second-within;
          go = λ before before' a a' m m' b b' at e e'.
              let i = begins first xs.place depth before a m b (at.first-at open-yet) xs.left x (rw there.0 at here.next) e in
              let i' = begins second ys.place depth before' a' m' b' (at.second_at open-yet) ys.left y (rw there.1 at here'.next) e' in
              let d = differs-both first second o x y i.name i.f i.others i'.name i'.f i'.others (rw (there.0, there.1) at q) i.named i'.named in
              let f = fields.go i.f i'.f i.behind i'.behind i.reads i'.reads in
              let last = rest.go (some i.name) (some i'.name) i.behind i'.behind i.others i'.others b b'
              (record { first-at = λ c. rw from.place (f.at.first-at c); second_at = λ c. rw from'.place (f.at.second_at c) })
              (rw from.count i.rest) (rw from'.count i'.rest) in
              record { goes = rw (i.shape, i'.shape, d) (goes-both f.goes last.goes); at = last.at };
        }

-- The loop: what is found in what is left is found in the whole

pub record Leads (first : List ℕ) (x : HolderHead) (second : List ℕ) (depth : ℕ) (now₀ : Change) (xs₀ ys₀ : Left.Members) (now : Change) (xs ys : Left.Members) : Type 0 where
  pub here : Here first xs
  pub here' : Here second ys
  pub whole : (r : Going) → LeftGo first x.opened xs second ys depth now r → LeftGo first x.opened xs₀ second ys₀ depth now₀ r

from-here : {s : List ℕ} {p : Place} {n : ℕ} {xs : Left.Members} → MembersFrom s p n xs → Here s xs
from-here {s} {p} {n} {xs} from =
    record { place = refl; count = refl; within = rw from.place from.within; next = rw (from.place, from.count) from.next }

pub leads-start : {first : List ℕ} {x : HolderHead} {second : List ℕ} {depth : ℕ} {now : Change} {p q : Place} {n k : ℕ} {xs ys : Left.Members}
    → MembersFrom first p n xs → MembersFrom second q k ys → Leads first x second depth now xs ys now xs ys
leads-start from from' = record { here = from-here from; here' = from-here from'; whole = λ r g. g }

-- which entry comes next, and what is read behind it
module _ {first : List ℕ} {x : HolderHead} {second : List ℕ} {depth : ℕ} {now₀ : Change} {xs₀ ys₀ : Left.Members} {now : Change} {xs ys : Left.Members}
    (before : Leads first x second depth now₀ xs₀ ys₀ now xs ys) {p : Pairing} (paired : p ≡ pairing_of first xs.next second ys.next) where
  next-added : {y : FieldEntry} → p ≡ Added y → NextIs second ys.place ys.left (Some y)
  next-added e = rw (is-added first second x.opened xs.next ys.next (sym e ∙ paired)) at before.here'.next

  next_both : {g h : FieldEntry} → p ≡ Both g h → NextIs first xs.place xs.left (Some g) × NextIs second ys.place ys.left (Some h)
  next_both e =
      let there = is-both first second x.opened xs.next ys.next (sym e ∙ paired) in
      (rw there.0 at before.here.next, rw there.1 at before.here'.next)

  pub added-place : {y : FieldEntry} → p ≡ Added y → Within second y.next
  added-place e = (next-added e).1.within

  pub added-count : {y : FieldEntry} → p ≡ Added y → y.head.count ≤ max_count
  added-count e = (next-added e).1.known.count

  pub added-left : {y : FieldEntry} → p ≡ Added y → 1 ≤ ys.left
  added-left e = let n = (next-added e).0 in omega arith

  pub both_first : {g h : FieldEntry} → p ≡ Both g h → Within first g.next
  both_first e = (next_both e).0.1.within

  pub both-second : {g h : FieldEntry} → p ≡ Both g h → Within second h.next
  both-second e = (next_both e).1.1.within

  pub both_left : {g h : FieldEntry} → p ≡ Both g h → 1 ≤ xs.left
  both_left e = let n = (next_both e).0.0 in omega arith

  pub both-left' : {g h : FieldEntry} → p ≡ Both g h → 1 ≤ ys.left
  both-left' e = let n = (next_both e).1.0 in omega arith

  pub added-falls : {y : FieldEntry} {q : Place} {ys' : Left.Members} → p ≡ Added y → MembersFrom second q (ys.left - 1) ys' → xs.left + ys'.left < xs.left + ys.left
  added-falls e from = let n = added-left e in let m = from.count in omega arith

  pub both-fall : {g h : FieldEntry} {q q' : Place} {xs' ys' : Left.Members} → p ≡ Both g h → MembersFrom first q (xs.left - 1) xs' → MembersFrom second q' (ys.left - 1) ys'
      → xs'.left + ys'.left < xs.left + ys.left
  both-fall e from from' = let n = both_left e in let n' = both-left' e in let m = from.count in let m' = from'.count in omega arith

  -- each way through the body
  module _ {b : Bool} (test : b ≡ is_open_yet now) (taken : b ≡ true) where
    pub leads-added : {y : FieldEntry} {q : Place} {ys' : Left.Members} {now' : Change} → p ≡ Added y
        → Goes now (cond x.opened (breach field_added 0 y.number) growth ∷ []) now'
        → SkipsTo second y q
        → MembersFrom second q (ys.left - 1) ys'
        → Leads first x second depth now₀ xs₀ ys₀ now' xs ys'
    leads-added e g skips from =
        record {
          here = before.here;
          here' = from-here from;
          whole = λ r rest. before.whole r (left-added before.here before.here' (sym test ∙ taken) (sym e ∙ paired) g skips from rest);
        }

    pub leads-both : {g h : FieldEntry} {both : Going} {xs' ys' : Left.Members} → p ≡ Both g h
        → FieldsGo first g second h depth now both
        → MembersFrom first both.x (xs.left - 1) xs'
        → MembersFrom second both.y (ys.left - 1) ys'
        → Leads first x second depth now₀ xs₀ ys₀ both.found xs' ys'
    leads-both e fields from from' =
        record {
          here = from-here from;
          here' = from-here from';
          whole = λ r rest. before.whole r (left_both before.here before.here' (sym test ∙ taken) (sym e ∙ paired) fields from from' rest);
        }

-- each way to its end
module _ {first : List ℕ} {x : HolderHead} {second : List ℕ} {y : HolderHead} {depth : ℕ} {from : Going} {xs₀ ys₀ : Left.Members} {now : Change} {xs ys : Left.Members}
    (start : MembersFrom first from.x x.count xs₀) (start' : MembersFrom second from.y y.count ys₀)
    (before : Leads first x second depth from.found xs₀ ys₀ now xs ys) {b : Bool} (test : b ≡ is_open_yet now) where
  all_of : {r : Going} → LeftGo first x.opened xs second ys depth now r → MembersGo first x second y depth from r
  all_of {r} g =
      let all = before.whole r g in
      record {
        first-within = all.first-within;
        second-within = all.second-within;
        go = λ c c' a a' m m' b b' at e e'.
            all.go c c' a a' m m' b b'
            (record { first-at = λ o. rw start.place (at.first-at o); second_at = λ o. rw start'.place (at.second_at o) })
            (rw start.count e) (rw start'.count e');
      }

  pub ends-closed : {r : Going} → b ≡ false → r ≡ going_at now xs ys → MembersGo first x second y depth from r
  ends-closed e q = rw q (all_of (left-closed before.here before.here' (sym test ∙ e)))

  module _ (taken : b ≡ true) {p : Pairing} (paired : p ≡ pairing_of first xs.next second ys.next) where
    pub ends-neither : {r : Going} → p ≡ Neither → r ≡ going_at now xs ys → MembersGo first x second y depth from r
    ends-neither e q = rw q (all_of (left-neither before.here before.here' (sym test ∙ taken) (sym e ∙ paired)))

    pub ends-missing : {g : FieldEntry} {lost : Change} {r : Going} → p ≡ Missing g → Goes now (breach field_missing g.number 0 ∷ []) lost → r ≡ going_at lost xs ys
        → MembersGo first x second y depth from r
    ends-missing e goes q = rw q (all_of (left-missing before.here before.here' (sym test ∙ taken) (sym e ∙ paired) goes))
