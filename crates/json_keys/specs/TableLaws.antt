-- The table of keys: what is found in a chain, one more key, and what the keys of an object come to.
use Rattle.std.specs.Prelude.{ℕ, zero, suc, ◌+◌, ◌-◌, ◌≤◌, ◌<◌, Bool, true, false, not, ◌&&◌, ◌||◌, List, [], ◌∷◌, ◌≡◌, refl, eqb, length, get_or, replicate, set}
use Rattle.std.proofs.Math.Bool.{false≢true}
use Rattle.std.proofs.Math.Path.{sym, ap, subst}
use Rattle.std.proofs.Common.{◌∙◌, get_or-set_other}
use native.Mathlib.Omega.{arith}
use Rattle.std.proofs.lemmas.List.{length-replicate}
use Rattle.std.proofs.Math.ListN.{length-set}
use Rattle.std.proofs.Math.Seq.{get_or-set_same}
use borrow.Author.Tests.{eqb-true, eq-eqb}
use Rattle.text.specs.Order.{same_bytes, is_among, none_twice}
use Rattle.text.specs.OrderLaws.{same_bytes-equal, same_bytes-symmetric}
use Rattle.text.specs.CaseLaws.{by-test}
use Rattle.json_text.specs.Json.{Text}
use Rattle.json_keys.specs.Texts.{TextAt, SameText, slots, slot_of, SlotIs}
use Rattle.json_keys.specs.Repeats.{batch, Placed, texts_of, latest, Linked, Chained, Falls, IsChained, Ready, Table, KeysAt, NextIs, apart, RestIs, NoneTwice, Onward}

-- Chains

-- texts with different slots differ
slots-differ : (key k : Text) → eqb (slot_of k) (slot_of key) ≡ false → same_bytes key k ≡ false
slots-differ key k q =
    by-test (same_bytes key k)
    (λ t. absurd (false≢true (sym q ∙ eq-eqb (slot_of k) (slot_of key) (ap slot_of (sym (same_bytes-equal key k t))))))
    (λ t. t)

none-latest : (key : Text) (seen : List Placed) → latest (slot_of key) seen ≡ 0 → is_among key (texts_of seen) ≡ false
unfolding latest is_among texts_of
none-latest key [] e = refl
none-latest key (p ∷ earlier) e =
    by-test (eqb (slot_of p.1) (slot_of key))
    (λ q. let z : p.0 + 1 ≡ 0 = rw q at e in absurd (omega arith))
    (λ q. rw (slots-differ key p.1 q) (none-latest key earlier (rw q at e)))

-- the latest text with a slot: it is the one asked for, or that is one of those before it
record Found (s links places : List ℕ) (key : Text) (seen : List Placed) (x : ℕ) : Type 0 where
  pub number : ℕ
  pub other : Text
  pub earlier : List Placed
  pub place : x ≡ number + 1
  pub linked : Linked s links places (number, other) earlier
  pub chained : Chained s links places earlier
  pub slot : slot_of other ≡ slot_of key
  pub among : is_among key (texts_of seen) ≡ (same_bytes key other || is_among key (texts_of earlier))

found : (s links places : List ℕ) (key : Text) (seen : List Placed) (x : ℕ) → Chained s links places seen → x ≡ latest (slot_of key) seen → 0 < x → Found s links places key seen x
unfolding latest is_among texts_of
found s links places key [] x chained e h = absurd (omega arith)
found s links places key (p ∷ earlier) x chained e h =
    by-test (eqb (slot_of p.1) (slot_of key))
    (λ q.
    record {
      number = p.0;
      other = p.1;
      earlier = earlier;
      place = rw q at e;
      linked = chained.0;
      chained = chained.1;
      slot = eqb-true (slot_of p.1) (slot_of key) q;
      among = refl;
    })
    (λ q.
    let f = found s links places key earlier x chained.1 (rw q at e) h in
    record {
      number = f.number;
      other = f.other;
      earlier = f.earlier;
      place = f.place;
      linked = f.linked;
      chained = f.chained;
      slot = f.slot;
      among = rw (slots-differ key p.1 q) f.among;
    })

module _ (s links places : List ℕ) (at x : ℕ) where
  pub chain-none : x ≡ 0 → IsChained s links places at x false
  chain-none z = record { told = λ key seen here chained e. sym (none-latest key seen (sym e ∙ z)) }

  pub falls-next : {y : ℕ} → 0 < x → Falls links places x → y ≡ get_or links (x - 1) 0 → Falls links places y
  falls-next h f e =
      let less = f.falls (x - 1) (omega arith) in
      record {
        linked = omega (arith, f.linked, less);
        placed = omega (arith, f.placed, less);
        falls = λ i below. f.falls i (omega (arith, less));
      }

  module _ (h : 0 < x) {same : Bool} (e : SameText s at (get_or places (x - 1) 0) same) where
    this-text : {key : Text} {seen : List Placed} (f : Found s links places key seen x) → TextAt s at key → same_bytes key f.other ≡ same
    this-text f here =
        let place : f.number ≡ x - 1 = omega (arith, f.place) in
        sym (e.told _ _ here (subst (λ (n : ℕ). TextAt s (get_or places n 0) f.other) place f.linked.text))

    pub chain-found : same ≡ true → IsChained s links places at x true
    chain-found q =
        record {
          told =
              λ key seen here chained e.
              let f = found s links places key seen x chained e h in
              sym (f.among ∙ ap (λ (b : Bool). b || is_among key (texts_of f.earlier)) (this-text f here ∙ q));
        }

    pub chain_next : {y : ℕ} {r : Bool} → same ≡ false → y ≡ get_or links (x - 1) 0 → IsChained s links places at y r → IsChained s links places at x r
    chain_next {y} {r} q g further =
        record {
          told =
              λ key seen here chained e.
              let f = found s links places key seen x chained e h in
              let place : x - 1 ≡ f.number = omega (arith, f.place) in
              let link : y ≡ latest (slot_of key) f.earlier = g ∙ ap (λ (i : ℕ). get_or links i 0) place ∙ f.linked.link ∙ ap (λ (slot : ℕ). latest slot f.earlier) f.slot in
              further.told key f.earlier here f.chained link
              ∙ sym (f.among ∙ ap (λ (b : Bool). b || is_among key (texts_of f.earlier)) (this-text f here ∙ q));
        }

-- Keys looked up one after the other, each among those before it

unfoldable pub all_new : List Text → List Text → Bool
all_new seen [] = true
all_new seen (key ∷ keys) = not (is_among key seen) && all_new (key ∷ seen) keys

swap : (a b c d : Bool) → (not (a || b) && (not c && d)) ≡ (not (a || c) && (not b && d))
swap true b c d = refl
swap false true true d = refl
swap false true false d = refl
swap false false true d = refl
swap false false false d = refl

apart_more : (first : Text) (seen keys : List Text) → apart (first ∷ seen) keys ≡ (not (is_among first keys) && apart seen keys)
unfolding apart is_among
apart_more first seen [] = refl
apart_more first seen (key ∷ keys) =
    rw (apart_more first seen keys, same_bytes-symmetric key first) (swap (same_bytes first key) (is_among key seen) (is_among first keys) (apart seen keys))

turn : (a b c d : Bool) → (not a && ((not b && c) && d)) ≡ ((not a && c) && (not b && d))
turn true b c d = refl
turn false true true d = refl
turn false true false d = refl
turn false false true d = refl
turn false false false d = refl

all-new : (seen keys : List Text) → all_new seen keys ≡ (apart seen keys && none_twice keys)
unfolding all_new apart none_twice
all-new seen [] = refl
all-new seen (key ∷ keys) =
    rw (all-new (key ∷ seen) keys, apart_more key seen keys) (turn (is_among key seen) (is_among key keys) (apart seen keys) (none_twice keys))

apart_none : (keys : List Text) → apart [] keys ≡ true
unfolding apart is_among
apart_none [] = refl
apart_none (key ∷ keys) = apart_none keys

none_seen : (keys : List Text) → all_new [] keys ≡ none_twice keys
none_seen keys = all-new [] keys ∙ rw (apart_none keys)

new-step : (seen : List Text) {key : Text} {keys others : List Text} → keys ≡ key ∷ others → is_among key seen ≡ false → all_new seen keys ≡ all_new (key ∷ seen) others
unfolding all_new
new-step seen e f = rw (e, f)

-- a key that is looked up
module _ {s heads links places : List ℕ} {seen : List Placed} (table : Table s heads links places seen) {at slot x : ℕ} (is-slot : SlotIs s at slot) (is-head : x ≡ get_or heads slot 0) where
  pub looked-up : {key : Text} {r : Bool} → TextAt s at key → IsChained s links places at x r → is_among key (texts_of seen) ≡ r
  looked-up {key} here chained =
      sym (chained.told key seen here table.chained
      (is-head ∙ table.headed slot is-slot.small ∙ ap (λ (slot : ℕ). latest slot seen) (is-slot.told key here)))

-- A single key

pub one_key : {s : List ℕ} {i next : ℕ} → NextIs s i next → next ≡ 0 → NoneTwice s i true
unfolding none_twice is_among
one_key n z =
    record {
      told =
          λ keys here.
          let f = n.told keys here in
          rw (f.are, f.ended z);
    }

-- The keys that are only looked up

pub record Resting (s heads links places : List ℕ) (at i : ℕ) : Type 0 where
  pub onward : (r : Bool) → RestIs s heads links places i r → RestIs s heads links places at r

pub resting-start : (s heads links places : List ℕ) (at : ℕ) → Resting s heads links places at at
resting-start s heads links places at = record { onward = λ r k. k }

module _ (s heads links places : List ℕ) (i : ℕ) {next slot x : ℕ} (n : NextIs s i next) (is-slot : SlotIs s (i + 1) slot) (is-head : x ≡ get_or heads slot 0) where
  pub rest-found : IsChained s links places (i + 1) x true → RestIs s heads links places i false
  unfolding apart
  rest-found chained =
      record {
        told =
            λ seen keys table here.
            let f = n.told keys here in
            rw (f.are, looked-up table is-slot is-head f.text chained);
      }

  module _ (chained : IsChained s links places (i + 1) x false) where
    pub rest_end : next ≡ 0 → RestIs s heads links places i true
    unfolding apart
    rest_end z =
        record {
          told =
              λ seen keys table here.
              let f = n.told keys here in
              rw (f.are, f.ended z, looked-up table is-slot is-head f.text chained);
        }

    pub rest-next : (next ≡ 0 → ⊥) → (r : Bool) → RestIs s heads links places next r → RestIs s heads links places i r
    unfolding apart
    rest-next z r k =
        record {
          told =
              λ seen keys table here.
              let f = n.told keys here in
              rw (f.are, looked-up table is-slot is-head f.text chained) (k.told seen f.others table (f.more z));
        }

-- The keys that go into the table

-- numbers in the table are below n
abbrev pub Before : ℕ → List Placed → Type 0
Before n [] = Unit {0}
Before n (p ∷ earlier) = (p.0 < n) × Before n earlier

before_more : (n : ℕ) (seen : List Placed) → Before n seen → Before (n + 1) seen
before_more n [] before = tt
before_more n (p ∷ earlier) before = (omega (arith, before.0), before_more n earlier before.1)

latest-before : (slot n : ℕ) (seen : List Placed) → Before n seen → latest slot seen ≤ n
unfolding latest
latest-before slot n [] before = omega arith
latest-before slot n (p ∷ earlier) before =
    by-test (eqb (slot_of p.1) slot) (λ q. rw q (omega (arith, before.0))) (λ q. rw q (latest-before slot n earlier before.1))

-- a number more changes nothing for those below it
chained-frame : (s links places : List ℕ) (n x at : ℕ) (seen : List Placed) → Before n seen → Chained s links places seen → Chained s (set links n x) (set places n at) seen
chained-frame s links places n x at [] before chained = tt
chained-frame s links places n x at (p ∷ earlier) before chained =
    let l = chained.0 in
    let other : p.0 ≡ n → ⊥ = λ e. omega (arith, before.0) in (
      record {
        text = subst (λ (place : ℕ). TextAt s place p.1) (sym (get_or-set_other places n p.0 at 0 other)) l.text;
        link = get_or-set_other links n p.0 x 0 other ∙ l.link;
      },
      chained-frame s links places n x at earlier before.1 chained.1,
    )

-- the keys in the table, and those that are left, make all of them
pub record Seen (s heads links places : List ℕ) (i n : ℕ) (keys : List Text) : Type 0 where
  pub seen : List Placed
  pub before : Before n seen
  pub table : Table s heads links places seen
  pub left : List Text
  pub here : KeysAt s i left
  pub whole : none_twice keys ≡ all_new (texts_of seen) left

-- n keys are in the table, and those from i on are left
pub record Sofar (s heads links places : List ℕ) (at i n : ℕ) : Type 0 where
  pub linked : length links ≡ batch
  pub placed : length places ≡ batch
  pub size : length heads ≡ slots
  pub room : n ≤ batch
  pub low : (slot : ℕ) → get_or heads slot 0 ≤ n
  pub falls : (k : ℕ) → k < n → get_or links k 0 ≤ k
  pub forward : at + n ≤ i
  pub within : i ≤ length s
  pub told : (keys : List Text) → KeysAt s at keys → Seen s heads links places i n keys

zeros : (n i : ℕ) → ◌≡◌ {A = ℕ} (get_or (replicate n 0) i 0) 0
zeros zero i = refl
zeros (suc n) zero = refl
zeros (suc n) (suc i) = zeros n i

pub sofar-begin : (s links places : List ℕ) (at : ℕ) → at ≤ length s → length links ≡ batch → length places ≡ batch → Sofar s (replicate slots 0) links places at at 0
unfolding latest texts_of
sofar-begin s links places at h l p =
    record {
      linked = l;
      placed = p;
      size = length-replicate {A = ℕ} slots 0;
      room = omega arith;
      low = λ slot. omega (arith, zeros slots slot);
      falls = λ k h. absurd (omega arith);
      forward = omega arith;
      within = h;
      told =
          λ keys here.
          record {
            seen = [];
            before = tt;
            table = record { headed = λ slot h. zeros slots slot; chained = tt };
            left = keys;
            here = here;
            whole = sym (none_seen keys);
          };
    }

module _ {s heads links places : List ℕ} {at i n : ℕ} (sofar : Sofar s heads links places at i n) where
  -- the chain of a slot
  pub sofar-falls : (slot : ℕ) {x : ℕ} → x ≡ get_or heads slot 0 → Falls links places x
  sofar-falls slot e =
      let low = sofar.low slot in
      record {
        linked = omega (arith, sofar.linked, sofar.room);
        placed = omega (arith, sofar.placed, sofar.room);
        falls = λ k h. sofar.falls k (omega arith);
      }

  pub sofar-ready : Ready heads links places
  sofar-ready = record { size = sofar.size; falls = λ slot h. sofar-falls slot refl }

  -- the table is full
  module _ (full : batch ≤ n) where
    pub sofar-rest : RestIs s heads links places i true → Onward s at i
    sofar-rest rest =
        record {
          ended = λ z. absurd (omega (arith, sofar.forward));
          more =
              λ no r k.
              record {
                told =
                    λ keys here.
                    let l = sofar.told keys here in
                    k.told l.left l.here
                    ∙ sym (l.whole ∙ all-new (texts_of l.seen) l.left
                    ∙ ap (λ (b : Bool). b && none_twice l.left) (sym (rest.told l.seen l.left l.table l.here)));
              };
          forward = λ no. omega (arith, sofar.forward);
          within = sofar.within;
        }

    pub sofar-again : RestIs s heads links places i false → NoneTwice s at false
    sofar-again rest =
        record {
          told =
              λ keys here.
              let l = sofar.told keys here in
              sym (l.whole ∙ all-new (texts_of l.seen) l.left
              ∙ ap (λ (b : Bool). b && none_twice l.left) (sym (rest.told l.seen l.left l.table l.here)));
        }

  module _ {next slot x : ℕ} (m : NextIs s i next) (is-slot : SlotIs s (i + 1) slot) (is-head : x ≡ get_or heads slot 0) where
    pub sofar-found : IsChained s links places (i + 1) x true → NoneTwice s at false
    unfolding all_new
    sofar-found chained =
        record {
          told =
              λ keys here.
              let l = sofar.told keys here in
              let f = m.told l.left l.here in
              rw (l.whole, f.are, looked-up l.table is-slot is-head f.text chained);
        }

    module _ (chained : IsChained s links places (i + 1) x false) where
      pub sofar-end : next ≡ 0 → Onward s at 0
      unfolding all_new
      sofar-end z =
          record {
            ended =
                λ e.
                record {
                  told =
                      λ keys here.
                      let l = sofar.told keys here in
                      let f = m.told l.left l.here in
                      rw (l.whole, f.are, f.ended z, looked-up l.table is-slot is-head f.text chained);
                };
            more = λ no. absurd (no refl);
            forward = λ no. absurd (no refl);
            within = omega arith;
          }

      module _ {head : ℕ} (e : head ≡ n + 1) (small : n < batch) where
        -- one key more
        more-table : (key : Text) (seen : List Placed) → Before n seen → Table s heads links places seen → TextAt s (i + 1) key
            → Table s (set heads slot head) (set links n x) (set places n (i + 1)) ((n, key) ∷ seen)
        unfolding latest
        more-table key seen before t here =
            let is : slot ≡ slot_of key = is-slot.told key here in
            record {
              headed =
                  λ g h.
                  by-test (eqb (slot_of key) g)
                  (λ q.
                  let same : slot ≡ g = is ∙ eqb-true (slot_of key) g q in
                  rw (q, ← same) (get_or-set_same heads slot head 0 (omega (arith, sofar.size, is-slot.small)) ∙ e))
                  (λ q.
                  let other : g ≡ slot → ⊥ = λ e. false≢true (sym q ∙ eq-eqb (slot_of key) g (sym is ∙ sym e)) in
                  rw q (get_or-set_other heads slot g head 0 other ∙ t.headed g h));
              chained = (
                record {
                  text = subst (λ (place : ℕ). TextAt s place key) (sym (get_or-set_same places n (i + 1) 0 (omega (arith, sofar.placed)))) here;
                  link = get_or-set_same links n x 0 (omega (arith, sofar.linked)) ∙ is-head ∙ t.headed slot is-slot.small ∙ ap (λ (slot : ℕ). latest slot seen) is;
                },
                chained-frame s links places n x (i + 1) seen before t.chained,
              );
            }

        more-falls : (k : ℕ) → k < n + 1 → get_or (set links n x) k 0 ≤ k
        more-falls k h =
            by-test (eqb n k)
            (λ q.
            let same : n ≡ k = eqb-true n k q in
            let stored : get_or (set links n x) k 0 ≡ x = rw (← same) (get_or-set_same links n x 0 (omega (arith, sofar.linked))) in
            omega (arith, stored, same, sofar.low slot))
            (λ q.
            let other : k ≡ n → ⊥ = λ e. false≢true (sym q ∙ eq-eqb n k (sym e)) in
            let kept = get_or-set_other links n k x 0 other in
            omega (arith, kept, sofar.falls k (omega (arith, other))))

        more-low : (g : ℕ) → get_or (set heads slot head) g 0 ≤ n + 1
        more-low g =
            by-test (eqb slot g)
            (λ q.
            let same : slot ≡ g = eqb-true slot g q in
            let stored : get_or (set heads slot head) g 0 ≡ head = rw (← same) (get_or-set_same heads slot head 0 (omega (arith, sofar.size, is-slot.small))) in
            omega (arith, stored))
            (λ q.
            let other : g ≡ slot → ⊥ = λ e. false≢true (sym q ∙ eq-eqb slot g (sym e)) in
            let kept = get_or-set_other heads slot g head 0 other in
            omega (arith, kept, sofar.low g))

        pub sofar-next : (next ≡ 0 → ⊥) → Sofar s (set heads slot head) (set links n x) (set places n (i + 1)) at next (n + 1)
        unfolding all_new texts_of
        sofar-next further =
            record {
              linked = length-set links n x ∙ sofar.linked;
              placed = length-set places n (i + 1) ∙ sofar.placed;
              size = length-set heads slot head ∙ sofar.size;
              room = omega arith;
              low = more-low;
              falls = more-falls;
              forward = omega (arith, sofar.forward, m.forward further);
              within = m.within;
              told =
                  λ keys here.
                  let l = sofar.told keys here in
                  let f = m.told l.left l.here in
                  record {
                    seen = (n, f.key) ∷ l.seen;
                    before = (omega arith, before_more n l.seen l.before);
                    table = more-table f.key l.seen l.before l.table f.text;
                    left = f.others;
                    here = f.more further;
                    whole = l.whole ∙ new-step (texts_of l.seen) f.are (looked-up l.table is-slot is-head f.text chained);
                  };
            }
