-- The table of keys: what is found in a chain, and one more key.
use Prim.Native.Nat.{ℕ, zero, suc, ◌+◌, ◌*◌, ◌-◌, ◌/◌, ◌%◌, ◌≤◌, ◌<◌}
use mathlib.Core.Bool.{Bool, true, false, not, ◌&&◌, ◌||◌, false≢true}
use mathlib.Core.List.{List, [], ◌∷◌}
use mathlib.Core.Option.{none, some, none-ne-some}
use mathlib.Core.Path.{◌≡◌, refl, sym, ap, ◌∙◌}
use native.Mathlib.Omega.{arith}
use native.Mathlib.Numerals.{add-one}
use lib.Dec.{eqb}
use lib.ListN.{length, get_or, drop, drop_of_length-le, replicate, length-replicate, set, length-set}
use lib.Seq.{drop-cons, get_or-set_same, get_or-set_other}
use borrow.Author.Tests.{eqb-true, eq-eqb}
use Rattle.text.specs.Order.{same_bytes, is_among, none_twice}
use Rattle.text.specs.OrderLaws.{same_bytes-equal, same_bytes-symmetric}
use Rattle.text.specs.CaseLaws.{by-test}
use Rattle.text.specs.ReadAt.{ReadsTo}
use Rattle.text.specs.Parts.{part_of}
use Rattle.text.specs.declared.part.Part.{Part}
use Rattle.sheet.specs.Entries.{key_head}
use Rattle.definition.specs.Limits.{max_rule_entries}
use Rattle.definition.specs.Tree.{Text, Pairs, no_pairs, pair}
use Rattle.definition.specs.Decode.{keys_of}
use Rattle.definition.specs.Write.{count_of_pairs}
use Rattle.rule.specs.Index.{start_of, end_of, PairsAt}
use Rattle.rule.specs.Keys.{NoneTwice}
use Rattle.rule.specs.Table.{slots, stirred, slot_of, Placed, texts_of, latest, Linked, Chained, Falls, IsChained}
use Rattle.rule.proofs.ReaderLaws.{some-both}
use Rattle.rule.proofs.SearchLaws.{same-entry, reads-entry}

-- A slot, byte by byte.
module _ (key : Text) (h i : ℕ) where
  pub stirred-next : {x b : ℕ} → i < length key → b ≡ get_or key i 0 → x ≡ (h + b) * 2654435761 % 4294967296 → stirred h (drop i key) ≡ stirred x (drop (i + 1) key)
  unfolding stirred
  stirred-next within e f =
      let first : drop i key ≡ get_or key i 0 ∷ drop (i + 1) key = rw (add-one, drop-cons key i 0 within) in
      rw (first, f, e)

  pub stirred-end : length key ≤ i → stirred h (drop i key) ≡ h
  unfolding stirred
  stirred-end past = rw (drop_of_length-le key past)

-- keys with different slots differ
slots-differ : (key k : Text) → eqb (slot_of k) (slot_of key) ≡ false → same_bytes key k ≡ false
slots-differ key k q =
    by-test (same_bytes key k)
    (λ t. absurd (false≢true (sym q ∙ eq-eqb (slot_of k) (slot_of key) (ap slot_of (sym (same_bytes-equal key k t))))))
    (λ t. t)

none-latest : (key : Text) (seen : List Placed) → latest (slot_of key) seen ≡ 0 → is_among key (texts_of seen) ≡ false
unfolding latest is_among texts_of
none-latest key [] e = refl
none-latest key (p ∷ earlier) e =
    by-test (eqb (slot_of p.1) (slot_of key))
    (λ q. let z : p.0 + 1 ≡ 0 = rw q at e in absurd (omega arith))
    (λ q. rw (slots-differ key p.1 q) (none-latest key earlier (rw q at e)))

-- The latest key with a slot: it is the key asked for, or that is one of those before it.
record Found (s words links : List ℕ) (key : Text) (seen : List Placed) (x : ℕ) : Type 0 where
  pub word : ℕ
  pub other : Text
  pub earlier : List Placed
  pub place : x ≡ word + 1
  pub linked : Linked s words links (word, other) earlier
  pub chained : Chained s words links earlier
  pub slot : slot_of other ≡ slot_of key
  pub among : is_among key (texts_of seen) ≡ (same_bytes key other || is_among key (texts_of earlier))

found : (s words links : List ℕ) (key : Text) (seen : List Placed) (x : ℕ) → Chained s words links seen → x ≡ latest (slot_of key) seen → 0 < x → Found s words links key seen x
unfolding latest is_among texts_of
found s words links key [] x chained e h = absurd (omega arith)
found s words links key (p ∷ earlier) x chained e h =
    by-test (eqb (slot_of p.1) (slot_of key))
    (λ q.
    record {
      word = p.0;
      other = p.1;
      earlier = earlier;
      place = rw q at e;
      linked = chained.0;
      chained = chained.1;
      slot = eqb-true (slot_of p.1) (slot_of key) q;
      among = refl;
    })
    (λ q.
    let f = found s words links key earlier x chained.1 (rw q at e) h in
    record {
      word = f.word;
      other = f.other;
      earlier = f.earlier;
      place = f.place;
      linked = f.linked;
      chained = f.chained;
      slot = f.slot;
      among = rw (slots-differ key p.1 q) f.among;
    })

-- A chain, a step at a time.
module _ (s words links : List ℕ) (entry : Part) (x : ℕ) where
  pub chain-none : x ≡ 0 → IsChained s words links entry x false
  chain-none z = record { told = λ key seen here chained e. sym (none-latest key seen (sym e ∙ z)) }

  pub falls-next : {y : ℕ} → 0 < x → Falls links x → y ≡ get_or links ((x - 1) / 2) 0 → Falls links y
  falls-next h f e = record { room = omega (arith, f.room, f.falls ((x - 1) / 2)); falls = f.falls }

  module _ (h : 0 < x) {start : ℕ} {same : Bool} (starts : start ≡ start_of words (x - 1))
      (e : same ≡ same_bytes (part_of s entry) (part_of s (record { start = start; len = entry.len })))
    where
      this-entry : {key : Text} {seen : List Placed} (f : Found s words links key seen x) → ReadsTo key_head s entry.start key (entry.start + entry.len) → same_bytes key f.other ≡ same
      this-entry f here =
          let place : x - 1 ≡ f.word = omega (arith, f.place) in
          sym (rw (starts, place) at e ∙ same-entry s entry (start_of words f.word) here f.linked.reads)

      pub chain-found : same ≡ true → IsChained s words links entry x true
      chain-found q =
          record {
            told =
                λ key seen here chained e.
                let f = found s words links key seen x chained e h in
                sym (f.among ∙ ap (λ (b : Bool). b || is_among key (texts_of f.earlier)) (this-entry f here ∙ q));
          }

      pub chain_next : {y : ℕ} {r : Bool} → same ≡ false → y ≡ get_or links ((x - 1) / 2) 0 → IsChained s words links entry y r → IsChained s words links entry x r
      chain_next {y} {r} q g further =
          record {
            told =
                λ key seen here chained e.
                let f = found s words links key seen x chained e h in
                let place : x - 1 ≡ f.word = omega (arith, f.place) in
                let link : y ≡ latest (slot_of key) f.earlier = g ∙ ap (λ (i : ℕ). get_or links (i / 2) 0) place ∙ f.linked.link ∙ ap (λ (slot : ℕ). latest slot f.earlier) f.slot in
                further.told key f.earlier here f.chained link
                ∙ sym (f.among ∙ ap (λ (b : Bool). b || is_among key (texts_of f.earlier)) (this-entry f here ∙ q));
          }

-- Keys looked up one after the other, each among those before it.

unfoldable pub all_new : List Text → List Text → Bool
all_new seen [] = true
all_new seen (key ∷ keys) = not (is_among key seen) && all_new (key ∷ seen) keys

unfoldable apart : List Text → List Text → Bool
apart seen [] = true
apart seen (key ∷ keys) = not (is_among key seen) && apart seen keys

swap : (a b c d : Bool) → (not (a || b) && (not c && d)) ≡ (not (a || c) && (not b && d))
swap true b c d = refl
swap false true true d = refl
swap false true false d = refl
swap false false true d = refl
swap false false false d = refl

apart_more : (first : Text) (seen keys : List Text) → apart (first ∷ seen) keys ≡ (not (is_among first keys) && apart seen keys)
unfolding apart is_among
apart_more first seen [] = refl
apart_more first seen (key ∷ keys) =
    rw (apart_more first seen keys, same_bytes-symmetric key first) (swap (same_bytes first key) (is_among key seen) (is_among first keys) (apart seen keys))

turn : (a b c d : Bool) → (not a && ((not b && c) && d)) ≡ ((not a && c) && (not b && d))
turn true b c d = refl
turn false true true d = refl
turn false true false d = refl
turn false false true d = refl
turn false false false d = refl

all-new : (seen keys : List Text) → all_new seen keys ≡ (apart seen keys && none_twice keys)
unfolding all_new apart none_twice
all-new seen [] = refl
all-new seen (key ∷ keys) =
    rw (all-new (key ∷ seen) keys, apart_more key seen keys) (turn (is_among key seen) (is_among key keys) (apart seen keys) (none_twice keys))

apart_none : (keys : List Text) → apart [] keys ≡ true
unfolding apart is_among
apart_none [] = refl
apart_none (key ∷ keys) = apart_none keys

none_seen : (keys : List Text) → all_new [] keys ≡ none_twice keys
none_seen keys = all-new [] keys ∙ rw (apart_none keys)

-- whether `n` keys, whose words begin at `i`, are none of those seen, and none of them occurs twice
pub record NewBehind (s words : List ℕ) (seen : List Placed) (i n : ℕ) (r : Bool) : Type 0 where
  pub told : (ps : Pairs) → PairsAt s words i ps → count_of_pairs ps ≡ n → r ≡ all_new (texts_of seen) (keys_of ps)

-- each key has its word so far before `i` that no other has the same half
abbrev pub Before : ℕ → List Placed → Type 0
Before i [] = Unit {0}
Before i (p ∷ earlier) = (p.0 + 2 ≤ i) × Before i earlier

before_more : (i j : ℕ) (seen : List Placed) → i ≤ j → Before i seen → Before j seen
before_more i j [] h before = tt
before_more i j (p ∷ earlier) h before = (omega (arith, before.0), before_more i j earlier h before.1)

latest-before : (slot i : ℕ) (seen : List Placed) → Before i seen → latest slot seen ≤ i - 1
unfolding latest
latest-before slot i [] before = omega arith
latest-before slot i (p ∷ earlier) before =
    by-test (eqb (slot_of p.1) slot) (λ q. rw q (omega (arith, before.0))) (λ q. rw q (latest-before slot i earlier before.1))

pub record Table (s words links heads : List ℕ) (seen : List Placed) : Type 0 where
  pub links-length : length links ≡ 1024
  pub heads-length : length heads ≡ slots
  pub headed : (slot : ℕ) → slot < slots → get_or heads slot 0 ≡ latest slot seen
  pub chained : Chained s words links seen
  pub falls : (i : ℕ) → get_or links i 0 ≤ 2 * i

-- a link more, for a word that comes after
chained-frame : (s words links : List ℕ) (i x : ℕ) (seen : List Placed) → Before i seen → Chained s words links seen → Chained s words (set links (i / 2) x) seen
chained-frame s words links i x [] before chained = tt
chained-frame s words links i x (p ∷ earlier) before chained =
    let l = chained.0 in
    let other : p.0 / 2 ≡ i / 2 → ⊥ = λ e. omega (arith, before.0) in (
      record { rest = l.rest; reads = l.reads; link = get_or-set_other links (i / 2) (p.0 / 2) x 0 other ∙ l.link },
      chained-frame s words links i x earlier before.1 chained.1,
    )

-- one key more
table_more : {s words links heads : List ℕ} {seen : List Placed} (table : Table s words links heads seen) (key : Text) {rest : List ℕ} (i slot : ℕ) {x : ℕ}
    → Before i seen
    → i < 2048
    → slot ≡ slot_of key
    → slot < slots
    → key_head (drop (start_of words i) s) ≡ some (key, rest)
    → x ≡ i + 1
    → Table s words (set links (i / 2) (get_or heads slot 0)) (set heads slot x) ((i, key) ∷ seen)
unfolding latest
table_more {s} {words} {links} {heads} {seen} table key {rest} i slot {x} before small is-slot within reads e =
    let head = get_or heads slot 0 in
    let half : i / 2 < length links = omega (arith, table.links-length) in
    let is-head : head ≡ latest slot seen = table.headed slot within in
    record {
      links-length = length-set links (i / 2) head ∙ table.links-length;
      heads-length = length-set heads slot x ∙ table.heads-length;
      headed =
          λ g h.
          by-test (eqb (slot_of key) g)
          (λ q.
          let same : slot ≡ g = is-slot ∙ eqb-true (slot_of key) g q in
          rw (q, ← same) (get_or-set_same heads slot x 0 (omega (arith, table.heads-length)) ∙ e))
          (λ q.
          let other : g ≡ slot → ⊥ = λ e. false≢true (sym q ∙ eq-eqb (slot_of key) g (sym is-slot ∙ sym e)) in
          rw q (get_or-set_other heads slot g x 0 other ∙ table.headed g h));
      chained = (
        record {
          rest = rest;
          reads = reads;
          link = get_or-set_same links (i / 2) head 0 half ∙ is-head ∙ ap (λ (slot : ℕ). latest slot seen) is-slot;
        },
        chained-frame s words links i head seen before table.chained,
      );
      falls =
          λ j.
          by-test (eqb (i / 2) j)
          (λ q.
          let same : i / 2 ≡ j = eqb-true (i / 2) j q in
          let stored : get_or (set links (i / 2) head) j 0 ≡ latest slot seen = rw (← same) (get_or-set_same links (i / 2) head 0 half ∙ is-head) in
          omega (arith, stored, same, latest-before slot i seen before))
          (λ q.
          let other : j ≡ i / 2 → ⊥ = λ e. false≢true (sym q ∙ eq-eqb (i / 2) j (sym e)) in
          let kept = get_or-set_other links (i / 2) j head 0 other in
          omega (arith, kept, table.falls j));
    }

-- the keys before `i` have been looked up, and what is right for the `n` left is right for all
pub record Sofar (s words links heads : List ℕ) (first count i n : ℕ) : Type 0 where
  pub seen : List Placed
  pub within : i ≤ max_rule_entries
  pub before : Before i seen
  pub table : Table s words links heads seen
  pub onward : (r : Bool) → NewBehind s words seen i n r → NoneTwice s words first count r

zeros : (n i : ℕ) → ◌≡◌ {A = ℕ} (get_or (replicate n 0) i 0) 0
zeros zero i = refl
zeros (suc n) zero = refl
zeros (suc n) (suc i) = zeros n i

pub sofar-begin : (s words : List ℕ) (first count : ℕ) → first ≤ max_rule_entries → Sofar s words (replicate 1024 0) (replicate slots 0) first count first count
unfolding latest texts_of
sofar-begin s words first count within =
    record {
      seen = [];
      within = within;
      before = tt;
      table =
          record {
            links-length = length-replicate {A = ℕ} 1024 0;
            heads-length = length-replicate {A = ℕ} slots 0;
            headed = λ slot h. zeros slots slot;
            chained = tt;
            falls = λ i. omega (arith, zeros 1024 i);
          };
      onward = λ r new. record { told = λ ps at f. new.told ps at f ∙ none_seen (keys_of ps) };
    }

module _ {s words links heads : List ℕ} {first count i n : ℕ} (sofar : Sofar s words links heads first count i n) where
  pub sofar-end : n ≡ 0 → NoneTwice s words first count true
  unfolding all_new keys_of count_of_pairs
  sofar-end h = sofar.onward true (record { told = none_left })
    where
      none_left : (ps : Pairs) → PairsAt s words i ps → count_of_pairs ps ≡ n → true ≡ all_new (texts_of sofar.seen) (keys_of ps)
      none_left no_pairs at f = refl
      none_left (pair key v others) at f = absurd (omega arith)

  -- the slot's chain, from its latest key on
  pub sofar-falls : (slot : ℕ) {x : ℕ} → slot < slots → x ≡ get_or heads slot 0 → Falls links x
  sofar-falls slot within e =
      let t = sofar.table in
      let head = t.headed slot within in
      record { room = omega (arith, head, latest-before slot i sofar.seen sofar.before, sofar.within, t.links-length); falls = t.falls }

  module _ (h : 0 < n) {start : ℕ} (starts : start ≡ start_of words i) where
    pub sofar-unread : key_head (drop start s) ≡ none → NoneTwice s words first count false
    unfolding count_of_pairs
    sofar-unread e = sofar.onward false (record { told = unread })
      where
        unread : (ps : Pairs) → PairsAt s words i ps → count_of_pairs ps ≡ n → false ≡ all_new (texts_of sofar.seen) (keys_of ps)
        unread no_pairs at f = absurd (omega arith)
        unread (pair k v others) at f = absurd (none-ne-some _ (sym (rw starts at e) ∙ at.0.reads))

    module _ {key : Text} {behind slot x : ℕ} (reads : ReadsTo key_head s start key behind) (is-slot : slot ≡ slot_of key) (within : slot < slots) (is-head : x ≡ get_or heads slot 0) where
      this_key : {k : Text} {rest : List ℕ} → key_head (drop (start_of words i) s) ≡ some (k, rest) → key ≡ k
      this_key e = (some-both (sym reads.reads ∙ ap (λ (start : ℕ). key_head (drop start s)) starts ∙ e)).0

      looked-up : {r : Bool} → IsChained s words links (record { start = start; len = behind - start }) x r → is_among key (texts_of sofar.seen) ≡ r
      looked-up chained =
          let t = sofar.table in
          sym (chained.told key sofar.seen (reads-entry reads) t.chained (is-head ∙ t.headed slot within ∙ ap (λ (slot : ℕ). latest slot sofar.seen) is-slot))

      pub sofar-found : IsChained s words links (record { start = start; len = behind - start }) x true → NoneTwice s words first count false
      unfolding all_new keys_of count_of_pairs
      sofar-found chained = sofar.onward false (record { told = stands })
        where
          stands : (ps : Pairs) → PairsAt s words i ps → count_of_pairs ps ≡ n → false ≡ all_new (texts_of sofar.seen) (keys_of ps)
          stands no_pairs at f = absurd (omega arith)
          stands (pair k v others) at f = rw (← this_key at.0.reads, looked-up chained)

      pub sofar-next : {j y : ℕ}
          → j ≡ end_of words i
          → (i + 2 ≤ j) × (j ≤ max_rule_entries)
          → y ≡ i + 1
          → IsChained s words links (record { start = start; len = behind - start }) x false
          → Sofar s words (set links (i / 2) (get_or heads slot 0)) (set heads slot y) first count j (n - 1)
      unfolding all_new keys_of count_of_pairs texts_of
      sofar-next {j} ends further e chained =
          record {
            seen = (i, key) ∷ sofar.seen;
            within = further.1;
            before = (further.0, before_more i j sofar.seen (omega (arith, further.0)) sofar.before);
            table = table_more sofar.table key i slot sofar.before (omega (arith, further.0, further.1)) is-slot within (ap (λ (start : ℕ). key_head (drop start s)) (sym starts) ∙ reads.reads) e;
            onward = λ r new. sofar.onward r (record { told = next r new });
          }
        where
          next : (r : Bool) → NewBehind s words ((i, key) ∷ sofar.seen) j (n - 1) r → (ps : Pairs) → PairsAt s words i ps → count_of_pairs ps ≡ n → r ≡ all_new (texts_of sofar.seen) (keys_of ps)
          next r new no_pairs at f = absurd (omega arith)
          next r new (pair k v others) at f =
              rw (← this_key at.0.reads, looked-up chained) (new.told others (rw (ends, at.0.ends) at.2) (omega arith))
