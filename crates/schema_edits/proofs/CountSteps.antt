-- Entries one after another: each way through `count_entries`, as a law.
use Rattle.std.specs.Prelude.{Option, Some, None}
use Prim.Native.Nat.{ℕ, ◌+◌, ◌/◌, ◌≤◌, ◌<◌}
use native.Mathlib.Omega.{arith}
use mathlib.Core.List.{List, []}
use mathlib.Core.Option.{some}
use mathlib.Core.Path.{◌≡◌, refl, sym, ap, ◌∙◌}
use lib.ListN.{length, drop, length-append, length-drop, drop_of_length-le}
use Rattle.text.specs.Ascii.{ascii}
use Rattle.text.specs.Numeral.{decimal_of}
use Rattle.text.specs.NumeralLaws.{decimal_of-one, decimal_of-last}
use Rattle.sheet.specs.Entries.{FieldHead, field_head}
use Rattle.sheet.specs.Write.{write_field_head}
use Rattle.sheet.proofs.HeadLaws.{field_head-exact}
use Rattle.sheet.specs.Places.{KnownTo, Unread, KnownFieldIs}
use Rattle.sheet.specs.declared.schema_heads.FieldHead.{FieldHead as CodeHead}
use Rattle.definition.specs.Decode.{to_count}
use Rattle.schema_edits.specs.Forest.{Fields, passed, entered, EntriesAre}

-- after `n` entries from `start` on, the others are from `at` on
pub record Counting (s : List ℕ) (start at n : ℕ) : Type 0 where
  pub reached : n + start ≤ at
  pub few : n ≤ length s
  pub leads : (p m : ℕ) → Fields p m (drop start s) [] → (q : ℕ) × (k : ℕ) × (m ≡ k + n) × Fields q k (drop at s) []

pub counting-start : {s : List ℕ} {start at n : ℕ} → at ≡ start → n ≡ 0 → Counting s start at n
counting-start e f = rw (e, f) (record { reached = omega arith; few = omega arith; leads = λ p m h. (p, m, omega arith, h) })

-- no entry is empty
entry-bytes : (h : FieldHead) (others bytes : List ℕ) {C : Type 0} → bytes ≡ [] → field_head bytes ≡ some (h, others) → C
unfolding write_field_head ascii
entry-bytes h others bytes e reads =
    let w = (field_head-exact.sound bytes h others reads).0 in
    absurd (omega (arith, ap length (sym e ∙ w)))

none_left : {p k : ℕ} {bytes rest : List ℕ} → bytes ≡ [] → Fields p k bytes rest → k ≡ 0
none_left e passed = refl
none_left {bytes = bytes} e (entered h others reads more) = entry-bytes h others bytes e reads

pub counting-end : {s : List ℕ} {start at n : ℕ} → Counting s start at n → length s ≤ at → EntriesAre s start n
counting-end {s} {start} {at} {n} c l =
    record {
      counts = λ p m h. let x = c.leads p m h in let none = none_left (drop_of_length-le s {i = at} l) x.3 in omega (arith, x.2);
      few = c.few;
    }

-- Where bytes are left, an entry is.

module _ (s : List ℕ) (at : ℕ) (less : at < length s) where
  some_left : (bytes : List ℕ) {C : Type 0} → bytes ≡ drop at s → bytes ≡ [] → C
  some_left bytes e f = absurd (omega (arith, ap length (sym e ∙ f), length-drop at s))

  unread-left : {p k : ℕ} {bytes rest : List ℕ} {C : Type 0} → Unread s at → bytes ≡ drop at s → rest ≡ [] → Fields p k bytes rest → C
  unread-left u e f (passed {rest = rest}) = some_left rest e f
  unread-left u e f (entered h others reads more) = absurd (u h others (ap field_head (sym e) ∙ reads))

  one_more : {h : CodeHead} {end p k : ℕ} {bytes rest : List ℕ} → KnownTo s at h end → bytes ≡ drop at s → rest ≡ [] → Fields p k bytes rest
      → (q : ℕ) × (j : ℕ) × (k ≡ j + 1) × Fields q j (drop end s) rest
  one_more known e f (passed {rest = rest}) = some_left rest e f
  one_more known e f (entered {pending = q} {n = j} g others reads more) =
      let same = known.reads g others (ap field_head (sym e) ∙ reads) in
      (q + (to_count g.has_items + g.count), j, omega arith, rw same.1 more)

module _ {s : List ℕ} {start at n : ℕ} (c : Counting s start at n) (less : at < length s) where
  pub counting-unread : {r : Option (CodeHead × ℕ)} → KnownFieldIs s at r → r ≡ None → EntriesAre s start n
  counting-unread read is = record { counts = λ p m h. unread-left s at less (rw is at read) refl refl (c.leads p m h).3; few = c.few }

  pub counting_more : {r : Option (CodeHead × ℕ)} {h : CodeHead} {end next : ℕ} → KnownFieldIs s at r → r ≡ Some (h, end) → next ≡ n + 1 → Counting s start end next
  counting_more {h = h} {end = end} read is one =
      let known : KnownTo s at h end = rw is at read in
      let past = known.past in
      let reached = c.reached in
      rw one
      (record {
        reached = omega arith;
        few = omega arith;
        leads = λ p m f.
            let x = c.leads p m f in
            let y = one_more s at less known refl refl x.3 in
            (y.0, y.1, omega (arith, x.2, y.2), y.3);
      })

-- The digits of a count

pub digit-one : (n : ℕ) → n < 10 → 1 ≡ length (decimal_of n)
digit-one n h = rw (decimal_of-one n h)

pub digits_more : (n r : ℕ) → 10 ≤ n → r ≡ length (decimal_of (n / 10)) → r + 1 ≡ length (decimal_of n)
digits_more n r h e = rw (decimal_of-last n h) (simp length-append (omega arith))
