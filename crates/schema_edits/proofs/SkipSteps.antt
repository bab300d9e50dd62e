-- Over a field: each way through `skip_field`, as a law.
use Rattle.std.specs.Prelude.{Option, Some, None}
use Prim.Native.Nat.{ℕ, suc, ◌+◌, ◌-◌, ◌*◌, ◌≤◌, ◌<◌}
use native.Mathlib.Omega.{arith}
use mathlib.Core.Bool.{Bool, true, false}
use mathlib.Core.List.{List}
use mathlib.Core.Path.{◌≡◌, refl, sym, ap, ◌∙◌}
use lib.ListN.{length, drop}
use Rattle.sheet.specs.Entries.{FieldHead, field_head}
use Rattle.sheet.specs.Places.{field_of, KnownTo, Unread, KnownFieldIs}
use Rattle.sheet.specs.declared.schema_heads.FieldHead.{FieldHead as CodeHead}
use Rattle.definition.specs.Decode.{to_count}
use Rattle.schema_edits.specs.Forest.{Fields, passed, entered, SkippedTo}

-- of the field at `at`, so many fields are still to come from `next` on
pub record Skipping (s : List ℕ) (at pending next : ℕ) : Type 0 where
  pub few : pending ≤ 1 + 2049 * (next - at)
  pub reached : at ≤ next
  pub within : pending ≤ 0 → next ≤ length s
  pub leads : (n : ℕ) (rest : List ℕ) → Fields 1 n (drop at s) rest → (m : ℕ) × Fields pending m (drop next s) rest

pub skip-start : {s : List ℕ} {at pending next : ℕ} → pending ≡ 1 → next ≡ at → Skipping s at pending next
skip-start {s} {at} e f =
    rw (e, f) (record { few = omega arith; reached = omega arith; within = λ l. absurd (omega arith); leads = λ n rest h. (n, h) })

none_left : {pending n : ℕ} {bytes rest : List ℕ} → pending ≡ 0 → Fields pending n bytes rest → bytes ≡ rest
none_left e passed = refl
none_left e (entered h others reads more) = absurd (omega arith)

pub skip-end : {s : List ℕ} {at pending next : ℕ} → Skipping s at pending next → pending ≤ 0 → SkippedTo s at next
skip-end k e = record { skips = λ n rest h. none_left (omega arith) (k.leads n rest h).1; within = k.within e }

unread-fields : (s : List ℕ) (next : ℕ) {bytes rest : List ℕ} {pending n : ℕ} → Unread s next → 0 < pending → bytes ≡ drop next s → Fields pending n bytes rest → ⊥
unread-fields s next u l e passed = omega arith
unread-fields s next u l e (entered h others reads more) = u h others (ap field_head (sym e) ∙ reads)

-- where no entry is read, there was no field
pub skip-unread : {s : List ℕ} {at pending next : ℕ} {r : Option (CodeHead × ℕ)} → Skipping s at pending next → KnownFieldIs s next r → r ≡ None → 0 < pending
    → SkippedTo s at (length s)
skip-unread {s} {next = next} k read e l = record { skips = λ n rest h. absurd (unread-fields s next (rw e at read) l refl (k.leads n rest h).1); within = omega arith }

pub at_most_one : (b : Bool) → to_count b ≤ 1
unfolding to_count
at_most_one true = omega arith
at_most_one false = omega arith

known-fields : (s : List ℕ) (next end : ℕ) (h : CodeHead) {bytes rest : List ℕ} {pending n : ℕ}
    → KnownTo s next h end
    → 0 < pending
    → bytes ≡ drop next s
    → Fields pending n bytes rest
    → (m : ℕ) × Fields (pending - 1 + to_count h.items + h.count) m (drop end s) rest
unfolding field_of
known-fields s next end h k l e passed = absurd (omega arith)
known-fields s next end h k l e (entered {pending = p} {n = m} g others reads more) =
    let same = k.reads g others (ap field_head (sym e) ∙ reads) in
    let head : field_of s h ≡ g = same.0 in
    let items : g.has_items ≡ h.items = sym (ap (λ (x : FieldHead). x.has_items) head) in
    let count : g.count ≡ h.count = sym (ap (λ (x : FieldHead). x.count) head) in
    let as_many : p + (to_count g.has_items + g.count) ≡ suc p - 1 + to_count h.items + h.count = rw (items, count) (omega arith) in
    (m, rw (← as_many, same.1) more)

pub skip-more : {s : List ℕ} {at pending next more end : ℕ} {r : Option (CodeHead × ℕ)} {h : CodeHead}
    → Skipping s at pending next
    → KnownFieldIs s next r
    → r ≡ Some (h, end)
    → 0 < pending
    → more ≡ pending - 1 + to_count h.items + h.count
    → Skipping s at more end
skip-more {s} {at} {pending} {next} {more} {end} {r} {h} k read e l is =
    let known : KnownTo s next h end = rw e at read in
    let one = at_most_one h.items in
    let few = k.few in
    let reached = k.reached in
    let past = known.past in
    let count = known.count in
    rw is
    (record {
      few = omega arith;
      reached = omega arith;
      within = λ _. known.within;
      leads = λ n rest f. known-fields s next end h known l refl (k.leads n rest f).1;
    })
