-- The mark of a field: each way through `field_mark`, as a law.
use Rattle.std.specs.Prelude.{Option, Some, None}
use Prim.Native.Nat.{ℕ, ◌+◌, ◌/◌, ◌≤◌, ◌<◌}
use mathlib.Core.Bool.{Bool, true, or-true}
use mathlib.Core.List.{List, [], ◌∷◌, ◌++◌, append_assoc}
use mathlib.Core.Option.{some}
use mathlib.Core.Path.{◌≡◌, sym, ap, ◌∙◌}
use native.Mathlib.Omega.{arith}
use lib.Dec.{eqb}
use lib.ListN.{length, drop, set, length-append}
use lib.Seq.{drop_at}
use borrow.Author.Tests.{eq-eqb}
use Rattle.text.specs.Ascii.{ascii}
use Rattle.text.specs.NumeralLaws.{decimal_of-one, decimal_of-last}
use Rattle.sheet.specs.Entries.{FieldHead, field_head}
use Rattle.sheet.specs.Write.{mark_of, write_item, write_mark, write_length, write_text, write_end, write_field_head}
use Rattle.sheet.proofs.HeadLaws.{field_head-exact}
use Rattle.sheet.specs.Places.{field_of, KnownTo, Unread, KnownFieldIs}
use Rattle.sheet.specs.declared.schema_heads.FieldHead.{FieldHead as CodeHead}
use Rattle.open_marks.specs.Places.{opened_head, Opens, ended, entered, FieldMarkAt}
use Rattle.open_marks.proofs.Entered.{head-other, opens-past}
use Rattle.open_marks.proofs.Bytes.{mark-written, front_length, set-mark, nothing-set}

-- An entry's bytes, before its mark and behind it

field_front : ℕ → List ℕ
field_front kind = ascii "F" ++ (write_item kind ++ ascii ",")

behind_mark : FieldHead → List ℕ → List ℕ
behind_mark h t =
    write_mark h.has_items ++ (write_item h.count ++ (write_item (length h.name) ++ (write_length h.tag
    ++ (ascii "," ++ (h.name ++ (write_text h.tag ++ (write_end ++ t)))))))

field-parts : (h : FieldHead) (t : List ℕ) → write_field_head h ++ t ≡ ascii "F" ++ (write_item h.kind ++ (write_mark h.is_open ++ behind_mark h t))
unfolding write_field_head behind_mark
field-parts h t = simp append_assoc

field-split : (h : FieldHead) (t : List ℕ) → write_field_head h ++ t ≡ field_front h.kind ++ (48 + mark_of h.is_open) ∷ behind_mark h t
unfolding field_front ascii
field-split h t = field-parts h t ∙ rw (mark-written h.is_open, append_assoc (write_item h.kind) (44 ∷ []) ((48 + mark_of h.is_open) ∷ behind_mark h t))

field-opened : (h : FieldHead) (t : List ℕ) → write_field_head (opened_head true h) ++ t ≡ field_front h.kind ++ 49 ∷ behind_mark h t
unfolding opened_head behind_mark mark_of
field-opened h t =
    field-split (opened_head true h) t
    ∙ ap (λ (b : Bool). field_front h.kind ++ (48 + mark_of b) ∷ behind_mark h t) (or-true h.is_open)

front-one : (kind : ℕ) → kind < 10 → length (field_front kind) ≡ 4
unfolding field_front write_item ascii
front-one kind l = rw (decimal_of-one kind l)

front-two : (kind : ℕ) → 10 ≤ kind → kind < 100 → length (field_front kind) ≡ 5
unfolding field_front write_item ascii
front-two kind l m = let q : kind / 10 < 10 = omega arith in rw (decimal_of-last kind l, decimal_of-one (kind / 10) q)

-- Where no entry is read nothing changes.

unread-opens : {s : List ℕ} {at entry number : ℕ} → Unread s at → (front rest after : List ℕ) → s ≡ front ++ rest → length front ≡ at → Opens entry number rest after
    → set s (length s) 49 ≡ front ++ after
unread-opens {s} u front rest after e l (ended p q) = nothing-set s front rest after e (p ∙ sym q)
unread-opens {s} {at} u front rest after e l (entered h others others' reads q o) =
    absurd (u h others (ap field_head (ap (drop at) e ∙ drop_at front rest at l) ∙ reads))

mark-unread : {s : List ℕ} {at entry number : ℕ} → Unread s at → FieldMarkAt s at number entry (length s)
mark-unread u = record { opens = unread-opens u }

-- What is known of an entry that is read.

module _ {s : List ℕ} {at next : ℕ} {known : CodeHead} (k : KnownTo s at known next) where
  not-ended : {A : Type 0} (front rest : List ℕ) → s ≡ front ++ rest → length front ≡ at → rest ≡ [] → A
  not-ended front rest e l p =
      let past = k.past in
      let within = k.within in
      absurd (omega (arith, ap length e, length-append front rest, ap length p))

  module _ (front rest : List ℕ) (e : s ≡ front ++ rest) (l : length front ≡ at) {h : FieldHead} {others : List ℕ} (reads : field_head rest ≡ some (h, others)) where
    known_same : (field_of s known ≡ h) × (drop next s ≡ others)
    known_same = k.reads h others (ap field_head (ap (drop at) e ∙ drop_at front rest at l) ∙ reads)

    known_written : s ≡ front ++ (write_field_head h ++ others)
    known_written = e ∙ ap (λ (x : List ℕ). front ++ x) (field_head-exact.sound rest h others reads).0

    known-kind : known.kind ≡ h.kind
    unfolding field_of
    known-kind = ap (λ (g : FieldHead). g.kind) known_same.0

    known-most : h.kind ≤ 12
    known-most = (field_head-exact.sound rest h others reads).1.kind.1

    front-next : (s ≡ (front ++ write_field_head h) ++ others) × (length (front ++ write_field_head h) ≡ next)
    front-next =
        let q : s ≡ (front ++ write_field_head h) ++ others = known_written ∙ sym (append_assoc front (write_field_head h) others) in
        (q, front_length s (front ++ write_field_head h) others next q known_same.1 k.within)

  -- an entry before the one sought

  passed-opens : {entry number place : ℕ} → number < entry → FieldMarkAt s next (number + 1) entry place
      → (front rest after : List ℕ) → s ≡ front ++ rest → length front ≡ at → Opens entry number rest after
      → set s place 49 ≡ front ++ after
  passed-opens less m front rest after e l (ended p q) = not-ended front rest e l p
  passed-opens {entry} {number} less m front rest after e l (entered h others others' reads q o) =
      let same : opened_head (eqb entry number) h ≡ h = head-other entry number h (λ z. omega arith) in
      let f = front-next front rest e l reads in
      m.opens (front ++ write_field_head h) others others' f.0 f.1 o
      ∙ append_assoc front (write_field_head h) others'
      ∙ ap (λ (x : List ℕ). front ++ x) (sym (q ∙ ap (λ (g : FieldHead). write_field_head g ++ others') same))

  mark-passed : {entry number place : ℕ} → number < entry → FieldMarkAt s next (number + 1) entry place → FieldMarkAt s at number entry place
  mark-passed less m = record { opens = passed-opens less m }

  -- the entry sought

  found-opens : {entry number place : ℕ} → number ≡ entry → ((kind : ℕ) → kind ≤ 12 → known.kind ≡ kind → place ≡ at + length (field_front kind))
      → (front rest after : List ℕ) → s ≡ front ++ rest → length front ≡ at → Opens entry number rest after
      → set s place 49 ≡ front ++ after
  found-opens this there front rest after e l (ended p q) = not-ended front rest e l p
  found-opens {entry} {number} {place} this there front rest after e l (entered h others others' reads q o) =
      let is : place ≡ at + length (field_front h.kind) = there h.kind (known-most front rest e l reads) (known-kind front rest e l reads) in
      let same : others ≡ others' = opens-past (omega arith) o in
      let opened : opened_head (eqb entry number) h ≡ opened_head true h = ap (λ (b : Bool). opened_head b h) (eq-eqb entry number (sym this)) in
      let written : after ≡ field_front h.kind ++ 49 ∷ behind_mark h others =
      q ∙ ap (λ (g : FieldHead). write_field_head g ++ others') opened ∙ rw (← same) (field-opened h others) in
      set-mark s (front ++ field_front h.kind) (48 + mark_of h.is_open) (behind_mark h others) place
      (known_written front rest e l reads ∙ ap (λ (x : List ℕ). front ++ x) (field-split h others) ∙ sym (append_assoc front (field_front h.kind) _))
      (omega (arith, length-append front (field_front h.kind)))
      ∙ append_assoc front (field_front h.kind) (49 ∷ behind_mark h others)
      ∙ ap (λ (x : List ℕ). front ++ x) (sym written)

  mark-one : {entry number place : ℕ} → number ≡ entry → known.kind < 10 → place ≡ at + 4 → FieldMarkAt s at number entry place
  mark-one this less is =
      record { opens = found-opens this (λ kind most same. omega (arith, front-one kind (omega arith))) }

  mark-two : {entry number place : ℕ} → number ≡ entry → 10 ≤ known.kind → place ≡ at + 5 → FieldMarkAt s at number entry place
  mark-two this more is =
      record { opens = found-opens this (λ kind most same. omega (arith, front-two kind (omega arith) (omega arith))) }

-- The loop: the entry at `at` has that number, and a place that is right from there on is right from the start on

pub record Sought (s : List ℕ) (start entry at number : ℕ) : Type 0 where
  pub reached : number ≤ entry
  pub leads : (place : ℕ) → FieldMarkAt s at number entry place → FieldMarkAt s start 2 entry place

pub sought-start : {s : List ℕ} {start entry number : ℕ} → number ≡ 2 → 2 ≤ entry → Sought s start entry start number
sought-start e l = rw e (record { reached = l; leads = λ place m. m })

module _ {s : List ℕ} {start entry at number : ℕ} (before : Sought s start entry at number) {r : Option (CodeHead × ℕ)} (read : KnownFieldIs s at r) where
  pub sought-unread : r ≡ None → FieldMarkAt s start 2 entry (length s)
  sought-unread e = before.leads (length s) (mark-unread (rw e at read))

  module _ {h : CodeHead} {next : ℕ} (e : r ≡ Some (h, next)) where
    known : KnownTo s at h next
    known = rw e at read

    pub sought-more : {more : ℕ} → number < entry → more ≡ number + 1 → Sought s start entry next more
    sought-more less is = rw is (record { reached = omega arith; leads = λ place m. before.leads place (mark-passed known less m) })

    pub sought-one : {place : ℕ} → entry ≤ number → h.kind < 10 → place ≡ at + 4 → FieldMarkAt s start 2 entry place
    sought-one {place} l k is = let reached = before.reached in before.leads place (mark-one known (omega arith) k is)

    pub sought-two : {place : ℕ} → entry ≤ number → 10 ≤ h.kind → place ≡ at + 5 → FieldMarkAt s start 2 entry place
    sought-two {place} l k is = let reached = before.reached in before.leads place (mark-two known (omega arith) k is)
