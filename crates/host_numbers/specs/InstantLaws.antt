-- What a host may rely on where it reads an instant: `rulecheck_field` gives the seven fields, and a buffer keeps its bytes where the answer is not 0.
use Rattle.std.specs.Prelude.{ℕ, ◌<◌, Bool, true, false, List, ◌≡◌, refl, leb, length, get_or}
use Rattle.std.proofs.Common.{arith, sym, ◌∙◌, leb-true}
use Rattle.std.proofs.Math.Option.{Option, none, some}
use Rattle.std.proofs.Math.Seq.{sets}
use Rattle.timestamp.specs.Instant.{instant, SmallFields}
use Rattle.timestamp.specs.Order.{list_of}
use Rattle.timestamp.proofs.FieldLaws.{instant-low}
use Rattle.timestamp.specs.declared.Fields.{Fields}
use Rattle.buffer.specs.Bytes.{bytes_of, InFourBytes, no_more, one_more, field_at}
use Rattle.buffer.specs.BytesLaws.{field-written}
use Rattle.host_numbers.specs.InstantEntry.{instant_bytes, instant_number, instant_after, InstantAnswered, Found}

found-by : (text before after : List ℕ) (o : Option Fields) (b : Bool)
    → instant text ≡ o
    → leb instant_bytes (length before) ≡ b
    → instant_number (length before) o ≡ 0
    → after ≡ instant_after o before
    → (f : Fields) × Found text before after f
unfolding instant_number instant_after
found-by text before after none true e t n a = absurd (omega (arith, rw t at n))
found-by text before after none false e t n a = absurd (omega (arith, rw t at n))
found-by text before after (some f) true e t n a =
    (f, record { reads = e; room = leb-true instant_bytes (length before) t; written = rw t at a })
found-by text before after (some f) false e t n a = absurd (omega (arith, rw t at n))

kept_by : (before after : List ℕ) (o : Option Fields) (b : Bool)
    → leb instant_bytes (length before) ≡ b
    → (instant_number (length before) o ≡ 0 → ⊥)
    → after ≡ instant_after o before
    → after ≡ before
unfolding instant_number instant_after
kept_by before after none b t h a = a
kept_by before after (some f) true t h a = absurd (h (rw t refl))
kept_by before after (some f) false t h a = rw t at a

small-list : (f : Fields) → SmallFields f → InFourBytes (list_of f)
unfolding list_of
small-list f small =
    one_more {n = f.year} (omega (arith, small.year))
    (one_more {n = f.month} (omega (arith, small.month))
    (one_more {n = f.day} (omega (arith, small.day))
    (one_more {n = f.hour} (omega (arith, small.hour))
    (one_more {n = f.minute} (omega (arith, small.minute)) (one_more {n = f.second} (omega (arith, small.second)) (one_more {n = f.nanoseconds} (omega (arith, small.nanoseconds)) no_more))))))

module _ {text before after : List ℕ} {r : ℕ} (a : InstantAnswered text before after r) where
  -- 0 says that the text is an instant whose fields were written
  pub instant-found : r ≡ 0 → (f : Fields) × Found text before after f
  instant-found e =
      found-by text before after (instant text) (leb instant_bytes (length before)) refl refl (sym a.number ∙ e) a.fields

  -- so `rulecheck_field` gives each field of it
  pub field-of-instant : (f : Fields) → r ≡ 0 → instant text ≡ some f → (i : ℕ) → i < 7 → field_at i after ≡ get_or (list_of f) i 0
  unfolding list_of
  field-of-instant f e reads i less =
      let (g, found) = instant-found e in
      let same : g ≡ f = cc found.reads in
      let written : after ≡ sets before 0 (bytes_of (list_of f)) = rw same at found.written in
      rw written (field-written (list_of f) before (omega (arith, found.room)) i less (small-list f (instant-low text f reads)))

  -- after any other answer the buffer is as it was
  pub instant-kept : (r ≡ 0 → ⊥) → after ≡ before
  instant-kept h =
      kept_by before after (instant text) (leb instant_bytes (length before)) refl (λ z. h (a.number ∙ z)) a.fields
