-- Entries that were read before: what comes before their texts says where these are, and where the entry ends.
use Rattle.std.specs.Prelude.{Option as Optional, Some, None}
use Prim.Native.Nat.{ℕ, ◌+◌, ◌-◌, ◌≤◌, ◌<◌}
use mathlib.Core.List.{List}
use mathlib.Core.Option.{Option, some, none-ne-some}
use mathlib.Core.Path.{◌≡◌, sym, ap, ◌∙◌}
use native.Mathlib.Omega.{arith}
use lib.ListN.{length, take, drop, length-drop}
use lib.Seq.{drop-drop, take-append_seam, drop-append_seam}
use Rattle.text.specs.Reader.{Reader, ◌>>=◌, ◌>>◌, and_then, pure}
use Rattle.text.specs.ReaderLaws.{Reads, bind_inv, then-inv, pure-inv}
use Rattle.text.specs.ByteReaders.{byte, comma, line_end}
use Rattle.text.specs.ByteReaderLaws.{byte-sound}
use Rattle.text.specs.Parts.{part_of, optional_of}
use Rattle.text.specs.ReadAt.{ReadsTo, Refuses}
use Rattle.sheet.specs.Entries as entries
use Rattle.sheet.specs.Entries.{max_text, max_count, item, text_length, text, optional_text, field_head}
use Rattle.sheet.proofs.ItemLaws.{text-sound}
use Rattle.sheet.specs.Pieces.{field_marks, field_texts}
use Rattle.sheet.specs.Places.{length_of, field_of, tag_at, tag_bytes, KnownTo, Unread}
use Rattle.sheet.specs.declared.schema_heads.FieldHead.{FieldHead}
use Rattle.sheet.specs.declared.schema_heads.FieldMarks.{FieldMarks}
use Rattle.sheet.proofs.Heads.{field_by, field-pieces}
use Rattle.text.specs.declared.part.Part.{Part}

pub refused : (s : List ℕ) (at : ℕ) → Refuses field_head s at → Unread s at
refused s at e g t q = none-ne-some _ (sym e ∙ q)

-- What is read, and where reading stops, by the place where it began.

byte_at : (b : ℕ) (s : List ℕ) (at : ℕ) (u : Unit {0}) (t : List ℕ) → Reads (byte b) (drop at s) u t → (t ≡ drop (at + 1) s) × (at < length s)
byte_at b s at u t e =
    let q = byte-sound b (drop at s) u t e in
    (rw (← (drop-drop 1 at s), q), omega (arith, length-drop at s, ap length q))

text_at : (n : ℕ) (s : List ℕ) (at : ℕ) (x t : List ℕ) → Reads (text n) (drop at s) x t → (x ≡ take n (drop at s)) × (t ≡ drop (at + n) s)
text_at n s at x t e =
    let r = text-sound n (drop at s) x t e in
    (rw (r.0, ← r.1) (sym (take-append_seam x t)), rw (← (drop-drop n at s), r.0, ← r.1) (sym (drop-append_seam x t)))

optional-at : (l : Optional ℕ) (s : List ℕ) (at : ℕ) (x : Option (List ℕ)) (t : List ℕ) → Reads (optional_text (length_of l)) (drop at s) x t
    → (x ≡ optional_of s (tag_at at l)) × (t ≡ drop (at + tag_bytes l) s)
unfolding optional_text length_of optional_of tag_at part_of tag_bytes
optional-at (Some n) s at x t e =
    bind_inv _ _ _ e λ y s₁ e₁ e.
    let q = pure-inv _ _ e in
    let r = text_at n s at y s₁ e₁ in
    (rw (← q.0, r.0), rw (← q.1) r.1)
optional-at None s at x t e =
    let z : at + 0 ≡ at = omega arith in
    (sym (pure-inv _ _ e).0, rw (z, (pure-inv _ _ e).1))

-- the texts after their lengths
abbrev Texts : Type 0
Texts = List ℕ × Option (List ℕ)

texts_of : (len : ℕ) → Option ℕ → Reader (List ℕ) Texts
texts_of len l = do
  comma
  name ← text len
  tag ← optional_text l
  line_end
  pure (name, tag)

texts-at : (s : List ℕ) (at len : ℕ) (l : Optional ℕ) (x : Texts) (t : List ℕ) → Reads (texts_of len (length_of l)) (drop at s) x t
    → (x ≡ (take len (drop (at + 1) s), optional_of s (tag_at (at + 1 + len) l))) × (t ≡ drop (at + 1 + len + tag_bytes l + 1) s) × (at + 1 + len + tag_bytes l < length s)
unfolding texts_of
texts-at s at len l x t e =
    then-inv _ _ _ e λ _ s₁ e₁ e.
    bind_inv _ _ _ e λ name s₂ e₂ e.
    bind_inv _ _ _ e λ tag s₃ e₃ e.
    then-inv _ _ _ e λ _ s₄ e₄ e.
    let p = (byte_at _ s at _ _ e₁).0 in
    let q = text_at len s (at + 1) name s₂ (rw p at e₂) in
    let r = optional-at l s (at + 1 + len) tag s₃ (rw q.1 at e₃) in
    let z = byte_at _ s (at + 1 + len + tag_bytes l) _ _ (rw r.1 at e₄) in
    let w = pure-inv _ _ e in
    (sym w.0 ∙ rw (q.0, r.0), sym w.1 ∙ z.0, z.1)

-- the entry as a whole, once its marks and the lengths of its texts are read
module _ {s : List ℕ} {at a b c len : ℕ} {m : FieldMarks} (f : ReadsTo field_marks s at m a) (n : ReadsTo (item 0 max_text) s a len b) (l : Optional ℕ) (t : ReadsTo text_length s b (length_of l) c) where
  known-texts : (x : Texts) (u : List ℕ) → field_texts (drop a s) ≡ some (x, u) → Reads (texts_of len (length_of l)) (drop c s) x u
  unfolding field_texts texts_of ◌>>=◌ and_then
  known-texts x u e = rw (n.reads, t.reads) at e

  known-pieces : (h : entries.FieldHead) (u : List ℕ) → field_head (drop at s) ≡ some (h, u) → Reads (field_texts >>= λ x. pure (field_by m x)) (drop a s) h u
  unfolding ◌>>=◌ and_then
  known-pieces h u e = rw f.reads at (sym (field-pieces (drop at s)) ∙ e)

  abbrev known_head : FieldHead
  known_head =
      record {
        kind = m.kind;
        opened = m.opened;
        items = m.items;
        count = m.count;
        name = record { start = c + 1; len = len };
        tag = tag_at (c + 1 + len) l;
      }

  field-known : (h : entries.FieldHead) (u : List ℕ) → field_head (drop at s) ≡ some (h, u)
      → (field_of s known_head ≡ h) × (u ≡ drop (c + 1 + len + tag_bytes l + 1) s) × (c + 1 + len + tag_bytes l < length s)
  unfolding field_of field_by part_of
  field-known h u e =
      bind_inv _ _ _ (known-pieces h u e) λ x s₁ e₁ e₂.
      let q = texts-at s c len l x s₁ (known-texts x s₁ e₁) in
      let w = pure-inv _ _ e₂ in
      (ap (field_by m) (sym q.0) ∙ w.0, sym w.1 ∙ q.1, q.2)

  -- each way through the code from there

  pub no-name : length s ≤ c + 1 + len → Unread s at
  no-name few h u e = let z = (field-known h u e).2 in omega arith

  pub no-tag : {k : ℕ} → k ≡ tag_bytes l → length s - (c + 1 + len) ≤ k → Unread s at
  no-tag bytes few h u e = let z = (field-known h u e).2 in omega arith

  pub known : {k : ℕ} {tag : Optional Part} → m.count ≤ max_count → k ≡ tag_bytes l → tag ≡ tag_at (c + 1 + len) l → k < length s - (c + 1 + len)
      → KnownTo s at
      (record { kind = m.kind; opened = m.opened; items = m.items; count = m.count; name = record { start = c + 1; len = len }; tag = tag })
      (c + 1 + len + k + 1)
  known {k} count bytes tag room =
      let p₁ = f.past in
      let p₂ = n.past in
      let p₃ = t.past in
      rw tag
      (record {
        reads = λ h u e. ((field-known h u e).0, rw bytes (sym (field-known h u e).1));
        count = count;
        past = omega arith;
        within = omega arith;
      })
