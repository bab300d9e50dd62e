-- How many bytes a reader takes at most: a numeral has no more digits than its bound, so what comes before a name is short.
use Prim.Native.Nat.{ℕ, suc, ◌+◌, ◌*◌, ◌/◌, ◌≤◌, ◌<◌}
use mathlib.Core.List.{List}
use mathlib.Core.Option.{Option}
use mathlib.Core.Logic.{⊎_elim}
use native.Mathlib.Omega.{arith}
use lib.Dec.{ltb}
use lib.ListN.{length, drop, length-drop, length-append}
use borrow.Author.Tests.{ltb-true, ltb-false}
use Rattle.text.specs.Ascii.{ascii}
use Rattle.text.specs.Reader.{Reader, ◌>>=◌, ◌>>◌, pure}
use Rattle.text.specs.CaseLaws.{by-test}
use Rattle.text.specs.ReaderLaws.{Reads, bind_inv, pure-inv, either-inv}
use Rattle.text.specs.Numeral.{decimal_of}
use Rattle.text.specs.NumeralLaws.{decimal_of-one, decimal_of-last}
use Rattle.text.specs.ByteReaders.{byte}
use Rattle.text.specs.ByteReaderLaws.{byte-sound}
use Rattle.text.specs.ReadAt.{ReadsTo}
use Rattle.text.specs.declared.part.Part.{Part}
use Rattle.sheet.specs.Entries.{max_text, max_count, item, mark, text_length}
use Rattle.sheet.specs.Write.{write_item}
use Rattle.sheet.proofs.ItemLaws.{item-exact}
use Rattle.sheet.specs.Pieces.{first, field_marks}
use Rattle.sheet.specs.Places.{NamePlaced, max_prefix}
use Rattle.sheet.specs.declared.schema_heads.FieldMarks.{FieldMarks}

-- Numbers below `m` have at most `k` digits

abbrev Digits : (m k : ℕ) → Type 0
Digits m k = (n : ℕ) → n < m → length (decimal_of n) ≤ k

digits-one : Digits 10 1
digits-one n h = rw (decimal_of-one n h) (omega arith)

digits_more : (m k : ℕ) → Digits m (suc k) → Digits (m * 10) (suc (suc k))
digits_more m k law n h =
    by-test (ltb n 10)
    (λ q. let one = digits-one n (ltb-true n 10 q) in omega arith)
    (λ q.
    let more = law (n / 10) (omega arith) in
    rw (decimal_of-last n (ltb-false n 10 q), length-append) (omega arith))

digits_2 : Digits 100 2
digits_2 = digits_more 10 0 digits-one

digits_3 : Digits 1000 3
digits_3 = digits_more 100 1 digits_2

digits_4 : Digits 10000 4
digits_4 = digits_more 1000 2 digits_3

-- `p` takes at most `n` bytes
abbrev Takes : {A : Type 0} → Reader (List ℕ) A → ℕ → Type 0
Takes {A} p n = (s : List ℕ) (a : A) (t : List ℕ) → Reads p s a t → length s ≤ length t + n

module _ {A B : Type 0} where
  takes-bind : (p : Reader (List ℕ) A) (k : A → Reader (List ℕ) B) (n m : ℕ) → Takes p n → ((a : A) → Takes (k a) m) → Takes (p >>= k) (n + m)
  takes-bind p k n m f g s b u e =
      bind_inv p k s e λ a t e₁ e₂.
      let x = f s a t e₁ in
      let y = g a t b u e₂ in
      omega arith

  takes-then : (p : Reader (List ℕ) A) (q : Reader (List ℕ) B) (n m : ℕ) → Takes p n → Takes q m → Takes (p >> q) (n + m)
  unfolding ◌>>◌
  takes-then p q n m f g = takes-bind p (λ a. q) n m f (λ a. g)

takes-pure : {A : Type 0} (a : A) → Takes (pure a) 0
takes-pure a s b t e = rw (pure-inv a s e).1 (omega arith)

takes-byte : (b : ℕ) → Takes (byte b) 1
takes-byte b s a t e = rw (byte-sound b s a t e) (omega arith)

takes-item : (low high m k : ℕ) → Digits m k → high < m → Takes (item low high) (1 + k)
unfolding write_item ascii
takes-item low high m k law h s n t e =
    let r = (item-exact low high).sound s n t e in
    let d = law n (omega (arith, r.1.1)) in
    rw (r.0, length-append) (omega arith)

takes-mark : Takes mark 2
unfolding mark
takes-mark = takes-bind (item 0 1) _ 2 0 (takes-item 0 1 10 1 digits-one (omega arith)) (λ n. takes-pure _)

takes-length : Takes (item 0 max_text) 4
takes-length = takes-item 0 max_text 1000 3 digits_3 (omega arith)

takes-text_length : Takes text_length 4
unfolding text_length
takes-text_length s o t e =
    ⊎_elim
    (λ e. let x = takes-then _ _ 1 1 (takes-byte 44) (takes-then _ _ 1 0 (takes-byte 45) (takes-pure _)) s o t e in omega arith)
    (λ e. takes-bind (item 0 max_text) _ 4 0 takes-length (λ n. takes-pure _) s o t e)
    (either-inv _ _ _ e)

takes-field_marks : Takes field_marks 13
unfolding field_marks first
takes-field_marks =
    takes-bind (first 70 1 12) _ 4 9 (takes-then (byte 70) (item 1 12) 1 3 (takes-byte 70) (takes-item 1 12 100 2 digits_2 (omega arith))) λ kind.
    takes-bind mark _ 2 7 takes-mark λ opened.
    takes-bind mark _ 2 5 takes-mark λ items.
    takes-bind (item 0 max_count) _ 5 0 (takes-item 0 max_count 10000 4 digits_4 (omega arith)) λ count.
    takes-pure _

-- Where the name is

ends : {A : Type 0} {p : Reader (List ℕ) A} {s : List ℕ} {at next : ℕ} {a : A} (n : ℕ) → Takes p n → ReadsTo p s at a next → next ≤ at + n
ends {s = s} {at = at} {next = next} n law e =
    let x = law (drop at s) _ (drop next s) e.reads in
    omega (arith, e.within, e.past, length-drop at s, length-drop next s)

-- after the lengths and a comma
pub texts-placed : {s : List ℕ} {at a b len : ℕ} {l : Option ℕ} → ReadsTo (item 0 max_text) s at len a → len ≤ max_text → ReadsTo text_length s a l b
    → NamePlaced at 9 (record { start = b + 1; len = len })
texts-placed n short m =
    let x = ends 4 takes-length n in
    let y = ends 4 takes-text_length m in
    record { after = omega (arith, n.past, m.past); near = omega arith; short = omega arith }

-- after the marks
pub field-placed : {s : List ℕ} {at a : ℕ} {m : FieldMarks} (name : Part) → ReadsTo field_marks s at m a → NamePlaced a 9 name → NamePlaced at max_prefix name
field-placed name f placed =
    let x = ends 13 takes-field_marks f in
    record { after = omega (arith, f.past, placed.after); near = omega (arith, placed.near); short = placed.short }
