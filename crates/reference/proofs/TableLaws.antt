-- A name table takes 176 bytes: eight entries of 22. And the stock table sets a call as document 01 does.
use Rattle.std.specs.Prelude.{ℕ, zero, suc, ◌+◌, ◌*◌, ◌≤◌, Bool, List, [], ◌∷◌, ◌≡◌, refl, length, take}
use Rattle.std.proofs.Common.{arith, ap, ◌∙◌, length-append, lt-ltb}
use Rattle.std.proofs.Math.Option.{Option, none, some, none-ne-some}
use Rattle.text.specs.Ascii.{ascii}
use Rattle.text.specs.Numeral.{decimal_in, decimal_of}
use Rattle.text.specs.ByteReaders.{byte}
use Rattle.text.specs.ReaderLaws.{Reads, bind_inv, then-inv, pure-inv}
use Rattle.text.specs.ByteReaderLaws.{byte-sound}
use Rattle.sheet.specs.Entries.{item, mark}
use Rattle.sheet.specs.Write.{write_item}
use Rattle.sheet.proofs.ItemLaws.{item-exact}
use Rattle.reference.specs.Setting.{Name, id, entity, version, fields, state, to_state, from_state, args, old_fields, stock, setting_with, setting_of}
use Rattle.reference.specs.Table.{Row, may_read_by, row_marks, table_entry, rows, alone, decode_table, stock_row, stock_table, table_bytes, table_in, row_of, setting_under}

byte-bytes : (b : ℕ) (s : List ℕ) (a : Unit {0}) (t : List ℕ) → Reads (byte b) s a t → length s ≡ 1 + length t
byte-bytes b s a t e = ap length (byte-sound b s a t e) ∙ omega arith

one-digit : (n : ℕ) → n ≤ 9 → length (decimal_of n) ≡ 1
unfolding decimal_of decimal_in
one-digit n h = rw (lt-ltb n 10 (omega arith))

item-bytes : (low high : ℕ) (s : List ℕ) (n : ℕ) (t : List ℕ) → high ≤ 9 → Reads (item low high) s n t → length s ≡ 2 + length t
unfolding write_item ascii
item-bytes low high s n t h e =
    let (written, (above, below)) = (item-exact low high).sound s n t e in
    let one = one-digit n (omega arith) in
    ap length written ∙ simp length-append (omega (arith, one))

mark-bytes : (s : List ℕ) (b : Bool) (t : List ℕ) → Reads mark s b t → length s ≡ 2 + length t
unfolding mark
mark-bytes s b t e =
    bind_inv _ _ s e λ n u e₁ r.
    let (same, rest) = pure-inv _ u r in
    let size = item-bytes 0 1 s n u (omega arith) e₁ in
    size ∙ ap (λ (x : List ℕ). 2 + length x) rest

marks-bytes : (s : List ℕ) (row : Row) (t : List ℕ) → Reads row_marks s row t → length s ≡ 18 + length t
unfolding row_marks
marks-bytes s row t e =
    bind_inv _ _ s e λ m₁ s₁ e₁ e.
    bind_inv _ _ s₁ e λ m₂ s₂ e₂ e.
    bind_inv _ _ s₂ e λ m₃ s₃ e₃ e.
    bind_inv _ _ s₃ e λ m₄ s₄ e₄ e.
    bind_inv _ _ s₄ e λ m₅ s₅ e₅ e.
    bind_inv _ _ s₅ e λ m₆ s₆ e₆ e.
    bind_inv _ _ s₆ e λ m₇ s₇ e₇ e.
    bind_inv _ _ s₇ e λ m₈ s₈ e₈ e.
    bind_inv _ _ s₈ e λ m₉ s₉ e₉ e.
    let rest = ap length (pure-inv _ s₉ e).1 in
    omega
    (arith, mark-bytes s m₁ s₁ e₁, mark-bytes s₁ m₂ s₂ e₂, mark-bytes s₂ m₃ s₃ e₃, mark-bytes s₃ m₄ s₄ e₄, mark-bytes s₄ m₅ s₅ e₅, mark-bytes s₅ m₆ s₆ e₆, mark-bytes s₆ m₇ s₇ e₇, mark-bytes s₇ m₈ s₈ e₈, mark-bytes s₈ m₉ s₉ e₉, rest)

entry-bytes : (kind : ℕ) (s : List ℕ) (row : Row) (t : List ℕ) → kind ≤ 9 → Reads (table_entry kind) s row t → length s ≡ 22 + length t
unfolding table_entry
entry-bytes kind s row t small e =
    then-inv _ _ s e λ x s₁ e₁ e.
    then-inv _ _ s₁ e λ k s₂ e₂ e.
    bind_inv _ _ s₂ e λ m s₃ e₃ e.
    then-inv _ _ s₃ e λ y s₄ e₄ e.
    let rest = ap length (pure-inv _ s₄ e).1 in
    omega (arith, byte-bytes _ s x s₁ e₁, item-bytes kind kind s₁ k s₂ small e₂, marks-bytes s₂ m s₃ e₃, byte-bytes 10 s₃ y s₄ e₄, rest)

rows-bytes : (count kind : ℕ) (s : List ℕ) (table : List Row) (t : List ℕ) → kind + count ≤ 10 → Reads (rows count kind) s table t → length s ≡ 22 * count + length t
unfolding rows
rows-bytes zero kind s table t h e = ap length (pure-inv _ s e).1 ∙ omega arith
rows-bytes (suc n) kind s table t h e =
    bind_inv _ _ s e λ row u e₁ e.
    bind_inv _ _ u e λ others v e₂ e.
    let rest = ap length (pure-inv _ v e).1 in
    omega (arith, entry-bytes kind s row u (omega arith) e₁, rows-bytes n (kind + 1) u others v (omega arith) e₂, rest)

alone-inv : (o : Option (List Row × List ℕ)) (table : List Row) → alone o ≡ some table → o ≡ some (table, [])
unfolding alone
alone-inv none table e = absurd (none-ne-some _ e)
alone-inv (some (x, [])) table e = cc
alone-inv (some (x, b ∷ s)) table e = absurd (none-ne-some _ e)

pub table-bytes : (s : List ℕ) (table : List Row) → decode_table s ≡ some table → length s ≡ table_bytes
unfolding decode_table
table-bytes s table e = rows-bytes 8 1 s table [] (omega arith) (alone-inv (rows 8 1 s) table e)

-- bytes of which some are there: the first 176 are looked at
pub table-in : (s : List ℕ) → 1 ≤ length s → table_in s ≡ decode_table (take table_bytes s)
unfolding table_in
table-in [] h = absurd (omega arith)
table-in (b ∷ s) h = refl

-- The stock table: each kind has the row that document 01 gives it.

pub stock-row : (kind : ℕ) → row_of stock_table kind ≡ stock_row kind
unfolding row_of stock_table
stock-row zero = refl
stock-row (suc zero) = refl
stock-row (suc (suc zero)) = refl
stock-row (suc (suc (suc zero))) = refl
stock-row (suc (suc (suc (suc zero)))) = refl
stock-row (suc (suc (suc (suc (suc zero))))) = refl
stock-row (suc (suc (suc (suc (suc (suc zero)))))) = refl
stock-row (suc (suc (suc (suc (suc (suc (suc zero))))))) = refl
stock-row (suc (suc (suc (suc (suc (suc (suc (suc zero)))))))) = refl
stock-row (suc (suc (suc (suc (suc (suc (suc (suc (suc n))))))))) = refl

marks-of-stock : (kind : ℕ) (n : Name) → may_read_by (stock_row kind) n ≡ stock kind n
unfolding may_read_by stock_row
marks-of-stock kind id = refl
marks-of-stock kind entity = refl
marks-of-stock kind version = refl
marks-of-stock kind fields = refl
marks-of-stock kind state = refl
marks-of-stock kind to_state = refl
marks-of-stock kind from_state = refl
marks-of-stock kind args = refl
marks-of-stock kind old_fields = refl

pub stock-setting : (kind semantics : ℕ) → setting_under stock_table kind semantics ≡ setting_of kind semantics
unfolding setting_under setting_of
stock-setting kind semantics =
    ap (λ (may_read : Name → Bool). setting_with may_read kind semantics)
    (ap may_read_by (stock-row kind) ∙ (λ i n. marks-of-stock kind n i))
