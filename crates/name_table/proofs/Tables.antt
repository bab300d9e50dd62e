-- The loop over a table's entries: what has been read so far, and what follows for the whole.
use Rattle.std.specs.Prelude.{Option as Optional}
use Prim.Native.Nat.{ℕ, zero, suc, ◌+◌, ◌-◌, ◌<◌, ◌≤◌}
use native.Mathlib.Omega.{arith}
use mathlib.Core.Bool.{Bool, true, false, cond, ◌&&◌, and_assoc, and-true}
use mathlib.Core.List.{List, [], ◌∷◌, ◌++◌, append_assoc, append-nil}
use mathlib.Core.Option.{Option, none, some}
use mathlib.Core.Path.{◌≡◌, refl, ap, sym, subst, ◌∙◌}
use lib.ListN.{length, drop, get_or, take, length-append, drop_of_length-le}
use lib.Seq.{drop-cons, get_or_at, take_all}
use lib.Dec.{eqb}
use borrow.Author.Tests.{eqb-true, eqb-false, le-leb, lt-leb}
use Rattle.text.specs.Reader.{◌>>=◌, and_then, pure}
use Rattle.text.specs.CaseLaws.{by-test}
use Rattle.text.specs.ReadAt.{ReadsTo, Refuses}
use Rattle.reference.specs.Table as Table
use Rattle.reference.specs.Table.{table_entry, rows, alone, decode_table, is_sound, are_sound, stock_row, stock_table, table_in, table_bytes, row_of, is_sound_table}
use Rattle.reference.specs.Setting.{one_of, stock}
use Rattle.reference.proofs.TableLaws.{table-in, stock-row}
use Rattle.scope.specs.Names.{row_by}
use Rattle.scope.specs.declared.name.Row.{Row}
use Rattle.buffer.specs.Wrote.{Wrote}
use Rattle.validation.specs.Check.{is_none}
use Rattle.validation.specs.Result.{first_refusal, number_in}
use Rattle.validation.specs.Loading.{load_refusals, load_number, load_after}
use Rattle.name_table.specs.Tables.{HasRow, TableOr, TableIs, LentIs}

-- Lists with one more element at their end.

other-of : {A : Type 0} (l : List A) (x d : A) (i : ℕ) → (i ≡ length l → ⊥) → get_or (l ++ x ∷ []) i d ≡ get_or l i d
other-of [] x d zero h = absurd (h refl)
other-of [] x d (suc i) h = refl
other-of (y ∷ l) x d zero h = refl
other-of (y ∷ l) x d (suc i) h = other-of l x d i (λ e. h (ap suc e))

row_here : (table : List Table.Row) (x : Table.Row) (kind : ℕ) → kind ≡ length table + 1 → row_of (table ++ x ∷ []) kind ≡ x
unfolding row_of
row_here table x kind e = get_or_at (stock_row 0 ∷ table) x [] (stock_row kind) kind (omega (arith, e))

row_other : (table : List Table.Row) (x : Table.Row) (kind : ℕ) → (kind ≡ length table + 1 → ⊥) → row_of (table ++ x ∷ []) kind ≡ row_of table kind
unfolding row_of
row_other table x kind h = other-of (stock_row 0 ∷ table) x (stock_row kind) kind (λ e. h (omega (arith, e)))

row-picked : (here : Bool) (table : List Table.Row) (x row : Row) (kind : ℕ) → here ≡ eqb (length table + 1) kind → row_by row ≡ row_of table kind
    → row_by (cond here x row) ≡ row_of (table ++ row_by x ∷ []) kind
row-picked here table x row kind e same =
    by-test (eqb (length table + 1) kind)
    (λ t. rw (e, t) (sym (row_here table (row_by x) kind (sym (eqb-true (length table + 1) kind t)))))
    (λ f. rw (e, f) (same ∙ sym (row_other table (row_by x) kind (λ same_kind. eqb-false (length table + 1) kind f (sym same_kind)))))

sound_more : (table : List Table.Row) (x : Table.Row) → are_sound (table ++ x ∷ []) ≡ (are_sound table && is_sound x)
unfolding are_sound
sound_more [] x = and-true (is_sound x)
sound_more (y ∷ table) x = rw (sound_more table x) (sym (and_assoc (is_sound y) (are_sound table) (is_sound x)))

-- Readers.

then-pure : {A S : Type 0} (o : Option (A × S)) → and_then o (λ a. pure a) ≡ o
unfolding and_then pure
then-pure none = refl
then-pure (some r) = refl

then-both : {A B C S : Type 0} (o : Option (A × S)) (f : A → B) (g : B → C) → and_then (and_then o (λ a. pure (f a))) (λ b. pure (g b)) ≡ and_then o (λ a. pure (g (f a)))
unfolding and_then pure
then-both none f g = refl
then-both (some r) f g = refl

-- entries up to the one of kind `next` have been read, whose rows are `done`
pub record Reading (s : List ℕ) (kind next at : ℕ) (row : Row) (sound : Bool) : Type 0 where
  pub done : List Table.Row
  pub count : length done + 1 ≡ next
  pub whole : rows 8 1 s ≡ and_then (rows (9 - next) next (drop at s)) (λ others. pure (done ++ others))
  pub within : at ≤ length s
  pub row_is : row_by row ≡ row_of done kind
  pub sound_is : sound ≡ are_sound done

stock-of : (kind : ℕ) → stock_row kind ≡ row_of [] kind
unfolding row_of
stock-of zero = refl
stock-of (suc kind) = refl

pub reading-start : (s : List ℕ) (kind : ℕ) (row : Row) → row_by row ≡ stock_row kind → Reading s kind 1 0 row true
unfolding are_sound
reading-start s kind row e =
    record {
      done = [];
      count = refl;
      whole = sym (then-pure (rows 8 1 s));
      within = omega arith;
      row_is = e ∙ stock-of kind;
      sound_is = refl;
    }

more_rows : (s : List ℕ) (n next at end : ℕ) (x : Table.Row) (done : List Table.Row) → ReadsTo (table_entry next) s at x end
    → and_then (rows (suc n) next (drop at s)) (λ others. pure (done ++ others))
    ≡ and_then (rows n (next + 1) (drop end s)) (λ others. pure ((done ++ x ∷ []) ++ others))
unfolding rows ◌>>=◌ and_then pure
more_rows s n next at end x done e =
    rw (e.reads, and_then)
    (then-both (rows n (next + 1) (drop end s)) (λ others. x ∷ others) (λ others. done ++ others)
    ∙ ap (λ (f : List Table.Row → List Table.Row). and_then (rows n (next + 1) (drop end s)) (λ others. pure (f others)))
    (λ i others. sym (append_assoc done (x ∷ []) others) i))

pub reading-more : (s : List ℕ) (kind next at end : ℕ) (row read row' : Row) (sound sound' is_right here : Bool)
    → Reading s kind next at row sound
    → next ≤ 8
    → ReadsTo (table_entry next) s at (row_by read) end
    → here ≡ eqb next kind
    → row' ≡ cond here read row
    → is_right ≡ is_sound (row_by read)
    → sound' ≡ (sound && is_right)
    → Reading s kind (next + 1) end row' sound'
reading-more s kind next at end row read row' sound sound' is_right here r small e h picks right sounds =
    let left : 9 - next ≡ suc (9 - (next + 1)) = omega arith in
    let counts : length (r.done ++ row_by read ∷ []) ≡ length r.done + 1 = length-append r.done (row_by read ∷ []) in
    record {
      done = r.done ++ row_by read ∷ [];
      count = omega (arith, counts, r.count);
      whole = r.whole ∙ ap (λ (n : ℕ). and_then (rows n next (drop at s)) (λ others. pure (r.done ++ others))) left
          ∙ more_rows s (9 - (next + 1)) next at end (row_by read) r.done e;
      within = e.within;
      row_is = ap row_by picks ∙ row-picked here r.done read row kind (h ∙ ap (λ (n : ℕ). eqb n kind) (sym r.count)) r.row_is;
      sound_is = sounds ∙ rw (right, r.sound_is) refl ∙ sym (sound_more r.done (row_by read));
    }

pub reading-stops : (s : List ℕ) (kind next at : ℕ) (row : Row) (sound : Bool) → Reading s kind next at row sound → next ≤ 8 → Refuses (table_entry next) s at
    → decode_table s ≡ none
unfolding decode_table alone rows ◌>>=◌ and_then
reading-stops s kind next at row sound r small e =
    let left : 9 - next ≡ suc (9 - (next + 1)) = omega arith in
    let stops : rows (9 - next) next (drop at s) ≡ none = ap (λ (n : ℕ). rows n next (drop at s)) left ∙ rw e refl in
    ap alone (r.whole ∙ ap (λ (o : Option (List Table.Row × List ℕ)). and_then o (λ others. pure (r.done ++ others))) stops)

-- all eight have been read
module _ (s : List ℕ) (kind next at : ℕ) (row : Row) (sound : Bool) (r : Reading s kind next at row sound) (all : next ≡ 9) where
  read_all : rows 8 1 s ≡ some (r.done ++ [], drop at s)
  unfolding rows and_then pure
  read_all =
      let none_left : 9 - next ≡ 0 = omega arith in
      r.whole ∙ ap (λ (n : ℕ). and_then (rows n next (drop at s)) (λ others. pure (r.done ++ others))) none_left

  pub reading-ends : at ≡ length s → HasRow (decode_table s) kind row sound
  unfolding decode_table alone
  reading-ends e =
      let nothing : drop at s ≡ [] = drop_of_length-le s {i = at} (omega (arith, e)) in
      let done-nil = append-nil r.done in
      record {
        table = r.done;
        reads = ap alone read_all ∙ ap (λ (t : List ℕ). alone (some (r.done ++ [], t))) nothing ∙ ap some done-nil;
        row = r.row_is;
        is_sound = r.sound_is;
      }

  pub reading-behind : (at ≡ length s → ⊥) → decode_table s ≡ none
  unfolding decode_table alone
  reading-behind h =
      let inside : at < length s = omega (arith, h, r.within) in
      ap alone read_all ∙ ap (λ (t : List ℕ). alone (some (r.done ++ [], t))) (drop-cons s at 0 inside)

-- What a call is lent.

pub lent_none : (s : List ℕ) (kind : ℕ) (row : Row) → length s ≡ 0 → row_by row ≡ stock_row kind → HasRow (table_in s) kind row true
unfolding table_in are_sound is_sound stock_table stock_row stock one_of
lent_none [] kind row e same = record { table = stock_table; reads = refl; row = same ∙ sym (stock-row kind); is_sound = refl }
lent_none (b ∷ s) kind row e same = absurd (omega arith)

module _ (s : List ℕ) (kind : ℕ) (r : Optional (Row × Bool)) (some_bytes : length s ≡ 0 → ⊥) where
  by_front : (front : List ℕ) → front ≡ take table_bytes s → TableIs front kind r → LentIs s kind r
  by_front front e is =
      subst (λ (o : Option (List Table.Row)). TableOr o kind r) (ap decode_table e ∙ sym (table-in s (omega (arith, some_bytes)))) is

  pub lent-short : length s < table_bytes → TableIs s kind r → LentIs s kind r
  lent-short h = by_front s (sym (take_all table_bytes s (omega arith)))

  pub lent-long : TableIs (take table_bytes (drop 0 s)) kind r → LentIs s kind r
  lent-long = by_front (take table_bytes (drop 0 s)) refl

-- Loading.

module _ (table before : List ℕ) where
  abbrev Loads : (number : ℕ) (after : List ℕ) → Type 0
  Loads number after = (number ≡ load_number table (length before)) × (after ≡ load_after table before)

  pub load-bad : decode_table table ≡ none → Loads 37 before
  unfolding load_number load_after load_refusals first_refusal number_in is_none
  load-bad e = rw e (refl, refl)

  module _ {kind : ℕ} {row : Row} {sound : Bool} (has : HasRow (decode_table table) kind row sound) where
    pub load-short : length before < table_bytes → Loads 37 before
    unfolding load_number load_after load_refusals first_refusal number_in is_none
    load-short h = rw (has.reads, lt-leb table_bytes (length before) h) (refl, refl)

    module _ (room : table_bytes ≤ length before) where
      pub load-unsound : sound ≡ false → Loads 38 before
      unfolding load_number load_after load_refusals first_refusal number_in is_none is_sound_table
      load-unsound e = rw (has.reads, le-leb table_bytes (length before) room, ← has.is_sound, e) (refl, refl)

      pub load-good : {after : List ℕ} {next : ℕ} → sound ≡ true → Wrote before after 0 table next → Loads 0 after
      unfolding load_number load_after load_refusals first_refusal number_in is_none is_sound_table
      load-good e w = rw (has.reads, le-leb table_bytes (length before) room, ← has.is_sound, e) (refl, w.stands)
