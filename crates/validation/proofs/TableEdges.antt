-- Calls that are lent a name table, by computation: what a mark changes, and where a table is refused.
use Prim.Native.Nat.{ℕ, ◌*◌, ◌-◌}
use mathlib.Core.List.{List, [], ◌∷◌, ◌++◌}
use mathlib.Core.Path.{◌≡◌, refl}
use lib.ListN.{take, drop}
use Rattle.text.specs.Ascii.{ascii}
use Rattle.reference.proofs.Tables.{stock_text}
use Rattle.validation.specs.Result.{Call, number_in}
use Rattle.validation.specs.Loading.{load_refusals, load_number}
use Rattle.validation.proofs.Calls.{ask, heard, accepts, finds}
use Rattle.validation.proofs.Edges.{empty, bars}
use Rattle.validation.proofs.Bounds.{refuses}

-- the call under a table, with a scratch of so many elements
unfoldable pub under_table : (table : List ℕ) (scratch : ℕ) → Call → Call
under_table table scratch c =
    record {
      asked = c.asked;
      table = table;
      schema = c.schema;
      lent = record { widths = record { path = c.lent.widths.path; scratch = scratch }; marks = c.lent.marks };
    }

-- the stock table with another entry for that kind
unfoldable pub changed : (kind : ℕ) (entry : List ℕ) → List ℕ
changed kind entry = take (22 * (kind - 1)) stock_text ++ (entry ++ drop (22 * kind) stock_text)

-- outcome selectors read `$state`
unfoldable pub shown_state : List ℕ
shown_state = changed 5 (ascii "N,5,1,1,1,1,1,0,1,1,0\n")

-- preconditions do not read `$to_state`
unfoldable pub hidden_target : List ℕ
hidden_target = changed 2 (ascii "N,2,1,1,1,1,0,0,1,1,1\n")

-- selectors of a creation read `$fields`
unfoldable pub shown_fields : List ℕ
shown_fields = changed 6 (ascii "N,6,1,1,1,1,0,0,0,1,0\n")

-- a table that breaks a condition: old fields without fields, no id
unfoldable pub old_alone : List ℕ
old_alone = changed 6 (ascii "N,6,1,1,1,0,0,0,0,1,1\n")

unfoldable pub without_id : List ℕ
without_id = changed 8 (ascii "N,8,0,1,1,1,1,1,0,1,0\n")

unfoldable pub reads_state : List ℕ
reads_state = ascii "T\nV,5,6,$state\n"

unfoldable pub reads_target : List ℕ
reads_target = ascii "T\nV,5,9,$to_state\n"

unfoldable pub reads_bars : List ℕ
reads_bars = ascii "T\nV,5,12,$fields.bars\n"

pub record TableEdges : Type 0 where
  -- a bare name by its mark
  pub state-stock : heard (ask 5 2 empty reads_state) ≡ finds 18 1 12 2 0 0 1 (ascii "r")
  pub state-shown : heard (under_table shown_state 4096 (ask 5 2 empty reads_state)) ≡ accepts 1
  pub target-stock : heard (ask 2 2 empty reads_target) ≡ accepts 1
  pub target-hidden : heard (under_table hidden_target 4096 (ask 2 2 empty reads_target)) ≡ finds 18 1 12 2 0 0 1 (ascii "r")
  -- a root by its mark, which is then walked
  pub fields-stock : heard (ask 6 2 bars reads_bars) ≡ finds 18 1 11 2 0 0 1 (ascii "r")
  pub fields-shown : heard (under_table shown_fields 4096 (ask 6 2 bars reads_bars)) ≡ accepts 1
  pub fields-walked : heard (under_table shown_fields 4096 (ask 6 2 empty reads_bars)) ≡ finds 18 1 2 2 0 0 1 (ascii "r")
  -- the stock table written out, with bytes after it, and one byte less
  pub bytes-176 : heard (under_table stock_text 4096 (ask 2 2 empty reads_target)) ≡ accepts 1
  pub bytes-177 : heard (under_table (stock_text ++ (0 ∷ [])) 4096 (ask 2 2 empty reads_target)) ≡ accepts 1
  pub bytes-175 : heard (under_table (take 175 stock_text) 4096 (ask 2 2 empty reads_target)) ≡ refuses 37
  pub bytes-1 : heard (under_table (78 ∷ []) 4096 (ask 2 2 empty reads_target)) ≡ refuses 37
  -- marks are 0 or 1
  pub mark-2 : heard (under_table (changed 2 (ascii "N,2,1,1,1,1,0,2,1,1,1\n")) 4096 (ask 2 2 empty reads_target)) ≡ refuses 37
  -- a condition counts in every row
  pub old-alone : heard (under_table old_alone 4096 (ask 2 2 empty reads_target)) ≡ refuses 38
  pub without-id : heard (under_table without_id 4096 (ask 2 2 empty reads_target)) ≡ refuses 38
  -- in their place: after 3, before 4
  pub width-before-table : heard (under_table (78 ∷ []) 0 (ask 2 2 empty reads_target)) ≡ refuses 3
  pub form-before-schema : heard (under_table (78 ∷ []) 4096 (ask 2 2 [] reads_target)) ≡ refuses 37
  pub condition-before-schema : heard (under_table old_alone 4096 (ask 2 2 [] reads_target)) ≡ refuses 38
  -- loading
  pub loads : load_number shown_state 176 ≡ 0
  pub loads-175 : load_number shown_state 175 ≡ 37
  pub loads-longer : load_number (stock_text ++ (0 ∷ [])) 200 ≡ 37
  pub loads-unsound : load_number old_alone 176 ≡ 38
  pub loads-short-unsound : load_number old_alone 175 ≡ 37

pub table-edges : TableEdges
unfolding heard empty bars stock_text under_table changed shown_state hidden_target shown_fields old_alone without_id reads_state reads_target reads_bars refuses load_refusals load_number number_in
table-edges =
    record {
      state-stock = refl;
      state-shown = refl;
      target-stock = refl;
      target-hidden = refl;
      fields-stock = refl;
      fields-shown = refl;
      fields-walked = refl;
      bytes-176 = refl;
      bytes-177 = refl;
      bytes-175 = refl;
      bytes-1 = refl;
      mark-2 = refl;
      old-alone = refl;
      without-id = refl;
      width-before-table = refl;
      form-before-schema = refl;
      condition-before-schema = refl;
      loads = refl;
      loads-175 = refl;
      loads-longer = refl;
      loads-unsound = refl;
      loads-short-unsound = refl;
    }
