-- Rule books by computation: what is of the form, what is counted, and which refusal is heard.
use Prim.Native.Nat.{ℕ}
use mathlib.Core.List.{List, [], ◌∷◌}
use mathlib.Core.Option.{none, some}
use mathlib.Core.Path.{◌≡◌, refl}
use lib.ListN.{replicate}
use Rattle.text.specs.Ascii.{ascii}
use Rattle.validation.proofs.Edges.{empty}
use Rattle.validation.proofs.Bounds.{met}
use Rattle.validation.proofs.TableEdges.{changed, old_alone}
use Rattle.reference.proofs.Tables.{stock_text}
use Rattle.call.specs.Call.{EachDue, all_shown, by}
use Rattle.rule_book.specs.Book.{sheets_of, write_book}
use Rattle.rule_book.specs.Tally.{BookCall, book_refusals, book_refusal_numbers, book_answer, tally_numbers}
use Rattle.rule_book.specs.Computing.{computing}

-- a rule whose `all` is empty
unfoldable pub hollow : List ℕ
hollow = ascii "R,-,-,\nC,2,0,\n"

-- a template that reads an unknown name
unfoldable pub lost : List ℕ
lost = ascii "T\nV,5,3,$no\n"

-- a tally of invariants under service/1 with that table, with a scratch of so many elements
unfoldable pub under : (table schema book : List ℕ) (scratch : ℕ) → BookCall
under table schema book scratch =
    record {
      kind = 1;
      semantics = 2;
      label = ascii "r";
      table = table;
      schema = schema;
      book = book;
      lent = record { path = 32768; scratch = scratch };
    }

-- what is heard of it; under `unfolding heard` it computes
unfoldable pub heard : BookCall → List ℕ
unfolding computing under
heard c = tally_numbers (book_answer c)

unfoldable pub refuses : ℕ → List ℕ
refuses n = n ∷ replicate 17 0

pub record Edges : Type 0 where
  -- the form
  pub no-sheets : sheets_of [] ≡ some []
  pub empty-sheet : sheets_of (ascii "0,") ≡ some ([] ∷ [])
  pub two-sheets : sheets_of (ascii "1,a0,2,bc") ≡ some (ascii "a" ∷ [] ∷ ascii "bc" ∷ [])
  pub leading-zero : sheets_of (ascii "01,a") ≡ none
  pub one-too-long : sheets_of (ascii "2,a") ≡ none
  pub one-too-short : sheets_of (ascii "1,ab") ≡ none
  pub no-comma : sheets_of (ascii "1") ≡ none
  pub no_length : sheets_of (ascii ",a") ≡ none
  pub line-between : sheets_of (ascii "1,a\n1,b") ≡ none
  pub beyond-64-bits : sheets_of (ascii "18446744073709551617,a") ≡ none
  pub written : write_book (ascii "a" ∷ [] ∷ ascii "bc" ∷ []) ≡ ascii "1,a0,2,bc"
  -- the counts: number, read, accepted, by 4, by 5, 11 to 22, passed
  pub tally-none : heard (under [] empty [] 4096) ≡ replicate 18 0
  pub tally-empty-sheet : heard (under [] empty (ascii "0,") 4096) ≡ 0 ∷ 1 ∷ 0 ∷ 0 ∷ 1 ∷ replicate 13 0
  pub tally-many : heard (under [] empty (write_book (met ∷ hollow ∷ lost ∷ met ∷ [] ∷ [])) 4096)
      ≡ 0 ∷ 5 ∷ 2 ∷ 0 ∷ 1 ∷ 0 ∷ 0 ∷ 0 ∷ 0 ∷ 0 ∷ 1 ∷ 0 ∷ 1 ∷ 0 ∷ 0 ∷ 0 ∷ 0 ∷ 12 ∷ []
  -- a schema that is not well formed refuses every sheet, whatever it is
  pub tally-bad-schema : heard (under [] [] (write_book (met ∷ hollow ∷ [] ∷ [])) 4096) ≡ 0 ∷ 3 ∷ 0 ∷ 3 ∷ replicate 14 0
  -- the refusals in their order: 3, then 34, then 37
  pub form-34 : heard (under [] empty (ascii "01,a") 4096) ≡ refuses 34
  pub width-before-form : heard (under [] empty (ascii "01,a") 4095) ≡ refuses 3
  pub form-before-table : heard (under (78 ∷ []) empty (ascii "01,a") 4096) ≡ refuses 34
  pub table-behind-form : heard (under (78 ∷ []) empty [] 4096) ≡ refuses 37
  pub table-before-schema : heard (under (78 ∷ []) [] (ascii "0,") 4096) ≡ refuses 37

pub edges : Edges
unfolding heard empty met hollow lost refuses
edges =
    record {
      no-sheets = refl;
      empty-sheet = refl;
      two-sheets = refl;
      leading-zero = refl;
      one-too-long = refl;
      one-too-short = refl;
      no-comma = refl;
      no_length = refl;
      line-between = refl;
      beyond-64-bits = refl;
      written = refl;
      tally-none = refl;
      tally-empty-sheet = refl;
      tally-many = refl;
      tally-bad-schema = refl;
      form-34 = refl;
      width-before-form = refl;
      form-before-table = refl;
      table-behind-form = refl;
      table-before-schema = refl;
    }

-- a tally of another kind and under another label
unfoldable pub labelled : (kind : ℕ) (label : List ℕ) → BookCall
labelled kind label =
    record {
      kind = kind;
      semantics = 2;
      label = label;
      table = [];
      schema = empty;
      book = [];
      lent = record { path = 32768; scratch = 4096 };
    }

-- each refusal is heard by some call: 1, 2, 3, 34, 37, 38
pub each-due : EachDue book_refusals book_refusal_numbers
unfolding heard labelled empty changed old_alone stock_text book_refusal_numbers
each-due =
    by (labelled 9 []) refl
    (by (labelled 1 (255 ∷ [])) refl
    (by (under [] empty [] 4095) refl
    (by (under [] empty (ascii "1") 4096) refl
    (by (under (ascii "N") empty [] 4096) refl
    (by (under old_alone empty [] 4096) refl all_shown)))))
