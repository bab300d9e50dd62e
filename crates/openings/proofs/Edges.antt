-- Calls by computation: the three numbers, the list, and which refusal is heard.
use Prim.Native.Nat.{ℕ}
use mathlib.Core.List.{List, [], ◌∷◌}
use mathlib.Core.Path.{◌≡◌, refl}
use lib.ListN.{replicate}
use Rattle.text.specs.Ascii.{ascii}
use Rattle.call.specs.Call.{free, unchanged, free_if_told, EachDue, all_shown, by}
use Rattle.openings.specs.Call.{OpenCall, open_answer, open_numbers, list_left, scratch_left, open_refusals, open_heard_numbers}
use Rattle.reference.proofs.Tables.{stock_text}
use Rattle.validation.proofs.TableEdges.{changed, old_alone}
use Rattle.call.proofs.CallLaws.{least}
use Rattle.openings.specs.Computing.{computing}

-- a closed object `o` in a closed record, beside closed arguments
unfoldable shut : List ℕ
shut = ascii "H,0,1,0,0\nF,7,0,0,0,1,-,o\n"

-- rules that need the marks of the object, of the object and of both roots, of none; and one that no marks help
unfoldable one : List ℕ
one = ascii "R,-,-,\nC,5,0,\nV,5,11,$fields.o.x\n"

unfoldable all : List ℕ
all = ascii "R,-,-,\nC,2,3,\nC,5,0,\nV,5,11,$fields.o.x\nC,5,0,\nV,5,9,$fields.x\nC,5,0,\nV,5,7,$args.x\n"

unfoldable nothing : List ℕ
nothing = ascii "R,-,-,\nC,5,0,\nV,5,9,$fields.o\n"

unfoldable hollow : List ℕ
hollow = ascii "R,-,-,\nC,2,0,\n"

-- a precondition under service/1, with lent lengths
unfoldable asked : (table schema rule : List ℕ) (path scratch list : ℕ) → OpenCall
asked table schema rule path scratch list =
    record {
      kind = 2;
      semantics = 2;
      table = table;
      schema = schema;
      rule = rule;
      widths = record { path = path; scratch = scratch };
      list = list;
    }

-- the same of another kind or semantics
unfoldable set : (kind semantics path : ℕ) → OpenCall
set kind semantics path =
    record {
      kind = kind;
      semantics = semantics;
      table = ascii "N";
      schema = [];
      rule = [];
      widths = record { path = path; scratch = 4096 };
      list = 0;
    }

-- what is heard; under `unfolding heard` it computes
unfoldable heard : OpenCall → List ℕ
unfolding computing asked set shut one all nothing hollow
heard c = open_numbers (open_answer c)

-- what a list of zeros holds after the call
unfoldable listed : (n : ℕ) → OpenCall → List ℕ
unfolding heard least
listed n c = least (list_left (open_answer c)) (replicate n 0)

pub record Edges : Type 0 where
  -- a set, its marks in the list from its start on, the arguments' mark first
  one-mark : heard (asked [] shut one 32768 4096 4100) ≡ 0 ∷ 1 ∷ 1 ∷ []
  three-marks : heard (asked [] shut all 32768 4096 4100) ≡ 0 ∷ 1 ∷ 3 ∷ []
  rising : listed 14 (asked [] shut all 32768 4096 4100) ≡ 0 ∷ 0 ∷ 0 ∷ 0 ∷ 1 ∷ 0 ∷ 0 ∷ 0 ∷ 2 ∷ 0 ∷ 0 ∷ 0 ∷ 0 ∷ 0 ∷ []
  -- a set without marks, and none
  no-marks : heard (asked [] shut nothing 32768 4096 4100) ≡ 0 ∷ 1 ∷ 0 ∷ []
  none-help : heard (asked [] shut hollow 32768 4096 4100) ≡ 0 ∷ 0 ∷ 0 ∷ []
  untouched : listed 3 (asked [] shut hollow 32768 4096 4100) ≡ 0 ∷ 0 ∷ 0 ∷ []
  -- the lengths that are lent, each met by one less
  path-short : heard (asked [] shut one 32767 4096 4100) ≡ 3 ∷ 0 ∷ 0 ∷ []
  scratch-short : heard (asked [] shut one 32768 4095 4100) ≡ 3 ∷ 0 ∷ 0 ∷ []
  list-short : heard (asked [] shut one 32768 4096 4099) ≡ 36 ∷ 0 ∷ 0 ∷ []
  -- 1, 3, 36, 37, 4, 5 in their order
  kind-first : heard (set 9 2 0) ≡ 1 ∷ 0 ∷ 0 ∷ []
  semantics-first : heard (set 1 5 0) ≡ 1 ∷ 0 ∷ 0 ∷ []
  then-widths : heard (set 1 2 0) ≡ 3 ∷ 0 ∷ 0 ∷ []
  then-list : heard (set 1 2 32768) ≡ 36 ∷ 0 ∷ 0 ∷ []
  then-table : heard (asked (ascii "N") [] [] 32768 4096 4100) ≡ 37 ∷ 0 ∷ 0 ∷ []
  then-schema : heard (asked [] [] [] 32768 4096 4100) ≡ 4 ∷ 0 ∷ 0 ∷ []
  then_rule : heard (asked [] shut [] 32768 4096 4100) ≡ 5 ∷ 0 ∷ 0 ∷ []
  -- what is free afterwards
  path-free : free_if_told 32768 (open_answer (asked [] shut hollow 32768 4096 4100)) ≡ free 32768
  path-kept : free_if_told 32768 (open_answer (asked [] shut [] 32768 4096 4100)) ≡ unchanged
  scratch-free : scratch_left (open_answer (asked [] shut [] 32768 4096 4100)) ≡ free 4096
  scratch-kept : scratch_left (open_answer (set 1 2 32768)) ≡ unchanged

pub edges : Edges
unfolding heard listed
edges =
    record {
      one-mark = refl;
      three-marks = refl;
      rising = refl;
      no-marks = refl;
      none-help = refl;
      untouched = refl;
      path-short = refl;
      scratch-short = refl;
      list-short = refl;
      kind-first = refl;
      semantics-first = refl;
      then-widths = refl;
      then-list = refl;
      then-table = refl;
      then-schema = refl;
      then_rule = refl;
      path-free = refl;
      path-kept = refl;
      scratch-free = refl;
      scratch-kept = refl;
    }

-- each refusal but 2, which an empty label never meets, is heard by some call: 1, 3, 36, 37, 38, 4, 5
pub each-due : EachDue open_refusals open_heard_numbers
unfolding heard changed old_alone stock_text open_heard_numbers
each-due =
    by (set 9 2 0) refl
    (by (set 1 2 0) refl
    (by (set 1 2 32768) refl
    (by (asked (ascii "N") shut one 32768 4096 4100) refl
    (by (asked old_alone shut one 32768 4096 4100) refl
    (by (asked [] [] one 32768 4096 4100) refl
    (by (asked [] shut [] 32768 4096 4100) refl all_shown))))))
