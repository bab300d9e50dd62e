-- The bounds of a call and the numbers of its answers (docs/FORMAT.md, "Answers", "Families"): each bound met and passed by one, and the
-- defects that Edges.antt does not show, with their families.
use Prim.Native.Nat.{ℕ}
use native.Mathlib.Omega.{arith}
use mathlib.Core.Bool.{false≢true}
use mathlib.Core.List.{List, [], ◌∷◌}
use mathlib.Core.Path.{◌≡◌, refl}
use Rattle.text.specs.Ascii.{ascii}
use Rattle.definition.specs.Tree.{Text}
use Rattle.reference.specs.Setting.{one_of}
use Rattle.validation.specs.Check.{IsDefect}
use Rattle.validation.specs.Result.{Call, Numbers, refused, refusal_numbers, Heard, refusal}
use Rattle.validation.proofs.Calls.{lending, ask, heard, accepts, finds}
use Rattle.validation.proofs.Edges.{empty, bars, times}

-- a rule that is always met
unfoldable pub met : List ℕ
met = ascii "R,-,-,\nC,1,1,\n"

-- a call that checks it, with a label and with buffers of these lengths
unfoldable pub lend : (label : List ℕ) (path scratch : ℕ) → Call
lend label path scratch = lending label path scratch 1 2 empty met

unfoldable pub label : (length : ℕ) → List ℕ
label length = times length (ascii "r") []

unfoldable pub refuses : (number : ℕ) → Numbers × Text
refuses number =
    (record { number = number; family = 0; detail = 0; place = 0; over_place = 0; passed = 0; path_length = 0 }, [])

pub record Bounds : Type 0 where
  -- kinds 1 to 8, semantics 1 to 4
  pub kind_0 : heard (ask 0 1 empty met) ≡ refuses 1
  pub kind_1 : heard (ask 1 1 empty met) ≡ accepts 4
  pub kind-8 : heard (ask 8 4 empty met) ≡ accepts 4
  pub kind-9 : heard (ask 9 4 empty met) ≡ refuses 1
  pub semantics-0 : heard (ask 1 0 empty met) ≡ refuses 1
  pub semantics-5 : heard (ask 8 5 empty met) ≡ refuses 1
  -- a label of 256 bytes, a path buffer of 32,768, a scratch of 4,096
  pub label-256 : heard (lend (label 256) 32768 4096) ≡ accepts 4
  pub label-257 : heard (lend (label 257) 32768 4096) ≡ refuses 2
  pub label-not-utf8 : heard (lend (255 ∷ []) 32768 4096) ≡ refuses 2
  pub path-32767 : heard (lend (label 256) 32767 4096) ≡ refuses 3
  pub scratch-4095 : heard (lend (label 256) 32768 4095) ≡ refuses 3
  -- a longer scratch changes nothing
  pub scratch-8192 : heard (lend (label 256) 32768 8192) ≡ heard (lend (label 256) 32768 4096)
  -- the first refusal that is due
  pub label-before-width : heard (lend (label 257) 32767 4095) ≡ refuses 2
  pub width-before-sheets : heard (lend (label 0) 0 0) ≡ refuses 3
  pub schema-before-rule : heard (ask 1 2 [] []) ≡ refuses 4
  pub no-rule : heard (ask 1 2 empty []) ≡ refuses 5
  -- defects
  pub name : heard (ask 1 2 empty (ascii "R,1,-, \nC,1,1,\n")) ≡ finds 11 1 0 1 0 0 1 (ascii "r")
  pub message : heard (ask 1 2 empty (ascii "R,-,0,\nC,1,1,\n")) ≡ finds 12 1 0 1 0 1 1 (ascii "r")
  pub operator : heard (ask 1 1 empty (ascii "R,-,-,\nC,19,0,\nV,5,3,$id\n")) ≡ finds 15 3 0 2 0 3 8 (ascii "r.assert")
  pub operand-left : heard (ask 1 2 empty (ascii "R,-,-,\nC,18,1,\nV,6,0,\nV,7,0,\n")) ≡ finds 17 5 1 3 0 4 8 (ascii "r.assert")
  pub operand-right : heard (ask 1 2 empty (ascii "R,-,-,\nC,18,6,\nV,1,0,\nV,7,0,\n")) ≡ finds 17 5 2 4 0 5 8 (ascii "r.assert")
  pub reference : heard (ask 1 1 empty (ascii "T\nV,5,6,$state\n")) ≡ accepts 1
  pub reference-of-a-rule : heard (ask 1 1 empty (ascii "T\nV,5,5,$args\n")) ≡ finds 18 1 12 2 0 0 1 (ascii "r")
  pub reference-of-a-template : heard (ask 3 1 empty (ascii "T\nV,5,5,$args\n")) ≡ finds 18 2 12 2 0 0 1 (ascii "r")
  pub affix : heard (ask 1 2 empty (ascii "R,-,-,\nC,16,0,\nV,5,3,$id\nV,1,0,\n")) ≡ finds 19 1 0 4 0 6 23 (ascii "r.assert.starts_with[1]")
  pub bind : heard (ask 1 2 bars (ascii "R,-,-,\nC,20,3,a.b\nV,5,12,$fields.bars\nC,1,1,\n"))
      ≡ finds 21 6 0 2 0 4 16 (ascii "r.assert.for_all")
  -- defects are numbered from 11 to 22; which numbers are refusals is a list
  pub defect-11 : IsDefect 11
  pub defect-22 : IsDefect 22
  pub no-defect-10 : IsDefect 10 → ⊥
  pub no-defect-23 : IsDefect 23 → ⊥
  pub refusal-1 : Heard (refused 1)
  pub refusal-5 : Heard (refused 5)
  pub no-refusal-0 : Heard (refused 0) → ⊥
  pub no-refusal-6 : Heard (refused 6) → ⊥

unlisted-6 : Heard (refused 6) → ⊥
unfolding refusal_numbers one_of
unlisted-6 (refusal p) = false≢true p.listed

unlisted-0 : Heard (refused 0) → ⊥
unfolding refusal_numbers one_of
unlisted-0 (refusal p) = false≢true p.listed

pub bounds : Bounds
unfolding heard empty bars times met lend label refuses refusal_numbers
bounds =
    record {
      kind_0 = refl;
      kind_1 = refl;
      kind-8 = refl;
      kind-9 = refl;
      semantics-0 = refl;
      semantics-5 = refl;
      label-256 = refl;
      label-257 = refl;
      label-not-utf8 = refl;
      path-32767 = refl;
      scratch-4095 = refl;
      scratch-8192 = refl;
      label-before-width = refl;
      width-before-sheets = refl;
      schema-before-rule = refl;
      no-rule = refl;
      name = refl;
      message = refl;
      operator = refl;
      operand-left = refl;
      operand-right = refl;
      reference = refl;
      reference-of-a-rule = refl;
      reference-of-a-template = refl;
      affix = refl;
      bind = refl;
      defect-11 = record { low = omega arith; high = omega arith };
      defect-22 = record { low = omega arith; high = omega arith };
      no-defect-10 = λ d. omega (arith, d.low);
      no-defect-23 = λ d. omega (arith, d.high);
      refusal-1 = refusal {n = 1} (record { listed = refl });
      refusal-5 = refusal {n = 5} (record { listed = refl });
      no-refusal-0 = unlisted-0;
      no-refusal-6 = unlisted-6;
    }
