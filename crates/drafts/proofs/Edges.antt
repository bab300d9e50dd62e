-- Each refusal of a start is heard by some call, by computation.
use Prim.Native.Nat.{ℕ}
use mathlib.Core.List.{List, [], ◌∷◌, ◌++◌}
use mathlib.Core.Path.{◌≡◌, refl}
use lib.ListN.{length, replicate}
use Rattle.text.specs.Ascii.{ascii}
use Rattle.validation.proofs.Edges.{empty}
use Rattle.validation.proofs.Bounds.{met}
use Rattle.validation.proofs.TableEdges.{changed, old_alone}
use Rattle.reference.proofs.Tables.{stock_text}
use Rattle.call.specs.Call.{EachDue, all_shown, by}
use Rattle.drafts.specs.Lent.{LentRule}
use Rattle.drafts.specs.DraftCalls.{DraftCall, start_refusals, start_refusal_numbers}
use Rattle.drafts.specs.Computing.{computing}

-- an invariant under service/1, with that label and sheet
unfoldable pub ruled : (kind : ℕ) (label sheet : List ℕ) → LentRule
ruled kind label sheet = record { kind = kind; semantics = 2; label = label; sheet = sheet }

-- a start with room for sixteen records
unfoldable pub starting : (table schema : List ℕ) (scratch : ℕ) → List LentRule → DraftCall
starting table schema scratch rules =
    record {
      rules = rules;
      table = table;
      buffer = schema ++ replicate 30000 0;
      size = length schema;
      records = replicate 476 0;
      lent = record { path = 32768; scratch = scratch };
    }

-- 1, 2, 3, 43, 37, 38, 4, 5
pub each-due : EachDue start_refusals start_refusal_numbers
unfolding computing starting ruled empty met changed old_alone stock_text start_refusal_numbers
each-due =
    by (starting [] empty 4096 (ruled 9 [] met ∷ [])) refl
    (by (starting [] empty 4096 (ruled 1 (255 ∷ []) met ∷ [])) refl
    (by (starting [] empty 4095 []) refl
    (by (starting [] empty 4096 (replicate 17 (ruled 1 [] met))) refl
    (by (starting (ascii "N") empty 4096 []) refl
    (by (starting old_alone empty 4096 []) refl
    (by (starting [] [] 4096 []) refl
    (by (starting [] empty 4096 (ruled 1 [] [] ∷ [])) refl all_shown)))))))
