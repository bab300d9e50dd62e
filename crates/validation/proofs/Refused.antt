-- Each refusal is heard by some call: no number of the lists stands there for nothing.
use mathlib.Core.List.{[], ◌∷◌}
use mathlib.Core.Path.{refl}
use Rattle.text.specs.Ascii.{ascii}
use Rattle.reference.proofs.Tables.{stock_text}
use Rattle.call.specs.Call.{EachDue, all_shown, by}
use Rattle.validation.specs.Result.{refusals, refusal_numbers}
use Rattle.validation.specs.KeyPath.{key_refusals, key_numbers}
use Rattle.validation.proofs.Calls as Calls
use Rattle.validation.proofs.Calls.{lending, ask}
use Rattle.validation.proofs.Edges.{empty}
use Rattle.validation.proofs.Bounds.{met}
use Rattle.validation.proofs.KeyEdges as KeyEdges
use Rattle.validation.proofs.KeyEdges.{mill, keyed}
use Rattle.validation.proofs.TableEdges.{under_table, changed, old_alone}
use Rattle.validation.proofs.MarkEdges.{lend_marks}

-- in the order of the list: 1 to 5, 35, 37, 38
pub each-due : EachDue refusals refusal_numbers
unfolding Calls.heard lending empty met under_table changed old_alone stock_text lend_marks refusal_numbers
each-due =
    by (ask 9 1 empty met) refl
    (by (lending (255 ∷ []) 32768 4096 1 1 empty met) refl
    (by (lending [] 32768 4095 1 1 empty met) refl
    (by (ask 1 1 [] met) refl
    (by (ask 1 1 empty []) refl
    (by (lend_marks 8191 (ask 1 1 empty met)) refl
    (by (under_table (ascii "N") 4096 (ask 1 1 empty met)) refl
    (by (under_table old_alone 4096 (ask 1 1 empty met)) refl all_shown)))))))

-- 1 to 4
pub key-each-due : EachDue key_refusals key_numbers
unfolding KeyEdges.heard key_numbers
key-each-due =
    by (keyed 1 3 [] mill 4096) refl
    (by (keyed 1 1 (255 ∷ []) mill 4096) refl
    (by (keyed 1 1 [] mill 4095) refl
    (by (keyed 1 1 [] [] 4096) refl all_shown)))
