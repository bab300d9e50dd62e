-- The path buffer of a book's call is given back, and its counts are numbers of eight bytes.
use Prim.Native.Nat.{ℕ, ◌^◌, ◌-◌, ◌<◌}
use native.Mathlib.Omega.{arith}
use mathlib.Core.List.{List, [], ◌∷◌, ◌++◌, append-nil}
use mathlib.Core.Path.{◌≡◌, sym, ap, ◌∙◌}
use lib.Dec.{leb}
use lib.ListN.{length, take, drop, get_or, take-append-drop}
use lib.Seq.{take-length, drop-length}
use borrow.Author.Tests.{leb-true, leb-false}
use Rattle.text.specs.CaseLaws.{by-test}
use Rattle.call.specs.Call.{Reply, refused_by, told, Buffer, Left, Leaves, AllLeft, if_told, free_if_told, Shape, reply_to, result_numbers, Run, Meets}
use Rattle.call.proofs.CallLaws.{not-told, first-number, AllWithin}
use Rattle.host_numbers.specs.Counts.{InEightBytes, no_more, one_more}
use Rattle.entity_rules.specs.Entry.{path_lent, Handed}
use Rattle.entity_rules.proofs.Entries.{lent-all}

-- the part of the path buffer that is lent is given back; with no room for the result none is lent, and that is refused
pub path-home : {A : Type 0} (free need : ℕ) (path result : List ℕ) (lent : ℕ) (last : List ℕ) (reply : Reply A)
    → lent ≡ path_lent need (length path) (length result)
    → (length result < need → (n : ℕ) × (reply ≡ refused_by n))
    → Leaves (free_if_told free reply) (take (lent - 0) path) last
    → Leaves (free_if_told free reply) path (last ++ drop (lent - 0) path)
unfolding if_told
path-home free need path result lent last (refused_by n) l short k = ap (λ (s : List ℕ). s ++ drop (lent - 0) path) k ∙ take-append-drop (lent - 0) path
path-home free need path result lent last (told a) l short k =
    by-test (leb need (length result))
    (λ t.
    let all = lent-all need (length path) (length result) (leb-true need (length result) t) in
    let whole : lent - 0 ≡ length path = omega arith in
    rw (whole, drop-length path, append-nil) (rw (whole, take-length path) at k))
    (λ t. absurd (not-told (sym (short (leb-false need (length result) t)).1)))

-- what a call of the code told is handed over
pub handed : {C A : Type 0} (s : Shape C A) (run : Run C) {answer : Reply A} {write : (numbers before : List ℕ) → List ℕ} {Fits : List ℕ → Type 0} {left : List Left} {lent : List Buffer} {result_before result_now : List ℕ} {r : ℕ}
    → Meets s run
    → reply_to s run.call ≡ answer
    → AllLeft left lent
    → Fits (result_numbers s answer)
    → result_now ≡ write run.result result_before
    → r ≡ get_or run.result 0 0
    → Handed answer (result_numbers s answer) write Fits left lent result_before result_now r
handed s run {answer} {write} {result_before = result_before} m same left small w n =
    let stands : run.result ≡ result_numbers s answer = m.result ∙ ap (result_numbers s) same in
    record {
      number = n ∙ ap (λ (l : List ℕ). get_or l 0 0) stands ∙ first-number s.size s.figures answer;
      buffers = left;
      result = w ∙ ap (λ (l : List ℕ). write l result_before) stands;
      small = small;
    }

pub in-eight : (most : ℕ) (ns : List ℕ) → most < 2 ^ 64 → AllWithin most ns → InEightBytes ns
in-eight most [] small h = no_more
in-eight most (n ∷ ns) small h = one_more {n = n} (omega (arith, h.0)) (in-eight most ns small h.1)
