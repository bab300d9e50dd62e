-- Buffers of which only the first elements differ.
use Rattle.std.specs.Prelude.{ℕ, ◌+◌, ◌-◌, ◌≤◌, List, ◌++◌, ◌≡◌, length, drop}
use Rattle.std.proofs.Common.{arith, sym, ap, ◌∙◌, drop-drop}
use Rattle.std.proofs.lemmas.List.Edits.{sets, sets-eq}
use Rattle.std.proofs.Math.Seq.{length-sets, drop-append-add}
use Rattle.validation.specs.Result.{KeptFrom}

pub kept-both : {free : ℕ} {before middle after : List ℕ} → KeptFrom free before middle → KeptFrom free middle after → KeptFrom free before after
kept-both f g = record { size = g.size ∙ f.size; kept = g.kept ∙ f.kept }

-- what is written at the start is in front
pub sets-kept : (free : ℕ) (l p : List ℕ) → length p ≤ free → free ≤ length l → KeptFrom free l (sets l 0 p)
sets-kept free l p short room =
    let behind : length p + (free - length p) ≡ free = omega arith in
    let all : 0 + length p + (free - length p) ≡ free = omega arith in
    record {
      size = length-sets l 0 p;
      kept =
          ap (drop free) (sets-eq p l 0 (omega arith))
          ∙ ap (λ (k : ℕ). drop k (p ++ drop (0 + length p) l)) (sym behind)
          ∙ drop-append-add p (drop (0 + length p) l) (free - length p)
          ∙ drop-drop (free - length p) (0 + length p) l
          ∙ ap (λ (k : ℕ). drop k l) all;
    }
