use Prim.Native.Nat.{ℕ}
use mathlib.Core.List.{List, [], ◌∷◌}
use mathlib.Core.Path.{sym, ap, ◌∙◌}
use Rattle.json_rule.specs.Shape.{place_in}
use Rattle.json_sheet.proofs.Naming.{places-long, chosen, unchosen}
use native.Mathlib.Omega.{arith}
use Rattle.json_sheet.proofs.key.read_place.Goals as goal

pub returns-in_err-len : goal.returns-in_err-len
returns-in_err-len c = rw c.from_residual.ensures (rw c.in_err-len.was at c.read_name.ensures)

pub returns-then-len-gt-WORD_BYTES : goal.returns-then-len-gt-WORD_BYTES
returns-then-len-gt-WORD_BYTES c = let a = c.args in unchosen (λ t. place_in 1 t (a.first.now ∷ a.second.now ∷ a.third.now ∷ [])) (omega arith) (rw c.in_ok-len.was at c.read_name.ensures) (λ t h. places-long t a.first.now a.second.now a.third.now h c.requires.0 c.requires.1 c.requires.2)

pub returns : goal.returns
returns c = let a = c.args in chosen (λ t. place_in 1 t (a.first.now ∷ a.second.now ∷ a.third.now ∷ [])) (omega arith) (rw c.in_ok-len.was at c.read_name.ensures) (λ t e. c.place_of.ensures ∙ ap (λ (x : List ℕ). place_in 1 x (a.first.now ∷ a.second.now ∷ a.third.now ∷ [])) (sym e))
