-- A message is measured, and written where it fits.
use Prim.Native.Nat.{ℕ, ◌-◌, ◌≤◌, ◌<◌}
use native.Mathlib.Omega.{arith}
use mathlib.Core.List.{List, [], ◌∷◌, ◌++◌}
use mathlib.Core.Path.{◌≡◌, refl, ap, ◌∙◌}
use lib.ListN.{length, take, drop}
use borrow.Author.Tests.{le-leb, lt-leb}
use Rattle.buffer.specs.Laid.{Laid}
use Rattle.scope.specs.declared.binder.Scope.{Scope}
use Rattle.defect_message.specs.Explained.{MessageLaid}
use Rattle.single_check.specs.Answers.{Narrow}
use Rattle.single_check.specs.declared.outcome.Outcome.{Outcome}
use Rattle.message.specs.Explaining.{fits, MessageIs}
use Rattle.explained_check.specs.Saying.{SaidOf}

-- a part of no bytes is what it was
none_lent : (last l : List ℕ) → length last ≡ length (take (0 - 0) l) → last ++ drop (0 - 0) l ≡ l
none_lent [] l e = refl
none_lent (b ∷ last) l e = absurd (omega arith)

module _ (m before : List ℕ) (short : length m < 4294967296) {n size : ℕ} (narrow : Narrow size n) where
  said-over : (last : List ℕ) → Laid (take (0 - 0) before) last 0 m size → length (last ++ drop (0 - 0) before) < size → MessageIs m before (last ++ drop (0 - 0) before) 39 n
  unfolding fits
  said-over last l over =
      let size_is : size ≡ length m = omega (arith, l.ends) in
      let same = none_lent last before l.len in
      let more : length before < size = rw same at over in
      let long : length before < length m = omega arith in
      record {
        sized = narrow.same (omega arith) ∙ size_is;
        refused = rw (lt-leb (length m) (length before) long);
        written = rw (lt-leb (length m) (length before) long) same;
      }

  said-whole : {measured : ℕ} {after : List ℕ} (last : List ℕ)
      → Laid (take (0 - 0) before) last 0 m measured
      → measured ≤ length (last ++ drop (0 - 0) before)
      → Laid (last ++ drop (0 - 0) before) after 0 m size
      → MessageIs m before after 0 n
  unfolding fits
  said-whole {measured} last l room w =
      let size_is : size ≡ length m = omega (arith, w.ends) in
      let same = none_lent last before l.len in
      let enough : measured ≤ length before = rw same at room in
      let room-so : length m ≤ length before = omega (arith, l.ends) in
      let lies : Laid before _ 0 m size = rw same at w in
      record {
        sized = narrow.same (omega arith) ∙ size_is;
        refused = rw (le-leb (length m) (length before) room-so);
        written = rw (le-leb (length m) (length before) room-so) (lies.stands (omega arith));
      }

module _ {schema sheet words : List ℕ} {scope : Scope} {kind : ℕ} {o : Outcome} {before : List ℕ} (last : List ℕ) {measured : ℕ}
    (first : MessageLaid schema sheet words scope kind o.number o.detail o.place (take (0 - 0) before) last 0 measured)
  where
    pub say-over : {n : ℕ}
        → length (last ++ drop (0 - 0) before) < measured
        → Narrow measured n
        → SaidOf schema sheet words scope kind o before (last ++ drop (0 - 0) before) (record { refusal = 39; size = n })
    say-over over narrow =
        record {
          says = λ setting t x passed c why at none-bound k rat from shallow e number detail place short.
              said-over _ before short narrow last (first.lays setting t x passed c why at none-bound k rat from shallow e number detail place) over;
        }

    pub say-whole : {after : List ℕ} {size n : ℕ}
        → measured ≤ length (last ++ drop (0 - 0) before)
        → MessageLaid schema sheet words scope kind o.number o.detail o.place (last ++ drop (0 - 0) before) after 0 size
        → Narrow size n
        → SaidOf schema sheet words scope kind o before after (record { refusal = 0; size = n })
    say-whole room second narrow =
        record {
          says = λ setting t x passed c why at none-bound k rat from shallow e number detail place short.
              said-whole _ before short narrow last (first.lays setting t x passed c why at none-bound k rat from shallow e number detail place) room
              (second.lays setting t x passed c why at none-bound k rat from shallow e number detail place);
        }
