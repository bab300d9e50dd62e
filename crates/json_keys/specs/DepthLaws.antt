-- What is read where arrays and objects nest so deep is read where they may nest deeper.
use Prim.Native.Nat.{ℕ, zero, suc, ◌-◌, ◌≤◌}
use Rattle.std.specs.Prelude.{Bool, List, ◌∷◌, ◌≡◌, refl, leb, length}
use Rattle.std.proofs.Math.Bool.{true, false}
use Rattle.std.proofs.Math.Option.{Option, none, some}
use Rattle.std.proofs.Common.{ap, subst, ◌∙◌, arith, leb-true, leb-false}
use Rattle.text.specs.CaseLaws.{by-test}
use Rattle.text.specs.Reader.{Reader, ◌>>=◌, ◌>>◌, and_then, or_else, either, pure}
use Rattle.text.specs.ReaderLaws.{bind_inv, then-inv, bind-reads, then-reads, refuse-inv}
use Rattle.text.specs.ByteReaders.{byte}
use Rattle.text.specs.ByteReaderLaws.{byte-sound}
use Rattle.json_text.specs.Json.{Json, array, object, Elements, no_elements, element, Members, no_members, member}
use Rattle.json_text.specs.Strings as Strings
use Rattle.json_text.specs.Grammar.{spaces, comma_or, scalar, elements_after, members_after, elements_in, members_in, elements, members, container, value}
use Rattle.json_text.proofs.GrammarLaws.{scalar-value}

-- whatever p reads, q reads too
abbrev pub Within : {A : Type 0} → (p q : Reader (List ℕ) A) → Type 0
Within {A} p q = (l : List ℕ) (a : A) (m : List ℕ) → p l ≡ some (a, m) → q l ≡ some (a, m)

same : {A : Type 0} (p : Reader (List ℕ) A) → Within p p
same p l a m e = e

bind-within : {A B : Type 0} (p q : Reader (List ℕ) A) (k h : A → Reader (List ℕ) B) → Within p q → ((a : A) → Within (k a) (h a)) → Within (p >>= k) (q >>= h)
bind-within p q k h w v l b m e = bind_inv p k l e λ a t e₁ e₂. bind-reads q h (w l a t e₁) (v a t b m e₂)

then-within : {A B : Type 0} (p : Reader (List ℕ) A) (q r : Reader (List ℕ) B) → Within q r → Within (p >> q) (p >> r)
then-within p q r w l b m e = then-inv p q l e λ a t e₁ e₂. then-reads p r e₁ (w t b m e₂)

either-within : {A : Type 0} (p q r t : Reader (List ℕ) A) → Within p q → Within r t
    → ((l : List ℕ) (a : A) (m : List ℕ) → r l ≡ some (a, m) → p l ≡ none → q l ≡ none)
    → Within (either p r) (either q t)
unfolding either or_else
either-within {A} p q r t w v n l a m e = go (p l) refl e
  where
    go : (o : Option (A × List ℕ)) → p l ≡ o → or_else o (r l) ≡ some (a, m) → or_else (q l) (t l) ≡ some (a, m)
    go none f e = rw (n l a m e f) (v l a m e)
    go (some x) f e = rw (w l a m (f ∙ e))

-- no array begins as an object does
bracket : (h : Reader (List ℕ) Json) (t : List ℕ) → (byte 0x5B >> h) (0x7B ∷ t) ≡ none
unfolding byte ◌>>◌ ◌>>=◌ and_then
bracket h t = refl

no-array : (l : List ℕ) (a : Json) (m : List ℕ) (k h : Reader (List ℕ) Json) → (byte 0x7B >> k) l ≡ some (a, m) → (byte 0x5B >> h) l ≡ none
no-array l a m k h e = then-inv (byte 0x7B) k l e λ u t e₁ e₂. ap (byte 0x5B >> h) (byte-sound 0x7B l u t e₁) ∙ bracket h t

module _ (p q : Reader (List ℕ) Json) (w : Within p q) where
  elements-after : (r t : Reader (List ℕ) Elements) → Within r t → (more : Bool) → Within (elements_after r more) (elements_after t more)
  unfolding elements_after
  elements-after r t v true = v
  elements-after r t v false = same (pure no_elements)

  members-after : (r t : Reader (List ℕ) Members) → Within r t → (more : Bool) → Within (members_after r more) (members_after t more)
  unfolding members_after
  members-after r t v true = v
  members-after r t v false = same (pure no_members)

  elements-in : (n : ℕ) → Within (elements_in p n) (elements_in q n)
  unfolding elements_in
  elements-in zero l a m e = absurd (refuse-inv l e)
  elements-in (suc n) l a m e =
      then-within spaces _ _
      (bind-within p q _ _ w λ v.
      then-within spaces _ _
      (bind-within (comma_or 0x5D) (comma_or 0x5D) _ _ (same (comma_or 0x5D)) λ more.
      bind-within (elements_after (λ s. elements_in p n s) more) (elements_after (λ s. elements_in q n s) more) _ _ (elements-after (λ s. elements_in p n s) (λ s. elements_in q n s) (elements-in n) more) λ others.
      same (pure (element v others)))) l a m e

  members-in : (n : ℕ) → Within (members_in p n) (members_in q n)
  unfolding members_in
  members-in zero l a m e = absurd (refuse-inv l e)
  members-in (suc n) l a m e =
      then-within spaces _ _
      (then-within (byte 0x22) _ _
      (bind-within Strings.string Strings.string _ _ (same Strings.string) λ key.
      then-within spaces _ _
      (then-within (byte 0x3A) _ _
      (then-within spaces _ _
      (bind-within p q _ _ w λ v.
      then-within spaces _ _
      (bind-within (comma_or 0x7D) (comma_or 0x7D) _ _ (same (comma_or 0x7D)) λ more.
      bind-within (members_after (λ s. members_in p n s) more) (members_after (λ s. members_in q n s) more) _ _ (members-after (λ s. members_in p n s) (λ s. members_in q n s) (members-in n) more) λ others.
      same (pure (member key v others)))))))) l a m e

  elements-within : Within (elements p) (elements q)
  unfolding elements
  elements-within =
      either-within _ _ (λ s. elements_in p (length s) s) (λ s. elements_in q (length s) s) (λ l a m e. e) (λ l a m e. elements-in (length l) l a m e) (λ l a m e f. f)

  pub members-within : Within (members p) (members q)
  unfolding members
  members-within =
      either-within _ _ (λ s. members_in p (length s) s) (λ s. members_in q (length s) s) (λ l a m e. e) (λ l a m e. members-in (length l) l a m e) (λ l a m e f. f)

  container-within : Within (container p) (container q)
  unfolding container
  container-within =
      either-within _ _ _ _
      (then-within (byte 0x5B) _ _ (bind-within (elements p) (elements q) _ _ elements-within λ vs. same (pure (array vs))))
      (then-within (byte 0x7B) _ _ (bind-within (members p) (members q) _ _ members-within λ ms. same (pure (object ms))))
      (λ l a m e f. no-array l a m _ _ e)

value-next : (d : ℕ) → Within (value d) (value (suc d))
unfolding value
value-next zero = λ l a m e. scalar-value 1 l e
value-next (suc d) =
    either-within scalar scalar (container (value d)) (container (value (suc d))) (same scalar) (container-within (value d) (value (suc d)) (value-next d)) (λ l a m e f. f)

pub value-within : (d e : ℕ) → d ≤ e → Within (value d) (value e)
value-within d zero h =
    let z : zero ≡ d = omega arith in
    subst (λ (n : ℕ). Within (value n) (value zero)) z (same (value zero))
value-within d (suc e) h =
    by-test (leb d e)
    (λ q l a m f. value-next e l a m (value-within d e (leb-true d e q) l a m f))
    (λ q.
    let z : suc e ≡ d = omega (arith, leb-false d e q) in
    subst (λ (n : ℕ). Within (value n) (value (suc e))) z (same (value (suc e))))
