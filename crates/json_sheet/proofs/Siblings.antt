-- Laws of values side by side: what was read, and what is left, make the whole.
use Prim.Native.Nat.{ℕ, zero, suc, ◌+◌, ◌-◌, ◌≤◌}
use mathlib.Core.Bool.{true, false}
use mathlib.Core.List.{List, [], ◌++◌, append_assoc, append-nil}
use mathlib.Core.Option.{Option, none, some}
use mathlib.Core.Path.{◌≡◌, refl, sym, ap, subst, ◌∙◌}
use native.Mathlib.Omega.{arith}
use lib.ListN.{length, drop}
use Rattle.text.specs.Reader.{Reader, and_then, pure}
use Rattle.text.specs.ReadAt.{ReadsTo, Refuses}
use Rattle.buffer.specs.Laid.{Laid, most_place}
use Rattle.buffer.specs.LaidLaws.{laid-nothing, laid_then}
use Rattle.json_text.specs.Grammar.{unspaced, comma_or}
use Rattle.json_text.specs.BetweenAt.{MoreAt, EndAt}
use Rattle.json_text.proofs.Separating.{spaces-full}
use Rattle.json_sheet.specs.Places.{Holding}

module _ {A T : Type 0} (item : Reader (List ℕ) A) (many : ℕ → Reader (List ℕ) T) (cons : A → T → T) (empty : T) (close : ℕ)
    (one : A → List ℕ) (write : T → List ℕ) (count : T → ℕ) where
  -- what is asked of a reader of siblings, and of how they are written
  pub record Kind : Type 0 where
    pub spaced : (n : ℕ) (x : List ℕ) → many n x ≡ many n (unspaced x)
    pub more : (n : ℕ) (x y z : List ℕ) (a : A) → unspaced x ≡ x → item x ≡ some (a, y) → comma_or close (unspaced y) ≡ some (true, z)
        → many (suc n) x ≡ and_then (many n z) (λ t. pure (cons a t))
    pub last : (n : ℕ) (x y z : List ℕ) (a : A) → unspaced x ≡ x → item x ≡ some (a, y) → comma_or close (unspaced y) ≡ some (false, z)
        → many (suc n) x ≡ some (cons a empty, z)
    pub unread : (n : ℕ) (x : List ℕ) → unspaced x ≡ x → item x ≡ none → many n x ≡ none
    pub alone : (n : ℕ) (x y : List ℕ) (a : A) → unspaced x ≡ x → item x ≡ some (a, y) → comma_or close (unspaced y) ≡ none → many n x ≡ none
    pub writes : (a : A) (t : T) → write (cons a t) ≡ one a ++ write t
    pub nothing : write empty ≡ []
    pub counts : (a : A) (t : T) → count (cons a t) ≡ count t + 1
    pub zeroth : count empty ≡ 0

  pub record Left (whole : ℕ) (s : List ℕ) (at : ℕ) (before now : List ℕ) (o i e n : ℕ) : Type 0 where
    pub turns : ℕ
    pub enough : length s ≤ i + turns
    pub done : T → T
    pub reads : many whole (drop at s) ≡ and_then (many turns (drop i s)) (λ t. pure (done t))
    pub bytes : List ℕ
    pub lies : Laid before now o bytes e
    pub writes : (t : T) → write (done t) ≡ bytes ++ write t
    pub counts : (t : T) → count (done t) ≡ n + count t

  pub record Walking (s : List ℕ) (at : ℕ) (before now : List ℕ) (o i e n : ℕ) : Type 0 where
    pub forward : at ≤ i
    pub within : i ≤ length s
    pub few : n ≤ i
    pub full : unspaced (drop i s) ≡ drop i s
    pub len : length now ≡ length before
    pub left : (whole : ℕ) → length s ≤ at + whole → Left whole s at before now o i e n

  then-itself : (o : Option (T × List ℕ)) → o ≡ and_then o (λ t. pure t)
  unfolding and_then pure
  then-itself none = refl
  then-itself (some r) = refl

  then-both : (f g : T → T) (o : Option (T × List ℕ)) → and_then (and_then o (λ t. pure (g t))) (λ t. pure (f t)) ≡ and_then o (λ t. pure (f (g t)))
  unfolding and_then pure
  then-both f g none = refl
  then-both f g (some r) = refl

  then_one : (f : T → T) (t : T) (z : List ℕ) → and_then (some (t, z)) (λ t. pure (f t)) ≡ some (f t, z)
  unfolding and_then pure
  then_one f t z = refl

  then-none : (f : T → T) → and_then {S = List ℕ} none (λ t. pure (f t)) ≡ none
  unfolding and_then
  then-none f = refl

  pub walking_start : (s : List ℕ) (at : ℕ) (before : List ℕ) (o : ℕ) → o ≤ most_place → at ≤ length s → unspaced (drop at s) ≡ drop at s → Walking s at before before o at o 0
  walking_start s at before o room h full =
      record {
        forward = omega arith;
        within = h;
        few = omega arith;
        full = full;
        len = refl;
        left =
            λ whole k.
            record {
              turns = whole;
              enough = k;
              done = λ t. t;
              reads = then-itself (many whole (drop at s));
              bytes = [];
              lies = laid-nothing before o room;
              writes = λ t. refl;
              counts = λ t. omega arith;
            };
      }

  module _ (kind : Kind) (s : List ℕ) (at : ℕ) (before now : List ℕ) (o i e n : ℕ) (w : Walking s at before now o i e n) where
    pub walking-unread : Refuses item s i → (whole : ℕ) → length s ≤ at + whole → many whole (drop at s) ≡ none
    walking-unread r whole k =
        let l = w.left whole k in
        l.reads ∙ ap (λ (x : Option (T × List ℕ)). and_then x (λ t. pure (l.done t))) (kind.unread l.turns (drop i s) w.full r) ∙ then-none l.done

    module _ (a : A) {next end : ℕ} {after : List ℕ} (room : length before ≤ most_place) (r : ReadsTo item s i a next) (d : Laid now after e (one a) end) where
      pub walking-alone : comma_or close (unspaced (drop next s)) ≡ none → (whole : ℕ) → length s ≤ at + whole → many whole (drop at s) ≡ none
      walking-alone c whole k =
          let l = w.left whole k in
          l.reads
          ∙ ap (λ (x : Option (T × List ℕ)). and_then x (λ t. pure (l.done t))) (kind.alone l.turns (drop i s) (drop next s) a w.full r.reads c)
          ∙ then-none l.done

      -- there is a turn left
      turn : {C : Type 0} (turns : ℕ) → length s ≤ i + turns → ((m : ℕ) → turns ≡ suc m → C) → C
      turn zero k f = absurd (omega (arith, r.past, r.within))
      turn (suc m) k f = f m refl

      written : {whole : ℕ} (l : Left whole s at before now o i e n) (t : T) → write (l.done (cons a t)) ≡ (l.bytes ++ one a) ++ write t
      written l t =
          l.writes (cons a t) ∙ ap (λ (x : List ℕ). l.bytes ++ x) (kind.writes a t) ∙ sym (append_assoc l.bytes (one a) (write t))

      counted : {whole : ℕ} (l : Left whole s at before now o i e n) (t : T) → count (l.done (cons a t)) ≡ n + 1 + count t
      counted l t = omega (arith, l.counts (cons a t), kind.counts a t)

      pub walking-more : {place : ℕ} → MoreAt close s next place → Walking s at before after o place end (n + 1)
      walking-more {place} c =
          record {
            forward = omega (arith, w.forward, r.past, c.past);
            within = c.within;
            few = omega (arith, w.few, r.past, c.past);
            full = spaces-full c.behind c.skips;
            len = d.len ∙ w.len;
            left =
                λ whole k.
                let l = w.left whole k in
                turn l.turns l.enough
                (λ m t.
                record {
                  turns = m;
                  enough = omega (arith, l.enough, r.past, c.past);
                  done = λ t. l.done (cons a t);
                  reads =
                      l.reads
                      ∙ ap (λ (k : ℕ). and_then (many k (drop i s)) (λ t. pure (l.done t))) t
                      ∙ ap (λ (x : Option (T × List ℕ)). and_then x (λ t. pure (l.done t)))
                      (kind.more m (drop i s) (drop next s) c.behind a w.full r.reads c.comma
                      ∙ ap (λ (x : Option (T × List ℕ)). and_then x (λ t. pure (cons a t))) (kind.spaced m c.behind ∙ ap (many m) c.skips))
                      ∙ then-both l.done (λ t. cons a t) (many m (drop place s));
                  bytes = l.bytes ++ one a;
                  lies = laid_then room l.lies d;
                  writes = λ t. written l t;
                  counts = λ t. counted l t;
                });
          }

      pub walking-end : {place : ℕ} → EndAt close s next place → (whole : ℕ) → length s ≤ at + whole → Holding many write count whole s at before after o place end (n + 1)
      walking-end {place} c whole k =
          let l = w.left whole k in
          turn l.turns l.enough
          (λ m t.
          record {
            all = l.done (cons a empty);
            reads =
                l.reads
                ∙ ap (λ (k : ℕ). and_then (many k (drop i s)) (λ t. pure (l.done t))) t
                ∙ ap (λ (x : Option (T × List ℕ)). and_then x (λ t. pure (l.done t))) (kind.last m (drop i s) (drop next s) (drop place s) a w.full r.reads c.closes)
                ∙ then_one l.done (cons a empty) (drop place s);
            past = omega (arith, w.forward, r.past, c.past);
            within = c.within;
            lies =
                subst (λ (x : List ℕ). Laid before after o x end)
                (sym (written l empty ∙ ap (λ (x : List ℕ). (l.bytes ++ one a) ++ x) kind.nothing ∙ append-nil (l.bytes ++ one a)))
                (laid_then room l.lies d);
            size = omega (arith, counted l empty, kind.zeroth);
          })
