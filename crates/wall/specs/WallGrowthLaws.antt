-- Under a widened schema each line of a wall sheet fares as demand 3 says.
use Rattle.std.specs.Prelude.{ℕ, zero, suc, ◌<◌, List, [], ◌∷◌, ◌≡◌, refl, length, get_or}
use Rattle.std.proofs.Common.{arith, sym, ap, ◌∙◌}
use Rattle.std.proofs.Math.Option.{some, some-injective}
use Rattle.std.proofs.lemmas.List.{length-map}
use Rattle.widening.specs.Widening.{Level}
use Rattle.validation.specs.Result.{Answer, refused, result_of}
use Rattle.validation.specs.Growth.{Widens}
use Rattle.call.specs.Call.{told}
use Rattle.rule_book.specs.Book.{sheets_of}
use Rattle.rule_book.specs.Tally.{BookCall, single, answers_of, tally_of}
use Rattle.rule_book.specs.BookGrowth.{SameButBookSchema}
use Rattle.rule_book.proofs.BookGrowthLaws.{book-demand-3}
use Rattle.wall.specs.Wall.{WallCall, wall_answer, IsPrinted}
use Rattle.wall.specs.WallLaws.{is-printed}
use Rattle.wall.specs.WallGrowth.{WallFares}

answer_at : (c : BookCall) (sheets : List (List ℕ)) (k : ℕ) → k < length sheets → get_or (answers_of c sheets) k (refused 0) ≡ result_of (single c (get_or sheets k []))
unfolding answers_of
answer_at c [] k less = absurd (omega arith)
answer_at c (x ∷ others) zero less = refl
answer_at c (x ∷ others) (suc k) less = answer_at c others k (omega arith)

answer-count : (c : BookCall) (sheets : List (List ℕ)) → length (answers_of c sheets) ≡ length sheets
unfolding answers_of
answer-count c sheets = length-map sheets _

printed-of : (c : WallCall) (answers : List Answer) (sheets : List (List ℕ)) → IsPrinted c answers → sheets_of c.run.book ≡ some sheets → answers ≡ answers_of c.run sheets
printed-of c answers sheets p form = p.checked ∙ ap (answers_of c.run) (some-injective p.sheets sheets (sym p.form ∙ form))

-- neither call refused
pub wall-demand-3 : {l : Level} (c c' : WallCall) (answers answers' : List Answer)
    → SameButBookSchema c.run c'.run
    → Widens l c.run.schema c'.run.schema
    → wall_answer c ≡ told answers
    → wall_answer c' ≡ told answers'
    → WallFares l c c' answers answers'
wall-demand-3 {l} c c' answers answers' s w e e' =
    let p = is-printed c answers e in
    let p' = is-printed c' answers' e' in
    let tallies = book-demand-3 {l = l} c.run c'.run (tally_of answers) (tally_of answers') s w p.tally p'.tally in
    let sheets = tallies.sheets in
    let same = printed-of c answers sheets p tallies.form in
    let same' = printed-of c' answers' sheets p' tallies.form' in
    let many : length answers ≡ length sheets = ap length same ∙ answer-count c.run sheets in
    record {
      count = ap length same' ∙ answer-count c'.run sheets ∙ sym many;
      fares = λ k less.
          let within : k < length sheets = omega (arith, less, many) in
          let at = ap (λ (x : List Answer). get_or x k (refused 0)) same ∙ answer_at c.run sheets k within in
          let at' = ap (λ (x : List Answer). get_or x k (refused 0)) same' ∙ answer_at c'.run sheets k within in
          rw (at, at') (tallies.fares k within);
      tallies = tallies;
    }
