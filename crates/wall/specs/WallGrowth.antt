-- The wall sheet of a rule book under a schema that grew: what is promised of its lines (demand 3 of crate `validation`, for every sheet of the book).
use Rattle.std.specs.Prelude.{ℕ, ◌<◌, List, ◌≡◌, length, get_or}
use Rattle.widening.specs.Widening.{Level}
use Rattle.validation.specs.Result.{Answer, refused}
use Rattle.rule_book.specs.Tally.{tally_of}
use Rattle.rule_book.specs.BookGrowth.{SheetFares, BookFares}
use Rattle.wall.specs.Wall.{WallCall}

-- the answers that two wall sheets of one book print, the second under the widened schema
pub record WallFares (l : Level) (c c' : WallCall) (answers answers' : List Answer) : Type 0 where
  pub count : length answers' ≡ length answers
  -- the k-th answers, which the k-th result lines show (PageLaws, `line-of-sheet`)
  pub fares : (k : ℕ) → k < length answers → SheetFares l (get_or answers k (refused 0)) (get_or answers' k (refused 0))
  -- and what their tallies say
  pub tallies : BookFares l c.run c'.run (tally_of answers) (tally_of answers')
