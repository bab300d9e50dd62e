-- The table's test, computed: its 309 digits write 2^1024 - 2^970. That the code's table holds these digits is checked in the proof of `compare`.
use mathlib.Core.Path.{◌≡◌, refl}
use mathlib.Core.Bool.{true}
use lib.ListN.{length}
use Rattle.number.specs.Bound.{bound}
use Rattle.number.specs.Finite.{numeral_from, numeral, limit}
use Rattle.number.proofs.Numeral.{tens}

pub bound-value : numeral bound ≡ limit
unfolding bound numeral numeral_from
bound-value = refl

pub bound-tens : tens bound ≡ true
unfolding bound tens
bound-tens = refl

pub bound-length : length bound ≡ 309
unfolding bound
bound-length = refl
